use Rattle.std.proofs.Common.{arith}
use Rattle.std.specs.Str.Lines.{lines}
use Rattle.uw_conf.specs.Given.{ReadsConf}
use Rattle.uw_conf.proofs.DecideLemmas.{reads_conf_of}
use Rattle.uw_conf.proofs.RoutePartLemmas.{routes_below, tasks_below}
use Rattle.uw_conf.proofs.deciding.read_conf.Goals as goal

pub returns-clause-says : goal.returns-clause-says
returns-clause-says g c =
    reads_conf_of c.args.text.now (g.M.Patterns.faults c.args.make.now) (g.M.Patterns.faults c.read_tables.new.make) c.read_tables.result
    (omega (arith, c.if-text-gt-MOST_TEXT_BYTES.false)) (c.read_tables.ensures (lines c.args.text.now) c.in_ok-walk.ensures.over)

pub returns-clause-routes : goal.returns-clause-routes
returns-clause-routes g c =
    let before = g.M.Patterns.faults c.args.make.now in
    let after = g.M.Patterns.faults c.read_tables.new.make in
    let says : ReadsConf c.args.text.now before after c.read_tables.result =
    reads_conf_of c.args.text.now before after c.read_tables.result
    (omega (arith, c.if-text-gt-MOST_TEXT_BYTES.false)) (c.read_tables.ensures (lines c.args.text.now) c.in_ok-walk.ensures.over) in
    routes_below c.args.text.now before after c.read_tables.result says

pub returns-clause-tasks : goal.returns-clause-tasks
returns-clause-tasks g c =
    let before = g.M.Patterns.faults c.args.make.now in
    let after = g.M.Patterns.faults c.read_tables.new.make in
    let says : ReadsConf c.args.text.now before after c.read_tables.result =
    reads_conf_of c.args.text.now before after c.read_tables.result
    (omega (arith, c.if-text-gt-MOST_TEXT_BYTES.false)) (c.read_tables.ensures (lines c.args.text.now) c.in_ok-walk.ensures.over) in
    tasks_below c.args.text.now before after c.read_tables.result says
