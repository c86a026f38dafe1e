use Rattle.std.proofs.Common.{length, ap, Ok, Err}
use Rattle.uw_conf.proofs.DecideLemmas.{reads_behind}
use Rattle.uw_conf.proofs.deciding.read_tables.Goals as goal

pub returns-in-Ok : goal.returns-in-Ok
returns-in-Ok g c = λ lines over.
    let before = g.M.Patterns.faults c.args.make.now in
    let middle = g.M.Patterns.faults c.read_table.new.make in
    let after = g.M.Patterns.faults c.read_table-2.new.make in
    reads_behind lines before middle after c.args.walk c.names-names.result.now (length c.as_slice.result.now) c.in_ok-routes.routes c.in_ok-tasks.tasks (Ok c.in-Ok.conf)
    c.in_ok-routes.ensures.later c.in_ok-tasks.ensures.later over c.names-names.ensures (ap length c.as_slice.ensures) c.in_ok-routes.ensures.reads
    c.in_ok-tasks.ensures.reads c.in-Ok.ensures

pub returns-in-Err : goal.returns-in-Err
returns-in-Err g c = λ lines over.
    let before = g.M.Patterns.faults c.args.make.now in
    let middle = g.M.Patterns.faults c.read_table.new.make in
    let after = g.M.Patterns.faults c.read_table-2.new.make in
    reads_behind lines before middle after c.args.walk c.names-names.result.now (length c.as_slice.result.now) c.in_ok-routes.routes c.in_ok-tasks.tasks (Err c.in-Err.fault)
    c.in_ok-routes.ensures.later c.in_ok-tasks.ensures.later over c.names-names.ensures (ap length c.as_slice.ensures) c.in_ok-routes.ensures.reads
    c.in_ok-tasks.ensures.reads c.in-Err.ensures
