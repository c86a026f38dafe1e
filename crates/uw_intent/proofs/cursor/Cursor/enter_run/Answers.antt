use Rattle.uw_intent.proofs.Runs.{run_read}
use Rattle.uw_intent.proofs.cursor.Cursor.enter_run.Goals as goal

pub returns-clause-runs : goal.returns-clause-runs
returns-clause-runs c =
    (run_read c.args.ram.now c.args.self.now c.load-self.result c.load-self-2.result c.requires.runs c.requires.between c.requires.more c.load-self.ensures c.load-self-2.ensures).0

pub returns-clause-some : goal.returns-clause-some
returns-clause-some c =
    (run_read c.args.ram.now c.args.self.now c.load-self.result c.load-self-2.result c.requires.runs c.requires.between c.requires.more c.load-self.ensures c.load-self-2.ensures).1

pub returns-clause-ahead : goal.returns-clause-ahead
returns-clause-ahead c =
    (run_read c.args.ram.now c.args.self.now c.load-self.result c.load-self-2.result c.requires.runs c.requires.between c.requires.more c.load-self.ensures c.load-self-2.ensures).2
