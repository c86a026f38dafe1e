use Rattle.std.proofs.Common.{arith}
use Rattle.uw_rules.specs.Compiled.{rules_of}
use Rattle.uw_chain.proofs.SearchLemmas.{fit_empty}
use Rattle.uw_chain.proofs.searches.Searches.new.Goals as goal

pub returns : goal.returns
returns c = fit_empty (rules_of c.args.table.now) c.loop.slots.items (omega (arith, c.len-end.ensures)) c.loop.invariant.1
