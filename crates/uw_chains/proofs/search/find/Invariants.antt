use Rattle.uw_words.specs.Parts.{seen}
use Rattle.uw_chains.proofs.Sought.{Searching}
use Rattle.uw_chains.proofs.search.find.Given as goal

abbrev pub invariant-loop : goal.invariant-loop
invariant-loop l = Searching (seen l.over l.ram) l.shape l.key l.link l.counter
