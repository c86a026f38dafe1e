use Rattle.std.proofs.Common.{◌≡◌, drop}
use Rattle.uw_ends.specs.Numbers.{all_read, number_within}
use Rattle.uw_ends.specs.declared.numbers.TheConstants.{LAST_WRITE}
use Rattle.uw_ends.proofs.ReadLemmas.{before, texts}
use Rattle.uw_ends.proofs.numbers.numbers_in.Given as goal

abbrev pub invariant-loop-part : goal.invariant-loop-part
invariant-loop-part l = all_read (number_within 1 LAST_WRITE) (texts l.parts) ≡ before l.numbers (all_read (number_within 1 LAST_WRITE) (drop l.part-index (texts l.parts)))
