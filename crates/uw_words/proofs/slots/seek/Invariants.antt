use Rattle.uw_words.proofs.Tables.{Passed}
use Rattle.uw_words.proofs.slots.seek.Given as goal

abbrev pub invariant-loop-step : goal.invariant-loop-step
invariant-loop-step l = Passed l.plan l.slots l.at l.step
