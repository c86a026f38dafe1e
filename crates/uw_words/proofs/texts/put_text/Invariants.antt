use Rattle.uw_words.proofs.Copies.{Putting}
use Rattle.uw_words.proofs.texts.put_text.Given as goal

abbrev pub invariant-loop-k : goal.invariant-loop-k
invariant-loop-k l = Putting l.initial.over l.over l.at l.text l.k
