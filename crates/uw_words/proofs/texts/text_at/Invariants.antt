use Rattle.std.proofs.Common.{◌≡◌}
use Rattle.uw_words.specs.Plans.{region}
use Rattle.uw_words.specs.Texts.{word_bytes}
use Rattle.uw_words.proofs.texts.text_at.Given as goal

abbrev pub invariant-loop-k : goal.invariant-loop-k
invariant-loop-k l = l.text.items ≡ word_bytes (region l.ram) l.at l.k
