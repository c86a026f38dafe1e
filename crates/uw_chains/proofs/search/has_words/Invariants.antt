use Rattle.std.proofs.Common.{◌≡◌, ℕ, ◌+◌, ◌<◌}
use Rattle.uw_words.specs.Parts.{seen}
use Rattle.uw_words.specs.Texts.{text_word}
use Rattle.uw_chains.proofs.search.has_words.Given as goal

abbrev pub invariant-loop-k : goal.invariant-loop-k
invariant-loop-k l = (k : ℕ) → k < l.k → seen l.over l.ram (l.at + k) ≡ text_word l.text k
