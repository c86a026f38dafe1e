use Rattle.std.proofs.Common.{◌≡◌, ℕ, ◌+◌, ◌*◌, below_more, sym, ap, ◌∙◌}
use Rattle.std.specs.Int.{from_le_bytes, w64}
use Rattle.std.proofs.lemmas.List.{take_rest}
use Rattle.uw_words.specs.Parts.{seen}
use Rattle.uw_words.specs.Texts.{text_word}
use Rattle.uw_chains.proofs.search.has_words.Goals as goal

pub loop-k-preserved : goal.loop-k-preserved
loop-k-preserved c =
    let reader = seen c.args.over.now c.args.ram.now in
    let P : ℕ → Type 0 = λ k. reader (c.args.at + k) ≡ text_word c.args.text.now k in
    below_more P c.loop-k.k c.loop-k.invariant (sym c.load.ensures ∙ c.if-load-first_word.false ∙ c.first_word.ensures ∙ ap (from_le_bytes w64) (take_rest c.args.text.now (8 * c.loop-k.k)))
