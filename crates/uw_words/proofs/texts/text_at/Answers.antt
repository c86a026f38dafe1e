use Rattle.std.proofs.Common.{ℕ, List, ◌++◌, sym, ap, ◌∙◌}
use Rattle.std.specs.Int.{w64, to_le_bytes}
use Rattle.uw_words.specs.Plans.{region}
use Rattle.uw_words.specs.Texts.{word_bytes}
use Rattle.uw_words.proofs.Copies.{words_more}
use Rattle.uw_words.proofs.texts.text_at.Goals as goal

pub loop-k-preserved : goal.loop-k-preserved
loop-k-preserved c =
    let reader = region c.args.ram.now in
    let before = word_bytes reader c.args.at c.loop-k.k in
    c.in_ok-extend_from_slice.ensures.items ∙ ap (λ (bytes : List ℕ). bytes ++ c.to_le_bytes.result) c.loop-k.invariant
    ∙ ap (λ (bytes : List ℕ). before ++ bytes) (c.to_le_bytes.ensures ∙ ap (to_le_bytes w64) c.load.ensures)
    ∙ sym (words_more reader c.args.at c.loop-k.k)
