use Rattle.std.proofs.Common.{◌≡◌, ℕ, ◌/◌, ◌^◌, ◌==◌, bit_and, get_or, sym, ap, ◌∙◌, subst}
use Rattle.uw_words.proofs.sieve.passes.Goals as goal

pub returns : goal.returns
returns c = λ passes.
    let sieve = c.args.sieve.now in
    let apart : bit_and (get_or sieve (c.mark_of-mark.result / 2 ^ 22) 0) c.mark_of-mark.result ≡ 0 =
    subst (λ (mark : ℕ). bit_and (get_or sieve (mark / 2 ^ 22) 0) mark ≡ 0) (sym c.mark_of-mark.ensures) passes in
    ap (λ (bits : ℕ). bits == 0) (ap (λ (index : ℕ). bit_and (get_or sieve index 0) c.mark_of-mark.result) c.word_of.ensures.word ∙ apart)
