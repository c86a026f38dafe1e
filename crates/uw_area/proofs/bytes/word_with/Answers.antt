use Rattle.std.proofs.Common.{◌≡◌, ◌+◌, ◌-◌, ◌*◌, ◌<◌, ◌≤◌, ℕ, List, get_or, ap, ◌∙◌, length, arith}
use Rattle.std.specs.Int.{w64, from_le_bytes, to_le_bytes}
use Rattle.std.specs.List.{splice}
use Rattle.std.proofs.lemmas.List.{take_rest}
use Rattle.uw_area.proofs.ByteWords.{word_byte, word_inside, word_of_bytes}
use Rattle.uw_area.proofs.bytes.word_with.Goals as goal

pub returns-then-start-at : goal.returns-then-start-at
returns-then-start-at c bytes all within is =
    let low : c.args.at ≤ 8 * c.args.k = omega (arith, c.if-at-start.true) in
    let high : 8 * c.args.k + 8 ≤ c.args.at + length c.args.put.now = omega (arith, c.if-start-at.true) in
    c.first_word.ensures ∙ ap (from_le_bytes w64) (take_rest c.args.put.now (8 * c.args.k - c.args.at))
    ∙ word_inside bytes c.args.put.now c.args.at within c.args.k low high

pub returns : goal.returns
returns c bytes all within is =
    let after : List ℕ = splice bytes c.args.at (c.args.at + length c.args.put.now) c.args.put.now in
    let old : (i : ℕ) → i < 8 → get_or c.to_le_bytes-old.result i 0 ≡ get_or bytes (8 * c.args.k + i) 0 =
    λ i h. ap (λ (l : List ℕ). get_or l i 0) (c.to_le_bytes-old.ensures ∙ ap (to_le_bytes w64) is) ∙ word_byte bytes all c.args.k i h in
    let here : 8 * c.args.k + 0 ≡ 8 * c.args.k = omega arith in
    c.from_le_bytes.ensures
    ∙ word_of_bytes after c.args.k _ _ _ _ _ _ _ _ (c.byte_with.ensures bytes within (old 0 (omega arith)
    ∙ ap (λ (n : ℕ). get_or bytes n 0) here)) (c.byte_with-2.ensures bytes within (old 1 (omega arith)))
    (c.byte_with-3.ensures bytes within (old 2 (omega arith))) (c.byte_with-4.ensures bytes within (old 3 (omega arith)))
    (c.byte_with-5.ensures bytes within (old 4 (omega arith)))
    (c.byte_with-6.ensures bytes within (old 5 (omega arith))) (c.byte_with-7.ensures bytes within (old 6 (omega arith)))
    (c.byte_with-8.ensures bytes within (old 7 (omega arith)))
