use Rattle.std.proofs.Common.{◌≡◌, ◌+◌, ◌-◌, ◌/◌, ◌%◌, ◌<◌, ◌++◌, ℕ, List, take, drop, ap, ◌∙◌, arith}
use Rattle.std.specs.Int.{w64, to_le_bytes, div_ceil}
use Rattle.std.proofs.lemmas.List.{take_rest}
use Rattle.uw_words.specs.Plans.{region}
use Rattle.uw_area.proofs.ByteWords.{read_next, slice_read}
use Rattle.uw_area.proofs.bytes.bytes_at.Goals as goal
use Rattle.uw_area.proofs.bytes.bytes_at.Goals.{then-k-eq0, else-k-eq0}

pub loop-k-preserved : goal.loop-k-preserved
loop-k-preserved c =
    let reader = region c.args.ram.now in
    let at = 16 + c.args.at / 8 in
    let word : c.to_le_bytes-word.result ≡ to_le_bytes w64 (reader (at + c.loop-k.k)) = c.to_le_bytes-word.ensures ∙ ap (to_le_bytes w64) c.load.ensures in
    let first : c.loop-k.k ≡ 0 → c.if-k-eq0.from ≡ c.args.at % 8 = λ none. elim c.if-k-eq0.branch [
      | then-k-eq0 w ↦ w.from-is
      | else-k-eq0 w ↦ grind (arith, w.if-k-eq0, none)
    ] in
    let later : 0 < c.loop-k.k → c.if-k-eq0.from ≡ 0 = λ some. elim c.if-k-eq0.branch [
      | then-k-eq0 w ↦ grind (arith, w.if-k-eq0, some)
      | else-k-eq0 w ↦ w.from-is
    ] in
    c.in_ok-extend_from_slice.ensures.items
    ∙ ap (λ (l : List ℕ). c.loop-k.bytes.items ++ l) (ap (λ (w : List ℕ). take (8 - c.if-k-eq0.from) (drop c.if-k-eq0.from w)) word
    ∙ take_rest (to_le_bytes w64 (reader (at + c.loop-k.k))) c.if-k-eq0.from)
    ∙ read_next reader at c.loop-k.k (c.args.at % 8) c.if-k-eq0.from c.loop-k.bytes.items (omega arith) first later c.loop-k.invariant

pub returns : goal.returns
returns c area holds =
    let reader = region c.args.ram.now in
    let count = c.loop-k.k in
    let all : count ≡ div_ceil (c.args.at + c.args.len) 8 - c.args.at / 8 = omega (arith, c.loop-k-test.false, c.loop-k.auto.k-end, c.div_ceil.ensures) in
    c.from_vec.ensures ∙ c.truncate.ensures.items ∙ ap (take c.args.len) c.loop-k.invariant
    ∙ slice_read reader 16 area.bytes holds.small holds.bytes c.args.at c.args.len count (omega (arith, c.requires.within, holds.many)) (omega (arith, all))
