use Rattle.std.proofs.Common.{refl, ◌≡◌, ◌+◌, ◌-◌, List, ◌++◌, ℕ, length, take, drop, ap, ◌∙◌, sym, arith, length-drop}
use Rattle.std.proofs.Math.Seq.{take-add}
use Rattle.std.proofs.lemmas.List.{take_rest}
use Rattle.uw_outside.proofs.Streams.{Gives-append}
use Rattle.uw_outside.proofs.sink.put_all.Goals as goal

-- what was given and what this write took are the piece up to there
take-more : (count more : ℕ) (piece : List ℕ) → take count piece ++ take more (take (length piece - count) (drop count piece)) ≡ take (count + more) piece
take-more count more piece = ap (λ rest. take count piece ++ take more rest) (take_rest piece count) ∙ sym (take-add count more piece)

pub loop-count-preserved : goal.loop-count-preserved
loop-count-preserved g c =
    let piece = c.args.piece.now in
    let count = c.loop-count.count in
    let took = c.in-Count.ensures.bytes in
    let rest : length (take (length piece - count) (drop count piece)) ≡ length piece - count = ap length (take_rest piece count) ∙ length-drop count piece in
    let given = Gives-append _ _ _ _ _ c.loop-count.invariant.given took.2 in
    record {
      within = omega (arith, took.1, rest);
      given = rw (take-more count c.in-Count.more piece) at given;
      kept = c.loop-count.invariant.kept ∙ sym (c.in-Count.ensures.cause.kept refl);
    }
