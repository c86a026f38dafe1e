use Rattle.std.proofs.Common.{refl, ◌≡◌, ◌∙◌, sym, ◌+◌, ◌-◌, ◌≤◌, List, ◌++◌, ℕ, length, take, arith, length-append}
use Rattle.std.proofs.Math.Seq.{take-append-add}
use Rattle.std.proofs.lemmas.List.{length-take-le, take-append-le}
use borrow.Rule.Slice.PartMut.{put_mid, post_of}
use Rattle.uw_outside.proofs.Streams.{Takes-append}
use Rattle.uw_outside.proofs.source.fill.Goals as goal

-- a part of a buffer was overwritten: what stands up to within the part
take-put_mid_within : (a k n : ℕ) (xs ys : List ℕ) → a ≤ length xs → n ≤ length ys → take (a + n) (put_mid a k xs ys) ≡ take a xs ++ take n ys
take-put_mid_within a k n xs ys within more =
    let at : length (take a xs) ≡ a = length-take-le a xs within in
    let seam = take-append-add (take a xs) (ys ++ post_of a k xs) n in
    let front = take-append-le n ys (post_of a k xs) more in
    cc

length-put_mid_within : (a k n : ℕ) (xs ys : List ℕ) → a ≤ length xs → n ≤ length ys → a + n ≤ length (put_mid a k xs ys)
length-put_mid_within a k n xs ys within more =
    simp length-append (omega (arith, length-take-le a xs within))

pub loop-count-preserved : goal.loop-count-preserved
loop-count-preserved g c =
    let k = length c.loop-count.buf - c.loop-count.count in
    let within = c.loop-count.invariant.within in
    let more = c.in-Count.ensures.bytes.1 in
    record {
      within = length-put_mid_within c.loop-count.count k c.in-Count.more c.loop-count.buf c.read.new.buf within more;
      taken =
          rw (take-put_mid_within c.loop-count.count k c.in-Count.more c.loop-count.buf c.read.new.buf within more)
          (Takes-append _ _ _ _ _ c.loop-count.invariant.taken c.in-Count.ensures.bytes.2);
      kept = c.loop-count.invariant.kept ∙ sym (c.in-Count.ensures.cause.kept refl);
    }
