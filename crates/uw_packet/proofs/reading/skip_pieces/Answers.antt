use Rattle.std.proofs.Common.{◌≡◌, ◌+◌, ◌≤◌, List, ◌++◌, Option, ℕ, length, take, drop, refl, ◌∙◌, arith, length-append, length-drop}
use Rattle.std.proofs.lemmas.List.{length-take-le}
use Rattle.uw_outside.specs.Streams.{Takes}
use Rattle.uw_outside.proofs.Streams.{Takes-append}
use Rattle.uw_packet.proofs.reading.skip_pieces.Goals as goal

-- what was taken before and the front of a piece are taken together
taken_more : (a b c : Option (List ℕ)) (n m : ℕ) (piece : List ℕ) → m ≤ length piece → ((bytes : List ℕ) × (length bytes ≡ n) × Takes a b bytes) → Takes b c (take m piece) → (bytes : List ℕ) × (length bytes ≡ n + m) × Takes a c bytes
taken_more a b c n m piece within first then =
    let count = length-take-le m piece within in
    (first.0 ++ take m piece, simp length-append (omega (arith, first.1, count)), Takes-append a b c first.0 (take m piece) first.2 then)

-- a front of a buffer that was overwritten has its length, and the buffer keeps its own
front_length : (n : ℕ) (new old : List ℕ) → n ≤ length old → length new ≡ length (take n old) → length new ≡ n
front_length n new old within same = same ∙ length-take-le n old within

length-overwritten : (n : ℕ) (new old : List ℕ) → n ≤ length old → length new ≡ n → length (new ++ drop n old) ≡ length old
length-overwritten n new old within count = simp (length-append, length-drop) (omega arith)

pub loop-skipped-preserved : goal.loop-skipped-preserved
loop-skipped-preserved g c =
    let room = c.loop-skipped.invariant.room in
    let count : length c.fill.new.buf ≡ c.min-count.result = front_length _ _ c.loop-skipped.piece (omega arith) c.fill.auto.buf in
    record {
      within = omega arith;
      room = length-overwritten _ _ c.loop-skipped.piece (omega arith) count ∙ room;
      taken = rw count at (taken_more _ _ _ c.loop-skipped.skipped (length c.fill.new.buf) c.fill.new.buf (omega arith) c.loop-skipped.invariant.taken c.in-Whole.ensures.bytes);
      kept = c.in-Whole.ensures.kept refl ∙ c.loop-skipped.invariant.kept;
    }

pub returns-in-Short-clause-body : goal.returns-in-Short-clause-body
returns-in-Short-clause-body g c =
    let room = c.loop-skipped.invariant.room in
    let short = c.in-Short.ensures.why in
    let count : length c.fill.new.buf ≡ c.min-count.result = front_length _ _ c.loop-skipped.piece (omega arith) c.fill.auto.buf in (
      refl,
      record {
        bytes = taken_more _ _ _ c.loop-skipped.skipped c.in-Short.got c.fill.new.buf (omega (arith, short.0)) c.loop-skipped.invariant.taken c.in-Short.ensures.bytes;
        short = omega (arith, short.0, count);
        over = (short.1, short.2);
      },
    )

pub returns-in-Failed-clause-body : goal.returns-in-Failed-clause-body
returns-in-Failed-clause-body g c =
    let room = c.loop-skipped.invariant.room in
    let count : length c.fill.new.buf ≡ c.min-count.result = front_length _ _ c.loop-skipped.piece (omega arith) c.fill.auto.buf in
    let why = c.in-Failed.ensures.why in
    let taken = taken_more _ _ _ c.loop-skipped.skipped c.in-Failed.field-0 c.fill.new.buf (omega (arith, why.0)) c.loop-skipped.invariant.taken c.in-Failed.ensures.bytes in
    record {
      bytes = (taken.0, omega (arith, taken.1, why.0, count), taken.2);
      rose = omega (arith, why.1);
    }
