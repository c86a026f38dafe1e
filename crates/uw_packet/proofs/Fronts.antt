-- What a call answers over a source that tells what it has is the packet at the front of the bytes.
use Rattle.std.proofs.Common.{◌≡◌, ℕ, ◌<◌, ◌≤◌, Bool, true, false, cond, leb, ltb, List, [], ◌∷◌, ◌++◌, length, take, drop, Option, Some, None, Result, Ok, Err, refl, sym, ap, subst, ◌∙◌, arith, inl, inr, length-append}
use Rattle.std.specs.Int.{byte_at}
use Rattle.std.proofs.lemmas.Bool.{le-leb, lt-leb, leb-true, lt-ltb, le-ltb, ltb-false}
use Rattle.std.proofs.lemmas.List.{append-nil, length-take-le, take-append-drop, take_at, drop_at}
use Rattle.uw_outside.specs.Streams.{Takes}
use Rattle.uw_packet.specs.declared.packet.Header.{Header}
use Rattle.uw_packet.specs.declared.packet.Packet.{Packet}
use Rattle.uw_packet.specs.declared.packet.PacketFault.{PacketFault}
use Rattle.uw_packet.specs.declared.packet.PacketFault.TheVariants as faults
use Rattle.uw_packet.specs.BlockReads.{AreBytes}
use Rattle.uw_packet.specs.Packet.{header_bytes, IsPacket}
use Rattle.uw_packet.specs.PacketFront.{block_front, packet_front, AnswersFront}
use Rattle.uw_outside.specs.Streams.{Inflow}
use Rattle.uw_packet.specs.Reads.{IsOver, IsCutInBlock, HasHeader, ReadsPacket}
use Rattle.uw_packet.proofs.Arrays.{text_length}
use Rattle.uw_packet.proofs.BlockLaws.{text_length-bytes, byte_at-text_length}

-- ---- bytes alone

-- behind the bytes of a header
packet_front-header : (limit : ℕ) (head : Header) (bytes : List ℕ) → head.size < 65536 → packet_front limit (header_bytes head ++ bytes) ≡ block_front limit head bytes
packet_front-header limit head bytes fits =
    ap (λ (size : ℕ). block_front limit (record { m1 = head.m1; size = size; m2 = head.m2 }) bytes) (text_length-bytes head.size fits)

block_front-whole : (limit : ℕ) (head : Header) (block rest : List ℕ) → length block ≡ head.size → head.size ≤ limit → block_front limit head (block ++ rest) ≡ Ok (Some (record { head = head; block = block }, rest))
block_front-whole limit head block rest count within =
    let lengths = length-append block rest in
    rw (le-ltb limit head.size within, le-leb head.size (length (block ++ rest)) (omega arith), take_at block rest head.size count, drop_at block rest head.size count) refl

block_front-cut : (limit : ℕ) (head : Header) (bytes : List ℕ) → head.size ≤ limit → length bytes < head.size → block_front limit head bytes ≡ Err (faults.Truncated (length bytes) head.size)
block_front-cut limit head bytes within short =
    rw (le-ltb limit head.size within, lt-leb head.size (length bytes) short) refl

block_front-too_big : (limit : ℕ) (head : Header) (bytes : List ℕ) → limit < head.size → block_front limit head bytes ≡ Err (faults.TooBig head.size limit)
block_front-too_big limit head bytes above = rw (lt-ltb limit head.size above) refl

-- bytes that begin with a packet within the limit
pub packet_front-packet : (limit : ℕ) (bytes : List ℕ) (head : Header) (block rest : List ℕ) → head.size ≤ limit → IsPacket bytes head block rest → packet_front limit bytes ≡ Ok (Some (record { head = head; block = block }, rest))
packet_front-packet limit bytes head block rest within is =
    ap (packet_front limit) is.whole ∙ packet_front-header limit head (block ++ rest) is.fits ∙ block_front-whole limit head block rest is.size within

-- and what stands at the front is a packet within the limit
pub record IsPacketWithin (limit : ℕ) (bytes : List ℕ) (packet : Packet) (rest : List ℕ) : Type 0 where
  pub is_packet : IsPacket bytes packet.head packet.block rest
  pub within : packet.head.size ≤ limit

abbrev found : Option (Packet × List ℕ) → Result (Option (Packet × List ℕ)) PacketFault
found front = Ok front

found_same : (x y : Packet × List ℕ) → found (Some x) ≡ found (Some y) → x ≡ y
found_same x y e = cc

-- which of two tests passed
chosen_found : (big whole : Bool) (x y : Packet × List ℕ) (above short : PacketFault) → cond big (Err above) (cond whole (found (Some x)) (Err short)) ≡ found (Some y) → (big ≡ false) × (whole ≡ true) × (x ≡ y)
chosen_found true whole x y above short e = absurd cc
chosen_found false true x y above short e = (refl, refl, found_same x y e)
chosen_found false false x y above short e = absurd cc

pub IsPacket-packet_front : (limit : ℕ) (bytes : List ℕ) (packet : Packet) (rest : List ℕ) → AreBytes bytes → packet_front limit bytes ≡ Ok (Some (packet, rest)) → IsPacket bytes packet.head packet.block rest × (packet.head.size ≤ limit)
IsPacket-packet_front limit [] packet rest all e = absurd cc
IsPacket-packet_front limit (a ∷ []) packet rest all e = absurd cc
IsPacket-packet_front limit (a ∷ b ∷ []) packet rest all e = absurd cc
IsPacket-packet_front limit (a ∷ b ∷ c ∷ []) packet rest all e = absurd cc
IsPacket-packet_front limit (m1 ∷ low ∷ high ∷ m2 ∷ bytes) packet rest all e =
    let n = text_length low high in
    let head : Header = record { m1 = m1; size = n; m2 = m2 } in
    let made : Packet = record { head = head; block = take n bytes } in
    let c = chosen_found (ltb limit n) (leb n (length bytes)) (made, drop n bytes) (packet, rest) (faults.TooBig n limit) (faults.Truncated (length bytes) n) e in
    let size = byte_at-text_length low high all.1.0 all.1.1.0 in
    let parts : m1 ∷ low ∷ high ∷ m2 ∷ bytes ≡ m1 ∷ byte_at 0 n ∷ byte_at 1 n ∷ m2 ∷ (take n bytes ++ drop n bytes) = rw (size.0, size.1, take-append-drop n bytes) refl in
    let is : IsPacketWithin limit (m1 ∷ low ∷ high ∷ m2 ∷ bytes) made (drop n bytes) = record { is_packet = record { fits = omega (arith, all.1.0, all.1.1.0); size = length-take-le n bytes (leb-true _ _ c.1); whole = parts }; within = ltb-false _ _ c.0 } in
    let same = subst (λ (p : Packet × List ℕ). IsPacketWithin limit (m1 ∷ low ∷ high ∷ m2 ∷ bytes) p.0 p.1) c.2 is in
    (same.is_packet, same.within)

-- ---- a source that tells

some_same : (x y : List ℕ) → Some x ≡ Some y → x ≡ y
some_same x y e = cc

-- what is left of bytes from which some were taken
told : (before now : Option (List ℕ)) (bytes taken : List ℕ) → before ≡ Some bytes → Takes before now taken → (rest : List ℕ) × (now ≡ Some rest) × (bytes ≡ taken ++ rest)
told before None bytes taken is takes = absurd (cc (is, takes))
told before (Some rest) bytes taken is takes = (rest, refl, some_same bytes (taken ++ rest) (sym is ∙ takes))

-- all of them, where the source is at its end
told_all : (r : Inflow) (bytes taken : List ℕ) → r.before ≡ Some bytes → Takes r.before r.now taken → IsOver r → bytes ≡ taken
told_all r bytes taken is takes over =
    let t = told r.before r.now bytes taken is takes in
    let nothing : t.0 ≡ [] = rw t.1 at over.1 in
    t.2 ∙ ap (λ (rest : List ℕ). taken ++ rest) nothing ∙ append-nil taken

-- fewer bytes than a header has
front_of_few : (limit : ℕ) (bytes : List ℕ) (got : ℕ) → length bytes ≡ got → 1 ≤ got → got < 4 → packet_front limit bytes ≡ Err (faults.Truncated got 4)
front_of_few limit [] got count some few = absurd (omega arith)
front_of_few limit (a ∷ []) got count some few = ap (λ (n : ℕ). Err (faults.Truncated n 4)) (omega arith)
front_of_few limit (a ∷ b ∷ []) got count some few = ap (λ (n : ℕ). Err (faults.Truncated n 4)) (omega arith)
front_of_few limit (a ∷ b ∷ c ∷ []) got count some few = ap (λ (n : ℕ). Err (faults.Truncated n 4)) (omega arith)
front_of_few limit (a ∷ b ∷ c ∷ d ∷ bytes) got count some few = absurd (omega arith)

-- what stands at the front of bytes from which a header and more were taken
front_behind : (r : Inflow) (limit : ℕ) (head : Header) (bytes taken : List ℕ) → r.before ≡ Some bytes → HasHeader r head taken → (rest : List ℕ) × (r.now ≡ Some rest) × (packet_front limit bytes ≡ block_front limit head (taken ++ rest))
front_behind r limit head bytes taken is has =
    let t = told r.before r.now bytes (header_bytes head ++ taken) is has.taken in
    (t.0, t.1, ap (packet_front limit) t.2 ∙ packet_front-header limit head (taken ++ t.0) has.fits)

cut_in_block : (r : Inflow) (limit got want : ℕ) (bytes : List ℕ) → r.before ≡ Some bytes → IsCutInBlock r limit got want → packet_front limit bytes ≡ Err (faults.Truncated got want)
cut_in_block r limit got want bytes is cut =
    let head = cut.begun.0 in
    let taken = cut.begun.1 in
    let has = cut.begun.4 in
    let whole : bytes ≡ header_bytes head ++ taken = told_all r bytes (header_bytes head ++ taken) is has.taken cut.over in
    ap (packet_front limit) whole
    ∙ packet_front-header limit head taken has.fits
    ∙ block_front-cut limit head taken (omega (arith, cut.begun.2, cut.within)) (omega (arith, cut.begun.2, cut.begun.3, cut.short))
    ∙ ap (λ (n : ℕ). Err (faults.Truncated n head.size)) cut.begun.3
    ∙ ap (λ (n : ℕ). Err (faults.Truncated got n)) cut.begun.2

pub AnswersFront-read : (r : Inflow) (limit : ℕ) (bytes : List ℕ) (answer : Result (Option Packet) PacketFault) → r.before ≡ Some bytes → ReadsPacket r limit answer → AnswersFront r (packet_front limit bytes) answer
AnswersFront-read r limit bytes (Ok None) is read =
    ap (packet_front limit) (told_all r bytes [] is read.0 read.1)
AnswersFront-read r limit bytes (Ok (Some packet)) is read =
    let f = front_behind r limit packet.head bytes packet.block is read.2 in
    (f.0, f.1, f.2 ∙ block_front-whole limit packet.head packet.block f.0 read.1 read.0)
AnswersFront-read r limit bytes (Err (faults.Truncated got want)) is (inl few) =
    let whole : bytes ≡ few.2.bytes.0 = told_all r bytes few.2.bytes.0 is few.2.bytes.2 few.2.over in
    front_of_few limit bytes got (ap length whole ∙ few.2.bytes.1) few.1 (omega (arith, few.0, few.2.short)) ∙ ap (λ (n : ℕ). Err (faults.Truncated got n)) (sym few.0)
AnswersFront-read r limit bytes (Err (faults.Truncated got want)) is (inr cut) = cut_in_block r limit got want bytes is cut
AnswersFront-read r limit bytes (Err (faults.TooBig size above)) is read =
    let f = front_behind r limit read.2 bytes [] is read.4 in
    f.2
    ∙ block_front-too_big limit read.2 f.0 (omega (arith, read.1, read.3))
    ∙ ap (λ (n : ℕ). Err (faults.TooBig n limit)) read.3
    ∙ ap (λ (n : ℕ). Err (faults.TooBig size n)) (sym read.0)
AnswersFront-read r limit bytes (Err (faults.BadBlock at)) is read = read
AnswersFront-read r limit bytes (Err faults.ReadFault) is read = tt
AnswersFront-read r limit bytes (Err faults.Memory) is read = tt
