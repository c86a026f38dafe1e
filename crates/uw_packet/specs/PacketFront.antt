-- The packet at the front of bytes, as a function of the bytes: what a call over a source that tells what it has answers.
use Rattle.std.specs.Prelude.{◌≡◌, ℕ, ◌+◌, ◌*◌, nat_le, nat_lt, if◌then◌else◌, List, [], ◌∷◌, length, take, drop, Option, None, Some, Result, Ok, Err}
use Rattle.uw_packet.specs.declared.packet.Header.{Header}
use Rattle.uw_packet.specs.declared.packet.Packet.{Packet}
use Rattle.uw_packet.specs.declared.packet.PacketFault.{PacketFault}
use Rattle.uw_packet.specs.declared.packet.PacketFault.TheVariants as faults
use Rattle.uw_outside.specs.Streams.{Inflow}

-- behind a header: a size above the limit is refused first; else the block and the rest, where the block is whole
abbrev pub block_front : ℕ → Header → List ℕ → Result (Option (Packet × List ℕ)) PacketFault
block_front limit head bytes =
    if nat_lt limit head.size then Err (faults.TooBig head.size limit)
    else (if nat_le head.size (length bytes) then Ok (Some (record { head = head; block = take head.size bytes }, drop head.size bytes))
    else Err (faults.Truncated (length bytes) head.size))

-- no packet where there is no byte; else a header, and what is behind it
abbrev pub packet_front : ℕ → List ℕ → Result (Option (Packet × List ℕ)) PacketFault
packet_front limit [] = Ok None
packet_front limit (a ∷ []) = Err (faults.Truncated 1 4)
packet_front limit (a ∷ b ∷ []) = Err (faults.Truncated 2 4)
packet_front limit (a ∷ b ∷ c ∷ []) = Err (faults.Truncated 3 4)
packet_front limit (m1 ∷ low ∷ high ∷ m2 ∷ bytes) = block_front limit (record { m1 = m1; size = low + 256 * high; m2 = m2 }) bytes

-- an answer is what stands at the front, and the rest is left; only a failed read and want of memory come besides
abbrev pub AnswersFront : Inflow → Result (Option (Packet × List ℕ)) PacketFault → Result (Option Packet) PacketFault → Type 0
AnswersFront r front (Ok None) = front ≡ Ok None
AnswersFront r front (Ok (Some packet)) = (rest : List ℕ) × (r.now ≡ Some rest) × (front ≡ Ok (Some (packet, rest)))
AnswersFront r front (Err faults.ReadFault) = Unit {0}
AnswersFront r front (Err faults.Memory) = Unit {0}
AnswersFront r front (Err (faults.Truncated got want)) = front ≡ Err (faults.Truncated got want)
AnswersFront r front (Err (faults.TooBig size above)) = front ≡ Err (faults.TooBig size above)
AnswersFront r front (Err (faults.BadBlock at)) = ⊥
