-- What the laws of the definitions speak of.
use Rattle.std.specs.Prelude.{ℕ, List, Option, None, Some}
use Rattle.uw_packet.specs.declared.packet.Header.{Header}
use Rattle.uw_ends.specs.declared.ends.RunFault.{RunFault}
use Rattle.uw_ends.specs.declared.ends.RunFault.TheVariants as faults
use Rattle.uw_top.specs.Pipe.{Turn}

-- the packet of a turn as it was read, without its moment: its header, its block and its body
abbrev pub as_read : Turn → Header × List ℕ × List ℕ
as_read t = (t.packet.head, t.packet.block, t.packet.body)

-- an end that the bytes of a run decide: want of memory, a failed read and a failed write are none
abbrev pub IsOfBytes : Option RunFault → Type 0
IsOfBytes None = Unit {0}
IsOfBytes (Some (faults.Truncated got want)) = Unit {0}
IsOfBytes (Some (faults.BadPacket packet)) = Unit {0}
IsOfBytes (Some faults.TooMany) = Unit {0}
IsOfBytes (Some _) = ⊥
