-- What a read of a header, a block or a body took from a source, and why it was refused.
use Rattle.std.specs.Prelude.{◌≡◌, ℕ, ◌<◌, ◌≤◌, ◌^◌, ◌⊎◌, Bool, true, false, List, [], ◌++◌, length, Option, None, Some, Result, Ok, Err}
use Rattle.uw_outside.specs.Faults.{Rose}
use Rattle.uw_outside.specs.Streams.{Inflow, Takes, IsExhausted}
use Rattle.uw_packet.specs.declared.packet.Header.{Header}
use Rattle.uw_packet.specs.declared.packet.Packet.{Packet}
use Rattle.uw_packet.specs.declared.packet.PacketFault.{PacketFault}
use Rattle.uw_packet.specs.declared.packet.PacketFault.TheVariants as faults
use Rattle.uw_packet.specs.Packet.{header_bytes}

-- the source ended: nothing is left
abbrev pub IsOver : Inflow → Type 0
IsOver r = (r.ended ≡ true) × IsExhausted r.now

-- the source ended after `got` of `want` bytes, which were taken
pub record IsCut (r : Inflow) (got want : ℕ) : Type 0 where
  pub bytes : (bytes : List ℕ) × (length bytes ≡ got) × Takes r.before r.now bytes
  pub short : got < want
  pub over : IsOver r

-- a read failed before so many bytes had come; those that had come are gone
pub record HasFailed (r : Inflow) (want : ℕ) : Type 0 where
  pub bytes : (bytes : List ℕ) × (length bytes < want) × Takes r.before r.now bytes
  pub rose : Rose r.faults_before r.faults_now

-- a read failed
abbrev pub is_read_fault : {T : Type 0} → Result T PacketFault → Bool
is_read_fault (Ok done) = false
is_read_fault (Err (faults.Truncated got want)) = false
is_read_fault (Err (faults.TooBig size limit)) = false
is_read_fault (Err (faults.BadBlock at)) = false
is_read_fault (Err faults.ReadFault) = true
is_read_fault (Err faults.Memory) = false

-- a header was read, or the source was at its end, or it ended inside the four bytes, or a read failed
abbrev pub ReadsHeader : Inflow → Result (Option Header) PacketFault → Type 0
ReadsHeader r (Ok None) = Takes r.before r.now [] × IsOver r
ReadsHeader r (Ok (Some head)) = Takes r.before r.now (header_bytes head)
ReadsHeader r (Err (faults.Truncated got want)) = (want ≡ 4) × (1 ≤ got) × IsCut r got want
ReadsHeader r (Err faults.ReadFault) = HasFailed r 4
ReadsHeader r (Err _) = ⊥

-- a block of just this size was read; or the source ended inside it, or a read failed; or there was no memory, and nothing was read
abbrev pub ReadsBlock : Inflow → ℕ → Result (List ℕ) PacketFault → Type 0
ReadsBlock r size (Ok block) = (length block ≡ size) × Takes r.before r.now block
ReadsBlock r size (Err (faults.Truncated got want)) = (want ≡ size) × IsCut r got want
ReadsBlock r size (Err faults.ReadFault) = HasFailed r size
ReadsBlock r size (Err faults.Memory) = (r.now ≡ r.before) × (r.faults_now ≡ r.faults_before)
ReadsBlock r size (Err _) = ⊥

-- just so many bytes were taken, or the source ended before that, or a read failed
abbrev pub SkipsBody : Inflow → ℕ → Result (Unit {0}) PacketFault → Type 0
SkipsBody r len (Ok done) = (bytes : List ℕ) × (length bytes ≡ len) × Takes r.before r.now bytes
SkipsBody r len (Err (faults.Truncated got want)) = (want ≡ len) × IsCut r got want
SkipsBody r len (Err faults.ReadFault) = HasFailed r len
SkipsBody r len (Err _) = ⊥

-- what was taken is a header and these bytes behind it
pub record HasHeader (r : Inflow) (head : Header) (bytes : List ℕ) : Type 0 where
  pub fits : head.size < 2 ^ 16
  pub taken : Takes r.before r.now (header_bytes head ++ bytes)

-- the source ended inside a block within the limit, after `got` of its `want` bytes
pub record IsCutInBlock (r : Inflow) (limit got want : ℕ) : Type 0 where
  pub begun : (head : Header) × (bytes : List ℕ) × (head.size ≡ want) × (length bytes ≡ got) × HasHeader r head bytes
  pub within : want ≤ limit
  pub short : got < want
  pub over : IsOver r

-- a read failed inside a block within the limit
pub record HasFailedInBlock (r : Inflow) (limit : ℕ) : Type 0 where
  pub begun : (head : Header) × (bytes : List ℕ) × (head.size ≤ limit) × (length bytes < head.size) × HasHeader r head bytes
  pub rose : Rose r.faults_before r.faults_now

-- a packet within the limit was read, or the source was at its end; or the header names a size above the limit, and the block was not read;
-- or the source ended, or a read failed, inside the header or inside the block; or there was no memory for the block, which was not read
abbrev pub ReadsPacket : Inflow → ℕ → Result (Option Packet) PacketFault → Type 0
ReadsPacket r limit (Ok None) = Takes r.before r.now [] × IsOver r
ReadsPacket r limit (Ok (Some packet)) = (packet.head.size ≤ limit) × (length packet.block ≡ packet.head.size) × HasHeader r packet.head packet.block
ReadsPacket r limit (Err (faults.Truncated got want)) = ((want ≡ 4) × (1 ≤ got) × IsCut r got want) ⊎ IsCutInBlock r limit got want
ReadsPacket r limit (Err (faults.TooBig size above)) = (above ≡ limit) × (limit < size) × (head : Header) × (head.size ≡ size) × HasHeader r head []
ReadsPacket r limit (Err faults.ReadFault) = HasFailed r 4 ⊎ HasFailedInBlock r limit
ReadsPacket r limit (Err faults.Memory) = (head : Header) × (head.size ≤ limit) × HasHeader r head []
ReadsPacket r limit (Err (faults.BadBlock at)) = ⊥
