-- A packet as bytes ("The uwsgi Protocol").
use Rattle.std.specs.Prelude.{◌≡◌, ℕ, ◌<◌, ◌^◌, List, [], ◌∷◌, ◌++◌, length}
use Rattle.std.specs.Int.{to_le_bytes, w16}
use Rattle.uw_packet.specs.declared.packet.Header.{Header}

-- the four bytes of a header: modifier1, the size with its lower byte first, modifier2
abbrev pub header_bytes : Header → List ℕ
header_bytes head = head.m1 ∷ to_le_bytes w16 head.size ++ head.m2 ∷ []

-- a packet stands at the front of the bytes: its header, whose size two bytes can hold, a block of just that size, and the rest
pub record IsPacket (bytes : List ℕ) (head : Header) (block rest : List ℕ) : Type 0 where
  pub fits : head.size < 2 ^ 16
  pub size : length block ≡ head.size
  pub whole : bytes ≡ header_bytes head ++ block ++ rest
