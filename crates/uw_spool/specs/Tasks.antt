-- The task of a row ("Spooler").
use Rattle.std.specs.Prelude.{ℕ, zero, suc, nat_lt, ◌==◌, Bool, false, if◌then◌else◌, List, [], ◌∷◌, ◌++◌, length, codes, Option, None, Some, Result, Ok, Err, ℤ, pos, negsuc}
use Rattle.std.specs.Option.{option_map_or}
use Rattle.uw_base.specs.declared.variables.Pair.{Pair}
use Rattle.uw_base.specs.Numbers.{decimal_of}
use Rattle.uw_base.specs.Variables.{value_of}
use Rattle.uw_packet.specs.declared.packet.Packet.{Packet}
use Rattle.uw_packet.specs.declared.packet.PacketFault.{PacketFault}
use Rattle.uw_packet.specs.Blocks.{vars_read}
use Rattle.uw_packet.specs.PacketFront.{packet_front}

-- the most bytes of a row
abbrev pub most_row_bytes : ℕ
most_row_bytes = 1048576

-- the variables of a task that has a body: the body is one more, unless it has no byte
abbrev pub with_body : List ℕ → Result (List Pair) ℕ → Option (List Pair)
with_body body (Ok pairs) = Some (if length body == 0 then pairs else pairs ++ record { key = codes "body"; value = body } ∷ [])
with_body body (Err at) = None

-- the variables of a packet of modifier1 17, with the body behind it
abbrev pub vars_of_packet : Packet → List ℕ → Option (List Pair)
vars_of_packet packet body = if packet.head.m1 == 17 then with_body body (vars_read packet.block) else None

-- the variables of what stands at the front of a row's bytes, and of what follows
abbrev pub vars_of_front : Result (Option (Packet × List ℕ)) PacketFault → Option (List Pair)
vars_of_front (Ok (Some found)) = vars_of_packet found.0 found.1
vars_of_front (Ok None) = None
vars_of_front (Err fault) = None

-- the variables of a row's task: a whole packet of modifier1 17 with a block in its grammar, and the body behind it; a row that is too long, or no such packet, has none
unfoldable pub row_vars : List ℕ → Option (List Pair)
row_vars bytes = if nat_lt most_row_bytes (length bytes) then None else vars_of_front (packet_front 65535 bytes)

-- a task that is to wait: its variable `at` is a number above the moment
abbrev pub is_later : ℕ → List Pair → Bool
is_later now vars = option_map_or (λ at. nat_lt now at) (decimal_of (value_of vars (codes "at"))) false

-- a status as it counts: -2 (negsuc 1) and 0 are themselves, and any other one is -1 (negsuc 0)
abbrev pub counted_status : ℤ → ℤ
counted_status (pos zero) = pos 0
counted_status (negsuc (suc zero)) = negsuc 1
counted_status status = negsuc 0
