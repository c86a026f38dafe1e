-- What a call over a block answers, by what the block holds.
use Rattle.std.specs.Prelude.{◌≡◌, ℕ, ◌<◌, nat_lt, ◌&&◌, if◌then◌else◌, List, length, Option, None, Some, Result, Ok, Err}
use Rattle.std.specs.List.{list_all, AllByRecursion}
use Rattle.uw_base.specs.declared.variables.Pair.{Pair}
use Rattle.uw_packet.specs.Blocks.{array_of, texts_of_pairs}
use Rattle.uw_packet.specs.declared.packet.PacketFault.{PacketFault}
use Rattle.uw_packet.specs.declared.packet.PacketFault.TheVariants as faults

-- numbers that bytes can hold
abbrev pub AreBytes : List ℕ → Type 0
AreBytes bytes = AllByRecursion (λ byte. byte < 256) bytes

-- what is read from a block is what it holds, or else the place of its fault; only want of memory is free
abbrev pub ReadsFrom : {T : Type 0} → Result T ℕ → Result T PacketFault → Type 0
ReadsFrom held (Ok value) = held ≡ Ok value
ReadsFrom held (Err (faults.BadBlock at)) = held ≡ Err at
ReadsFrom held (Err faults.Memory) = Unit {0}
ReadsFrom held (Err _) = ⊥

-- the vars block of the pairs, where each text and the block have lengths that two bytes can hold
abbrev pub vars_block : List Pair → Option (List ℕ)
vars_block pairs =
    if list_all (λ text. nat_lt (length text) 65536) (texts_of_pairs pairs) && nat_lt (length (array_of (texts_of_pairs pairs))) 65536
    then Some (array_of (texts_of_pairs pairs)) else None
