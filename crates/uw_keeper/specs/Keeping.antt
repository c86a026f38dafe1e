-- What the calls of a keeper answer and leave, by its rows where it tells them ("Spooler"). A fault of the keeper comes before any other answer.
use Rattle.std.specs.Prelude.{◌≡◌, ℕ, ◌+◌, ◌-◌, ◌^◌, ◌<◌, ◌≤◌, Bool, true, false, List, [], ◌∷◌, ◌++◌, Option, None, Some, IfSome, Result, Ok, Err}
use Rattle.uw_keeper.specs.declared.keeper.Row.{Row}
use Rattle.uw_keeper.specs.declared.keeper.KeepFault.{KeepFault}
use Rattle.uw_keeper.specs.declared.keeper.KeepFault.TheVariants as faults
use Rattle.uw_keeper.specs.Rows.{has_row, last_number, last_of_rows, row_after, without_row}

-- the last number that a row may have
abbrev pub most_number : ℕ
most_number = 2 ^ 64 - 1

-- the call failed by a fault of the keeper
abbrev pub is_of_keeper : {T : Type 0} → Result T KeepFault → Bool
is_of_keeper (Ok done) = false
is_of_keeper (Err (faults.Absent number)) = false
is_of_keeper (Err faults.NoNumber) = false
is_of_keeper (Err faults.KeeperFault) = true
is_of_keeper (Err faults.Memory) = false

-- the number of the last row was told, or that there is none
abbrev pub TellsLast : Option (List Row) → Result (Option ℕ) KeepFault → Type 0
TellsLast told (Ok number) = IfSome told (λ rows. number ≡ last_of_rows rows)
TellsLast told (Err (faults.Absent number)) = ⊥
TellsLast told (Err faults.NoNumber) = ⊥
TellsLast told (Err faults.KeeperFault) = Unit {0}
TellsLast told (Err faults.Memory) = Unit {0}

-- a row was put behind the last one, with the number after that of the last one, which is 1 or more; or the last one has the last number; or nothing was kept
abbrev pub Appends : Option (List Row) → Option (List Row) → List ℕ → Result ℕ KeepFault → Type 0
Appends None now bytes (Ok number) = (now ≡ None) × (1 ≤ number)
Appends (Some rows) now bytes (Ok number) =
    (last_number rows < most_number) × (number ≡ last_number rows + 1) × (now ≡ Some (rows ++ record { number = number; bytes = bytes } ∷ []))
Appends told now bytes (Err (faults.Absent number)) = ⊥
Appends told now bytes (Err faults.NoNumber) = (now ≡ told) × IfSome told (λ rows. last_number rows ≡ most_number)
Appends told now bytes (Err faults.KeeperFault) = now ≡ told
Appends told now bytes (Err faults.Memory) = now ≡ told

-- the row of a number was removed; or no row has it; or nothing was removed
abbrev pub Removes : Option (List Row) → Option (List Row) → ℕ → Result Unit KeepFault → Type 0
Removes None now number (Ok done) = now ≡ None
Removes (Some rows) now number (Ok done) = (has_row number rows ≡ true) × (now ≡ Some (without_row number rows))
Removes told now number (Err (faults.Absent absent)) = (now ≡ told) × (absent ≡ number) × IfSome told (λ rows. has_row number rows ≡ false)
Removes told now number (Err faults.NoNumber) = ⊥
Removes told now number (Err faults.KeeperFault) = now ≡ told
Removes told now number (Err faults.Memory) = now ≡ told

-- the row after a number was given, or there is none; a row that is given has a greater number, whether the keeper tells its rows or not
abbrev pub GivesNext : Option (List Row) → ℕ → Result (Option Row) KeepFault → Type 0
GivesNext told number (Ok next) = IfSome next (λ (row : Row). number < row.number) × IfSome told (λ rows. next ≡ row_after number rows)
GivesNext told number (Err (faults.Absent absent)) = ⊥
GivesNext told number (Err faults.NoNumber) = ⊥
GivesNext told number (Err faults.KeeperFault) = Unit {0}
GivesNext told number (Err faults.Memory) = Unit {0}

-- a keeper over a call: its rows where it tells them, and its counts of faults, one of `append` and one of its other calls
pub record Keeping : Type 0 where
  pub rows : Option (List Row)
  pub append_faults : ℕ
  pub other_faults : ℕ

-- what a keeper shows in a state: `rows`, `appends` and `others` read it
abbrev pub keeping : {P : Type 0} → (P → Option (List Row)) → (P → ℕ) → (P → ℕ) → P → Keeping
keeping rows appends others keeper = record { rows = rows keeper; append_faults = appends keeper; other_faults = others keeper }
