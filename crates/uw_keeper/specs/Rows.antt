-- The rows of a keeper: their numbers rise, and each is at least 1 ("Spooler").
use Rattle.std.specs.Prelude.{ℕ, ◌≤◌, ◌==◌, nat_lt, Bool, not, if◌then◌else◌, List, [], ◌∷◌, map, filter, Option, None, Some}
use Rattle.std.specs.List.{AllByRecursion, list_any}
use Rattle.std.specs.List.Sorted.{IsStrictlyIncreasing}
use Rattle.uw_keeper.specs.declared.keeper.Row.{Row}

-- the numbers rise, and each is at least 1
pub record AreRows (rows : List Row) : Type 0 where
  pub rising : IsStrictlyIncreasing (map (λ (row : Row). row.number) rows)
  pub counted : AllByRecursion (λ (row : Row). 1 ≤ row.number) rows

-- the number of the last row, 0 where there is none
abbrev pub last_number : List Row → ℕ
last_number [] = 0
last_number (row ∷ []) = row.number
last_number (row ∷ more ∷ rows) = last_number (more ∷ rows)

-- the number of the last row, if there is one
abbrev pub last_of_rows : List Row → Option ℕ
last_of_rows [] = None
last_of_rows (row ∷ rows) = Some (last_number (row ∷ rows))

-- a row has the number
abbrev pub has_row : ℕ → List Row → Bool
has_row number rows = list_any (λ (row : Row). row.number == number) rows

-- the rows without that of a number
abbrev pub without_row : ℕ → List Row → List Row
without_row number rows = filter (λ (row : Row). not (row.number == number)) rows

-- the first row whose number is above another
abbrev pub row_after : ℕ → List Row → Option Row
row_after number [] = None
row_after number (row ∷ rows) = if nat_lt number row.number then Some row else row_after number rows
