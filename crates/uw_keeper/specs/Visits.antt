-- A round over rows: each is asked for with the number of the one before.
use Rattle.std.specs.Prelude.{ℕ, zero, suc, List, [], ◌∷◌, Option, None, Some}
use Rattle.uw_keeper.specs.declared.keeper.Row.{Row}
use Rattle.uw_keeper.specs.Rows.{row_after}

-- a row and what follows it, if there is one
abbrev pub put_before : Option Row → (Row → List Row) → List Row
put_before None after = []
put_before (Some row) after = row ∷ after row

-- the rows that so many asks give, the first of them with a number
abbrev pub rows_in_turn : ℕ → ℕ → List Row → List Row
rows_in_turn zero number rows = []
rows_in_turn (suc asks) number rows = put_before (row_after number rows) (λ row. rows_in_turn asks row.number rows)
