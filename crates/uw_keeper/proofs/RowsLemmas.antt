-- Rows whose numbers rise.
use Rattle.std.proofs.Common.{◌≡◌, ℕ, suc, ◌+◌, ◌<◌, ◌≤◌, Bool, true, false, not, List, [], ◌∷◌, ◌++◌, length, map, filter, if◌then◌else◌, Option, None, Some, IfSome, refl, sym, ap, ◌∙◌, subst, arith, slice_index_or, slice_get, ◌==◌, nat_lt, inl, inr, zero, unwrap_or}
use Rattle.std.proofs.lemmas.Bool.{cases_Bool, eqb-true, ne_eqb, ltb-true, lt-ltb, le-ltb}
use Rattle.std.proofs.lemmas.List.Elements.{filter_passes}
use Rattle.std.proofs.lemmas.List.Folds.{list_any_none}
use Rattle.std.specs.List.{AllByRecursion, Contains}
use Rattle.std.specs.List.Sorted.{IsStrictlyIncreasing}
use Rattle.uw_keeper.specs.declared.keeper.Row.{Row}
use Rattle.uw_keeper.specs.Visits.{put_before, rows_in_turn}
use Rattle.uw_keeper.specs.Rows.{AreRows, has_row, last_number, last_of_rows, row_after, without_row}

-- the number of a row
abbrev pub number_of : Row → ℕ
number_of row = row.number

-- the numbers rise, and the first is above another number
abbrev pub Above : ℕ → List Row → Type 0
Above number [] = Unit {0}
Above number (row ∷ rows) = (number < row.number) × Above row.number rows

Above-from_rising : (row : Row) (rows : List Row) → IsStrictlyIncreasing (map number_of (row ∷ rows)) → Above row.number rows
Above-from_rising row [] rising = tt
Above-from_rising row (next ∷ rows) rising =
    let later : IsStrictlyIncreasing (map number_of (next ∷ rows)) =
    λ k within. let e : suc k + 1 ≡ suc (k + 1) = omega arith in
    subst (λ n. slice_index_or (map number_of (next ∷ rows)) k 0 < slice_index_or (map number_of (row ∷ next ∷ rows)) n 0) e (rising (suc k) (omega arith)) in
    (rising 0 (omega arith), Above-from_rising next rows later)

rising-from_Above : (row : Row) (rows : List Row) → Above row.number rows → IsStrictlyIncreasing (map number_of (row ∷ rows))
rising-from_Above row [] above k within = absurd (omega arith)
rising-from_Above row (next ∷ rows) above zero within = above.0
rising-from_Above row (next ∷ rows) above (suc k) within =
    let e : suc (k + 1) ≡ suc k + 1 = omega arith in
    subst (λ n. slice_index_or (map number_of (next ∷ rows)) k 0 < slice_index_or (map number_of (row ∷ next ∷ rows)) n 0) e (rising-from_Above next rows above.1 k (omega arith))

counted-from_Above : (number : ℕ) (rows : List Row) → Above number rows → AllByRecursion (λ (row : Row). 1 ≤ row.number) rows
counted-from_Above number [] above = tt
counted-from_Above number (row ∷ rows) above = (omega (arith, above.0), counted-from_Above row.number rows above.1)

-- rows rise above 0
pub Above-from_rows : (rows : List Row) → AreRows rows → Above 0 rows
Above-from_rows [] are = tt
Above-from_rows (row ∷ rows) are = (omega (arith, are.counted.0), Above-from_rising row rows are.rising)

-- what rises above a number are rows
pub rows-from_Above : (number : ℕ) (rows : List Row) → Above number rows → AreRows rows
rows-from_Above number [] above = record { rising = λ k within. absurd (omega arith); counted = tt }
rows-from_Above number (row ∷ rows) above = record { rising = rising-from_Above row rows above.1; counted = counted-from_Above number (row ∷ rows) above }

-- what rises above a number rises above a lesser one
pub Above-less : (less number : ℕ) (rows : List Row) → less ≤ number → Above number rows → Above less rows
Above-less less number [] below above = tt
Above-less less number (row ∷ rows) below above = (omega (arith, below, above.0), above.1)

-- the last row is above the number
pub Above-last : (number : ℕ) (row : Row) (rows : List Row) → Above number (row ∷ rows) → number < last_number (row ∷ rows)
Above-last number row [] above = above.0
Above-last number row (next ∷ rows) above = let last = Above-last row.number next rows above.1 in omega (arith, above.0, last)

-- a row behind the last one
pub Above-append : (number : ℕ) (rows : List Row) (new : Row) → Above number rows → number < new.number → last_number rows < new.number
    → Above number (rows ++ new ∷ [])
Above-append number [] new above first last = (first, tt)
Above-append number (row ∷ []) new above first last = (above.0, (last, tt))
Above-append number (row ∷ next ∷ rows) new above first last =
    let below = Above-last row.number next rows above.1 in
    (above.0, Above-append row.number (next ∷ rows) new above.1 (omega (arith, below, last)) last)

-- a row that stays or goes, before rows that rise above it
Above-kept : (keeps : Bool) (number : ℕ) (row : Row) (rows : List Row) → number < row.number → Above row.number rows → Above number (if keeps then row ∷ rows else rows)
Above-kept true number row rows first above = (first, above)
Above-kept false number row rows first above = Above-less number row.number rows (omega (arith, first)) above

-- some of the rows
pub Above-filter : (p : Row → Bool) (number : ℕ) (rows : List Row) → Above number rows → Above number (filter p rows)
Above-filter p number [] above = tt
Above-filter p number (row ∷ rows) above = Above-kept (p row) number row (filter p rows) above.0 (Above-filter p row.number rows above.1)

-- a row behind the last one, with a greater number
pub AreRows-append : (rows : List Row) (new : Row) → AreRows rows → last_number rows < new.number → AreRows (rows ++ new ∷ [])
AreRows-append rows new are last = rows-from_Above 0 (rows ++ new ∷ []) (Above-append 0 rows new (Above-from_rows rows are) (omega (arith, last)) last)

-- some of the rows
pub AreRows-filter : (p : Row → Bool) (rows : List Row) → AreRows rows → AreRows (filter p rows)
AreRows-filter p rows are = rows-from_Above 0 (filter p rows) (Above-filter p 0 rows (Above-from_rows rows are))

-- the last element is the last row
pub last_of_rows-get : (rows : List Row) (row : Row) (i : ℕ) → i + 1 ≡ length rows → slice_get rows i ≡ Some row → last_of_rows rows ≡ Some row.number
last_of_rows-get [] row i last is = absurd (omega (arith, last))
last_of_rows-get (first ∷ []) row zero last is = cc
last_of_rows-get (first ∷ []) row (suc i) last is = absurd (omega (arith, last))
last_of_rows-get (first ∷ next ∷ rows) row zero last is = absurd (omega (arith, last))
last_of_rows-get (first ∷ next ∷ rows) row (suc i) last is = last_of_rows-get (next ∷ rows) row i (omega (arith, last)) is

-- 0 where there is no last row
pub last_of_rows-number : (rows : List Row) → unwrap_or (last_of_rows rows) 0 ≡ last_number rows
last_of_rows-number [] = refl
last_of_rows-number (row ∷ rows) = refl

-- the row after a number is above it
pub row_after-above : (number : ℕ) (rows : List Row) → IfSome (row_after number rows) (λ (row : Row). number < row.number)
row_after-above number [] = tt
row_after-above number (row ∷ rows) = elim (cases_Bool (nat_lt number row.number)) [
  | inl later ↦ rw later (ltb-true number row.number later)
  | inr passed ↦ rw passed (row_after-above number rows)
]

-- a row behind others is the last one
pub last_number-append : (rows : List Row) (new : Row) → last_number (rows ++ new ∷ []) ≡ new.number
last_number-append [] new = refl
last_number-append (row ∷ []) new = refl
last_number-append (row ∷ next ∷ rows) new = last_number-append (next ∷ rows) new

-- the first row above a number, where all rise above it
row_after-first : (number : ℕ) (row : Row) (rows : List Row) → number < row.number → row_after number (row ∷ rows) ≡ Some row
row_after-first number row rows above = rw (lt-ltb number row.number above) refl

-- a row that is not above the number
row_after-passed : (number : ℕ) (row : Row) (rows : List Row) → row.number ≤ number → row_after number (row ∷ rows) ≡ row_after number rows
row_after-passed number row rows passed = rw (le-ltb number row.number passed) refl

-- none of the rows is above the number
pub row_after-none : (number : ℕ) (rows : List Row) → last_number rows ≤ number → Above 0 rows → row_after number rows ≡ None
row_after-none number [] last above = refl
row_after-none number (row ∷ []) last above = row_after-passed number row [] last
row_after-none number (row ∷ next ∷ rows) last above =
    let below = Above-last row.number next rows above.1 in
    row_after-passed number row (next ∷ rows) (omega (arith, below, last)) ∙ row_after-none number (next ∷ rows) last (Above-less 0 row.number (next ∷ rows) (omega arith) above.1)

-- a turn that finds a row goes on with what the later turns give
put_before-same : (number : ℕ) (next : Option Row) (these those : Row → List Row) → IfSome next (λ (found : Row). number < found.number)
    → ((found : Row) → number < found.number → these found ≡ those found) → put_before next these ≡ put_before next those
put_before-same number None these those above same = refl
put_before-same number (Some found) these those above same = ap (λ rest. found ∷ rest) (same found above)

-- rows that are passed change no later turn
in_turn-passed : (asks number : ℕ) (row : Row) (rows : List Row) → row.number ≤ number → rows_in_turn asks number (row ∷ rows) ≡ rows_in_turn asks number rows
in_turn-passed zero number row rows passed = refl
in_turn-passed (suc asks) number row rows passed =
    let again : (found : Row) → number < found.number → rows_in_turn asks found.number (row ∷ rows) ≡ rows_in_turn asks found.number rows =
    λ found later. in_turn-passed asks found.number row rows (omega (arith, passed, later)) in
    rw (row_after-passed number row rows passed)
    (put_before-same number (row_after number rows) (λ found. rows_in_turn asks found.number (row ∷ rows)) (λ found. rows_in_turn asks found.number rows)
    (row_after-above number rows) again)

-- as many asks as there are rows give them all
pub in_turn-all : (number : ℕ) (rows : List Row) → Above number rows → rows_in_turn (length rows) number rows ≡ rows
in_turn-all number [] above = refl
in_turn-all number (row ∷ rows) above =
    rw (row_after-first number row rows above.0)
    (ap (λ rest. row ∷ rest) (in_turn-passed (length rows) row.number row rows (omega arith) ∙ in_turn-all row.number rows above.1))

-- none of the rows that stay has the number
pub without_row-gone : (number : ℕ) (rows : List Row) → has_row number (without_row number rows) ≡ false
without_row-gone number rows =
    let stays : Row → Bool = λ row. not (row.number == number) in
    list_any_none (λ (row : Row). row.number == number) (without_row number rows)
    (λ k d within. not_true (slice_index_or (without_row number rows) k d).number number (filter_passes stays rows k d within))
  where
    not_true : (one other : ℕ) → not (one == other) ≡ true → (one == other) ≡ false
    not_true one other is = elim (cases_Bool (one == other)) [ inl same ↦ (let e = rw same at is in cc) | inr apart ↦ apart ]

contains-kept : (keeps : Bool) (first : Row) (rows : List Row) (row : Row) → Contains rows row → Contains (if keeps then first ∷ rows else rows) row
contains-kept true first rows row has = (suc has.0, omega (arith, has.1), has.2)
contains-kept false first rows row has = has

others_at : (number : ℕ) (rows : List Row) (row : Row) (k : ℕ) → k < length rows → slice_index_or rows k row ≡ row → (row.number ≡ number → ⊥)
    → Contains (without_row number rows) row
others_at number [] row k within is apart = absurd (omega (arith, within))
others_at number (first ∷ rows) row zero within is apart =
    let e : (first.number == number) ≡ false = ne_eqb first.number number (λ same. apart (ap number_of (sym is) ∙ same)) in
    rw e (0, omega arith, is)
others_at number (first ∷ rows) row (suc k) within is apart =
    contains-kept (not (first.number == number)) first (without_row number rows) row (others_at number rows row k (omega (arith, within)) is apart)

-- the other rows stay
pub without_row-others : (rows : List Row) (number : ℕ) (row : Row) → Contains rows row → (row.number ≡ number → ⊥) → Contains (without_row number rows) row
without_row-others rows number row has apart = others_at number rows row has.0 has.1 has.2 apart

-- a row that was passed may go
pub without_row-later : (rows : List Row) (removed number : ℕ) → removed ≤ number → row_after number (without_row removed rows) ≡ row_after number rows
without_row-later [] removed number passed = refl
without_row-later (row ∷ rows) removed number passed =
    let later = without_row-later rows removed number passed in
    elim (cases_Bool (row.number == removed)) [
      | inl same ↦ rw (same, row_after-passed number row rows (omega (arith, eqb-true row.number removed same, passed))) later
      | inr apart ↦ rw apart (elim (cases_Bool (nat_lt number row.number)) [ inl e ↦ rw e refl | inr e ↦ rw e later ])
    ]

-- a row behind others is told as the last one
pub last_of_rows-append : (rows : List Row) (new : Row) → last_of_rows (rows ++ new ∷ []) ≡ Some new.number
last_of_rows-append [] new = refl
last_of_rows-append (row ∷ rows) new = ap Some (last_number-append (row ∷ rows) new)

-- the rows without one
pub AreRows-without : (rows : List Row) (number : ℕ) → AreRows rows → AreRows (without_row number rows)
AreRows-without rows number are = AreRows-filter (λ (row : Row). not (row.number == number)) rows are

-- rows are given in turn, and after the last one there is none
pub in_turn-rows : (rows : List Row) → AreRows rows → (rows_in_turn (length rows) 0 rows ≡ rows) × (row_after (last_number rows) rows ≡ None)
in_turn-rows rows are =
    let above = Above-from_rows rows are in
    (in_turn-all 0 rows above, row_after-none (last_number rows) rows (omega arith) above)
