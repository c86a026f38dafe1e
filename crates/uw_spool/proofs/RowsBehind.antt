-- How a keeper stands behind the rows of a round that were passed.
use Rattle.std.proofs.Common.{◌≡◌, ℕ, zero, suc, ◌+◌, ◌<◌, ◌≤◌, ◌==◌, nat_lt, Bool, true, false, not, List, [], ◌∷◌, ◌++◌, filter, Option, None, Some, IfSome, if◌then◌else◌, inl, inr, refl, sym, ap, ◌∙◌, subst, arith, append_assoc, slice_index_or}
use Rattle.std.specs.List.{AllByRecursion}
use Rattle.std.specs.List.Sorted.{IsStrictlyIncreasing}
use Rattle.std.proofs.lemmas.Bool.{cases_Bool, ne_eqb, le-ltb, lt-ltb, ltb-true, ltb-false}
use Rattle.std.proofs.lemmas.List.{append-nil}
use Rattle.std.proofs.lemmas.List.Elements.{filter-append}
use Rattle.uw_keeper.specs.declared.keeper.Row.{Row}
use Rattle.uw_keeper.specs.Keeping.{Keeping}
use Rattle.uw_keeper.specs.Rows.{AreRows, last_number, row_after, without_row}
use Rattle.uw_keeper.proofs.RowsLemmas.{Above, Above-from_rows, Above-less, row_after-none}
use Rattle.uw_model.specs.declared.asks.Ask.{Ask}
use Rattle.uw_model.specs.declared.asks.Ask.TheVariants as asks
use Rattle.uw_model.specs.declared.asks.AskAnswer.{AskAnswer}
use Rattle.uw_model.specs.declared.asks.AskAnswer.TheVariants as ask_answers
use Rattle.uw_model.specs.declared.asks.SpoolAnswer.TheVariants as spools
use Rattle.uw_model.specs.Asks.{Asking, counted_answer}
use Rattle.uw_chain.specs.Spooling.{AnswersTask, AnswersTaskIfAny, LeadsRows, LeadsTold}
use Rattle.uw_spool.specs.Rounds.{Clears}
use Rattle.uw_spool.specs.RoundSteps.{GivesRow, StandsBehind, rows_above}

-- ---- lists

-- what holds of each element of two lists
pub all-append : {X : Type 0} → (P : X → Type 0) (xs ys : List X) → AllByRecursion P xs → AllByRecursion P ys → AllByRecursion P (xs ++ ys)
all-append P [] ys first more = more
all-append P (x ∷ xs) ys first more = (first.0, all-append P xs ys first.1 more)

-- what follows from what holds of each element
pub all-weaker : {X : Type 0} → (P Q : X → Type 0) (xs : List X) → ((x : X) → P x → Q x) → AllByRecursion P xs → AllByRecursion Q xs
all-weaker P Q [] follows all = tt
all-weaker P Q (x ∷ xs) follows all = (follows x all.0, all-weaker P Q xs follows all.1)

all-kept : {X : Type 0} → (P : X → Type 0) (keeps : Bool) (x : X) (xs : List X) → P x → AllByRecursion P xs → AllByRecursion P (if keeps then x ∷ xs else xs)
all-kept P true x xs first all = (first, all)
all-kept P false x xs first all = all

-- what holds of each element holds of some of them
pub all-filter : {X : Type 0} → (P : X → Type 0) (p : X → Bool) (xs : List X) → AllByRecursion P xs → AllByRecursion P (filter p xs)
all-filter P p [] all = tt
all-filter P p (x ∷ xs) all = all-kept P (p x) x (filter p xs) all.0 (all-filter P p xs all.1)

-- numbers that rise, and a greater one
pub rising-push : (numbers : List ℕ) (number : ℕ) → IsStrictlyIncreasing numbers → AllByRecursion (λ n. n < number) numbers → IsStrictlyIncreasing (numbers ++ number ∷ [])
rising-push [] number rising all k within = absurd (omega (arith, within))
rising-push (first ∷ []) number rising all zero within = all.0
rising-push (first ∷ []) number rising all (suc k) within = absurd (omega (arith, within))
rising-push (first ∷ next ∷ numbers) number rising all zero within = rising 0 (omega arith)
rising-push (first ∷ next ∷ numbers) number rising all (suc k) within =
    let later : IsStrictlyIncreasing (next ∷ numbers) =
    λ i below. let e : suc i + 1 ≡ suc (i + 1) = omega arith in
    subst (λ n. slice_index_or (next ∷ numbers) i 0 < slice_index_or (first ∷ next ∷ numbers) n 0) e (rising (suc i) (omega arith)) in
    let e : suc (k + 1) ≡ suc k + 1 = omega arith in
    subst (λ n. slice_index_or ((next ∷ numbers) ++ number ∷ []) k 0 < slice_index_or ((first ∷ next ∷ numbers) ++ number ∷ []) n 0) e
    (rising-push (next ∷ numbers) number later all.1 k (omega arith))

-- ---- rows above a number

-- a row that is not above a number is passed
row_after-passed : (number : ℕ) (row : Row) (kept : List Row) → row.number ≤ number → row_after number (row ∷ kept) ≡ row_after number kept
row_after-passed number row kept passed = rw (le-ltb number row.number passed) refl

-- rows that are not above a number are passed
row_after-front : (number : ℕ) (front rest : List Row) → AllByRecursion (λ (row : Row). row.number ≤ number) front → row_after number (front ++ rest) ≡ row_after number rest
row_after-front number [] rest passed = refl
row_after-front number (row ∷ front) rest passed = row_after-passed number row (front ++ rest) passed.0 ∙ row_after-front number front rest passed.1

-- all rows are above a number that the first is above
pub rows_above-all : (number : ℕ) (kept : List Row) → Above number kept → rows_above number kept ≡ kept
rows_above-all number [] above = refl
rows_above-all number (row ∷ kept) above = rw (lt-ltb number row.number above.0) refl

-- each of them is above it
above-rows_above : (low number : ℕ) (kept : List Row) → Above low kept → Above number (rows_above number kept)
above-rows_above low number [] above = tt
above-rows_above low number (row ∷ kept) above = elim (cases_Bool (nat_lt number row.number)) [
  | inl later ↦ rw later (ltb-true number row.number later, above.1)
  | inr passed ↦ rw passed (above-rows_above row.number number kept above.1)
]

all-above : (number : ℕ) (kept : List Row) → Above number kept → AllByRecursion (λ (row : Row). number < row.number) kept
all-above number [] above = tt
all-above number (row ∷ kept) above = (above.0, all-above number kept (Above-less number row.number kept (omega (arith, above.0)) above.1))

some_same : (one other : Row) → Some one ≡ Some other → one ≡ other
some_same one other e = cc

-- the row after a number is the first of those above it, and behind it are those above its number
next_above : (low number : ℕ) (kept : List Row) (row : Row) → Above low kept → row_after number kept ≡ Some row
    → (rows_above number kept ≡ row ∷ rows_above row.number kept) × (number < row.number)
next_above low number [] row above is = absurd cc
next_above low number (first ∷ kept) row above is = elim (cases_Bool (nat_lt number first.number)) [
  | inl later ↦ first_is later (some_same first row (rw later at is))
  | inr passed ↦ (
      let rest = next_above first.number number kept row above.1 (rw passed at is) in
      let below : first.number ≤ row.number = omega (arith, ltb-false number first.number passed, rest.1) in
      (rw (passed, le-ltb row.number first.number below) rest.0, rest.1)
      )
]
  where
    first_is : nat_lt number first.number ≡ true → first ≡ row → (rows_above number (first ∷ kept) ≡ row ∷ rows_above row.number (first ∷ kept)) × (number < row.number)
    first_is later same =
        let own : rows_above number (first ∷ kept) ≡ first ∷ rows_above first.number (first ∷ kept) =
        rw (later, le-ltb first.number first.number (omega arith), rows_above-all first.number kept above.1) refl in
        subst (λ (r : Row). (rows_above number (first ∷ kept) ≡ r ∷ rows_above r.number (first ∷ kept)) × (number < r.number)) same (own, ltb-true number first.number later)

-- no row is above the number
pub none_above : (number : ℕ) (kept : List Row) → row_after number kept ≡ None → rows_above number kept ≡ []
none_above number [] is = refl
none_above number (row ∷ kept) is = elim (cases_Bool (nat_lt number row.number)) [
  | inl later ↦ absurd (let e = rw later at is in cc)
  | inr passed ↦ rw passed (none_above number kept (rw passed at is))
]

-- a row that is given is not above the last one
given-last : (low number : ℕ) (kept : List Row) (row : Row) → Above low kept → row_after number kept ≡ Some row → row.number ≤ last_number kept
given-last low number [] row above is = absurd cc
given-last low number (first ∷ []) row above is = elim (cases_Bool (nat_lt number first.number)) [
  | inl later ↦ (let e = some_same first row (rw later at is) in rw (← e) (omega arith))
  | inr passed ↦ absurd (let e = rw passed at is in cc)
]
given-last low number (first ∷ next ∷ kept) row above is = elim (cases_Bool (nat_lt number first.number)) [
  | inl later ↦ (let e = some_same first row (rw later at is) in rw (← e) (omega (arith, last_above first.number next kept above.1)))
  | inr passed ↦ given-last first.number number (next ∷ kept) row above.1 (rw passed at is)
]
  where
    last_above : (below : ℕ) (one : Row) (more : List Row) → Above below (one ∷ more) → below < last_number (one ∷ more)
    last_above below one [] up = up.0
    last_above below one (two ∷ more) up = let last = last_above one.number two more up.1 in omega (arith, up.0, last)

-- what holds of each row holds of one that is given
given-all : (P : Row → Type 0) (number : ℕ) (kept : List Row) (row : Row) → AllByRecursion P kept → row_after number kept ≡ Some row → P row
given-all P number [] row all is = absurd cc
given-all P number (first ∷ kept) row all is = elim (cases_Bool (nat_lt number first.number)) [
  | inl later ↦ subst P (some_same first row (rw later at is)) all.0
  | inr passed ↦ given-all P number kept row all.1 (rw passed at is)
]

-- ---- the last row

-- the last row of some and then others is the last one of these
last-behind : (front : List Row) (row : Row) (tail : List Row) → last_number (front ++ row ∷ tail) ≡ last_number (row ∷ tail)
last-behind [] row tail = refl
last-behind (first ∷ []) row tail = refl
last-behind (first ∷ next ∷ front) row tail = last-behind (next ∷ front) row tail

-- where rows are above a number, the last one is the last of all
last-above : (number : ℕ) (kept : List Row) (row : Row) (rest : List Row) → rows_above number kept ≡ row ∷ rest → last_number kept ≡ last_number (row ∷ rest)
last-above number [] row rest is = absurd cc
last-above number (first ∷ []) row rest is = elim (cases_Bool (nat_lt number first.number)) [
  | inl later ↦ ap last_number (rw later at is)
  | inr passed ↦ absurd (let e = rw passed at is in cc)
]
last-above number (first ∷ next ∷ kept) row rest is = elim (cases_Bool (nat_lt number first.number)) [
  | inl later ↦ ap last_number (rw later at is)
  | inr passed ↦ last-above number (next ∷ kept) row rest (rw passed at is)
]

all-last : (last : ℕ) (row : Row) (more : List Row) → AllByRecursion (λ (r : Row). last < r.number) (row ∷ more) → last < last_number (row ∷ more)
all-last last row [] all = all.0
all-last last row (next ∷ more) all = all-last last next more all.1

-- a keeper that stands so has a last row that is not below the last one of the start, as long as one of these is left
last-stands : (last : ℕ) (front : List Row) (row : Row) (rest added : List Row) → last_number (row ∷ rest) ≡ last → AllByRecursion (λ (r : Row). last < r.number) added
    → last ≤ last_number (front ++ (row ∷ (rest ++ added)))
last-stands last front row rest [] is new =
    let e : last_number (front ++ (row ∷ (rest ++ []))) ≡ last = ap (λ (l : List Row). last_number (front ++ l)) (append-nil (row ∷ rest)) ∙ last-behind front row rest ∙ is in
    omega (arith, e)
last-stands last front row rest (one ∷ added) is new =
    let e : last_number (front ++ (row ∷ (rest ++ one ∷ added))) ≡ last_number (one ∷ added) = last-behind front row (rest ++ one ∷ added) ∙ last-behind (row ∷ rest) one added in
    omega (arith, e, all-last last one added new)

-- ---- tasks put rows behind the last one

-- rows behind the last one of the start
pub record Extends (last : ℕ) (before now : List Row) : Type 0 where
  pub more : List Row
  pub is : now ≡ before ++ more
  pub new : AllByRecursion (λ (row : Row). last < row.number) more
  pub behind : last ≤ last_number now

extends-none : (last : ℕ) (before now : List Row) → last ≤ last_number before → now ≡ before → Extends last before now
extends-none last before now up same = record { more = []; is = same ∙ sym (append-nil before); new = tt; behind = omega (arith, up, ap last_number same) }

extends-one : (last : ℕ) (before now : List Row) (row : Row) → last ≤ last_number before → row.number ≡ last_number before + 1 → now ≡ before ++ row ∷ [] → Extends last before now
extends-one last before now row up number is =
    let e : last_number now ≡ row.number = ap last_number is ∙ last-behind before row [] in
    record { more = row ∷ []; is = is; new = (omega (arith, up, number), tt); behind = omega (arith, up, number, e) }

extends-answer : (last : ℕ) (before now : List Row) (ask : Ask) (answer : AskAnswer) → last ≤ last_number before → AnswersTask before ask answer now → Extends last before now
extends-answer last before now (asks.Spool vars body) (ask_answers.Spool (spools.Put number)) up h = extends-one last before now (record { number = number; bytes = _ }) up h.1 h.2
extends-answer last before now (asks.Spool vars body) (ask_answers.Spool spools.NoNumber) up h = extends-none last before now up h.1
extends-answer last before now (asks.Spool vars body) (ask_answers.Spool spools.Failed) up h = extends-none last before now up h
extends-answer last before now (asks.Spool vars body) (ask_answers.Cache answer) up h = absurd h
extends-answer last before now (asks.Spool vars body) (ask_answers.Area answer) up h = absurd h
extends-answer last before now (asks.Cache cache call) answer up h = absurd h
extends-answer last before now (asks.Area area op) answer up h = absurd h

extends-if_any : (last : ℕ) (before now : List Row) (ask : Ask) (answer : Option AskAnswer) → last ≤ last_number before → AnswersTaskIfAny before ask answer now → Extends last before now
extends-if_any last before now ask None up h = extends-none last before now up h
extends-if_any last before now ask (Some answer) up h = extends-answer last before now ask answer up h

-- tasks
pub extends-led : (last : ℕ) (asked : List Asking) (before now : List Row) → last ≤ last_number before → LeadsRows before asked now → Extends last before now
extends-led last [] before now up h = extends-none last before now up h
extends-led last (a ∷ asked) before now up h =
    let one = extends-if_any last before h.0 a.ask (counted_answer a.end) up h.1 in
    let rest = extends-led last asked h.0 now one.behind h.2 in
    record {
      more = one.more ++ rest.more;
      is = rest.is ∙ ap (λ (l : List Row). l ++ rest.more) one.is ∙ append_assoc before one.more rest.more;
      new = all-append (λ (row : Row). last < row.number) one.more rest.more one.new rest.new;
      behind = rest.behind;
    }

-- ---- how a keeper stands

-- a keeper at the start of a round
pub stands-start : (start : List Row) (last : ℕ) (told : Option (List Row)) → AreRows start → told ≡ Some start → StandsBehind start last 0 told
stands-start start last told are is = record {
  front = [];
  added = [];
  tells = is ∙ ap Some (sym (append-nil (rows_above 0 start) ∙ rows_above-all 0 start (Above-from_rows start are)));
  passed = tt;
  new = tt;
}

-- the row that it gives is the first of those of the start that are above the number
pub stands-next : (start : List Row) (last number : ℕ) (told : Option (List Row)) (row : Row) → AreRows start → last_number start ≡ last → StandsBehind start last number told
    → GivesRow told number last (Some row) → rows_above number start ≡ row ∷ rows_above row.number start
stands-next start last number told row are is stands gives = by_next (row_after number start) refl
  where
    given : row_after number (stands.front ++ (rows_above number start ++ stands.added)) ≡ Some row
    given = subst (λ (t : Option (List Row)). IfSome t (λ kept. row_after number kept ≡ Some row)) stands.tells gives.2

    behind : row_after number (rows_above number start ++ stands.added) ≡ Some row
    behind = sym (row_after-front number stands.front (rows_above number start ++ stands.added) stands.passed) ∙ given

    by_next : (next : Option Row) → row_after number start ≡ next → rows_above number start ≡ row ∷ rows_above row.number start
    by_next None none =
        let e = none_above number start none in
        let added : row_after number stands.added ≡ Some row = rw e at behind in
        absurd (omega (arith, given-all (λ (r : Row). last < r.number) number stands.added row stands.new added, gives.1))
    by_next (Some first) some =
        let e = next_above 0 number start first (Above-from_rows start are) some in
        let found : row_after number (first ∷ (rows_above first.number start ++ stands.added)) ≡ Some row = rw e.0 at behind in
        let same : first ≡ row = some_same first row (rw (lt-ltb number first.number e.1) at found) in
        subst (λ (r : Row). rows_above number start ≡ r ∷ rows_above r.number start) same e.0

-- none of the start is above the number where it gives none
pub stands-none : (start : List Row) (last number : ℕ) (told : Option (List Row)) → AreRows start → last_number start ≡ last → StandsBehind start last number told
    → GivesRow told number last None → rows_above number start ≡ []
stands-none start last number told are is stands gives = by_next (row_after number start) refl
  where
    given : IfSome (row_after number (stands.front ++ (rows_above number start ++ stands.added))) (λ (row : Row). last < row.number)
    given = subst (λ (t : Option (List Row)). IfSome t (λ kept. IfSome (row_after number kept) (λ (row : Row). last < row.number))) stands.tells gives

    behind : IfSome (row_after number (rows_above number start ++ stands.added)) (λ (row : Row). last < row.number)
    behind = subst (λ (o : Option Row). IfSome o (λ (row : Row). last < row.number)) (row_after-front number stands.front (rows_above number start ++ stands.added) stands.passed) given

    by_next : (next : Option Row) → row_after number start ≡ next → rows_above number start ≡ []
    by_next None none = none_above number start none
    by_next (Some first) some =
        let e = next_above 0 number start first (Above-from_rows start are) some in
        let found : row_after number (rows_above number start ++ stands.added) ≡ Some first = rw (e.0, lt-ltb number first.number e.1) refl in
        let above : last < first.number = rw found at behind in
        absurd (omega (arith, above, given-last 0 number start first (Above-from_rows start are) some, is))

-- none of the start is above a number that is not below the last one
pub stands-over : (start : List Row) (number : ℕ) → AreRows start → last_number start ≤ number → rows_above number start ≡ []
stands-over start number are over = none_above number start (row_after-none number start over (Above-from_rows start are))

-- the row that is next was passed
pub stands-pass : (start : List Row) (last number : ℕ) (told now : Option (List Row)) (row : Row) → number < row.number → rows_above number start ≡ row ∷ rows_above row.number start
    → StandsBehind start last number told → now ≡ told → StandsBehind start last row.number now
stands-pass start last number told now row up next stands same = record {
  front = stands.front ++ row ∷ [];
  added = stands.added;
  tells = same ∙ stands.tells ∙ ap (λ (l : List Row). Some (stands.front ++ (l ++ stands.added))) next
      ∙ ap Some (sym (append_assoc stands.front (row ∷ []) (rows_above row.number start ++ stands.added)));
  passed = all-append (λ (r : Row). r.number ≤ row.number) stands.front (row ∷ [])
      (all-weaker (λ (r : Row). r.number ≤ number) (λ (r : Row). r.number ≤ row.number) stands.front (λ r below. omega (arith, below, up)) stands.passed)
      (omega arith, tt);
  new = stands.new;
}

-- rows were put behind the last one
stands-extended : (start : List Row) (last number : ℕ) (told : Option (List Row)) (asked : List Asking) (now : Option (List Row)) (row : Row) → last_number start ≡ last
    → rows_above number start ≡ row ∷ rows_above row.number start → StandsBehind start last number told → LeadsTold told asked now → StandsBehind start last number now
stands-extended start last number told asked now row is next stands led = by_now now (subst (λ (t : Option (List Row)). LeadsTold t asked now) stands.tells led)
  where
    held : List Row
    held = stands.front ++ (rows_above number start ++ stands.added)

    by_now : (now : Option (List Row)) → LeadsTold (Some held) asked now → StandsBehind start last number now
    by_now None h = absurd h
    by_now (Some after) h =
        let ends : last_number (row ∷ rows_above row.number start) ≡ last = sym (last-above number start row (rows_above row.number start) next) ∙ is in
        let stood : last ≤ last_number (stands.front ++ ((row ∷ rows_above row.number start) ++ stands.added)) =
        last-stands last stands.front row (rows_above row.number start) stands.added ends stands.new in
        let up : last ≤ last_number held = subst (λ (l : List Row). last ≤ last_number (stands.front ++ (l ++ stands.added))) (sym next) stood in
        let e = extends-led last asked held after up h in
        record {
          front = stands.front;
          added = stands.added ++ e.more;
          tells = ap Some (e.is ∙ append_assoc stands.front (rows_above number start ++ stands.added) e.more
              ∙ ap (λ (l : List Row). stands.front ++ l) (append_assoc (rows_above number start) stands.added e.more));
          passed = stands.passed;
          new = all-append (λ (r : Row). last < r.number) stands.added e.more stands.new e.new;
        }

-- rows above a number are not the row of that number
without-above : (number : ℕ) (kept : List Row) → AllByRecursion (λ (r : Row). number < r.number) kept → without_row number kept ≡ kept
without-above number [] all = refl
without-above number (row ∷ kept) all =
    let apart : (row.number == number) ≡ false = ne_eqb row.number number (λ same. omega (arith, same, all.0)) in
    rw (apart, without-above number kept all.1) refl

-- the row that was passed was removed
stands-removed : (start : List Row) (last number : ℕ) (told now : Option (List Row)) (low : ℕ) → Above low start → number ≤ last → StandsBehind start last number told
    → ((kept : List Row) → told ≡ Some kept → now ≡ Some (without_row number kept)) → StandsBehind start last number now
stands-removed start last number told now low above within stands removes =
    let stays : Row → Bool = λ row. not (row.number == number) in
    let rest = rows_above number start in
    let late : without_row number rest ≡ rest = without-above number rest (all-above number rest (above-rows_above low number start above)) in
    let newer : without_row number stands.added ≡ stands.added =
    without-above number stands.added (all-weaker (λ (r : Row). last < r.number) (λ (r : Row). number < r.number) stands.added (λ r up. omega (arith, up, within)) stands.new) in
    let whole : without_row number (stands.front ++ (rest ++ stands.added)) ≡ without_row number stands.front ++ (rest ++ stands.added) =
    filter-append stays stands.front (rest ++ stands.added)
    ∙ ap (λ (l : List Row). without_row number stands.front ++ l) (filter-append stays rest stands.added ∙ ap (λ (l : List Row). l ++ without_row number stands.added) late ∙ ap (λ (l : List Row). rest ++ l) newer) in
    record {
      front = without_row number stands.front;
      added = stands.added;
      tells = removes (stands.front ++ (rest ++ stands.added)) stands.tells ∙ ap Some whole;
      passed = all-filter (λ (r : Row). r.number ≤ number) stays stands.front stands.passed;
      new = stands.new;
    }

-- a row was cleared
stands-cleared : (start : List Row) (last number : ℕ) (put left : Keeping) (done gone : Bool) → AreRows start → number ≤ last → StandsBehind start last number put.rows
    → Clears put left number done gone → StandsBehind start last number left.rows
stands-cleared start last number put left true true are within stands clears =
    stands-removed start last number put.rows left.rows 0 (Above-from_rows start are) within stands (λ kept is. removed kept is)
  where
    removed : (kept : List Row) → put.rows ≡ Some kept → left.rows ≡ Some (without_row number kept)
    removed kept is = (rw is at clears.0).1
stands-cleared start last number put left true false are within stands clears = subst (λ (k : Keeping). StandsBehind start last number k.rows) (sym clears.0) stands
stands-cleared start last number put left false true are within stands clears = absurd clears
stands-cleared start last number put left false false are within stands clears = subst (λ (k : Keeping). StandsBehind start last number k.rows) (sym clears) stands

-- the row that is next had its turn: its task put rows behind the last one, and it was cleared
pub stands-turn : (start : List Row) (last number : ℕ) (told : Option (List Row)) (asked : List Asking) (put left : Keeping) (row : Row) (done gone : Bool) → AreRows start
    → last_number start ≡ last → number < row.number → row.number ≤ last → rows_above number start ≡ row ∷ rows_above row.number start
    → StandsBehind start last number told → LeadsTold told asked put.rows → Clears put left row.number done gone → StandsBehind start last row.number left.rows
stands-turn start last number told asked put left row done gone are is up within next stands led clears =
    let extended = stands-extended start last number told asked put.rows row is next stands led in
    let passed = stands-pass start last number put.rows put.rows row up next extended refl in
    stands-cleared start last row.number put left done gone are within passed clears
