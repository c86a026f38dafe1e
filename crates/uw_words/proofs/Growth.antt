-- How an overlay grows by the words that are put, and what is read then.
use Rattle.std.proofs.Common.{◌≡◌, ◌≢◌, ◌⊎◌, inl, inr, ℕ, zero, suc, ◌+◌, ◌<◌, ◌≤◌, cond, eqb, List, [], ◌∷◌, ◌++◌, Option, Some, unwrap_or, map, length, refl, sym, ap, ◌∙◌, subst, arith}
use Rattle.std.proofs.lemmas.Bool.{cases_eq}
use Rattle.std.proofs.lemmas.Bool.Decides.{nat_tests}
use Rattle.uw_words.specs.Plans.{Plan, region, planned, Names, through, with_put}
use Rattle.uw_words.specs.Numbers.{IsOneOf, IsNoneOf, places_from}
use Rattle.uw_words.specs.Parts.{seen, places_of, with_place, with_places, HasRoom, GrewAt}

-- an overlay after a word is put, and after some are, one after the other
abbrev pub put_on : Plan → ℕ → ℕ → Plan
put_on plan at word = record plan { writes = with_put plan.writes at word }

abbrev pub puts_on : Plan → List (ℕ × ℕ) → Plan
puts_on plan [] = plan
puts_on plan (put ∷ puts) = puts_on (put_on plan put.0 put.1) puts

-- a reader after some words are put
abbrev pub with_puts : (ℕ → ℕ) → List (ℕ × ℕ) → ℕ → ℕ
with_puts reader [] at = reader at
with_puts reader (put ∷ puts) at = with_puts (λ place. cond (eqb put.0 place) put.1 (reader place)) puts at

pub planned-put_same : (writes : List (ℕ × ℕ)) (at word : ℕ) → planned (with_put writes at word) at ≡ Some word
planned-put_same [] at word = grind (arith, nat_tests)
planned-put_same (write ∷ writes) at word =
    let rest : planned (with_put writes at word) at ≡ Some word = planned-put_same writes at word in
    elim (cases_eq write.0 at) [ inl same ↦ grind (arith, nat_tests) | inr other ↦ grind (arith, nat_tests) ]

pub planned-put_other : (writes : List (ℕ × ℕ)) (at word place : ℕ) → at ≢ place → planned (with_put writes at word) place ≡ planned writes place
planned-put_other [] at word place apart = grind (arith, nat_tests)
planned-put_other (write ∷ writes) at word place apart =
    let rest : planned (with_put writes at word) place ≡ planned writes place = planned-put_other writes at word place apart in
    elim (cases_eq write.0 at) [
      | inl same ↦ let away : write.0 ≢ place = λ e. apart (sym same ∙ e) in grind (arith, nat_tests)
      | inr other ↦ elim (cases_eq write.0 place) [ inl here ↦ grind (arith, nat_tests) | inr there ↦ grind (arith, nat_tests) ]
    ]

pub read_put : (writes : List (ℕ × ℕ)) (reader : ℕ → ℕ) (at word : ℕ) → through (with_put writes at word) reader at ≡ word
read_put writes reader at word = ap (λ (w : Option ℕ). unwrap_or w (reader at)) (planned-put_same writes at word)

pub read_other : (writes : List (ℕ × ℕ)) (reader : ℕ → ℕ) (at word place : ℕ) → at ≢ place → through (with_put writes at word) reader place ≡ through writes reader place
read_other writes reader at word place apart = ap (λ (w : Option ℕ). unwrap_or w (reader place)) (planned-put_other writes at word place apart)

pub places-put : (writes : List (ℕ × ℕ)) (at word : ℕ) → places_of (with_put writes at word) ≡ with_place (places_of writes) at
places-put [] at word = refl
places-put (write ∷ writes) at word =
    let rest : places_of (with_put writes at word) ≡ with_place (places_of writes) at = places-put writes at word in
    elim (cases_eq write.0 at) [ inl same ↦ grind (arith, nat_tests) | inr other ↦ grind (arith, nat_tests) ]

pub with_places-append : (named early late : List ℕ) → with_places named (early ++ late) ≡ with_places (with_places named early) late
with_places-append named [] late = refl
with_places-append named (at ∷ early) late = with_places-append (with_place named at) early late

none_of-append : (early late : List ℕ) (at : ℕ) → IsNoneOf (early ++ late) at → IsNoneOf early at × IsNoneOf late at
none_of-append [] late at none = (tt, none)
none_of-append (first ∷ early) late at none =
    let rest = none_of-append early late at none.1 in
    ((none.0, rest.0), rest.1)

-- growth by nothing, by one place, and by one list after another
pub grew_none : (plan : Plan) → GrewAt [] plan plan
grew_none plan = record { room = refl; named = refl; others = λ at none. refl }

pub grew_put : (plan : Plan) (at word : ℕ) → GrewAt (at ∷ []) plan (put_on plan at word)
grew_put plan at word = record {
  room = refl;
  named = places-put plan.writes at word;
  others = λ place none. planned-put_other plan.writes at word place none.0;
}

pub grew_then : (early late : List ℕ) (before mid now : Plan) → GrewAt early before mid → GrewAt late mid now → GrewAt (early ++ late) before now
grew_then early late before mid now first second = record {
  room = second.room ∙ first.room;
  named = second.named ∙ ap (λ (named : List ℕ). with_places named late) first.named ∙ sym (with_places-append (places_of before.writes) early late);
  others = λ at none.
      let both = none_of-append early late at none in
      second.others at both.1 ∙ first.others at both.0;
}

pub grew_puts : (plan : Plan) (puts : List (ℕ × ℕ)) → GrewAt (map (λ put. put.0) puts) plan (puts_on plan puts)
grew_puts plan [] = grew_none plan
grew_puts plan (put ∷ puts) =
    grew_then (put.0 ∷ []) (map (λ (p : ℕ × ℕ). p.0) puts) plan (put_on plan put.0 put.1) (puts_on (put_on plan put.0 put.1) puts) (grew_put plan put.0 put.1)
    (grew_puts (put_on plan put.0 put.1) puts)

-- what is read where an overlay did not grow
pub read_grown : (places : List ℕ) (before now : Plan) (words : List ℕ) (at : ℕ) → GrewAt places before now → IsNoneOf places at → seen now words at ≡ seen before words at
read_grown places before now words at grew none = ap (λ (w : Option ℕ). unwrap_or w (region words at)) (grew.others at none)

-- what is read after some words are put
with_puts-same : (one two : ℕ → ℕ) (puts : List (ℕ × ℕ)) (at : ℕ) → ((place : ℕ) → one place ≡ two place) → with_puts one puts at ≡ with_puts two puts at
with_puts-same one two [] at same = same at
with_puts-same one two (put ∷ puts) at same =
    with_puts-same (λ place. cond (eqb put.0 place) put.1 (one place)) (λ place. cond (eqb put.0 place) put.1 (two place)) puts at
    (λ place. ap (cond (eqb put.0 place) put.1) (same place))

pub read_puts : (plan : Plan) (words : List ℕ) (puts : List (ℕ × ℕ)) (at : ℕ) → seen (puts_on plan puts) words at ≡ with_puts (seen plan words) puts at
read_puts plan words [] at = refl
read_puts plan words (put ∷ puts) at =
    read_puts (put_on plan put.0 put.1) words puts at
    ∙ with_puts-same (seen (put_on plan put.0 put.1) words) (λ place. cond (eqb put.0 place) put.1 (seen plan words place)) puts at (λ place. one_put place)
  where
    one_put : (place : ℕ) → seen (put_on plan put.0 put.1) words place ≡ cond (eqb put.0 place) put.1 (seen plan words place)
    one_put place = elim (cases_eq put.0 place) [
      | inl same ↦
          let read : seen (put_on plan put.0 put.1) words place ≡ put.1 =
          ap (seen (put_on plan put.0 put.1) words) (sym same) ∙ read_put plan.writes (region words) put.0 put.1 in
          grind (arith, nat_tests)
      | inr other ↦
          let read : seen (put_on plan put.0 put.1) words place ≡ seen plan words place = read_other plan.writes (region words) put.0 put.1 place other in
          grind (arith, nat_tests)
    ]

pub with_puts-other : (reader : ℕ → ℕ) (puts : List (ℕ × ℕ)) (at : ℕ) → IsNoneOf (map (λ put. put.0) puts) at → with_puts reader puts at ≡ reader at
with_puts-other reader [] at none = refl
with_puts-other reader (put ∷ puts) at none =
    let apart : put.0 ≢ at = none.0 in
    let here : cond (eqb put.0 at) put.1 (reader at) ≡ reader at = grind (arith, nat_tests) in
    with_puts-other (λ place. cond (eqb put.0 place) put.1 (reader place)) puts at none.1 ∙ here

-- the first of some puts, where none of the others is at its place
pub with_puts-first : (reader : ℕ → ℕ) (at word : ℕ) (puts : List (ℕ × ℕ)) → IsNoneOf (map (λ put. put.0) puts) at → with_puts reader ((at, word) ∷ puts) at ≡ word
with_puts-first reader at word puts none =
    let here : cond (eqb at at) word (reader at) ≡ word = grind (arith, nat_tests) in
    with_puts-other (λ place. cond (eqb at place) word (reader place)) puts at none ∙ here

-- room
length-with_place : (writes : List (ℕ × ℕ)) (at : ℕ) → (length (with_place (places_of writes) at) ≡ length writes + 1) ⊎ Names writes at
length-with_place [] at = inl refl
length-with_place (write ∷ writes) at = elim (cases_eq write.0 at) [
  | inl same ↦ inr (let named : planned (write ∷ writes) at ≡ Some write.1 = grind (arith, nat_tests) in rw named refl)
  | inr other ↦ elim (length-with_place writes at) [
    | inl new ↦ inl (let more : with_place (places_of (write ∷ writes)) at ≡ write.0 ∷ with_place (places_of writes) at = grind (arith, nat_tests) in omega (arith, ap length more, new))
    | inr named ↦ inr (let same : planned (write ∷ writes) at ≡ planned writes at = grind (arith, nat_tests) in rw same named)
  ]
]

length-place-le : (named : List ℕ) (at : ℕ) → length named ≤ length (with_place named at)
length-place-le [] at = omega arith
length-place-le (first ∷ named) at =
    let rest : length named ≤ length (with_place named at) = length-place-le named at in
    elim (cases_eq first at) [
      | inl same ↦ (let e : with_place (first ∷ named) at ≡ first ∷ named = grind (arith, nat_tests) in omega (arith, ap length e))
      | inr other ↦ (let e : with_place (first ∷ named) at ≡ first ∷ with_place named at = grind (arith, nat_tests) in omega (arith, ap length e))
    ]

pub length-places-le : (named places : List ℕ) → length named ≤ length (with_places named places)
length-places-le named [] = omega arith
length-places-le named (at ∷ places) = omega (arith, length-place-le named at, length-places-le (with_place named at) places)

place-le-length : (named : List ℕ) (at : ℕ) → length (with_place named at) ≤ length named + 1
place-le-length [] at = omega arith
place-le-length (first ∷ named) at =
    let rest : length (with_place named at) ≤ length named + 1 = place-le-length named at in
    elim (cases_eq first at) [
      | inl same ↦ (let e : with_place (first ∷ named) at ≡ first ∷ named = grind (arith, nat_tests) in omega (arith, ap length e))
      | inr other ↦ (let e : with_place (first ∷ named) at ≡ first ∷ with_place named at = grind (arith, nat_tests) in omega (arith, ap length e))
    ]

-- each place needs room for one more at most
pub places-le-length : (named places : List ℕ) → length (with_places named places) ≤ length named + length places
places-le-length named [] = omega arith
places-le-length named (at ∷ places) = omega (arith, place-le-length named at, places-le-length (with_place named at) places)

length-places_of : (writes : List (ℕ × ℕ)) → length (places_of writes) ≡ length writes
length-places_of [] = refl
length-places_of (write ∷ writes) = omega (arith, length-places_of writes)

pub spare_room : (plan : Plan) (places : List ℕ) → length plan.writes + length places ≤ plan.room → HasRoom plan places
spare_room plan places spare = omega (arith, places-le-length (places_of plan.writes) places, length-places_of plan.writes)

-- the first of the places may be put
pub room_now : (plan : Plan) (at : ℕ) (places : List ℕ) → HasRoom plan (at ∷ places) → (length plan.writes < plan.room) ⊎ Names plan.writes at
room_now plan at places room = elim (length-with_place plan.writes at) [
  | inl new ↦ inl (omega (arith, new, room, length-places-le (with_place (places_of plan.writes) at) places))
  | inr named ↦ inr named
]

-- and the others after it
pub room_then : (early late : List ℕ) (before now : Plan) → HasRoom before (early ++ late) → GrewAt early before now → HasRoom now late
room_then early late before now room grew =
    let named : length (with_places (places_of now.writes) late) ≡ length (with_places (places_of before.writes) (early ++ late)) =
    ap (λ (l : List ℕ). length (with_places l late)) grew.named ∙ ap length (sym (with_places-append (places_of before.writes) early late)) in
    omega (arith, named, room, grew.room)

pub room_next : (before now : Plan) (at word : ℕ) (places : List ℕ) → now ≡ put_on before at word → HasRoom before (at ∷ places) → HasRoom now places
room_next before now at word places is room =
    subst (λ (plan : Plan). HasRoom plan places) (sym is) (room_then (at ∷ []) places before (put_on before at word) room (grew_put before at word))

pub room_early : (early late : List ℕ) (plan : Plan) → HasRoom plan (early ++ late) → HasRoom plan early
room_early early late plan room =
    omega (arith, room, ap length (with_places-append (places_of plan.writes) early late), length-places-le (with_places (places_of plan.writes) early) late)

-- places in a row are those from the first up to the last
pub in_row : (first count at : ℕ) → IsOneOf (places_from first count) at → (first ≤ at) × (at < first + count)
in_row first zero at one = absurd one
in_row first (suc count) at (inl here) = (omega arith, omega arith)
in_row first (suc count) at (inr later) = let rest = in_row (first + 1) count at later in (omega arith, omega arith)

pub row_has : (first count at : ℕ) → first ≤ at → at < first + count → IsOneOf (places_from first count) at
row_has first zero at low high = absurd (omega arith)
row_has first (suc count) at low high = elim (cases_eq first at) [
  | inl here ↦ inl here
  | inr other ↦ inr (row_has (first + 1) count at (omega arith) (omega arith))
]

-- a place before a row is none of it
pub none_before : (first count at : ℕ) → at < first → IsNoneOf (places_from first count) at
none_before first zero at low = tt
none_before first (suc count) at low = ((λ same. absurd (omega (arith, same))), none_before (first + 1) count at (omega arith))

pub row_length : (first count : ℕ) → length (places_from first count) ≡ count
row_length first zero = refl
row_length first (suc count) = ap suc (row_length (first + 1) count)

-- places in a row are some of them, and then the others
pub places_split : (first early late : ℕ) → places_from first (early + late) ≡ places_from first early ++ places_from (first + early) late
places_split first zero late =
    let none : zero + late ≡ late = omega arith in
    let same : first + zero ≡ first = omega arith in
    ap (places_from first) none ∙ ap (λ (at : ℕ). places_from at late) (sym same)
places_split first (suc early) late =
    let sum : suc early + late ≡ suc (early + late) = omega arith in
    let next : first + 1 + early ≡ first + suc early = omega arith in
    ap (places_from first) sum ∙ ap (λ (places : List ℕ). first ∷ places) (places_split (first + 1) early late ∙ ap (λ (at : ℕ). places_from (first + 1) early ++ places_from at late) next)
