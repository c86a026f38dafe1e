-- Variables in one buffer: what stays where bytes are put behind it, and a variable more.
use Rattle.std.proofs.Common.{◌≡◌, ◌+◌, ◌-◌, ◌≤◌, List, [], ◌∷◌, ◌++◌, ℕ, length, get_or, take, drop, slice_range, slice_get, Some, Bool, true, false, if◌then◌else◌, Result, Ok, Err, OnErr, refl, sym, ap, ◌∙◌, arith}
use Rattle.std.proofs.lemmas.List.{append_assoc, drop-append-le, drop_all, drop_more, length-append, length-drop, map-append, take_all, take-append-le, take_more}
use Rattle.std.proofs.lemmas.Option.{get_or_from_slice_get, slice_get_within}
use Rattle.std.specs.Str.{bytes_eq}
use Rattle.uw_base.specs.declared.variables.Pair.{Pair}
use Rattle.uw_base.specs.declared.variables.Span.{Span}
use Rattle.uw_base.specs.Variables.{value_after, value_of}
use Rattle.uw_base.specs.VariableSpans.{AreSpansWithin, IsSpanWithin, pair_at, pairs_at}

-- ---- bytes behind the buffer

range_kept : (bytes more : List ℕ) (from until : ℕ) → from ≤ until → until ≤ length bytes → slice_range (bytes ++ more) from until ≡ slice_range bytes from until
range_kept bytes more from until rises within =
    let short : until - from ≤ length (drop from bytes) = rw (length-drop from bytes) (omega arith) in
    ap (take (until - from)) (drop-append-le from bytes more (omega arith)) ∙ take-append-le (until - from) (drop from bytes) more short

pair_kept : (bytes more : List ℕ) (span : Span) → IsSpanWithin (length bytes) span → pair_at (bytes ++ more) span ≡ pair_at bytes span
pair_kept bytes more span within =
    rw (range_kept bytes more span.start span.middle within.0 (omega arith), range_kept bytes more span.middle span.end within.1 within.2) refl

pairs_kept : (bytes more : List ℕ) (spans : List Span) → AreSpansWithin (length bytes) spans → pairs_at (bytes ++ more) spans ≡ pairs_at bytes spans
pairs_kept bytes more [] within = refl
pairs_kept bytes more (span ∷ spans) within = rw (pair_kept bytes more span within.0, pairs_kept bytes more spans within.1) refl

within_more : (count more : ℕ) (spans : List Span) → count ≤ more → AreSpansWithin count spans → AreSpansWithin more spans
within_more count more [] grows within = tt
within_more count more (span ∷ spans) grows within = ((within.0.0, within.0.1, omega arith), within_more count more spans grows within.1)

within_push : (count : ℕ) (spans : List Span) (span : Span) → AreSpansWithin count spans → IsSpanWithin count span → AreSpansWithin count (spans ++ span ∷ [])
within_push count [] span all here = (here, tt)
within_push count (first ∷ spans) span all here = (all.0, within_push count spans span all.1 here)

-- the variables stay where bytes are put behind the buffer, and lie within it
pub stay_behind : (old more bytes : List ℕ) (spans now : List Span) → bytes ≡ old ++ more → now ≡ spans → AreSpansWithin (length old) spans
    → (pairs_at bytes now ≡ pairs_at old spans) × AreSpansWithin (length bytes) now
stay_behind old more bytes spans now is same within =
    let longer : AreSpansWithin (length (old ++ more)) spans = within_more (length old) (length (old ++ more)) spans (rw (length-append old more) (omega arith)) within in
    (rw (is, same) (pairs_kept old more spans within), rw (is, same) longer)

-- what holds anyway holds where there is an error
pub on_err : {T E P : Type 0} (result : Result T E) → P → OnErr result P
on_err (Ok done) holds = tt
on_err (Err fault) holds = holds

-- ---- a variable more

behind : (old more : List ℕ) → slice_range (old ++ more) (length old) (length (old ++ more)) ≡ more
behind old more =
    let dropped : drop (length old) (old ++ more) ≡ more = drop-append-le (length old) old more (omega arith) ∙ ap (λ (front : List ℕ). front ++ more) (drop_all (length old) old (omega arith)) in
    let whole : length more ≤ length (old ++ more) - length old = rw (length-append old more) (omega arith) in
    ap (take (length (old ++ more) - length old)) dropped ∙ take_all (length (old ++ more) - length old) more whole

-- the key and the value that were put behind the buffer
pair_put : (old key value : List ℕ) (span : Span) → span.start ≡ length old → span.middle ≡ length (old ++ key) → span.end ≡ length ((old ++ key) ++ value)
    → pair_at ((old ++ key) ++ value) span ≡ record { key = key; value = value }
pair_put old key value span starts parts ends =
    let longer : length old ≤ length (old ++ key) = rw (length-append old key) (omega arith) in
    let name : slice_range ((old ++ key) ++ value) (length old) (length (old ++ key)) ≡ key =
    range_kept (old ++ key) value (length old) (length (old ++ key)) longer (omega arith) ∙ behind old key in
    rw (starts, parts, ends, name, behind (old ++ key) value) refl

-- a variable that is put behind the buffer is the last one
pub put_behind : (old key middle value bytes : List ℕ) (spans now : List Span) (span : Span) → middle ≡ old ++ key → bytes ≡ middle ++ value → now ≡ spans ++ span ∷ []
    → span.start ≡ length old → span.middle ≡ length middle → span.end ≡ length bytes → AreSpansWithin (length old) spans
    → (pairs_at bytes now ≡ pairs_at old spans ++ record { key = key; value = value } ∷ []) × AreSpansWithin (length bytes) now
put_behind old key middle value bytes spans now span is_middle is_bytes is_now starts parts ends within =
    let all : bytes ≡ old ++ (key ++ value) = is_bytes ∙ ap (λ (front : List ℕ). front ++ value) is_middle ∙ append_assoc old key value in
    let whole : bytes ≡ (old ++ key) ++ value = is_bytes ∙ ap (λ (front : List ℕ). front ++ value) is_middle in
    let kept = stay_behind old (key ++ value) bytes spans spans all refl within in
    let middle_at : span.middle ≡ length (old ++ key) = parts ∙ ap length is_middle in
    let end_at : span.end ≡ length ((old ++ key) ++ value) = ends ∙ ap length whole in
    let last : pair_at bytes span ≡ record { key = key; value = value } = rw whole (pair_put old key value span starts middle_at end_at) in
    let here : IsSpanWithin (length bytes) span = (rw (starts, middle_at, length-append old key) (omega arith), rw (middle_at, end_at, length-append (old ++ key) value) (omega arith), rw ends (omega arith)) in (
      ap (pairs_at bytes) is_now ∙ map-append (pair_at bytes) spans (span ∷ []) ∙ rw (kept.0, last) refl,
      rw is_now (within_push (length bytes) spans span kept.1 here),
    )

-- ---- the variables in their order

-- the variable at a place stands in front of the others
pub drop_here : (pairs : List Pair) (i : ℕ) (pair : Pair) → slice_get pairs i ≡ Some pair → drop i pairs ≡ pair ∷ drop (i + 1) pairs
drop_here pairs i pair is =
    drop_more pairs i pair (slice_get_within pairs i pair is) ∙ ap (λ (first : Pair). first ∷ drop (i + 1) pairs) (get_or_from_slice_get pairs i pair pair is)

-- ---- the last variable of a key

-- the value after two lists is that after the second, begun with that after the first
value_after-append : (key before : List ℕ) (xs ys : List Pair) → value_after key before (xs ++ ys) ≡ value_after key (value_after key before xs) ys
value_after-append key before [] ys = refl
value_after-append key before (pair ∷ xs) ys = value_after-append key (if bytes_eq pair.key key then pair.value else before) xs ys

-- the last variable of a front gives its value where it has the key
value_of-take : (pairs : List Pair) (key : List ℕ) (n : ℕ) (pair : Pair) → 1 ≤ n → n ≤ length pairs → slice_get pairs (n - 1) ≡ Some pair
    → value_of (take n pairs) key ≡ (if bytes_eq pair.key key then pair.value else value_of (take (n - 1) pairs) key)
value_of-take pairs key n pair some within is =
    let back : n ≡ n - 1 + 1 = omega arith in
    ap (λ (m : ℕ). value_of (take m pairs) key) back
    ∙ ap (λ (front : List Pair). value_of front key) (take_more pairs (n - 1) pair (omega arith))
    ∙ value_after-append key [] (take (n - 1) pairs) (get_or pairs (n - 1) pair ∷ [])
    ∙ ap (λ (last : Pair). value_after key (value_of (take (n - 1) pairs) key) (last ∷ [])) (get_or_from_slice_get pairs (n - 1) pair pair is)

-- the variable behind which none has the key gives the value, or is passed over
pub value_of-here : (pairs : List Pair) (key : List ℕ) (n : ℕ) (pair : Pair) → 1 ≤ n → n ≤ length pairs → slice_get pairs (n - 1) ≡ Some pair
    → bytes_eq pair.key key ≡ true → value_of (take n pairs) key ≡ value_of pairs key → pair.value ≡ value_of pairs key
value_of-here pairs key n pair some within is same last =
    sym (value_of-take pairs key n pair some within is ∙ ap (λ (b : Bool). if b then pair.value else value_of (take (n - 1) pairs) key) same) ∙ last

pub value_of-before : (pairs : List Pair) (key : List ℕ) (n : ℕ) (pair : Pair) → 1 ≤ n → n ≤ length pairs → slice_get pairs (n - 1) ≡ Some pair
    → bytes_eq pair.key key ≡ false → value_of (take n pairs) key ≡ value_of pairs key → value_of (take (n - 1) pairs) key ≡ value_of pairs key
value_of-before pairs key n pair some within is other last =
    sym (value_of-take pairs key n pair some within is ∙ ap (λ (b : Bool). if b then pair.value else value_of (take (n - 1) pairs) key) other) ∙ last
