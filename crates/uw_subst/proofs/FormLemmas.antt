-- The text between the braces of a form: where it is cut, and what it says.
use Rattle.std.proofs.Common.{◌≡◌, ℕ, ◌+◌, ◌-◌, ◌<◌, ◌≤◌, Bool, true, false, ◌==◌, if◌then◌else◌, List, [], ◌∷◌, length, get_or, take, drop, refl, sym, ap, ◌∙◌, arith, Option, Some, None, slice_range, subst, MatchOption}
use Rattle.std.proofs.lemmas.Bool.Decides.{nat_tests}
use Rattle.std.proofs.lemmas.List.{drop-drop, drop-take, get_or-drop, get_or-take, length-drop, length-take-le, get_or_past, take-take}
use Rattle.uw_base.specs.declared.variables.Pair.{Pair}
use Rattle.std.specs.List.{after_first, before_first, list_any}
use Rattle.uw_subst.proofs.Positions.{IsFirst}
use Rattle.uw_subst.specs.Forms.{Form, bad, bracket_form, form_of, form_text, is_bad_form, named_form, variable, variable_form}
use Rattle.uw_subst.specs.Parts.{IsSpan, is_filled_part, part_form, part_text, span_bytes}
use Rattle.uw_subst.specs.PartSteps.{IsFormPart}
use Rattle.uw_subst.specs.declared.parts.Span.{Span}
use Rattle.uw_subst.specs.declared.parts.Part.{Part}
use Rattle.uw_subst.specs.declared.parts.Part.TheVariants.{Constant, Capture, Variable, Query, Time, Date, Encoded}

-- parts of a part of a text
pub range_front : (text : List ℕ) (from n to : ℕ) → from + n ≤ to → take n (slice_range text from to) ≡ slice_range text from (from + n)
range_front text from n to h =
    let same : from + n - from ≡ n = omega arith in
    take-take n (to - from) (drop from text) (omega arith) ∙ ap (λ (m : ℕ). take m (drop from text)) (sym same)

pub range_back : (text : List ℕ) (from n to : ℕ) → from + n ≤ to → drop n (slice_range text from to) ≡ slice_range text (from + n) to
range_back text from n to h =
    let size : to - from ≡ n + (to - (from + n)) = omega arith in
    ap (λ (m : ℕ). drop n (take m (drop from text))) size ∙ drop-take n (to - (from + n)) (drop from text) ∙ ap (take (to - (from + n))) (drop-drop n from text)

pub range_len : (text : List ℕ) (from to : ℕ) → from ≤ to → to ≤ length text → length (slice_range text from to) ≡ to - from
range_len text from to order inside = length-take-le (to - from) (drop from text) (omega (arith, length-drop from text))

pub range_at : (text : List ℕ) (from to i : ℕ) → from + i < to → get_or (slice_range text from to) i 0 ≡ get_or text (from + i) 0
range_at text from to i h = get_or-take (to - from) (drop from text) i 0 (omega arith) ∙ get_or-drop from text i 0

last_byte : (text : List ℕ) (from to : ℕ) → from < to → to ≤ length text → get_or (slice_range text from to) (length (slice_range text from to) - 1) 0 ≡ get_or text (to - 1) 0
last_byte text from to some inside =
    let size = range_len text from to (omega arith) inside in
    let here : from + (length (slice_range text from to) - 1) ≡ to - 1 = omega arith in
    range_at text from to (length (slice_range text from to) - 1) (omega arith) ∙ ap (λ (n : ℕ). get_or text n 0) here

-- a name that is no variable's, and one that is
pub empty_variable : (name : List ℕ) → length name ≡ 0 → variable_form name ≡ bad
empty_variable [] h = refl
empty_variable (first ∷ rest) h = absurd (omega arith)

pub bracket_variable : (name : List ℕ) → list_any (λ byte. byte == 93) name ≡ true → variable_form name ≡ bad
bracket_variable [] h = refl
bracket_variable (first ∷ rest) h = ap (λ (b : Bool). if b then bad else variable (first ∷ rest)) h

pub is_variable : (name : List ℕ) → 1 ≤ length name → list_any (λ byte. byte == 93) name ≡ false → variable_form name ≡ variable name
is_variable [] some h = absurd (omega arith)
is_variable (first ∷ rest) some h = ap (λ (b : Bool). if b then bad else variable (first ∷ rest)) h

-- a form without a `]` at its end, and one with it
pub no_bracket : (name rest : List ℕ) → (get_or rest (length rest - 1) 0 ≡ 93 → ⊥) → bracket_form name rest ≡ bad
no_bracket name rest h = let other : (get_or rest (length rest - 1) 0 == 93) ≡ false = grind (arith, nat_tests) in ap (λ (b : Bool). if b then named_form name (take (length rest - 1) rest) else bad) other

pub with_bracket : (name rest : List ℕ) → get_or rest (length rest - 1) 0 ≡ 93 → bracket_form name rest ≡ named_form name (take (length rest - 1) rest)
with_bracket name rest h = let same : (get_or rest (length rest - 1) 0 == 93) ≡ true = grind (arith, nat_tests) in ap (λ (b : Bool). if b then named_form name (take (length rest - 1) rest) else bad) same

-- a form parts at its first `[`, or it is a variable
pub parted_form : (text : List ℕ) (place : ℕ) → IsFirst (λ byte. byte == 91) text place → form_of text ≡ bracket_form (take place text) (drop (place + 1) text)
unfolding form_of
parted_form text place h =
    ap (λ (b : Bool). if b then bracket_form (before_first (λ byte. byte == 91) text) (after_first (λ byte. byte == 91) text) else variable_form text) h.some
    ∙ ap (λ (n : ℕ). bracket_form (take n text) (drop (n + 1) text)) h.place

pub whole_form : (text : List ℕ) → list_any (λ byte. byte == 91) text ≡ false → form_of text ≡ variable_form text
unfolding form_of
whole_form text h =
    ap (λ (b : Bool). if b then bracket_form (before_first (λ byte. byte == 91) text) (after_first (λ byte. byte == 91) text) else variable_form text) h

-- the part of a variable
pub variable_is : (text : List ℕ) (from to : ℕ) (span : Span) → from < to → to ≤ length text → span.from ≡ from → span.len ≡ to - from → list_any (λ byte. byte == 93) (slice_range text from to) ≡ false → IsFormPart text (variable_form (slice_range text from to)) (Variable span)
variable_is text from to span some inside here len lacks =
    let name = slice_range text from to in
    let size = range_len text from to (omega arith) inside in
    let is = is_variable name (omega arith) lacks in
    let same : name ≡ span_bytes text span = ap (λ (n : ℕ). take n (drop from text)) (sym len) ∙ ap (λ (n : ℕ). take span.len (drop n text)) (sym here) in
    record { same = is ∙ ap variable same; good = ap is_bad_form is; within = omega arith }

-- a form without a `]` at its end
pub no_argument : (text : List ℕ) (from bracket to : ℕ) → bracket < to → to ≤ length text → (bracket + 1 ≡ to → ⊥) → (get_or text (to - 1) 0 ≡ 93 → ⊥) → bracket_form (slice_range text from bracket) (slice_range text (bracket + 1) to) ≡ bad
no_argument text from bracket to order inside some other =
    let rest = slice_range text (bracket + 1) to in
    let size = range_len text (bracket + 1) to (omega arith) inside in
    let last : get_or rest (length rest - 1) 0 ≡ get_or text (to - 1) 0 = last_byte text (bracket + 1) to (omega arith) inside in
    no_bracket (slice_range text from bracket) rest (λ is. other (sym last ∙ is))

pub empty_argument : (text : List ℕ) (from bracket to : ℕ) → bracket + 1 ≡ to → to ≤ length text → bracket_form (slice_range text from bracket) (slice_range text (bracket + 1) to) ≡ bad
empty_argument text from bracket to none inside =
    let rest = slice_range text (bracket + 1) to in
    let size = range_len text (bracket + 1) to (omega arith) inside in
    no_bracket (slice_range text from bracket) rest (λ is. absurd (omega (arith, get_or_past rest (length rest - 1) 0 (omega arith))))

-- a form with a `]` at its end, by its name and its argument
pub some_argument : (text : List ℕ) (from bracket to : ℕ) → bracket + 1 < to → to ≤ length text → get_or text (to - 1) 0 ≡ 93 → bracket_form (slice_range text from bracket) (slice_range text (bracket + 1) to) ≡ named_form (slice_range text from bracket) (slice_range text (bracket + 1) (to - 1))
some_argument text from bracket to some inside is =
    let rest = slice_range text (bracket + 1) to in
    let size = range_len text (bracket + 1) to (omega arith) inside in
    let last : get_or rest (length rest - 1) 0 ≡ get_or text (to - 1) 0 = last_byte text (bracket + 1) to some inside in
    let front = range_front text (bracket + 1) (length rest - 1) to (omega arith) in
    let end : bracket + 1 + (length rest - 1) ≡ to - 1 = omega arith in
    with_bracket (slice_range text from bracket) rest (last ∙ is)
    ∙ ap (named_form (slice_range text from bracket)) (front ∙ ap (slice_range text (bracket + 1)) end)

-- what the part of a form says is what the form says
pub part_of_form : (text : List ℕ) (part : Part) → is_bad_form (part_form text part) ≡ false
    → (is_filled_part part ≡ true) × ((vars : List Pair) (captures : List (List ℕ)) (moment : ℕ) → form_text vars moment (part_form text part) ≡ part_text text vars captures moment part)
part_of_form text (Constant span) good = absurd (cc)
part_of_form text (Capture number) good = absurd (cc)
part_of_form text (Variable span) good = (refl, λ vars captures moment. refl)
part_of_form text (Query span) good = (refl, λ vars captures moment. refl)
part_of_form text Time good = (refl, λ vars captures moment. refl)
part_of_form text (Date seconds) good = (refl, λ vars captures moment. refl)
part_of_form text (Encoded span) good = (refl, λ vars captures moment. refl)

-- the part of a form under another name of the form
pub same_form : (r : Option Part) (text : List ℕ) (one other : Form) → one ≡ other → MatchOption r (other ≡ bad) (IsFormPart text other) → MatchOption r (one ≡ bad) (IsFormPart text one)
same_form r text one other same h = subst (λ (form : Form). MatchOption r (form ≡ bad) (IsFormPart text form)) (sym same) h

-- the part of a form whose argument is a span of the text
pub spanned_form : (r : Option Part) (text argument : List ℕ) (form : Form) (span : Span) → IsSpan text span → span_bytes text span ≡ argument
    → MatchOption r (form ≡ bad) (λ part. (t : List ℕ) → IsSpan t span → span_bytes t span ≡ argument → IsFormPart t form part) → MatchOption r (form ≡ bad) (IsFormPart text form)
spanned_form None text argument form span within same h = h
spanned_form (Some part) text argument form span within same h = h text within same

-- the bytes of a span from one place up to another
pub span_is : (text : List ℕ) (from to : ℕ) (span : Span) → span.from ≡ from → span.len ≡ to - from → span_bytes text span ≡ slice_range text from to
span_is text from to span here len = ap (λ (n : ℕ). take n (drop span.from text)) len ∙ ap (λ (n : ℕ). take (to - from) (drop n text)) here

-- a form whose first `[` is at a place
pub bracket_at : (text : List ℕ) (from place to : ℕ) → from ≤ to → to ≤ length text → IsFirst (λ byte. byte == 91) (slice_range text from to) place → form_of (slice_range text from to) ≡ bracket_form (slice_range text from (from + place)) (slice_range text (from + place + 1) to)
bracket_at text from place to order inside h =
    let size = range_len text from to order inside in
    let within = h.within in
    let next : from + (place + 1) ≡ from + place + 1 = omega arith in
    parted_form (slice_range text from to) place h
    ∙ ap (λ (name : List ℕ). bracket_form name (drop (place + 1) (slice_range text from to))) (range_front text from place to (omega arith))
    ∙ ap (bracket_form (slice_range text from (from + place))) (range_back text from (place + 1) to (omega arith) ∙ ap (λ (n : ℕ). slice_range text n to) next)
