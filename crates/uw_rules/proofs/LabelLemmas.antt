-- The first line of a label, line by line.
use Rattle.std.proofs.Common.{◌≡◌, ℕ, zero, suc, ◌+◌, ◌<◌, get_or, Bool, true, false, cond, List, [], ◌∷◌, ◌++◌, length, take, refl, sym, ap, ◌∙◌, arith, Option, Some, None}
use Rattle.std.specs.List.{position_from}
use Rattle.std.specs.Str.{bytes_eq}
use Rattle.std.specs.Option.{is_some}
use Rattle.std.specs.Prelude.{min}
use Rattle.std.proofs.lemmas.List.{length-map, length-take-le, map-append, take_more}
use Rattle.std.proofs.lemmas.Slice.Eq.{bytes_eq-Decides}
use Rattle.uw_rules.specs.declared.lines.RuleLine.{RuleLine}
use Rattle.uw_rules.specs.WrittenRules.{WrittenRule, rule_of_line}
use Rattle.uw_rules.specs.Rules.{is_label_of, place_of_label, table_of}
use Rattle.uw_rules.specs.LabelSteps.{or_place}

push_step : (b : Bool) (first : ℕ) (front rest last : Option ℕ) → rest ≡ or_place front last → cond b (Some first) rest ≡ or_place (cond b (Some first) front) last
push_step true first front rest last h = refl
push_step false first front rest last h = h

one_step : (b : Bool) (i n : ℕ) → i ≡ n → cond b (Some i) None ≡ or_place None (cond b (Some n) None)
one_step true i n h = ap Some h
one_step false i n h = refl

-- one more element behind a list
pub position_from_push : {X : Type 0} (test : X → Bool) (i : ℕ) (xs : List X) (x : X)
    → position_from test i (xs ++ x ∷ []) ≡ or_place (position_from test i xs) (cond (test x) (Some (i + length xs)) None)
position_from_push test i [] x = one_step (test x) i (i + 0) (omega arith)
position_from_push test i (y ∷ xs) x =
    let place : i + 1 + length xs ≡ i + length (y ∷ xs) = omega arith in
    push_step (test y) i (position_from test (i + 1) xs) (position_from test (i + 1) (xs ++ x ∷ [])) (cond (test x) (Some (i + length (y ∷ xs))) None)
    (position_from_push test (i + 1) xs x ∙ ap (λ (n : ℕ). or_place (position_from test (i + 1) xs) (cond (test x) (Some n) None)) place)

-- ---- one label more

no_place : (place : Option ℕ) → is_some place ≡ false → place ≡ None
no_place None h = refl
no_place (Some place) h = absurd (cc)

same_text : (a b : List ℕ) → bytes_eq a b ≡ true → a ≡ b
same_text a b h = (bytes_eq-Decides a b).0 h

-- a label that was not there
pub noted : (b : Bool) (old : Option ℕ) (place : ℕ) → (b ≡ true → old ≡ None) → cond b (Some place) old ≡ or_place old (cond b (Some place) None)
noted true old place h = sym (ap (λ (first : Option ℕ). or_place first (Some place)) (h refl))
noted false None place h = refl
noted false (Some first) place h = refl

-- a text that is the label was not there either
pub absent : (labels : List ℕ → Option ℕ) (label text : List ℕ) → is_some (labels label) ≡ false → bytes_eq label text ≡ true → labels text ≡ None
absent labels label text h same = ap labels (sym (same_text label text same)) ∙ no_place (labels label) h

-- ---- the first 4,096 lines

-- no list has more elements than it has
pub take_min : {X : Type 0} (n : ℕ) (xs : List X) → take (min (length xs) n) xs ≡ take n xs
take_min zero xs =
    let none : min (length xs) 0 ≡ 0 = omega arith in
    ap (λ (m : ℕ). take m xs) none
take_min (suc n) [] =
    let none : min 0 (suc n) ≡ 0 = omega arith in
    ap (λ (m : ℕ). take m []) none
take_min (suc n) (x ∷ xs) =
    let least : min (length (x ∷ xs)) (suc n) ≡ suc (min (length xs) n) = omega arith in
    ap (λ (m : ℕ). take m (x ∷ xs)) least ∙ ap (λ (ys : List _). x ∷ ys) (take_min n xs)

-- the rules of one line more
pub table_more : (lines : List RuleLine) (place : ℕ) (line : RuleLine) → place < length lines → line ≡ get_or lines place line
    → table_of (take (place + 1) lines) ≡ table_of (take place lines) ++ rule_of_line line ∷ []
table_more lines place line here is =
    ap table_of (take_more lines place line here) ∙ map-append rule_of_line (take place lines) (get_or lines place line ∷ [])
    ∙ ap (λ (l : RuleLine). table_of (take place lines) ++ rule_of_line l ∷ []) (sym is)

-- the labels of one line more
pub labels_step : (lines : List RuleLine) (place : ℕ) (line : RuleLine) (rule : WrittenRule) (text : List ℕ) (old new : Option ℕ) → place < length lines
    → line ≡ get_or lines place line → rule ≡ rule_of_line line → old ≡ position_from (is_label_of text) 0 (table_of (take place lines))
    → new ≡ or_place old (cond (is_label_of text rule) (Some place) None) → new ≡ position_from (is_label_of text) 0 (table_of (take (place + 1) lines))
labels_step lines place line said text old new here is same before after =
    let front = table_of (take place lines) in
    let mapped : length front ≡ length (take place lines) = length-map (take place lines) rule_of_line in
    let cut : length (take place lines) ≡ place = length-take-le place lines (omega arith) in
    let size : 0 + length front ≡ place = omega arith in
    after
    ∙ ap (λ (r : WrittenRule). or_place old (cond (is_label_of text r) (Some place) None)) same
    ∙ ap (λ (o : Option ℕ). or_place o (cond (is_label_of text (rule_of_line line)) (Some place) None)) before
    ∙ ap (λ (n : ℕ). or_place (position_from (is_label_of text) 0 front) (cond (is_label_of text (rule_of_line line)) (Some n) None)) (sym size)
    ∙ sym (position_from_push (is_label_of text) 0 front (rule_of_line line))
    ∙ ap (position_from (is_label_of text) 0) (sym (table_more lines place line here is))

-- the labels of all lines, as many as there may be
pub labels_all : (lines : List RuleLine) (place end : ℕ) (text : List ℕ) (found : Option ℕ) → end ≡ min (length lines) 4096 → place ≡ end
    → found ≡ position_from (is_label_of text) 0 (table_of (take place lines)) → found ≡ place_of_label lines text
unfolding place_of_label
labels_all lines place end text found least last h =
    h ∙ ap (λ (n : ℕ). position_from (is_label_of text) 0 (table_of (take n lines))) (last ∙ least)
    ∙ ap (λ (front : List RuleLine). position_from (is_label_of text) 0 (table_of front)) (take_min 4096 lines)
