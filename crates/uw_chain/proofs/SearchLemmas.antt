-- Searches for the patterns of rules.
use Rattle.std.proofs.Common.{◌≡◌, refl, sym, ap, ap₂, ◌∙◌, subst, ℕ, zero, suc, ◌+◌, ◌-◌, ◌*◌, ◌<◌, min, true, List, [], ◌∷◌, ◌++◌, length, Option, None, Some, Result, IfOk, IfSome, All, option_map, append_assoc, arith}
use Rattle.std.proofs.lemmas.Bool.{false≢true}
use Rattle.std.proofs.lemmas.List.{length-map}
use Rattle.std.proofs.lemmas.List.Elements.{All-head, All-tail}
use Rattle.std.proofs.lemmas.Result.{IfOk-weaker}
use Rattle.regex.specs.Bytes.{group_count, matcher_pattern, regex_names, regex_pattern}
use Rattle.regex.specs.Locations.{location_count}
use Rattle.regex.specs.Patterns.{Match, Re, SameCaptures, find, slot_of}
use Rattle.regex.specs.Writes.{both, group_of}
use Rattle.regex.specs.declared.bytes.regex.Regex.{Regex}
use Rattle.regex_syntax.proofs.CapturesLemmas.{find_alike, spans}
use Rattle.regex_syntax.specs.Brackets.{Nested}
use Rattle.regex_syntax.specs.Grammar.{Names}
use Rattle.uw_rules.specs.declared.compiled.Rule.{Rule}
use Rattle.uw_rules.specs.declared.compiled.Rule.TheVariants as compiled
use Rattle.uw_rules.specs.declared.compiled.Test.TheVariants as tests
use Rattle.uw_rules.specs.declared.compiled.Condition.{Condition}
use Rattle.uw_rules.specs.declared.compiled.Condition.TheVariants as asks
use Rattle.uw_rules.specs.Patterns.{IsPatternOf, is_pattern, nests_within, pattern_read}
use Rattle.uw_chain.specs.declared.searches.Search.{Search}
use Rattle.uw_chain.specs.declared.searches.Slot.{Slot}
use Rattle.uw_chain.specs.declared.verdict.Verdict.{Verdict}
use Rattle.uw_chain.specs.declared.verdict.Verdict.TheVariants as verdicts
use Rattle.uw_chain.specs.KeptSearches.{FitSlots, FitsCondition, FitsRule, IsSearchOf}
use Rattle.uw_chain.specs.Tests.{group_text, group_texts, verdict_of_match, verdict_of_pattern, verdict_of_read}

-- ---- captures

-- the text of one group more
pub captures_more : (subject : List ℕ) (found : Match) (texts new all : List (List ℕ)) (text : List ℕ) (group end : ℕ) → group < end
    → text ≡ group_text subject (group_of found group) → new ≡ texts ++ text ∷ [] → texts ++ group_texts subject found (end - group) group ≡ all
    → new ++ group_texts subject found (end - (group + 1)) (group + 1) ≡ all
captures_more subject found texts new all text group end within is pushed h =
    let rest = group_texts subject found (end - (group + 1)) (group + 1) in
    let one : suc (end - (group + 1)) ≡ end - group = omega arith in
    ap (λ (l : List (List ℕ)). l ++ rest) pushed ∙ append_assoc texts (text ∷ []) rest ∙ ap (λ (t : List ℕ). texts ++ (t ∷ rest)) is
    ∙ ap (λ (n : ℕ). texts ++ group_texts subject found n group) one ∙ h

-- ---- one pattern for another

-- the captures and the verdict, from what the slots of a match are given
texts_of_slots : List ℕ → (ℕ → Option ℕ) → ℕ → ℕ → List (List ℕ)
texts_of_slots subject slot zero group = []
texts_of_slots subject slot (suc more) group = group_text subject (both (slot (2 * group)) (slot (2 * group + 1))) ∷ texts_of_slots subject slot more (group + 1)

texts_same : (subject : List ℕ) (found : Match) (count group : ℕ) → group_texts subject found count group ≡ texts_of_slots subject (slot_of found) count group
unfolding texts_of_slots
texts_same subject found zero group = refl
texts_same subject found (suc more) group =
    ap (λ (l : List (List ℕ)). group_text subject (group_of found group) ∷ l) (texts_same subject found more (group + 1))

verdict_of_spans : List ℕ → ℕ → Option (ℕ × ℕ × (ℕ → Option ℕ)) → Verdict
verdict_of_spans subject groups None = verdicts.Missed
verdict_of_spans subject groups (Some seen) = verdicts.Met (texts_of_slots subject seen.2 (min 9 (groups - 1)) 1)

verdict_same : (subject : List ℕ) (groups : ℕ) (found : Option Match) → verdict_of_match subject groups found ≡ verdict_of_spans subject groups (option_map spans found)
unfolding verdict_of_spans
verdict_same subject groups None = refl
verdict_same subject groups (Some found) = ap verdicts.Met (texts_same subject found (min 9 (groups - 1)) 1)

-- patterns with the same captures give the same verdict
verdict_alike : (a b : Re) (subject : List ℕ) (groups : ℕ) → SameCaptures a b → All (λ x. x < 256) subject
    → verdict_of_match subject groups (find a subject 0) ≡ verdict_of_match subject groups (find b subject 0)
verdict_alike a b subject groups same bytes =
    verdict_same subject groups (find a subject 0) ∙ ap (verdict_of_spans subject groups) (find_alike a b same subject bytes 0)
    ∙ sym (verdict_same subject groups (find b subject 0))

-- a pattern has as many groups as their names
group_count-names : (pattern : Regex) → group_count pattern ≡ length (regex_names pattern)
group_count-names pattern = pattern.pattern.names.ok.0 ∙ sym (length-map pattern.pattern.names.items _)

verdict_read : (pattern : Regex) (read : Option (Nested Re × Names)) (subject : List ℕ) → nests_within 250 read ≡ true
    → IfSome read (λ found. SameCaptures (regex_pattern pattern) found.0.value) → IfSome read (λ found. regex_names pattern ≡ found.1) → All (λ x. x < 256) subject
    → verdict_of_match subject (group_count pattern) (find (regex_pattern pattern) subject 0) ≡ verdict_of_read read subject
verdict_read pattern None subject good finds groups bytes = absurd (false≢true good)
verdict_read pattern (Some (re, names)) subject good finds groups bytes =
    verdict_alike (regex_pattern pattern) re.value subject (group_count pattern) finds bytes
    ∙ ap (λ (n : ℕ). verdict_of_match subject n (find re.value subject 0)) (group_count-names pattern ∙ ap length groups)

-- a compiled pattern gives the verdict of its text
verdict_compiled : (pattern : Regex) (text subject : List ℕ) → IsPatternOf pattern text → All (λ x. x < 256) subject
    → verdict_of_match subject (group_count pattern) (find (regex_pattern pattern) subject 0) ≡ verdict_of_pattern text subject
unfolding verdict_of_pattern is_pattern
verdict_compiled pattern text subject is bytes = verdict_read pattern (pattern_read text) subject is.good is.finds is.groups bytes

-- so does what searches for it
pub verdict_searched : {E : Type 0} → (pattern : Regex) (search : Search) (text subject : List ℕ) (result : Result Verdict E) → IsSearchOf pattern search
    → IsPatternOf pattern text → All (λ x. x < 256) subject
    → IfOk result (λ verdict. verdict ≡ verdict_of_match subject (location_count search.locations) (find (matcher_pattern search.matcher) subject 0))
    → IfOk result (λ verdict. verdict ≡ verdict_of_pattern text subject)
verdict_searched pattern search text subject result searches is bytes found =
    IfOk-weaker result _ _
    (λ verdict e.
    e ∙ ap₂ (λ (n : ℕ) (re : Re). verdict_of_match subject n (find re subject 0)) searches.1 searches.0 ∙ verdict_compiled pattern text subject is bytes)
    found

-- ---- searches that were not made

fits_empty : (rule : Rule) (slot : Slot) → slot.made ≡ None → FitsRule rule slot
fits_empty compiled.Label slot none = tt
fits_empty (compiled.Act tests.Always action) slot none = tt
fits_empty (compiled.Act (tests.Matches subject pattern) action) slot none = subst (λ made. IfSome made (IsSearchOf pattern)) (sym none) tt
fits_empty (compiled.Act (tests.Holds negated condition) action) slot none = fits_condition condition
  where
    fits_condition : (condition : Condition) → FitsCondition condition slot
    fits_condition (asks.Regexp text pattern) = subst (λ made. IfSome made (IsSearchOf pattern)) (sym none) tt
    fits_condition (asks.Equal text other) = tt
    fits_condition (asks.StartsWith text other) = tt
    fits_condition (asks.EndsWith text other) = tt
    fits_condition (asks.Contains text other) = tt
    fits_condition (asks.Empty text) = tt
    fits_condition (asks.InCache key cache) = tt

-- as many of them as there are rules fit the rules
pub fit_empty : (rules : List Rule) (slots : List Slot) → length rules ≡ length slots → All (λ slot. slot.made ≡ None) slots → FitSlots rules slots
fit_empty [] [] same none = tt
fit_empty [] (slot ∷ slots) same none = let no : 0 ≡ suc (length slots) = same in absurd (omega arith)
fit_empty (rule ∷ rules) [] same none = let no : suc (length rules) ≡ 0 = same in absurd (omega arith)
fit_empty (rule ∷ rules) (slot ∷ slots) same none =
    let one : suc (length rules) ≡ suc (length slots) = same in (
      fits_empty rule slot (All-head (λ (s : Slot). s.made ≡ None) slot slots none),
      fit_empty rules slots (omega arith) (All-tail (λ (s : Slot). s.made ≡ None) slot slots none),
    )
