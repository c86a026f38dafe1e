-- What a line's text gives its rule: arguments that are short, and patterns of UTF-8.
use Rattle.std.proofs.Common.{◌≡◌, ℕ, suc, ◌+◌, ◌==◌, ◌<◌, ◌≤◌, ◌^◌, Bool, true, false, cond, List, [], ◌∷◌, length, get_or, drop, refl, arith, Option, Some, None, IfSome, option_and_then, length-drop, nat_lt}
use Rattle.std.proofs.lemmas.List.{length-take, drop_all}
use Rattle.std.proofs.lemmas.List.Sums.{passes_at_first, prefix_len-le-length}
use Rattle.std.proofs.lemmas.Bool.Decides.{nat_tests}
use Rattle.std.proofs.lemmas.Str.{IsCharBoundary-after_ascii, IsUtf8-drop, IsUtf8-nil, IsUtf8-take}
use Rattle.std.specs.List.{after_first, before_first, list_any, position_or_len}
use Rattle.std.specs.Str.{IsCharBoundary, IsUtf8}
use Rattle.uw_base.specs.Texts.{is_blank, without_blanks}
use Rattle.uw_rules.specs.declared.grammar.ConditionName.{ConditionName}
use Rattle.uw_rules.specs.declared.grammar.ConditionName.TheVariants as conditions
use Rattle.uw_rules.specs.declared.grammar.Table.{Table}
use Rattle.uw_rules.specs.declared.grammar.LineKind.{LineKind}
use Rattle.uw_rules.specs.declared.grammar.LineKind.TheVariants as kinds
use Rattle.uw_rules.specs.declared.lines.RuleLine.{RuleLine}
use Rattle.uw_rules.specs.Grammar.{ArgumentShape, condition_of, kind_of_line}
use Rattle.uw_rules.specs.Arguments.{pattern_in, second_half}
use Rattle.uw_rules.specs.WrittenRules.{Phrase, WrittenTest, matching, holding, unparted, rule, parted_rule, phrase_of, rule_of_line, written_as}
use Rattle.uw_rules.specs.Rules.{pattern_of_rule, pattern_of_test}
use Rattle.uw_rules.specs.CheckSteps.{IsShortText}
use Rattle.uw_rules.specs.CompileSteps.{condition_shape}
use Rattle.uw_rules.specs.WrittenSteps.{AreShort, IsShortPhrase, IsShortTest}
use Rattle.uw_rules.proofs.CompileLemmas.{condition_has_shape}

-- ---- lengths

without_short : (text : List ℕ) → length (without_blanks text) ≤ length text
without_short [] = omega arith
without_short (byte ∷ text) =
    elim (is_blank byte) as (λ b. length (cond b (without_blanks text) (byte ∷ text)) ≤ suc (length text))
    [ true ↦ omega (arith, without_short text) | false ↦ omega arith ]

if_short : (b : Bool) (text : List ℕ) → length text < 2 ^ 32 → IsShortText (cond b (Some text) None)
if_short true text h = h
if_short false text h = tt

phrase_short : (text : List ℕ) → length text < 2 ^ 32 → IsShortPhrase (phrase_of text)
unfolding phrase_of
phrase_short text h =
    if_short (list_any (λ byte. byte == 58) text) (after_first (λ byte. byte == 58) text)
    (omega (arith, length-drop (position_or_len (λ byte. byte == 58) text + 1) text))

parted_if : (b : Bool) (table : Table) (test : WrittenTest) (action : Phrase) → IsShortTest test → IsShortPhrase action → AreShort (cond b (rule table test action) unparted)
parted_if true table test action h k = (h, k)
parted_if false table test action h k = tt

parted_short : (table : Table) (text : List ℕ) (test : List ℕ → WrittenTest) → length text < 2 ^ 32 → IsShortTest (test (before_first (λ byte. byte == 32) text))
    → AreShort (parted_rule table text test)
parted_short table text test h k =
    let action = after_first (λ byte. byte == 32) text in
    parted_if (list_any (λ byte. byte == 32) text) table (test (before_first (λ byte. byte == 32) text)) (phrase_of (without_blanks action)) k
    (phrase_short (without_blanks action) (omega (arith, without_short action, length-drop (position_or_len (λ byte. byte == 32) text + 1) text)))

as_short : (kind : Option (Table × LineKind)) (text : List ℕ) → length text < 2 ^ 32 → AreShort (written_as kind text)
as_short (Some (table, kinds.Pattern subject)) text h = parted_short table text (λ (pattern : List ℕ). matching subject pattern) h tt
as_short (Some (table, kinds.Always)) text h = (tt, phrase_short text h)
as_short (Some (table, kinds.Condition negated)) text h =
    parted_short table text (λ (condition : List ℕ). holding negated (phrase_of condition)) h
    (phrase_short (before_first (λ byte. byte == 32) text) (omega (arith, length-take (position_or_len (λ byte. byte == 32) text) text)))
as_short (Some (table, kinds.Label)) text h = tt
as_short None text h = tt

-- the arguments of a rule of a short line are short
pub written_short : (line : RuleLine) → length line.text < 2 ^ 32 → AreShort (rule_of_line line)
unfolding rule_of_line
written_short line h = as_short (kind_of_line line.form) line.text h

-- ---- UTF-8

-- an ASCII byte is no part of another character
at_first : (c : ℕ) (text : List ℕ) → c < 128 → IsCharBoundary text (position_or_len (λ byte. byte == c) text)
at_first c text ascii =
    let test = λ (byte : ℕ). byte == c in (
      prefix_len-le-length _ text,
      λ here high.
          let found : (get_or text (position_or_len test text) 0 == c) ≡ true = passes_at_first test text 0 here in
          let same : get_or text (position_or_len test text) 0 ≡ c = grind (arith, nat_tests) in
          absurd (omega arith),
    )

before_utf8 : (c : ℕ) (text : List ℕ) → c < 128 → IsUtf8 text → IsUtf8 (before_first (λ byte. byte == c) text)
before_utf8 c text ascii h = IsUtf8-take text (position_or_len (λ byte. byte == c) text) h (at_first c text ascii)

behind_utf8 : (c : ℕ) (text : List ℕ) (inside : Bool) → nat_lt (position_or_len (λ byte. byte == c) text) (length text) ≡ inside → c < 128 → IsUtf8 text
    → IsUtf8 (after_first (λ byte. byte == c) text)
behind_utf8 c text true is ascii h =
    let test = λ (byte : ℕ). byte == c in
    let here : position_or_len test text < length text = grind (arith, nat_tests) in
    let found : (get_or text (position_or_len test text) 0 == c) ≡ true = passes_at_first test text 0 here in
    let same : get_or text (position_or_len test text) 0 ≡ c = grind (arith, nat_tests) in
    IsUtf8-drop text (position_or_len test text + 1) h (IsCharBoundary-after_ascii text (position_or_len test text) h here (omega arith))
behind_utf8 c text false is ascii h =
    let test = λ (byte : ℕ). byte == c in
    let out : length text ≤ position_or_len test text = grind (arith, nat_tests) in
    let none : drop (position_or_len test text + 1) text ≡ [] = drop_all (position_or_len test text + 1) text (omega arith) in
    rw none IsUtf8-nil

pub after_utf8 : (c : ℕ) (text : List ℕ) → c < 128 → IsUtf8 text → IsUtf8 (after_first (λ byte. byte == c) text)
after_utf8 c text ascii h = behind_utf8 c text (nat_lt (position_or_len (λ byte. byte == c) text) (length text)) refl ascii h

if_utf8 : (b : Bool) (text : List ℕ) → IsUtf8 text → IfSome (cond b (Some text) None) IsUtf8
if_utf8 true text h = h
if_utf8 false text h = tt

argument_utf8 : (text : List ℕ) → IsUtf8 text → IfSome (phrase_of text).argument IsUtf8
unfolding phrase_of
argument_utf8 text h = if_utf8 (list_any (λ byte. byte == 58) text) (after_first (λ byte. byte == 58) text) (after_utf8 58 text (omega arith) h)

second_utf8 : (c : ℕ) (argument : Option (List ℕ)) → c < 128 → IfSome argument IsUtf8 → IfSome (second_half c argument) IsUtf8
unfolding second_half
second_utf8 c None ascii h = tt
second_utf8 c (Some text) ascii h = if_utf8 (list_any (λ byte. byte == c) text) (after_first (λ byte. byte == c) text) (after_utf8 c text ascii h)

shape_utf8 : (name : ConditionName) (argument : Option (List ℕ)) → IfSome argument IsUtf8 → IfSome (pattern_in (condition_shape name) argument) IsUtf8
shape_utf8 conditions.Equal argument h = tt
shape_utf8 conditions.StartsWith argument h = tt
shape_utf8 conditions.EndsWith argument h = tt
shape_utf8 conditions.Contains argument h = tt
shape_utf8 conditions.Empty argument h = tt
shape_utf8 conditions.Regexp argument h = second_utf8 59 argument (omega arith) h
shape_utf8 conditions.InCache argument h = tt

known_utf8 : (name : List ℕ) (argument : Option (List ℕ)) (row : Option (ConditionName × ArgumentShape)) → condition_of name ≡ row → IfSome argument IsUtf8
    → IfSome (option_and_then (λ (known : ConditionName × ArgumentShape). pattern_in known.1 argument) row) IsUtf8
known_utf8 name argument None is h = tt
known_utf8 name argument (Some known) is h = rw (condition_has_shape name known is) (shape_utf8 known.0 argument h)

parted_utf8 : (b : Bool) (table : Table) (test : WrittenTest) (action : Phrase) → IfSome (pattern_of_test test) IsUtf8
    → IfSome (pattern_of_rule (cond b (rule table test action) unparted)) IsUtf8
parted_utf8 true table test action h = h
parted_utf8 false table test action h = tt

as_utf8 : (kind : Option (Table × LineKind)) (text : List ℕ) → IsUtf8 text → IfSome (pattern_of_rule (written_as kind text)) IsUtf8
as_utf8 (Some (table, kinds.Pattern subject)) text h =
    let first = before_first (λ byte. byte == 32) text in
    parted_utf8 (list_any (λ byte. byte == 32) text) table (matching subject first) (phrase_of (without_blanks (after_first (λ byte. byte == 32) text)))
    (before_utf8 32 text (omega arith) h)
as_utf8 (Some (table, kinds.Always)) text h = tt
as_utf8 (Some (table, kinds.Condition negated)) text h =
    let first = before_first (λ byte. byte == 32) text in
    parted_utf8 (list_any (λ byte. byte == 32) text) table (holding negated (phrase_of first)) (phrase_of (without_blanks (after_first (λ byte. byte == 32) text)))
    (known_utf8 (phrase_of first).name (phrase_of first).argument (condition_of (phrase_of first).name) refl
    (argument_utf8 first (before_utf8 32 text (omega arith) h)))
as_utf8 (Some (table, kinds.Label)) text h = tt
as_utf8 None text h = tt

-- the pattern of a rule of a line of UTF-8 is of UTF-8
pub written_utf8 : (line : RuleLine) → IsUtf8 line.text → IfSome (pattern_of_rule (rule_of_line line)) IsUtf8
unfolding rule_of_line
written_utf8 line h = as_utf8 (kind_of_line line.form) line.text h
