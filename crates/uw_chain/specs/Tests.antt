-- What comes of the test of a rule ("InternalRouting").
use Rattle.std.specs.Prelude.{ℕ, zero, suc, ◌+◌, ◌-◌, ◌==◌, nat_le, min, Bool, true, false, ◌&&◌, ◌||◌, if◌then◌else◌, List, [], ◌∷◌, length, take, drop, slice_range, codes, unwrap_or, Option, None, Some}
use Rattle.std.specs.Str.{bytes_eq}
use Rattle.uw_base.specs.declared.variables.Pair.{Pair}
use Rattle.uw_base.specs.Variables.{value_of}
use Rattle.regex_syntax.specs.Brackets.{Nested}
use Rattle.regex_syntax.specs.Grammar.{Names}
use Rattle.regex.specs.Patterns.{Re, Match, find}
use Rattle.regex.specs.Writes.{group_of}
use Rattle.uw_model.specs.declared.asks.Ask.{Ask}
use Rattle.uw_model.specs.declared.asks.Ask.TheVariants as asks
use Rattle.uw_model.specs.declared.asks.AskAnswer.{AskAnswer}
use Rattle.uw_model.specs.declared.asks.AskAnswer.TheVariants as ask_answers
use Rattle.uw_model.specs.declared.calls.Call.TheVariants as calls
use Rattle.uw_model.specs.declared.calls.Answer.TheVariants as answers
use Rattle.uw_subst.specs.Templates.{filled}
use Rattle.uw_subst.specs.Answers.{most_filled}
use Rattle.uw_rules.specs.declared.grammar.ConditionName.{ConditionName}
use Rattle.uw_rules.specs.declared.grammar.ConditionName.TheVariants as conditions
use Rattle.uw_rules.specs.Grammar.{ArgumentShape, condition_of, subject_variable}
use Rattle.uw_rules.specs.Arguments.{first_half, second_half, text_of_key}
use Rattle.uw_rules.specs.Compiled.{cache_named, or_empty}
use Rattle.uw_rules.specs.Patterns.{pattern_read}
use Rattle.uw_rules.specs.WrittenRules.{Phrase, WrittenTest, always, matching, holding}
use Rattle.uw_chain.specs.declared.verdict.Verdict.{Verdict}
use Rattle.uw_chain.specs.declared.verdict.Verdict.TheVariants as verdicts
use Rattle.uw_chain.specs.Courses.{Course, ended, asking, and_then}

-- a test without captures
abbrev pub verdict_of : Bool → Verdict
verdict_of true = verdicts.Met []
verdict_of false = verdicts.Missed

-- a negated test has no captures
abbrev pub verdict_when : Bool → Verdict → Verdict
verdict_when false verdict = verdict
verdict_when true (verdicts.Met captures) = verdicts.Missed
verdict_when true verdicts.Missed = verdicts.Met []
verdict_when true verdicts.Overlong = verdicts.Overlong

-- ---- texts

-- a template's text, unless it is longer than its limit
unfoldable pub filled_within : List ℕ → List Pair → List (List ℕ) → ℕ → Option (List ℕ)
filled_within text vars captures moment =
    if nat_le (length (filled text vars captures moment)) most_filled then Some (filled text vars captures moment) else None

-- what is done with a text, or in its place where it is longer than its limit
abbrev pub if_within : {X : Type 0} → Option (List ℕ) → X → (List ℕ → X) → X
if_within None otherwise use_it = otherwise
if_within (Some text) otherwise use_it = use_it text

-- a text begins with another one
unfoldable pub has_front : List ℕ → List ℕ → Bool
has_front text front = bytes_eq (take (length front) text) front

-- a text ends with another one
unfoldable pub has_back : List ℕ → List ℕ → Bool
has_back text back = nat_le (length back) (length text) && bytes_eq (drop (length text - length back) text) back

-- another text stands somewhere in a text
unfoldable pub has_within : List ℕ → List ℕ → Bool
has_within [] other = has_front [] other
has_within (byte ∷ text) other = has_front (byte ∷ text) other || has_within text other

-- ---- patterns

-- the bytes of a group, none where it took no part
abbrev pub group_text : List ℕ → Option (ℕ × ℕ) → List ℕ
group_text subject None = []
group_text subject (Some span) = if nat_le span.0 span.1 && nat_le span.1 (length subject) then slice_range subject span.0 span.1 else []

-- the bytes of so many groups of a match, from a group on
abbrev pub group_texts : List ℕ → Match → ℕ → ℕ → List (List ℕ)
group_texts subject found zero group = []
group_texts subject found (suc more) group = group_text subject (group_of found group) ∷ group_texts subject found more (group + 1)

-- of a match of a pattern with so many groups, the whole match among them: at most nine captures
abbrev pub verdict_of_match : List ℕ → ℕ → Option Match → Verdict
verdict_of_match subject groups None = verdicts.Missed
verdict_of_match subject groups (Some found) = verdicts.Met (group_texts subject found (min 9 (groups - 1)) 1)

-- a pattern that was read is searched in a subject
abbrev pub verdict_of_read : Option (Nested Re × Names) → List ℕ → Verdict
verdict_of_read None subject = verdicts.Missed
verdict_of_read (Some (re, names)) subject = verdict_of_match subject (length names) (find re.value subject 0)

-- a pattern is searched anywhere in a subject, and the captures are those of its first match
unfoldable pub verdict_of_pattern : List ℕ → List ℕ → Verdict
verdict_of_pattern pattern subject = verdict_of_read (pattern_read pattern) subject

-- ---- conditions

-- a condition is about a text
abbrev pub about_text : Option (List ℕ) → (List ℕ → Verdict) → Course Verdict
about_text text judge = ended (if_within text verdicts.Overlong judge)

-- a condition compares two texts
abbrev pub comparing : Option (List ℕ) → Option (List ℕ) → (List ℕ → List ℕ → Bool) → Course Verdict
comparing text other compare = ended (if_within text verdicts.Overlong (λ one. if_within other verdicts.Overlong (λ two. verdict_of (compare one two))))

-- a cache has a key
abbrev pub is_flag_set : AskAnswer → Bool
is_flag_set (ask_answers.Cache (answers.Flag flag)) = flag
is_flag_set _ = false

-- a condition asks a cache whether it has a key; where none is named, the first one
abbrev pub asking_cache : Option (List ℕ) → Option ℕ → Course Verdict
asking_cache key cache =
    if_within key (ended verdicts.Overlong) (λ text. asking (asks.Cache (unwrap_or cache 0) (calls.Exists text)) (λ answer. ended (verdict_of (is_flag_set answer))))

-- the course of a condition of this name with this argument, where the caches have these names
abbrev pub course_of_condition : List (List ℕ) → List Pair → ℕ → ConditionName → Option (List ℕ) → Course Verdict
course_of_condition names vars moment conditions.Equal argument =
    comparing (filled_within (or_empty (first_half 59 argument)) vars [] moment) (filled_within (or_empty (second_half 59 argument)) vars [] moment) bytes_eq
course_of_condition names vars moment conditions.StartsWith argument =
    comparing (filled_within (or_empty (first_half 59 argument)) vars [] moment) (filled_within (or_empty (second_half 59 argument)) vars [] moment) has_front
course_of_condition names vars moment conditions.EndsWith argument =
    comparing (filled_within (or_empty (first_half 59 argument)) vars [] moment) (filled_within (or_empty (second_half 59 argument)) vars [] moment) has_back
course_of_condition names vars moment conditions.Contains argument =
    comparing (filled_within (or_empty (first_half 59 argument)) vars [] moment) (filled_within (or_empty (second_half 59 argument)) vars [] moment) has_within
course_of_condition names vars moment conditions.Empty argument =
    about_text (filled_within (or_empty argument) vars [] moment) (λ text. verdict_of (length text == 0))
course_of_condition names vars moment conditions.Regexp argument =
    about_text (filled_within (or_empty (first_half 59 argument)) vars [] moment) (verdict_of_pattern (or_empty (second_half 59 argument)))
course_of_condition names vars moment conditions.InCache argument =
    asking_cache (filled_within (or_empty (text_of_key (codes "key") argument)) vars [] moment) (cache_named names (text_of_key (codes "name") argument))

-- the course of a condition by its row in the grammar; one that is not there is missed
abbrev pub course_of_known : List (List ℕ) → List Pair → ℕ → Option (ConditionName × ArgumentShape) → Option (List ℕ) → Course Verdict
course_of_known names vars moment None argument = ended verdicts.Missed
course_of_known names vars moment (Some known) argument = course_of_condition names vars moment known.0 argument

-- the course of a test
abbrev pub course_of_test : List (List ℕ) → List Pair → ℕ → WrittenTest → Course Verdict
course_of_test names vars moment always = ended (verdicts.Met [])
course_of_test names vars moment (matching subject pattern) = ended (verdict_of_pattern pattern (value_of vars (subject_variable subject)))
course_of_test names vars moment (holding negated condition) =
    and_then (course_of_known names vars moment (condition_of condition.name) condition.argument) (λ verdict. ended (verdict_when negated verdict))
