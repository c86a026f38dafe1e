-- The texts of rules are texts of UTF-8, and no longer than their lines.
use Rattle.std.proofs.Common.{◌≡◌, ℕ, zero, suc, ◌+◌, ◌<◌, ◌≤◌, ◌^◌, Bool, true, false, ◌||◌, ◌&&◌, ◌==◌, List, [], ◌∷◌, ◌++◌, length, take, reverse, refl, sym, ap, subst, ◌∙◌, arith, Option, Some, None, IsUtf8}
use Rattle.std.specs.Prelude.{if◌then◌else◌, is_some, IsAscii, All, slice_index, map}
use Rattle.std.specs.List.{AllByRecursion, list_any, before_first, after_first, position_or_len}
use Rattle.std.specs.List.Sorted.{IsStrictlyIncreasing}
use Rattle.std.specs.Str.{is_utf8}
use Rattle.std.specs.Str.Lossy.{utf8_valid_len, valid_len_up_to}
use Rattle.std.proofs.Math.Seq.{take-append_seam, take-length}
use Rattle.std.proofs.lemmas.Bool.Decides.{nat_tests}
use Rattle.std.proofs.lemmas.List.{length-drop, length-reverse, reverse-append, reverse-reverse}
use Rattle.std.proofs.lemmas.Str.{IsCharBoundary-after_ascii, IsCharBoundary-at_seam, IsUtf8-append, IsUtf8-drop, IsUtf8-from_ascii, IsUtf8-from_is_utf8, IsUtf8-nil, IsUtf8-take}
use Rattle.std.proofs.lemmas.Str.Ascii.{IsAscii-nil}
use Rattle.uw_base.specs.Texts.{is_blank, without_blanks, trimmed}
use Rattle.uw_rules.specs.declared.grammar.Table.{Table}
use Rattle.uw_rules.specs.declared.grammar.LineKind.{LineKind}
use Rattle.uw_rules.specs.declared.lines.RuleLine.{RuleLine}
use Rattle.uw_rules.specs.Grammar.{kind_of_line}
use Rattle.uw_rules.specs.Tables.{AreRuleLines, IsRuleLine}
use Rattle.uw_rules.proofs.LineLemmas.{after_utf8}
use Rattle.uw_conf.specs.Lines.{Line, nothing, section, option, broken, ends_with_byte, line_of, option_line}
use Rattle.uw_conf.specs.Routes.{is_option_of, rule_in, line_of_rule, rules_inside}
use Rattle.uw_conf.proofs.RouteLemmas.{RisesFrom}

-- ---- trimmed texts

blank_ascii : (byte : ℕ) → is_blank byte ≡ true → byte < 128
blank_ascii byte h = grind (arith, nat_tests)

past_ascii : (byte : ℕ) (text : List ℕ) → byte < 128 → IsUtf8 (byte ∷ text) → IsUtf8 text
past_ascii byte text ascii h = IsUtf8-drop (byte ∷ text) 1 h (IsCharBoundary-after_ascii (byte ∷ text) 0 h (omega arith) ascii)

utf8_if : (byte : ℕ) (text : List ℕ) (test : Bool) → (test ≡ true → IsUtf8 (without_blanks text)) → IsUtf8 (byte ∷ text) → IsUtf8 (if test then without_blanks text else byte ∷ text)
utf8_if byte text true behind h = behind refl
utf8_if byte text false behind h = h

without_utf8 : (text : List ℕ) → IsUtf8 text → IsUtf8 (without_blanks text)
without_utf8 [] h = h
without_utf8 (byte ∷ text) h = utf8_if byte text (is_blank byte) (λ blank. without_utf8 text (past_ascii byte text (blank_ascii byte blank) h)) h

one_ascii : (byte : ℕ) → byte < 128 → IsAscii (byte ∷ [])
one_ascii byte h zero = h
one_ascii byte h (suc i) = IsAscii-nil i

-- the blanks before a text, and the text behind them
record Parts (text : List ℕ) : Type 0 where
  blanks : List ℕ
  utf8 : IsUtf8 (reverse blanks)
  whole : text ≡ blanks ++ without_blanks text

parts_if : (byte : ℕ) (text : List ℕ) (test : Bool) → is_blank byte ≡ test → Parts text → Parts (byte ∷ text)
parts_if byte text true e behind = record {
  blanks = byte ∷ behind.blanks;
  utf8 =
      subst IsUtf8 (sym (reverse-append (byte ∷ []) behind.blanks))
      (IsUtf8-append (reverse behind.blanks) (byte ∷ []) behind.utf8 (IsUtf8-from_ascii (byte ∷ []) (one_ascii byte (blank_ascii byte e))));
  whole = rw e (ap (λ (x : List ℕ). byte ∷ x) behind.whole);
}
parts_if byte text false e behind = record { blanks = []; utf8 = IsUtf8-nil; whole = rw e refl }

parts_of : (text : List ℕ) → Parts text
parts_of [] = record { blanks = []; utf8 = IsUtf8-nil; whole = refl }
parts_of (byte ∷ text) = parts_if byte text (is_blank byte) refl (parts_of text)

end_utf8 : (text : List ℕ) → IsUtf8 text → IsUtf8 (reverse (without_blanks (reverse text)))
end_utf8 text h =
    let parts = parts_of (reverse text) in
    let front = reverse (without_blanks (reverse text)) in
    let whole : text ≡ front ++ reverse parts.blanks =
    sym (reverse-reverse text) ∙ ap reverse parts.whole ∙ reverse-append parts.blanks (without_blanks (reverse text))
    in
    let cut : take (length front) text ≡ front = ap (take (length front)) whole ∙ take-append_seam front (reverse parts.blanks) in
    subst IsUtf8 cut (IsUtf8-take text (length front) h (IsCharBoundary-at_seam text front (reverse parts.blanks) whole parts.utf8))

trimmed_utf8 : (text : List ℕ) → IsUtf8 text → IsUtf8 (trimmed text)
trimmed_utf8 text h = end_utf8 (without_blanks text) (without_utf8 text h)

short_if : (byte : ℕ) (text : List ℕ) (test : Bool) → length (without_blanks text) ≤ length text → length (if test then without_blanks text else byte ∷ text) ≤ length (byte ∷ text)
short_if byte text true h = omega arith
short_if byte text false h = omega arith

without_short : (text : List ℕ) → length (without_blanks text) ≤ length text
without_short [] = omega arith
without_short (byte ∷ text) = short_if byte text (is_blank byte) (without_short text)

trimmed_short : (text : List ℕ) → length (trimmed text) ≤ length text
trimmed_short text =
    let first = without_short text in
    let last = without_short (reverse (without_blanks text)) in
    omega (arith, length-reverse (without_blanks text), length-reverse (without_blanks (reverse (without_blanks text))))

-- ---- the test of a line

front_if : (text : List ℕ) (n : ℕ) (test : Bool) → is_utf8 (take (suc n) text) ≡ test → IsUtf8 (take (valid_len_up_to text n) text)
    → IsUtf8 (take (if test then suc n else valid_len_up_to text n) text)
front_if text n true e behind = IsUtf8-from_is_utf8 (take (suc n) text) e
front_if text n false e behind = behind

valid_front : (text : List ℕ) (most : ℕ) → IsUtf8 (take (valid_len_up_to text most) text)
valid_front text zero = IsUtf8-nil
valid_front text (suc n) = front_if text n (is_utf8 (take (suc n) text)) refl (valid_front text n)

same_number : (a b : ℕ) → (a == b) ≡ true → a ≡ b
same_number a b h = grind (arith, nat_tests)

valid_utf8 : (text : List ℕ) → (utf8_valid_len text == length text) ≡ true → IsUtf8 text
unfolding utf8_valid_len
valid_utf8 text valid =
    subst IsUtf8 (ap (λ (n : ℕ). take n text) (same_number (utf8_valid_len text) (length text) valid) ∙ take-length text) (valid_front text (length text))

-- ---- the value of a line

-- the text of a line's value is such a one
abbrev ValueIs : (List ℕ → Type 0) → Line → Type 0
ValueIs P nothing = Unit {0}
ValueIs P (section name) = Unit {0}
ValueIs P (option name value) = P value
ValueIs P broken = Unit {0}

value_if : (P : List ℕ → Type 0) (b : Bool) (x y : Line) → ValueIs P x → ValueIs P y → ValueIs P (if b then x else y)
value_if P true x y h k = h
value_if P false x y h k = k

value_of_option : (P : List ℕ → Type 0) (name value : List ℕ) → P value → ValueIs P (option_line name value)
value_of_option P [] value h = tt
value_of_option P (byte ∷ name) value h = h

value_of : (P : List ℕ → Type 0) (text : List ℕ) → P (trimmed (after_first (λ byte. byte == 61) text)) → ValueIs P (line_of text)
value_of P [] h = tt
value_of P (byte ∷ text) h =
    value_if P (byte == 59 || byte == 35) _ _ tt
    (value_if P (byte == 91 && ends_with_byte 93 text) _ _ tt
    (value_if P (list_any (λ byte. byte == 61) (byte ∷ text)) _ _ (value_of_option P (trimmed (before_first (λ byte. byte == 61) (byte ∷ text))) _ h) tt))

-- ---- the rule of a line

rule_if : (b : Bool) (rules : List RuleLine) → (b ≡ true → AllByRecursion IsRuleLine rules) → AllByRecursion IsRuleLine (if b then rules else [])
rule_if true rules h = h refl
rule_if false rules h = tt

-- an option of a table is one of rules
is_known : (table : Table) (kind : Option (Table × LineKind)) → is_option_of table kind ≡ true → is_some kind ≡ true
is_known table None h = absurd (cc)
is_known table (Some known) h = refl

rule_of : (table : Table) (number : ℕ) (line : Line) → ValueIs (λ value. IsUtf8 value × (length value < 2 ^ 32)) line
    → AllByRecursion IsRuleLine (line_of_rule table number line)
rule_of table number nothing h = tt
rule_of table number (section name) h = tt
rule_of table number (option name value) h =
    rule_if (is_option_of table (kind_of_line name)) _ (λ known. (record { option = is_known table (kind_of_line name) known; text = h.0; short = h.1 }, tt))
rule_of table number broken h = tt

rules_if_inside : (inside : Option Bool) (rules : List RuleLine) → AllByRecursion IsRuleLine rules → AllByRecursion IsRuleLine (rules_inside inside rules)
rules_if_inside None rules h = tt
rules_if_inside (Some false) rules h = tt
rules_if_inside (Some true) rules h = h

behind_short : (line : List ℕ) → length line < 2 ^ 32 → length (trimmed (after_first (λ byte. byte == 61) (trimmed line))) < 2 ^ 32
behind_short line short =
    let outer = trimmed_short line in
    let inner = trimmed_short (after_first (λ byte. byte == 61) (trimmed line)) in
    let cut : length (after_first (λ byte. byte == 61) (trimmed line)) ≤ length (trimmed line) = omega (arith, length-drop (position_or_len (λ byte. byte == 61) (trimmed line) + 1) (trimmed line)) in
    omega arith

-- the rule of a short line is one of its table
pub rule_in_table : (table : Table) (inside : Option Bool) (number : ℕ) (line : List ℕ) → length line < 2 ^ 32 → AllByRecursion IsRuleLine (rule_in table inside number line)
rule_in_table table inside number line short =
    rule_if (utf8_valid_len line == length line) _ (λ valid.
    rules_if_inside inside _ (rule_of table number (line_of (trimmed line)) (value_of (λ value. IsUtf8 value × (length value < 2 ^ 32)) (trimmed line)
    (trimmed_utf8 _ (after_utf8 61 (trimmed line) (omega arith) (trimmed_utf8 line (valid_utf8 line valid))), behind_short line short))))

-- ---- the rules of a table

pub in_table_append : (rules more : List RuleLine) → AllByRecursion IsRuleLine rules → AllByRecursion IsRuleLine more → AllByRecursion IsRuleLine (rules ++ more)
in_table_append [] more h k = k
in_table_append (rule ∷ rules) more h k = (h.0, in_table_append rules more h.1 k)

each_of : {X : Type 0} (P : X → Type 0) (xs : List X) → AllByRecursion P xs → All P xs
each_of P [] h k d below = absurd (omega arith)
each_of P (x ∷ xs) h zero d below = h.0
each_of P (x ∷ xs) h (suc k) d below = each_of P xs h.1 k d (omega arith)

-- lines that rise from a number on rise each
rising : (low : ℕ) (rules : List RuleLine) → RisesFrom low rules → IsStrictlyIncreasing (map (λ (rule : RuleLine). rule.line) rules)
rising low [] h k below = absurd (omega arith)
rising low (rule ∷ []) h k below = absurd (omega arith)
rising low (rule ∷ next ∷ rest) h zero below = let later = h.1.0 in omega arith
rising low (rule ∷ next ∷ rest) h (suc k) below =
    let numbers = map (λ (rule : RuleLine). rule.line) (rule ∷ next ∷ rest) in
    let same : suc (k + 1) ≡ suc k + 1 = omega arith in
    subst (λ (n : ℕ). slice_index numbers (suc k) < slice_index numbers n) same (rising (rule.line + 1) (next ∷ rest) h.1 k (omega arith))

pub rule_lines : (low : ℕ) (rules : List RuleLine) → AllByRecursion IsRuleLine rules → RisesFrom low rules → AreRuleLines rules
rule_lines low rules each rises = record { each = each_of IsRuleLine rules each; rising = rising low rules rises }
