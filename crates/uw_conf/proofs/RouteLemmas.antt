-- The lines of rules rise, and the first refused rule is the least line that is refused as a rule.
use Rattle.std.proofs.Common.{◌≡◌, ◌≢◌, ℕ, ◌+◌, ◌<◌, ◌≤◌, Bool, true, false, ◌==◌, List, [], ◌∷◌, ◌++◌, Option, Some, None, IfSome, refl, ap, ◌∙◌, arith, ◌⊎◌, ⊎_elim, inl, inr}
use Rattle.std.proofs.lemmas.Bool.{eq-eqb, ne_eqb}
use Rattle.std.proofs.lemmas.Bool.Decides.{eqb_tells}
use Rattle.std.specs.List.{position_from}
use Rattle.std.specs.Option.{option_and_then, option_map, option_or}
use Rattle.std.specs.Str.Lossy.{utf8_valid_len}
use Rattle.std.specs.Prelude.{length, if◌then◌else◌}
use Rattle.uw_base.specs.Texts.{trimmed}
use Rattle.uw_rules.specs.declared.grammar.Table.{Table}
use Rattle.uw_rules.specs.declared.lines.RuleLine.{RuleLine}
use Rattle.uw_rules.specs.Arguments.{SiteNames}
use Rattle.uw_rules.specs.declared.kinds.RuleKind.{RuleKind}
use Rattle.uw_rules.specs.Grammar.{kind_of_line}
use Rattle.uw_rules.specs.Rules.{rule_refusal_at}
use Rattle.uw_conf.specs.declared.conf.ConfFault.{ConfFault}
use Rattle.uw_conf.specs.declared.conf.ConfKind.{ConfKind}
use Rattle.uw_conf.specs.declared.conf.ConfKind.TheVariants as kinds
use Rattle.uw_conf.specs.Lines.{Line, nothing, section, option, broken, line_of}
use Rattle.uw_conf.specs.Reading.{ReadSoFar, read_line, unless_refused}
use Rattle.uw_conf.specs.Routes.{first_refused_rule, is_option_of, rule_in, line_of_rule, rule_refused_at, rules_behind, rules_inside}

-- ---- the lines rise

-- the lines rise from a number on
abbrev pub RisesFrom : ℕ → List RuleLine → Type 0
RisesFrom low [] = Unit {0}
RisesFrom low (rule ∷ rest) = (low ≤ rule.line) × RisesFrom (rule.line + 1) rest

-- at most one rule, at this line
abbrev IsOneAt : ℕ → List RuleLine → Type 0
IsOneAt number [] = Unit {0}
IsOneAt number (rule ∷ []) = rule.line ≡ number
IsOneAt number (rule ∷ other ∷ rest) = ⊥

rises_lower : (low high : ℕ) (rules : List RuleLine) → low ≤ high → RisesFrom high rules → RisesFrom low rules
rises_lower low high [] le h = tt
rises_lower low high (rule ∷ rest) le h = (let first = h.0 in omega arith, h.1)

one_before : (number : ℕ) (some rest : List RuleLine) → IsOneAt number some → RisesFrom (number + 1) rest → RisesFrom number (some ++ rest)
one_before number [] rest one h = rises_lower number (number + 1) rest (omega arith) h
one_before number (rule ∷ []) rest one h = (omega (arith, one), rises_lower (rule.line + 1) (number + 1) rest (omega (arith, one)) h)
one_before number (rule ∷ other ∷ more) rest one h = absurd one

one_if : (number : ℕ) (b : Bool) (rules : List RuleLine) → IsOneAt number rules → IsOneAt number (if b then rules else [])
one_if number true rules h = h
one_if number false rules h = tt

one_of_line : (table : Table) (number : ℕ) (line : Line) → IsOneAt number (line_of_rule table number line)
one_of_line table number nothing = tt
one_of_line table number (section name) = tt
one_of_line table number (option name value) = one_if number (is_option_of table (kind_of_line name)) _ refl
one_of_line table number broken = tt

one_inside : (number : ℕ) (inside : Option Bool) (rules : List RuleLine) → IsOneAt number rules → IsOneAt number (rules_inside inside rules)
one_inside number None rules h = tt
one_inside number (Some false) rules h = tt
one_inside number (Some true) rules h = h

one_in : (table : Table) (inside : Option Bool) (number : ℕ) (line : List ℕ) → IsOneAt number (rule_in table inside number line)
one_in table inside number line = one_if number (utf8_valid_len line == length line) _ (one_inside number inside _ (one_of_line table number (line_of (trimmed line))))

pub rules_rise : (table : Table) (r : ReadSoFar) (number : ℕ) (all : List (List ℕ)) → RisesFrom number (rules_behind table r number all)
rules_rise table r number [] = tt
rules_rise table r number (line ∷ rest) =
    one_before number (rule_in table r.inside number line) _ (one_in table r.inside number line) (rules_rise table (unless_refused r (read_line r line)) (number + 1) rest)

-- ---- the least refused rule

-- what a fault says of a refusal of each line: it is that of the least refused line; or no line is refused
abbrev pub TellsOf : (ℕ → Option ConfKind) → Option ConfFault → Type 0
TellsOf refusal None = (number : ℕ) → refusal number ≡ None
TellsOf refusal (Some fault) = (refusal fault.line ≡ Some fault.kind) × ((number : ℕ) → number < fault.line → refusal number ≡ None)

-- a rule stands at a line, or at another
told : (a b : ℕ) → (a ≡ b) ⊎ (a ≢ b)
told a b = ⊎_elim (λ same. inl same.1) (λ other. inr other.1) (eqb_tells a b)

-- the test that a rule stands at a line
abbrev pub stands_at : ℕ → RuleLine → Bool
stands_at number rule = rule.line == number

module _ (names : SiteNames) (all : List RuleLine) where
  -- why the rule of a line is refused, among those from a place on
  abbrev pub refusal_among : ℕ → List RuleLine → ℕ → Option ConfKind
  refusal_among here rest number = option_map kinds.Rule (option_and_then (λ place. rule_refusal_at names all place false) (position_from (stands_at number) here rest))

  -- no rule stands before the first
  absent : (here low number : ℕ) (rest : List RuleLine) → RisesFrom low rest → number < low → position_from (stands_at number) here rest ≡ None
  absent here low number [] h below = refl
  absent here low number (rule ∷ rest) h below =
      let first = h.0 in
      rw (ne_eqb rule.line number (λ same. absurd (omega (arith, same)))) (absent (here + 1) (rule.line + 1) number rest h.1 (omega arith))

  none_before : (here low number : ℕ) (rest : List RuleLine) → RisesFrom low rest → number < low → refusal_among here rest number ≡ None
  none_before here low number rest h below =
      ap (λ place. option_map kinds.Rule (option_and_then (λ place. rule_refusal_at names all place false) place)) (absent here low number rest h below)

  -- the first rule stands at its line
  at_first : (here number : ℕ) (rule : RuleLine) (rest : List RuleLine) → rule.line ≡ number
      → refusal_among here (rule ∷ rest) number ≡ option_map kinds.Rule (rule_refusal_at names all here false)
  at_first here number rule rest same = rw (eq-eqb rule.line number same) refl

  -- and at no other
  past_first : (here number : ℕ) (rule : RuleLine) (rest : List RuleLine) → rule.line ≢ number → refusal_among here (rule ∷ rest) number ≡ refusal_among (here + 1) rest number
  past_first here number rule rest other = rw (ne_eqb rule.line number other) refl

  -- what is known of the rules from a place on
  abbrev pub Tells : ℕ → ℕ → List RuleLine → Option ConfFault → Type 0
  Tells here low rest found = TellsOf (refusal_among here rest) found × IfSome found (λ (fault : ConfFault). low ≤ fault.line)

  tells_first : (here low : ℕ) (rule : RuleLine) (rest : List RuleLine) (kind : Option RuleKind) → rule_refusal_at names all here false ≡ kind → RisesFrom low (rule ∷ rest)
      → (found : Option ConfFault) → Tells (here + 1) (rule.line + 1) rest found → Tells here low (rule ∷ rest) (option_or (option_map (rule_refused_at rule.line) kind) found)
  tells_first here low rule rest (Some kind) e h found later =
      let first = h.0 in (
        (
          at_first here rule.line rule rest refl ∙ ap (option_map kinds.Rule) e,
          λ number below. past_first here number rule rest (λ same. absurd (omega (arith, same))) ∙ none_before (here + 1) (rule.line + 1) number rest h.1 (omega arith),
        ),
        first,
      )
  tells_first here low rule rest None e h None later = (each, tt)
    where
      each : (number : ℕ) → refusal_among here (rule ∷ rest) number ≡ None
      each number = ⊎_elim
          (λ same. at_first here number rule rest same ∙ ap (option_map kinds.Rule) e)
          (λ other. past_first here number rule rest other ∙ later.0 number)
          (told rule.line number)
  tells_first here low rule rest None e h (Some fault) later =
      let first = h.0 in
      let behind = later.1 in
      ((past_first here fault.line rule rest (λ same. absurd (omega (arith, same))) ∙ later.0.0, each), omega arith)
    where
      each : (number : ℕ) → number < fault.line → refusal_among here (rule ∷ rest) number ≡ None
      each number below = ⊎_elim
          (λ same. at_first here number rule rest same ∙ ap (option_map kinds.Rule) e)
          (λ other. past_first here number rule rest other ∙ later.0.1 number below)
          (told rule.line number)

  pub rules_tell : (here low : ℕ) (rest : List RuleLine) → RisesFrom low rest → Tells here low rest (first_refused_rule names all here rest)
  rules_tell here low [] h = (λ number. refl, tt)
  rules_tell here low (rule ∷ rest) h =
      tells_first here low rule rest (rule_refusal_at names all here false) refl h (first_refused_rule names all (here + 1) rest) (rules_tell (here + 1) (rule.line + 1) rest h.1)
