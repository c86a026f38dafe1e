-- Templates that are good.
use Rattle.std.proofs.Common.{◌≡◌, ℕ, ◌<◌, ◌^◌, Bool, true, false, ◌||◌, nat_le, cond, List, [], ◌∷◌, refl, subst, arith, Option, Some, None, IsSomeAnd, option_and_then, unwrap_or}
use Rattle.std.proofs.lemmas.Bool.Decides.{nat_tests}
use Rattle.std.specs.Borrow.{Bor}
use Rattle.std.specs.List.{AllByRecursion}
use Rattle.std.specs.Str.{bytes_eq}
use Rattle.std.specs.Option.{is_some, option_copied, option_map_or}
use Rattle.regex.specs.declared.bytes.regex.Regex.{Regex}
use Rattle.uw_base.specs.Numbers.{decimal_of}
use Rattle.uw_subst.specs.Templates.{fault_of, pieces_behind}
use Rattle.uw_rules.specs.declared.grammar.ConditionName.{ConditionName}
use Rattle.uw_rules.specs.declared.grammar.ConditionName.TheVariants as conditions
use Rattle.uw_rules.specs.declared.grammar.TextKind.TheVariants as texts
use Rattle.uw_rules.specs.declared.grammar.Table.{Table}
use Rattle.uw_rules.specs.declared.grammar.ActionName.{ActionName}
use Rattle.uw_rules.specs.Arguments.{SiteNames, is_bad_argument, is_bad_text, pattern_in, second_half}
use Rattle.uw_rules.specs.Grammar.{ArgumentShape, action_of, action_rows, condition_of, condition_rows, is_of_table, row_in_table, row_of}
use Rattle.uw_rules.specs.Compiled.{or_empty}
use Rattle.uw_rules.specs.CompileSteps.{CanCompileAction, CanCompileCondition, HasGoodTemplates, IsGoodTemplate, IsPatternIn, action_shape, condition_shape}

no_fault : (fault : Option ℕ) → is_some fault ≡ false → fault ≡ None
no_fault None h = refl
no_fault (Some at) h = absurd (cc)

-- a text that is no bad template has no fault, nor has the empty text
pub good_text : (text : Option (List ℕ)) → IsGoodTemplate text → fault_of (or_empty text) ≡ None
unfolding fault_of pieces_behind
good_text None h = refl
good_text (Some text) h = no_fault (fault_of text) h

-- a text that is left out is read as the empty one
pub seen_or_empty : (text : Option (Bor (List ℕ))) (none : Bor (List ℕ)) → none.now ≡ [] → (unwrap_or text none).now ≡ or_empty (option_copied text)
seen_or_empty None none h = h
seen_or_empty (Some text) none h = refl

-- ---- rows

step : {N : Type 0} (b : Bool) (row known : N × ArgumentShape) (rest : Option (N × ArgumentShape)) (P : N → ArgumentShape → Type 0) → P row.0 row.1
    → (rest ≡ Some known → P known.0 known.1) → cond b (Some row) rest ≡ Some known → P known.0 known.1
step true row known rest P h k found = let same : row ≡ known = cc in subst (λ (r : _ × ArgumentShape). P r.0 r.1) same h
step false row known rest P h k found = k found

-- what holds of each row of a table holds of the one that is found
pub row_has : {N : Type 0} (P : N → ArgumentShape → Type 0) (rows : List (List ℕ × N × ArgumentShape)) (name : List ℕ) (known : N × ArgumentShape)
    → AllByRecursion (λ (row : List ℕ × N × ArgumentShape). P row.1 row.2) rows → row_of rows name ≡ Some known → P known.0 known.1
row_has P [] name known h found = absurd (cc)
row_has P (row ∷ rows) name known h found =
    step (bytes_eq row.0 name) (row.1, row.2) known (row_of rows name) P h.0 (row_has P rows name known h.1) found

-- the shape of a condition is that of its name
pub condition_has_shape : (name : List ℕ) (known : ConditionName × ArgumentShape) → condition_of name ≡ Some known → known.1 ≡ condition_shape known.0
unfolding condition_of
condition_has_shape name known found =
    row_has (λ (n : ConditionName) (s : ArgumentShape). s ≡ condition_shape n) condition_rows name known (refl, (refl, (refl, (refl, (refl, (refl, (refl, tt))))))) found

kept : (b : Bool) (row known : ActionName × ArgumentShape) → cond b (Some row) None ≡ Some known → Some row ≡ Some known
kept true row known h = h
kept false row known h = absurd (cc)

-- the row of an action of a table is one of all rows
in_rows : (table : Table) (row : Option (ActionName × ArgumentShape)) (known : ActionName × ArgumentShape) → row_in_table table row ≡ Some known → row ≡ Some known
in_rows table None known h = h
in_rows table (Some row) known h = kept (is_of_table table row.0) row known h

-- the shape of an action is that of its name
pub action_has_shape : (table : Table) (name : List ℕ) (known : ActionName × ArgumentShape) → action_of table name ≡ Some known → known.1 ≡ action_shape known.0
unfolding action_of
action_has_shape table name known found =
    row_has (λ (n : ActionName) (s : ArgumentShape). s ≡ action_shape n) action_rows name known (refl, (refl, (refl, (refl, (refl, (refl, (refl, (refl, (refl, (refl, (refl, (refl, (refl, (refl, (refl, (refl, (refl, (refl, (refl, (refl, (refl, (refl, (refl, (refl, (refl, (refl, (refl, (refl, (refl, tt))))))))))))))))))))))))))))) (in_rows table (row_of action_rows name) known found)

-- ---- what a rule that is not refused is compiled from

-- a condition that can be compiled has the shape of its name
pub condition_taken : (name : List ℕ) (argument : Option (List ℕ)) (known : ConditionName × ArgumentShape) → condition_of name ≡ Some known
    → IsSomeAnd (condition_of name) (λ (row : ConditionName × ArgumentShape). CanCompileCondition row argument) → CanCompileCondition (known.0, condition_shape known.0) argument
condition_taken name argument known found taken =
    let here : CanCompileCondition known argument =
    subst (λ (row : Option (ConditionName × ArgumentShape)). IsSomeAnd row (λ (k : ConditionName × ArgumentShape). CanCompileCondition k argument)) found taken in
    let shape = condition_has_shape name known found in
    record {
      argument_good = subst (λ (s : ArgumentShape). is_bad_argument s argument ≡ false) shape here.argument_good;
      templates_good = subst (λ (s : ArgumentShape). HasGoodTemplates s argument) shape here.templates_good;
    }

-- its pattern is that of the shape
pub condition_pattern : (name : List ℕ) (argument : Option (List ℕ)) (known : ConditionName × ArgumentShape) (pattern : Option Regex) → condition_of name ≡ Some known
    → IsPatternIn (option_and_then (λ (row : ConditionName × ArgumentShape). pattern_in row.1 argument) (condition_of name)) pattern
    → IsPatternIn (pattern_in (condition_shape known.0) argument) pattern
condition_pattern name argument known pattern found h =
    let here : IsPatternIn (pattern_in known.1 argument) pattern =
    subst (λ (row : Option (ConditionName × ArgumentShape)). IsPatternIn (option_and_then (λ (k : ConditionName × ArgumentShape). pattern_in k.1 argument) row) pattern)
    found h in
    subst (λ (s : ArgumentShape). IsPatternIn (pattern_in s argument) pattern) (condition_has_shape name known found) here

-- an action that can be compiled has the shape of its name
pub action_taken : (names : SiteNames) (table : Table) (name : List ℕ) (argument : Option (List ℕ)) (known : ActionName × ArgumentShape)
    → action_of table name ≡ Some known → IsSomeAnd (action_of table name) (λ (row : ActionName × ArgumentShape). CanCompileAction names row.1 argument)
    → CanCompileAction names (action_shape known.0) argument
action_taken names table name argument known found taken =
    let here : CanCompileAction names known.1 argument =
    subst (λ (row : Option (ActionName × ArgumentShape)). IsSomeAnd row (λ (k : ActionName × ArgumentShape). CanCompileAction names k.1 argument)) found taken in
    subst (λ (s : ArgumentShape). CanCompileAction names s argument) (action_has_shape table name known found) here

both_false : (a b : Bool) → (a || b) ≡ false → (a ≡ false) × (b ≡ false)
both_false true b h = absurd (cc)
both_false false b h = (refl, h)

stands : (bad : List ℕ → Bool) (text : Option (List ℕ)) → option_map_or bad text true ≡ false → is_some text ≡ true
stands bad None h = absurd (cc)
stands bad (Some text) h = refl

-- the pattern of `regexp` stands, where its argument is not bad
pub pattern_stands : (argument : Option (List ℕ)) → is_bad_argument (condition_shape conditions.Regexp) argument ≡ false → is_some (second_half 59 argument) ≡ true
unfolding is_bad_argument
pattern_stands argument h =
    let places = (both_false _ _ h).1 in
    stands (is_bad_text texts.Pattern) (second_half 59 argument) (both_false _ _ (both_false _ _ places).1).0

-- ---- areas

number_small : (areas : ℕ) (number : Option ℕ) → areas < 2 ^ 32 → option_map_or (λ (n : ℕ). nat_le areas n) number false ≡ false → unwrap_or number 0 < 2 ^ 32
number_small areas None small h = omega arith
number_small areas (Some number) small h = grind (arith, nat_tests)

-- the number of an area that there is, behind which other places stand
pub area_small : (areas : ℕ) (text : Option (List ℕ)) (rest : Bool) → areas < 2 ^ 32
    → (option_map_or (λ (n : ℕ). nat_le areas n) (option_and_then decimal_of text) false || rest) ≡ false → unwrap_or (option_and_then decimal_of text) 0 < 2 ^ 32
area_small areas text rest small h = number_small areas (option_and_then decimal_of text) small (both_false _ _ h).0
