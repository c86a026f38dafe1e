-- What the clauses of the crate `regex` say in the words of Patterns.
use Rattle.std.proofs.Common.{◌≡◌, ◌≢◌, ℕ, ◌<◌, ◌≤◌, true, false, List, Option, None, Some, IfSome, IsSomeAnd, ap, refl, subst, ⊎_elim}
use Rattle.std.proofs.lemmas.Bool.{le-leb, lt-leb}
use Rattle.regex_syntax.specs.Brackets.{Nested}
use Rattle.regex_syntax.specs.Grammar.{Names}
use Rattle.regex_syntax.specs.declared.error.ErrorKind.{ErrorKind}
use Rattle.regex_syntax.specs.declared.error.ErrorKind.TheVariants as kinds
use Rattle.regex.specs.Patterns.{Re, Config, Reads, Refuses}
use Rattle.regex.specs.Names.{names_of}
use Rattle.regex.specs.Failures.{IsPattern, IsRightKind}
use Rattle.regex.specs.Sources.{IsRefusal}
use Rattle.regex.specs.Bytes.{regex_source, regex_config, IsReadFromSource}
use Rattle.regex.specs.declared.bytes.regex.Regex.{Regex}
use Rattle.regex.specs.declared.error.Error.{Error}
use Rattle.regex_syntax.specs.declared.error.Error as parser
use Rattle.regex.specs.declared.error.Error.TheVariants.{Syntax, CompiledTooBig}
use Rattle.uw_rules.specs.Patterns.{pattern_config, pattern_read, nests_within, is_pattern, IsPatternOf}
use Rattle.uw_rules.specs.Weight.{IsReadWithWeight}

-- what is there and has a property has each one that follows from it
if_some : {A : Type 0} (found : Option A) (P Q : A → Type 0) → ((x : A) → P x → Q x) → IsSomeAnd found P → IfSome found Q
if_some None P Q then h = absurd h
if_some (Some x) P Q then h = then x h

-- what was read within the limit nests within it
within : (found : Option (Nested Re × Names)) (P : Nested Re × Names → Type 0) → ((x : Nested Re × Names) → P x → x.0.depth ≤ 250) →
    IsSomeAnd found P → nests_within 250 found ≡ true
within None P small h = absurd h
within (Some x) P small h = le-leb x.0.depth 250 (small x h)

-- what was read past the limit does not
past : (found : Option (Nested Re × Names)) → IfSome found (λ x. 250 < x.0.depth) → nests_within 250 found ≡ false
past None deep = refl
past (Some x) deep = lt-leb x.0.depth 250 deep

-- a text that the crate finds too large is a pattern
pub good : (text : List ℕ) (error : Error) → error ≡ CompiledTooBig → IsRightKind pattern_config text error → is_pattern text ≡ true
unfolding is_pattern Reads
good text error too_big right =
    let reads : IsPattern pattern_config text = subst (IsRightKind pattern_config text) too_big right in within (pattern_read text) _ (λ x h. h.0) reads.2

-- a text that the grammar reads as a tree of some weight is a pattern
pub weighed : (text : List ℕ) (IsSuch : ℕ → Type 0) → IsReadWithWeight text IsSuch → is_pattern text ≡ true
unfolding is_pattern Reads
weighed text IsSuch read = within (pattern_read text) _ (λ x h. h.0) read.2

-- a text that the parser refuses, but not for want of memory, is none
pub unread : (text : List ℕ) (kind : ErrorKind) → kind ≢ kinds.OutOfMemory → Refuses pattern_config text kind → is_pattern text ≡ false
unfolding is_pattern Refuses
unread text kind known refused =
    ⊎_elim
    (λ memory. absurd (known memory))
    (λ others. ⊎_elim (λ none. ap (nests_within 250) none) (λ deep. past (pattern_read text) deep.1) others)
    refused

-- a text that the crate's grammar refuses is none
pub bad : (text : List ℕ) (error : Error) (e : parser.Error) → error ≡ Syntax e → IsRefusal pattern_config text error → IsRightKind pattern_config text error →
    is_pattern text ≡ false
bad text error e syntax refused right = unread text e.kind (subst (IsRightKind pattern_config text) syntax right) (refused e syntax)

-- the regex is read from the text under the options
abbrev IsReadFrom : Regex → Config → List ℕ → Type 0
IsReadFrom regex config text = Reads config text regex.pattern.program.hir (names_of regex.pattern.names.items)

-- a compiled text is that pattern
pub compiled : (regex : Regex) (text : List ℕ) → regex_source regex ≡ text → regex_config regex ≡ pattern_config → IsReadFromSource regex →
    IsPatternOf regex text
unfolding is_pattern Reads
compiled regex text source config reads =
    let under : IsReadFrom regex pattern_config (regex_source regex) = subst (λ c. IsReadFrom regex c (regex_source regex)) config reads in
    let known : IsReadFrom regex pattern_config text = subst (IsReadFrom regex pattern_config) source under in
    record {
      good = within (pattern_read text) _ (λ x h. h.0) known;
      source = source;
      finds = if_some (pattern_read text) _ _ (λ x h. h.1) known;
      groups = if_some (pattern_read text) _ _ (λ x h. h.2) known;
    }
