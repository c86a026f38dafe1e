-- The least refused line, behind a walk over the lines and the readings of their two tables of rules.
use Rattle.std.proofs.Common.{◌≡◌, ℕ, zero, suc, ◌+◌, ◌<◌, ◌≤◌, Bool, true, false, cond, nat_lt, List, [], ◌∷◌, length, Option, Some, None, Result, Ok, Err, IfSome, refl, sym, ap, subst, ◌∙◌, arith, ◌⊎◌, inl, inr, ⊎_elim}
use Rattle.std.specs.Prelude.{IfErr, IsSomeAnd, map, slice_get}
use Rattle.std.specs.Option.{option_map, option_or}
use Rattle.std.proofs.lemmas.Bool.Decides.{nat_tests}
use Rattle.uw_base.specs.declared.bytes.Memory.{Memory}
use Rattle.uw_outside.specs.Faults.{Rose}
use Rattle.uw_rules.specs.declared.grammar.Table.{Table}
use Rattle.uw_rules.specs.declared.grammar.Table.TheVariants as tables
use Rattle.uw_rules.specs.declared.lines.RuleLine.{RuleLine}
use Rattle.uw_rules.specs.declared.kinds.RuleKind.{RuleKind}
use Rattle.uw_rules.specs.declared.kinds.RuleKind.TheVariants as refusals
use Rattle.uw_rules.specs.declared.compiled.RuleTable.{RuleTable}
use Rattle.uw_model.specs.declared.conf.CacheConf.{CacheConf}
use Rattle.uw_conf.specs.declared.conf.Conf.{Conf}
use Rattle.uw_conf.specs.declared.conf.ConfError.{ConfError}
use Rattle.uw_conf.specs.declared.conf.ConfError.TheVariants as conf_errors
use Rattle.std.specs.Str.Lines.{lines}
use Rattle.std.proofs.lemmas.Bool.{cond-false}
use Rattle.uw_rules.specs.Arguments.{SiteNames}
use Rattle.uw_rules.specs.Rules.{rule_refusal_at}
use Rattle.uw_rules.specs.Tables.{IsFirstRefused, NoneRefusedBefore}
use Rattle.uw_conf.specs.declared.conf.ConfFault.{ConfFault}
use Rattle.uw_conf.specs.declared.conf.ConfKind.TheVariants as kinds
use Rattle.uw_conf.specs.declared.conf.Options.{Options}
use Rattle.uw_conf.specs.declared.reading.Walk.{Walk}
use Rattle.uw_conf.specs.Configuration.{configuration_of, first_refused_option, least_refused, lesser_fault, most_text_bytes, said_by, unless_fault}
use Rattle.uw_conf.specs.Given.{HasTableOf, ReadsConf}
use Rattle.uw_conf.specs.DecidingSteps.{Decides, ReadsLines, ReadsTable, fault_in, least_found, of_fault}
use Rattle.uw_conf.specs.Reading.{ReadSoFar, blank_reading, reading_after}
use Rattle.uw_conf.specs.ReadingSteps.{WalksOver}
use Rattle.uw_conf.specs.Routes.{first_refused_in, first_refused_rule, rule_lines_of, rule_refused_at, site_names_of}
use Rattle.uw_conf.proofs.RouteLemmas.{RisesFrom, rules_rise, rules_tell}

-- ---- the first refused rule

module _ (names : SiteNames) (all : List RuleLine) where
  -- no rule from a place on is refused, so many
  abbrev NoneFrom : ℕ → ℕ → Type 0
  NoneFrom here count = (k : ℕ) → k < count → rule_refusal_at names all (here + k) false ≡ None

  at_first : (here : ℕ) (found : Option RuleKind) → rule_refusal_at names all (here + 0) false ≡ found → rule_refusal_at names all here false ≡ found
  at_first here found e = let same : here + 0 ≡ here = omega arith in subst (λ (n : ℕ). rule_refusal_at names all n false ≡ found) same e

  behind : (here k : ℕ) (found : Option RuleKind) → rule_refusal_at names all (here + suc k) false ≡ found → rule_refusal_at names all (here + 1 + k) false ≡ found
  behind here k found e = let same : here + suc k ≡ here + 1 + k = omega arith in subst (λ (n : ℕ). rule_refusal_at names all n false ≡ found) same e

  -- a rule that is not refused leaves the question to those behind it
  passed : (here : ℕ) (rule : RuleLine) (rest : List RuleLine) → rule_refusal_at names all here false ≡ None
      → first_refused_rule names all here (rule ∷ rest) ≡ first_refused_rule names all (here + 1) rest
  passed here rule rest none = ap (λ (x : Option RuleKind). option_or (option_map (rule_refused_at rule.line) x) (first_refused_rule names all (here + 1) rest)) none

  none_refused : (here : ℕ) (rest : List RuleLine) → NoneFrom here (length rest) → first_refused_rule names all here rest ≡ None
  none_refused here [] none = refl
  none_refused here (rule ∷ rest) none =
      passed here rule rest (at_first here None (none 0 (omega arith)))
      ∙ none_refused (here + 1) rest (λ k below. behind here k None (none (suc k) (omega arith)))

  refused_there : (here k line : ℕ) (kind : RuleKind) (rest : List RuleLine) → IsSomeAnd (slice_get rest k) (λ (rule : RuleLine). rule.line ≡ line) → NoneFrom here k
      → rule_refusal_at names all (here + k) false ≡ Some kind → first_refused_rule names all here rest ≡ Some (rule_refused_at line kind)
  refused_there here zero line kind [] at none refused = absurd at
  refused_there here (suc k) line kind [] at none refused = absurd at
  refused_there here zero line kind (rule ∷ rest) at none refused =
      ap (λ (x : Option RuleKind). option_or (option_map (rule_refused_at rule.line) x) (first_refused_rule names all (here + 1) rest)) (at_first here (Some kind) refused)
      ∙ ap (λ (n : ℕ). Some (rule_refused_at n kind)) at
  refused_there here (suc k) line kind (rule ∷ rest) at none refused =
      passed here rule rest (at_first here None (none 0 (omega arith)))
      ∙ refused_there (here + 1) k line kind rest at (λ j below. behind here j None (none (suc j) (omega arith))) (behind here k (Some kind) refused)

  -- no line before this one is that of the first refused rule
  refused_from : (here low k line : ℕ) (rest : List RuleLine) → RisesFrom low rest → IsSomeAnd (slice_get rest k) (λ (rule : RuleLine). rule.line ≡ line) → NoneFrom here k
      → IfSome (first_refused_rule names all here rest) (λ (fault : ConfFault). line ≤ fault.line)
  refused_from here low zero line [] h at none = absurd at
  refused_from here low (suc k) line [] h at none = absurd at
  refused_from here low zero line (rule ∷ rest) h at none =
      subst (λ (n : ℕ). IfSome (first_refused_rule names all here (rule ∷ rest)) (λ (fault : ConfFault). n ≤ fault.line)) at
      (rules_tell names all here rule.line (rule ∷ rest) (omega arith, h.1)).1
  refused_from here low (suc k) line (rule ∷ rest) h at none =
      subst (λ (x : Option ConfFault). IfSome x (λ (fault : ConfFault). line ≤ fault.line)) (sym (passed here rule rest (at_first here None (none 0 (omega arith)))))
      (refused_from (here + 1) (rule.line + 1) k line rest h.1 at (λ j below. behind here j None (none (suc j) (omega arith))))

-- ---- the first refused rule of a table

from_start : (names : SiteNames) (all : List RuleLine) (count : ℕ) → NoneRefusedBefore names all count → (k : ℕ) → k < count → rule_refusal_at names all (0 + k) false ≡ None
from_start names all count none k below = let same : k ≡ 0 + k = omega arith in subst (λ (n : ℕ). rule_refusal_at names all n false ≡ None) same (none k below)

-- no line of the fault or before it is refused
abbrev pub Below : ℕ → Option ConfFault → Type 0
Below line found = IfSome found (λ (fault : ConfFault). line ≤ fault.line)

-- a found fault is the least one; or it is one of the kind, before which there is none; or none was found, and there is none
abbrev pub Stands : (ConfFault → Type 0) → Option ConfFault → Option ConfFault → Type 0
Stands Other None least = least ≡ None
Stands Other (Some fault) least = (least ≡ Some fault) ⊎ (Other fault × Below fault.line least)

-- the line of the fault is that of a rule of a table, which is refused where its pattern is
pub record IsPatternAt (table : Table) (lines : List (List ℕ)) (fault : ConfFault) : Type 0 where
  pub here : ℕ
  pub line : IsSomeAnd (slice_get (rule_lines_of table lines) here) (λ (rule : RuleLine). rule.line ≡ fault.line)
  pub refused : rule_refusal_at (site_names_of lines) (rule_lines_of table lines) here true ≡ Some refusals.PatternRefused
  pub kind : fault.kind ≡ kinds.Rule refusals.PatternRefused

-- the line of the fault is that of a rule whose pattern was refused and counted
pub record IsCounted (lines : List (List ℕ)) (before after : ℕ) (fault : ConfFault) : Type 0 where
  pub table : Table
  pub at : IsPatternAt table lines fault
  pub rose : Rose before after

same_fault : (line : ℕ) (fault : ConfFault) (kind : RuleKind) → fault.kind ≡ kinds.Rule kind → rule_refused_at fault.line kind ≡ fault
same_fault line fault kind h = ap (λ k. record { line = fault.line; kind = k }) (sym h)

module _ (lines : List (List ℕ)) (before after first last : ℕ) (early : before ≤ first) (late : last ≤ after) (table : Table) where
  abbrev rules : List RuleLine
  rules = rule_lines_of table lines

  abbrev site : SiteNames
  site = site_names_of lines

  at_here : (here : ℕ) (found : Option RuleKind) → rule_refusal_at site rules here false ≡ found → rule_refusal_at site rules (0 + here) false ≡ found
  at_here here found e = let same : here ≡ 0 + here = omega arith in subst (λ (n : ℕ). rule_refusal_at site rules n false ≡ found) same e

  rose_between : Rose first last → Rose before after
  rose_between rose = omega arith

  table_fault : (fault : ConfFault) (kind : RuleKind) → fault.kind ≡ kinds.Rule kind → IsFirstRefused site rules first last fault.line kind
      → Stands (IsCounted lines before after) (Some fault) (first_refused_in table lines)
  table_fault fault kind same found =
      ⊎_elim
      (λ text. inl (
      refused_there site rules 0 found.here fault.line kind rules found.number (from_start site rules found.here found.earlier) (at_here found.here (Some kind) text)
      ∙ ap (λ (f : ConfFault). Some f) (same_fault fault.line fault kind same)))
      (λ pattern. inr (
        record {
          table = table;
          at = record {
            here = found.here;
            line = found.number;
            refused = pattern.0 ∙ ap (λ (k : RuleKind). Some k) pattern.1;
            kind = same ∙ ap (λ (k : RuleKind). kinds.Rule k) pattern.1;
          };
          rose = rose_between pattern.2;
        },
        refused_from site rules 0 1 found.here fault.line rules (rules_rise table blank_reading 1 lines) found.number (from_start site rules found.here found.earlier),
      ))
      found.cause

  -- what the reading of a table found
  pub table_stands : (result : Result RuleTable ConfFault) → ReadsTable site rules first last (Ok result)
      → Stands (IsCounted lines before after) (fault_in result) (first_refused_in table lines)
  table_stands (Ok read) h = none_refused site rules 0 rules (from_start site rules (length rules) h.0.0)
  table_stands (Err fault) h = table_fault fault h.0 h.1 h.2

-- ---- the least of two faults

pub lesser_none : (own : Option ConfFault) → lesser_fault own None ≡ own
lesser_none None = refl
lesser_none (Some fault) = refl

module _ (Other : ConfFault → Type 0) where
  below_if : (line : ℕ) (test : Bool) (one other : ConfFault) → line ≤ one.line → line ≤ other.line → Below line (cond test (Some other) (Some one))
  below_if line true one other h k = k
  below_if line false one other h k = h

  both_below : (line : ℕ) (one other : Option ConfFault) → Below line one → Below line other → Below line (lesser_fault one other)
  both_below line None other h k = k
  both_below line (Some one) None h k = h
  both_below line (Some one) (Some other) h k = below_if line (nat_lt other.line one.line) one other h k

  weaker : (low high : ℕ) (found : Option ConfFault) → low ≤ high → Below high found → Below low found
  weaker low high None le h = tt
  weaker low high (Some fault) le h = omega arith

  stands_below : (fault : ConfFault) (least : Option ConfFault) → Stands Other (Some fault) least → Below fault.line least
  stands_below fault least (inl same) =
      let low : fault.line ≤ fault.line = omega arith in
      subst (Below fault.line) (sym same) low
  stands_below fault least (inr other) = other.1

  lt_test : (a b : ℕ) → a < b → nat_lt a b ≡ true
  lt_test a b h = grind (arith, nat_tests)

  le_test : (a b : ℕ) → b ≤ a → nat_lt a b ≡ false
  le_test a b h = grind (arith, nat_tests)

  -- the other fault is the least, where the first one is behind it
  later_first : (one : Option ConfFault) (other : ConfFault) (line : ℕ) → other.line < line → Below line one → lesser_fault one (Some other) ≡ Some other
  later_first None other line less h = refl
  later_first (Some one) other line less h =
      let before : other.line < one.line = omega arith in
      ap (λ (test : Bool). cond test (Some other) (Some one)) (lt_test other.line one.line before)

  -- the first one is the least, where the other is not before it
  early_first : (one : ConfFault) (other : Option ConfFault) → Below one.line other → lesser_fault (Some one) other ≡ Some one
  early_first one None h = refl
  early_first one (Some other) h = ap (λ (test : Bool). cond test (Some other) (Some one)) (le_test other.line one.line h)

  other_stands : (one other : ConfFault) (first second : Option ConfFault) → other.line < one.line → Below one.line first → Stands Other (Some other) second
      → Stands Other (Some other) (lesser_fault first second)
  other_stands one other first second less low (inl same) = inl (ap (lesser_fault first) same ∙ later_first first other one.line less low)
  other_stands one other first second less low (inr counted) =
      let before : other.line ≤ one.line = omega arith in
      inr (counted.0, both_below other.line first second (weaker other.line one.line first before low) counted.1)

  first_stands : (one other : ConfFault) (first second : Option ConfFault) → one.line ≤ other.line → Stands Other (Some one) first → Below other.line second
      → Stands Other (Some one) (lesser_fault first second)
  first_stands one other first second le (inl same) high =
      inl (ap (λ (f : Option ConfFault). lesser_fault f second) same ∙ early_first one second (weaker one.line other.line second le high))
  first_stands one other first second le (inr counted) high =
      inr (counted.0, both_below one.line first second counted.1 (weaker one.line other.line second le high))

  chosen : (test : Bool) (one other : ConfFault) (first second : Option ConfFault) → nat_lt other.line one.line ≡ test → Stands Other (Some one) first
      → Stands Other (Some other) second → Stands Other (cond test (Some other) (Some one)) (lesser_fault first second)
  chosen true one other first second e h k =
      let less : other.line < one.line = grind (arith, nat_tests) in
      other_stands one other first second less (stands_below one first h) k
  chosen false one other first second e h k =
      let le : one.line ≤ other.line = grind (arith, nat_tests) in
      first_stands one other first second le h (stands_below other second k)

  -- the least of two found faults is the least, or counted
  pub both_stand : (one other first second : Option ConfFault) → Stands Other one first → Stands Other other second
      → Stands Other (lesser_fault one other) (lesser_fault first second)
  both_stand None other first second h k = subst (λ (f : Option ConfFault). Stands Other other (lesser_fault f second)) (sym h) k
  both_stand (Some one) None first second h k =
      subst (λ (f : Option ConfFault). Stands Other (Some one) (lesser_fault first f)) (sym k)
      (subst (Stands Other (Some one)) (sym (lesser_none first)) h)
  both_stand (Some one) (Some other) first second h k = chosen (nat_lt other.line one.line) one other first second refl h k

  -- what was found for itself
  pub own_stands : (own : Option ConfFault) → Stands Other own own
  own_stands None = refl
  own_stands (Some fault) = inl refl

-- ---- what the lines say

module _ (lines : List (List ℕ)) (before after : ℕ) where
  -- no line before that of a fault is refused
  below_said : (line : ℕ) (least : Option ConfFault) (options : Options) → Below line least → IfErr (unless_fault least options) (λ (other : ConfFault). line ≤ other.line)
  below_said line None options h = tt
  below_said line (Some fault) options h = h

  -- the found fault is that of the lines
  refused_lines : (fault : ConfFault) → before ≤ after → Stands (IsCounted lines before after) (Some fault) (least_refused lines)
      → ReadsLines lines before after (Err (conf_errors.Refused fault))
  refused_lines fault later (inl same) = inl (ap (λ (f : Option ConfFault). unless_fault f (reading_after blank_reading lines).conf) same, later)
  refused_lines fault later (inr counted) =
      inr (
        record {
          table = counted.0.table;
          here = counted.0.at.here;
          line = counted.0.at.line;
          refused = counted.0.at.refused;
          kind = counted.0.at.kind;
          least = below_said fault.line (least_refused lines) (reading_after blank_reading lines).conf counted.1;
        },
        counted.0.rose,
      )

  -- what a walk and both tables found stands
  found_stands : (walk : Walk) (routes tasks : Result RuleTable ConfFault) (middle : ℕ) → before ≤ middle → middle ≤ after → WalksOver lines walk
      → ReadsTable (site_names_of lines) (rule_lines_of tables.Requests lines) before middle (Ok routes)
      → ReadsTable (site_names_of lines) (rule_lines_of tables.Tasks lines) middle after (Ok tasks)
      → Stands (IsCounted lines before after) (least_found walk routes tasks) (least_refused lines)
  found_stands walk routes tasks middle early late over h k =
      let first : before ≤ before = omega arith in
      let last : after ≤ after = omega arith in
      subst (λ (own : Option ConfFault). Stands (IsCounted lines before after) (lesser_fault own (lesser_fault (fault_in routes) (fault_in tasks))) (least_refused lines)) (sym over.fault)
      (both_stand (IsCounted lines before after) (first_refused_option lines) (lesser_fault (fault_in routes) (fault_in tasks)) (first_refused_option lines) _
      (own_stands (IsCounted lines before after) (first_refused_option lines))
      (both_stand (IsCounted lines before after) (fault_in routes) (fault_in tasks) (first_refused_in tables.Requests lines) (first_refused_in tables.Tasks lines)
      (table_stands lines before after before middle first late tables.Requests routes h)
      (table_stands lines before after middle after early last tables.Tasks tasks k)))

  -- the table that was read is that of the lines
  has_table : (table : Table) (first last : ℕ) (rules : RuleTable) (result : Result RuleTable ConfFault) → result ≡ Ok rules
      → ReadsTable (site_names_of lines) (rule_lines_of table lines) first last (Ok result) → HasTableOf table lines rules
  has_table table first last rules (Ok read) same h = let is : read ≡ rules = cc in subst (HasTableOf table lines) is h.0.1
  has_table table first last rules (Err fault) same h = absurd (cc)

  -- where a table was read, the maker of patterns refused none
  table_kept : (table : Table) (first last : ℕ) (rules : RuleTable) (result : Result RuleTable ConfFault) → result ≡ Ok rules
      → ReadsTable (site_names_of lines) (rule_lines_of table lines) first last (Ok result) → last ≡ first
  table_kept table first last rules (Ok read) same h = h.1
  table_kept table first last rules (Err fault) same h = absurd (cc)

  -- lines are read, behind a walk and the readings of both tables
  reads_lines : (walk : Walk) (routes tasks : Result RuleTable ConfFault) (middle : ℕ) (result : Result Conf ConfFault) → before ≤ middle → middle ≤ after
      → WalksOver lines walk
      → ReadsTable (site_names_of lines) (rule_lines_of tables.Requests lines) before middle (Ok routes)
      → ReadsTable (site_names_of lines) (rule_lines_of tables.Tasks lines) middle after (Ok tasks)
      → Decides walk routes tasks result → ReadsLines lines before after (of_fault result)
  reads_lines walk routes tasks middle (Ok conf) early late over h k says =
      let none : least_refused lines ≡ None =
      subst (λ (found : Option ConfFault). Stands (IsCounted lines before after) found (least_refused lines)) says.0
      (found_stands walk routes tasks middle early late over h k) in (
        ap (λ (f : Option ConfFault). unless_fault f (reading_after blank_reading lines).conf) none
            ∙ ap (λ (r : ReadSoFar). Ok r.conf) (sym over.reading) ∙ ap (λ (o : Options). Ok o) (sym says.1),
        (has_table tables.Requests before middle conf.routes routes says.2 h, has_table tables.Tasks middle after conf.tasks tasks says.3 k),
        table_kept tables.Tasks middle after conf.tasks tasks says.3 k ∙ table_kept tables.Requests before middle conf.routes routes says.2 h,
      )
  reads_lines walk routes tasks middle (Err fault) early late over h k says =
      refused_lines fault (omega arith)
      (subst (λ (found : Option ConfFault). Stands (IsCounted lines before after) found (least_refused lines)) says
      (found_stands walk routes tasks middle early late over h k))

-- ---- the reading of a text

-- the names under which both tables were read are those of the lines
same_names : (lines : List (List ℕ)) (walk : Walk) (names : List (List ℕ)) (areas : ℕ) → WalksOver lines walk
    → names ≡ map (λ (cache : CacheConf). cache.name) walk.progress.options.caches → areas ≡ length walk.progress.options.areas
    → record { caches = names; areas = areas } ≡ site_names_of lines
same_names lines walk names areas over same count =
    ap (λ (n : List (List ℕ)). record { caches = n; areas = areas }) same
    ∙ ap (λ (n : ℕ). record { caches = map (λ (cache : CacheConf). cache.name) walk.progress.options.caches; areas = n }) count
    ∙ ap (λ (r : ReadSoFar). record { caches = map (λ (cache : CacheConf). cache.name) r.conf.caches; areas = length r.conf.areas }) over.reading

-- a table was read under the names and lines that the text has
reads_table_of : (names site : SiteNames) (rules own : List RuleLine) (before after : ℕ) (result : Result (Result RuleTable ConfFault) Memory) → names ≡ site
    → rules ≡ own → ReadsTable names rules before after result → ReadsTable site own before after result
reads_table_of names site rules own before after result same lines reads =
    subst (λ (r : List RuleLine). ReadsTable site r before after result) lines (subst (λ (n : SiteNames). ReadsTable n rules before after result) same reads)

-- lines are read, behind a walk and the readings of its two tables under the names of its caches
pub reads_behind : (lines : List (List ℕ)) (before middle after : ℕ) (walk : Walk) (names : List (List ℕ)) (areas : ℕ) (routes tasks : Result RuleTable ConfFault)
    (result : Result Conf ConfFault) → before ≤ middle → middle ≤ after → WalksOver lines walk
    → names ≡ map (λ (cache : CacheConf). cache.name) walk.progress.options.caches → areas ≡ length walk.progress.options.areas
    → ReadsTable (record { caches = names; areas = areas }) walk.progress.routes before middle (Ok routes)
    → ReadsTable (record { caches = names; areas = areas }) walk.progress.tasks middle after (Ok tasks)
    → Decides walk routes tasks result → ReadsLines lines before after (of_fault result)
reads_behind lines before middle after walk names areas routes tasks result early late over same count h k says =
    let site = same_names lines walk names areas over same count in
    reads_lines lines before after walk routes tasks middle result early late over
    (reads_table_of (record { caches = names; areas = areas }) (site_names_of lines) walk.progress.routes (rule_lines_of tables.Requests lines) before middle (Ok routes)
    site over.routes h)
    (reads_table_of (record { caches = names; areas = areas }) (site_names_of lines) walk.progress.tasks (rule_lines_of tables.Tasks lines) middle after (Ok tasks)
    site over.tasks k)
    says

not_above : (a b : ℕ) → b ≤ a → nat_lt a b ≡ false
not_above a b h = grind (arith, nat_tests)

small_text : (text : List ℕ) → length text ≤ most_text_bytes → configuration_of text ≡ said_by (lines text)
small_text text small = cond-false (nat_lt most_text_bytes (length text)) _ (said_by (lines text)) (not_above most_text_bytes (length text) small)

-- a text within the limit says what its lines say
pub reads_conf_of : (text : List ℕ) (before after : ℕ) (result : Result Conf ConfError) → length text ≤ most_text_bytes → ReadsLines (lines text) before after result
    → ReadsConf text before after result
reads_conf_of text before after (Ok conf) small reads = (small_text text small ∙ reads.0, reads.1, reads.2)
reads_conf_of text before after (Err (conf_errors.Refused fault)) small reads =
    ⊎_elim (λ said. inl (small_text text small ∙ said.0, said.1)) (λ pattern. inr (small, pattern.0, pattern.1)) reads
reads_conf_of text before after (Err conf_errors.Memory) small reads = reads
