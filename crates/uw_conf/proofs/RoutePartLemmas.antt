-- The names of the caches are those that the rules were read under, so the rules ask caches and areas that there are.
use Rattle.std.proofs.Common.{◌≡◌, ℕ, zero, suc, ◌+◌, ◌<◌, Bool, true, false, if◌then◌else◌, nat_lt, List, [], ◌∷◌, length, Option, Some, None, Result, Ok, Err, IfOk, refl, sym, ap, subst, ◌∙◌, arith}
use Rattle.std.specs.Prelude.{map}
use Rattle.std.specs.Option.{option_map, option_or}
use Rattle.std.specs.Str.Lines.{lines}
use Rattle.std.proofs.lemmas.List.{length-map}
use Rattle.uw_model.specs.declared.conf.CacheConf.{CacheConf}
use Rattle.uw_model.specs.Asks.{DeskParts}
use Rattle.uw_rules.specs.declared.kinds.RuleKind.{RuleKind}
use Rattle.uw_rules.specs.declared.grammar.Table.{Table}
use Rattle.uw_rules.specs.declared.grammar.Table.TheVariants as tables
use Rattle.uw_rules.specs.declared.lines.RuleLine.{RuleLine}
use Rattle.uw_rules.specs.Arguments.{SiteNames}
use Rattle.uw_rules.specs.Compiled.{rules_of}
use Rattle.uw_rules.specs.PartNumbers.{AskPartsBelow}
use Rattle.uw_rules.specs.Rules.{place_of_label, rule_refusal_at}
use Rattle.uw_rules.specs.Tables.{NoneRefusedBefore}
use Rattle.uw_rules.proofs.PartLemmas.{asked_below}
use Rattle.uw_conf.specs.declared.conf.Conf.{Conf}
use Rattle.uw_conf.specs.declared.conf.ConfError.{ConfError}
use Rattle.uw_conf.specs.declared.conf.ConfFault.{ConfFault}
use Rattle.uw_conf.specs.declared.conf.Options.{Options}
use Rattle.uw_conf.specs.Configuration.{configuration_of, first_refused_option, lesser_fault}
use Rattle.uw_conf.specs.Given.{ReadsConf, options_in, parts_in}
use Rattle.uw_conf.specs.Routes.{cache_names_of, first_refused_in, first_refused_rule, rule_lines_of, rule_refused_at, site_names_of}
use Rattle.uw_conf.proofs.RefusalLemmas.{none_refused, nothing_refused}

-- ---- no rule of a text that is not refused is refused

module _ (names : SiteNames) (all : List RuleLine) where
  neither : (rule : RuleLine) (kind : Option RuleKind) (later : Option ConfFault) → option_or (option_map (rule_refused_at rule.line) kind) later ≡ None
      → (kind ≡ None) × (later ≡ None)
  neither rule None later h = (refl, h)
  neither rule (Some kind) later h = absurd (cc)

  -- where the first refused rule from a place on is none, each is free
  free_from : (here : ℕ) (rest : List RuleLine) → first_refused_rule names all here rest ≡ None → (k : ℕ) → k < length rest → rule_refusal_at names all (here + k) false ≡ None
  free_from here [] none k below = absurd (omega arith)
  free_from here (rule ∷ rest) none zero below =
      let same : here ≡ here + 0 = omega arith in
      subst (λ (n : ℕ). rule_refusal_at names all n false ≡ None) same (neither rule (rule_refusal_at names all here false) _ none).0
  free_from here (rule ∷ rest) none (suc k) below =
      let same : here + 1 + k ≡ here + suc k = omega arith in
      subst (λ (n : ℕ). rule_refusal_at names all n false ≡ None) same
      (free_from (here + 1) rest (neither rule (rule_refusal_at names all here false) _ none).1 k (omega arith))

chosen_some : (test : Bool) (fault other : ConfFault) → (if test then Some other else Some fault) ≡ None → ⊥
chosen_some true fault other h = cc
chosen_some false fault other h = cc

other_none : (own rule : Option ConfFault) → lesser_fault own rule ≡ None → rule ≡ None
other_none None rule h = h
other_none (Some fault) None h = refl
other_none (Some fault) (Some rule) h = absurd (chosen_some (nat_lt rule.line fault.line) fault rule h)

first_none : (one other : Option ConfFault) → lesser_fault one other ≡ None → one ≡ None
first_none None other h = refl
first_none (Some fault) None h = absurd (cc)
first_none (Some fault) (Some other) h = absurd (chosen_some (nat_lt other.line fault.line) fault other h)

-- no rule of either table is the first that is refused
none_in : (table : Table) (text : List ℕ) (conf : Options) → configuration_of text ≡ Ok conf → first_refused_in table (lines text) ≡ None
none_in tables.Requests text conf says =
    let both = other_none (first_refused_option (lines text)) _ (nothing_refused text conf says) in
    first_none (first_refused_in tables.Requests (lines text)) (first_refused_in tables.Tasks (lines text)) both
none_in tables.Tasks text conf says =
    let both = other_none (first_refused_option (lines text)) _ (nothing_refused text conf says) in
    other_none (first_refused_in tables.Requests (lines text)) (first_refused_in tables.Tasks (lines text)) both

rules_free : (table : Table) (text : List ℕ) (conf : Options) → configuration_of text ≡ Ok conf
    → NoneRefusedBefore (site_names_of (lines text)) (rule_lines_of table (lines text)) (length (rule_lines_of table (lines text)))
rules_free table text conf says here below =
    let names = site_names_of (lines text) in
    let rules = rule_lines_of table (lines text) in
    let same : 0 + here ≡ here = omega arith in
    subst (λ (n : ℕ). rule_refusal_at names rules n false ≡ None) same (free_from names rules 0 rules (none_in table text conf says) here below)

-- ---- names and numbers

-- the names under which the rules of a text are read are those of its caches, in their order
pub names_caches : (text : List ℕ) (conf : Options) → configuration_of text ≡ Ok conf → cache_names_of (lines text) ≡ map (λ (cache : CacheConf). cache.name) conf.caches
names_caches text conf says = ap (λ (c : Options). map (λ (cache : CacheConf). cache.name) c.caches) (sym (none_refused text conf says).1)

-- and there are as many areas as it has
pub names_areas : (text : List ℕ) (conf : Options) → configuration_of text ≡ Ok conf → (site_names_of (lines text)).areas ≡ length conf.areas
names_areas text conf says = ap (λ (c : Options). length c.areas) (sym (none_refused text conf says).1)

-- the parts that the names are of
abbrev parts_of : SiteNames → DeskParts
parts_of names = record { caches = length names.caches; areas = names.areas }

-- the parts of a text that was read are those of its configuration
same_parts : (text : List ℕ) (conf : Conf) → configuration_of text ≡ Ok (options_in conf) → parts_of (site_names_of (lines text)) ≡ parts_in conf
same_parts text conf says =
    let count : length (cache_names_of (lines text)) ≡ length conf.caches =
    ap length (names_caches text (options_in conf) says) ∙ length-map conf.caches (λ (cache : CacheConf). cache.name) in
    ap (λ (n : ℕ). record { caches = n; areas = (site_names_of (lines text)).areas }) count
    ∙ ap (λ (n : ℕ). record { caches = length conf.caches; areas = n }) (names_areas text (options_in conf) says)

-- the rules of requests of a text that was read ask parts of it
pub routes_below : (text : List ℕ) (before after : ℕ) (result : Result Conf ConfError) → ReadsConf text before after result
    → IfOk result (λ (conf : Conf). AskPartsBelow (parts_in conf) (rules_of conf.routes))
routes_below text before after (Err error) reads = tt
routes_below text before after (Ok conf) reads =
    let rules = rule_lines_of tables.Requests (lines text) in
    subst (λ (parts : DeskParts). AskPartsBelow parts (rules_of conf.routes)) (same_parts text conf reads.0)
    (asked_below (site_names_of (lines text)) (place_of_label rules) rules (rules_of conf.routes) (rules_free tables.Requests text (options_in conf) reads.0) reads.1.0)

-- so do those of tasks
pub tasks_below : (text : List ℕ) (before after : ℕ) (result : Result Conf ConfError) → ReadsConf text before after result
    → IfOk result (λ (conf : Conf). AskPartsBelow (parts_in conf) (rules_of conf.tasks))
tasks_below text before after (Err error) reads = tt
tasks_below text before after (Ok conf) reads =
    let rules = rule_lines_of tables.Tasks (lines text) in
    subst (λ (parts : DeskParts). AskPartsBelow parts (rules_of conf.tasks)) (same_parts text conf reads.0)
    (asked_below (site_names_of (lines text)) (place_of_label rules) rules (rules_of conf.tasks) (rules_free tables.Tasks text (options_in conf) reads.0) reads.1.1)
