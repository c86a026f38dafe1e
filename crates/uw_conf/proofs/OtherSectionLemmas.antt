-- Lines of other sections change nothing, but for lines that are no text.
use Rattle.std.proofs.Common.{◌≡◌, ℕ, ◌+◌, ◌==◌, false, List, [], ◌∷◌, ◌++◌, length, Some, Result, Ok, Err, refl, sym, ap, ◌∙◌, arith}
use Rattle.std.specs.List.{AllByRecursion}
use Rattle.std.specs.Str.Lossy.{utf8_valid_len}
use Rattle.std.proofs.lemmas.Bool.{cond-true, eq-eqb}
use Rattle.std.specs.Prelude.{Bool, true, map, Option, if◌then◌else◌}
use Rattle.uw_model.specs.declared.conf.CacheConf.{CacheConf}
use Rattle.uw_rules.specs.declared.grammar.Table.{Table}
use Rattle.uw_rules.specs.declared.grammar.Table.TheVariants as tables
use Rattle.uw_rules.specs.declared.lines.RuleLine.{RuleLine}
use Rattle.uw_conf.specs.Configuration.{fault_of_reading, lesser_fault, said_by, unless_fault}
use Rattle.uw_conf.specs.Routes.{first_refused_rule, rule_in, line_of_rule, rules_behind, rules_inside}
use Rattle.uw_conf.specs.declared.conf.Options.{Options}
use Rattle.uw_conf.specs.declared.conf.ConfFault.{ConfFault}
use Rattle.uw_conf.specs.declared.conf.ConfKind.{ConfKind}
use Rattle.uw_conf.specs.declared.conf.ConfKind.TheVariants as kinds
use Rattle.uw_conf.specs.Lines.{Line, nothing, section, option, broken, line_of}
use Rattle.uw_base.specs.Texts.{trimmed}
use Rattle.uw_conf.specs.Reading.{ReadSoFar, blank_reading, with_line, read_line, at_line, read_lines}
use Rattle.uw_conf.specs.Reading.{reading_after, unless_refused}
use Rattle.uw_conf.specs.Laws.{IsPlainLine, is_section}

-- a line of another section is passed over
passed_line : (r : ReadSoFar) (line : Line) → r.inside ≡ Some false → is_section line ≡ false → with_line r line ≡ Ok r
passed_line r nothing outside plain = refl
passed_line r (section name) outside plain = cc
passed_line r (option name value) outside plain = rw outside refl
passed_line r broken outside plain = rw outside refl

passed : (r : ReadSoFar) (line : List ℕ) → r.inside ≡ Some false → IsPlainLine line → read_line r line ≡ Ok r
passed r line outside plain =
    cond-true (utf8_valid_len line == length line) (with_line r (line_of (trimmed line))) (Err kinds.BadLine) (eq-eqb (utf8_valid_len line) (length line) plain.text)
    ∙ passed_line r (line_of (trimmed line)) outside plain.same_section

-- lines of another section leave the reading, and the number of the next line
passed_lines : (r : ReadSoFar) (number : ℕ) (others back : List (List ℕ)) → r.inside ≡ Some false → AllByRecursion IsPlainLine others
    → read_lines (Ok r) number (others ++ back) ≡ read_lines (Ok r) (number + length others) back
passed_lines r number [] back outside plain = ap (λ n. read_lines (Ok r) n back) (omega arith)
passed_lines r number (line ∷ others) back outside plain =
    ap (λ (x : Result ReadSoFar ConfKind). read_lines (at_line number x) (number + 1) (others ++ back)) (passed r line outside plain.0)
    ∙ passed_lines r (number + 1) others back outside plain.1
    ∙ ap (λ n. read_lines (Ok r) n back) (omega arith)

refused_on : (fault : ConfFault) (number : ℕ) (all : List (List ℕ)) → read_lines (Err fault) number all ≡ Err fault
refused_on fault number [] = refl
refused_on fault number (line ∷ rest) = refl

-- other lines of another section in the place of these
pub replaced : (r : ReadSoFar) (number : ℕ) (front others more back : List (List ℕ)) → (reading_after r front).inside ≡ Some false → AllByRecursion IsPlainLine others → AllByRecursion IsPlainLine more
    → length others ≡ length more → read_lines (Ok r) number (front ++ (others ++ back)) ≡ read_lines (Ok r) number (front ++ (more ++ back))
replaced r number [] others more back outside plain also same =
    passed_lines r number others back outside plain ∙ ap (λ n. read_lines (Ok r) (number + n) back) same ∙ sym (passed_lines r number more back outside also)
replaced r number (line ∷ front) others more back outside plain also same =
    behind (read_line r line) refl (λ next there. replaced next (number + 1) front others more back there plain also same)
  where
    behind : (read : Result ReadSoFar ConfKind) → read_line r line ≡ read
        → ((next : ReadSoFar) → (reading_after next front).inside ≡ Some false → read_lines (Ok next) (number + 1) (front ++ (others ++ back)) ≡ read_lines (Ok next) (number + 1) (front ++ (more ++ back)))
        → read_lines (at_line number read) (number + 1) (front ++ (others ++ back)) ≡ read_lines (at_line number read) (number + 1) (front ++ (more ++ back))
    behind (Err kind) e later = refused_on _ (number + 1) (front ++ (others ++ back)) ∙ sym (refused_on _ (number + 1) (front ++ (more ++ back)))
    behind (Ok next) e later =
        later next (ap (λ (x : Result ReadSoFar ConfKind). (reading_after (unless_refused r x) front).inside) (sym e) ∙ outside)

-- ---- the same of what the lines say, and of their rules

after_passed : (r : ReadSoFar) (others back : List (List ℕ)) → r.inside ≡ Some false → AllByRecursion IsPlainLine others → reading_after r (others ++ back) ≡ reading_after r back
after_passed r [] back outside plain = refl
after_passed r (line ∷ others) back outside plain =
    ap (λ (x : Result ReadSoFar ConfKind). reading_after (unless_refused r x) (others ++ back)) (passed r line outside plain.0) ∙ after_passed r others back outside plain.1

none_either_way : (b : Bool) (rules : List RuleLine) → rules ≡ [] → (if b then rules else []) ≡ []
none_either_way true rules e = e
none_either_way false rules e = refl

rule_outside : (table : Table) (inside : Option Bool) (number : ℕ) (line : List ℕ) → inside ≡ Some false → rule_in table inside number line ≡ []
rule_outside table inside number line outside =
    none_either_way (utf8_valid_len line == length line) (rules_inside inside (line_of_rule table number (line_of (trimmed line))))
    (ap (λ (x : Option Bool). rules_inside x (line_of_rule table number (line_of (trimmed line)))) outside)

rules_passed : (table : Table) (r : ReadSoFar) (number : ℕ) (others back : List (List ℕ)) → r.inside ≡ Some false → AllByRecursion IsPlainLine others
    → rules_behind table r number (others ++ back) ≡ rules_behind table r (number + length others) back
rules_passed table r number [] back outside plain = ap (λ n. rules_behind table r n back) (omega arith)
rules_passed table r number (line ∷ others) back outside plain =
    ap (λ (some : List RuleLine). some ++ rules_behind table (unless_refused r (read_line r line)) (number + 1) (others ++ back)) (rule_outside table r.inside number line outside)
    ∙ ap (λ (x : Result ReadSoFar ConfKind). rules_behind table (unless_refused r x) (number + 1) (others ++ back)) (passed r line outside plain.0)
    ∙ rules_passed table r (number + 1) others back outside plain.1
    ∙ ap (λ n. rules_behind table r n back) (omega arith)

module _ (others more back : List (List ℕ)) (plain : AllByRecursion IsPlainLine others) (also : AllByRecursion IsPlainLine more) where
  after_replaced : (r : ReadSoFar) (front : List (List ℕ)) → (reading_after r front).inside ≡ Some false
      → reading_after r (front ++ (others ++ back)) ≡ reading_after r (front ++ (more ++ back))
  after_replaced r [] outside = after_passed r others back outside plain ∙ sym (after_passed r more back outside also)
  after_replaced r (line ∷ front) outside = after_replaced (unless_refused r (read_line r line)) front outside

  rules_replaced : (table : Table) (r : ReadSoFar) (number : ℕ) (front : List (List ℕ)) → length others ≡ length more → (reading_after r front).inside ≡ Some false
      → rules_behind table r number (front ++ (others ++ back)) ≡ rules_behind table r number (front ++ (more ++ back))
  rules_replaced table r number [] same outside =
      rules_passed table r number others back outside plain ∙ ap (λ n. rules_behind table r (number + n) back) same ∙ sym (rules_passed table r number more back outside also)
  rules_replaced table r number (line ∷ front) same outside =
      ap (λ (rest : List RuleLine). rule_in table r.inside number line ++ rest) (rules_replaced table (unless_refused r (read_line r line)) (number + 1) front same outside)

-- the first refused rule of these, behind a reading
abbrev first_from : ReadSoFar → List RuleLine → Option ConfFault
first_from after rules = first_refused_rule (record { caches = map (λ (cache : CacheConf). cache.name) after.conf.caches; areas = length after.conf.areas }) rules 0 rules

-- what lines say, from what their reading gives, what it leaves past refused lines, and their rules
abbrev said_from : Result ReadSoFar ConfFault → ReadSoFar → List RuleLine → List RuleLine → Result Options ConfFault
said_from read after routes tasks = unless_fault (lesser_fault (fault_of_reading read) (lesser_fault (first_from after routes) (first_from after tasks))) after.conf

pub said_replaced : (front others more back : List (List ℕ)) → (reading_after blank_reading front).inside ≡ Some false → AllByRecursion IsPlainLine others
    → AllByRecursion IsPlainLine more → length others ≡ length more → said_by (front ++ (others ++ back)) ≡ said_by (front ++ (more ++ back))
said_replaced front others more back outside plain also same =
    let one = front ++ (others ++ back) in
    let two = front ++ (more ++ back) in
    let routes = rules_behind tables.Requests blank_reading 1 in
    let tasks = rules_behind tables.Tasks blank_reading 1 in
    ap (λ (read : Result ReadSoFar ConfFault). said_from read (reading_after blank_reading one) (routes one) (tasks one))
    (replaced blank_reading 1 front others more back outside plain also same)
    ∙ ap (λ (after : ReadSoFar). said_from (read_lines (Ok blank_reading) 1 two) after (routes one) (tasks one))
    (after_replaced others more back plain also blank_reading front outside)
    ∙ ap (λ (rules : List RuleLine). said_from (read_lines (Ok blank_reading) 1 two) (reading_after blank_reading two) rules (tasks one))
    (rules_replaced others more back plain also tables.Requests blank_reading 1 front same outside)
    ∙ ap (λ (rules : List RuleLine). said_from (read_lines (Ok blank_reading) 1 two) (reading_after blank_reading two) (routes two) rules)
    (rules_replaced others more back plain also tables.Tasks blank_reading 1 front same outside)
