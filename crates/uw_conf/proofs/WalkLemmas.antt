-- One step of a walk past refused lines.
use Rattle.std.proofs.Common.{◌≡◌, ℕ, ◌+◌, false, List, [], ◌∷◌, ◌++◌, Option, Some, None, Result, Ok, Err, refl, sym, ap, ◌∙◌, append_assoc}
use Rattle.std.specs.Option.{option_map, option_or}
use Rattle.uw_rules.specs.declared.grammar.Table.{Table}
use Rattle.uw_rules.specs.declared.lines.RuleLine.{RuleLine}
use Rattle.uw_conf.specs.declared.conf.ConfFault.{ConfFault}
use Rattle.uw_conf.specs.declared.conf.ConfKind.{ConfKind}
use Rattle.uw_conf.specs.Configuration.{fault_of_reading}
use Rattle.uw_conf.specs.Reading.{ReadSoFar, at_line, read_line, read_lines, reading_after, refused_at, unless_refused}
use Rattle.uw_conf.specs.ReadingSteps.{fault_of_line}
use Rattle.uw_rules.specs.declared.grammar.LineKind.{LineKind}
use Rattle.uw_conf.specs.Routes.{is_option_of, is_same_table, rule_in, rules_behind}

-- what was said stays, behind one line more
pub reading_step : (r next : ReadSoFar) (line : List ℕ) (rest all : List (List ℕ)) → all ≡ line ∷ rest → next ≡ unless_refused r (read_line r line)
    → reading_after next rest ≡ reading_after r all
reading_step r next line rest all first taken = ap (λ (x : ReadSoFar). reading_after x rest) taken ∙ sym (ap (reading_after r) first)

-- the rules behind a line, and its own before them
behind_line : (table : Table) (r : ReadSoFar) (number : ℕ) (line : List ℕ) (rest : List (List ℕ))
    → rule_in table r.inside number line ++ rules_behind table (unless_refused r (read_line r line)) (number + 1) rest ≡ rules_behind table r number (line ∷ rest)
behind_line table r number line rest = refl

-- the rules stay
pub rules_step : (table : Table) (r next : ReadSoFar) (number : ℕ) (line : List ℕ) (rest all : List (List ℕ)) (rules more : List RuleLine) → all ≡ line ∷ rest
    → next ≡ unless_refused r (read_line r line) → more ≡ rules ++ rule_in table r.inside number line
    → more ++ rules_behind table next (number + 1) rest ≡ rules ++ rules_behind table r number all
rules_step table r next number line rest all rules more first taken put =
    let behind : rule_in table r.inside number line ++ rules_behind table next (number + 1) rest ≡ rules_behind table r number all =
    ap (λ (x : ReadSoFar). rule_in table r.inside number line ++ rules_behind table x (number + 1) rest) taken
    ∙ behind_line table r number line rest
    ∙ sym (ap (λ (x : List (List ℕ)). rules_behind table r number x) first)
    in
    ap (λ (x : List RuleLine). x ++ rules_behind table next (number + 1) rest) put
    ∙ append_assoc rules (rule_in table r.inside number line) (rules_behind table next (number + 1) rest)
    ∙ ap (λ (x : List RuleLine). rules ++ x) behind

-- the fault of a reading that was refused before stays
refused_stays : (fault : ConfFault) (number : ℕ) (all : List (List ℕ)) → read_lines (Err fault) number all ≡ Err fault
refused_stays fault number [] = refl
refused_stays fault number (line ∷ rest) = refl

-- the first fault stays: it came before, or at this line, or comes behind it
first_stays : (r : ReadSoFar) (number : ℕ) (rest : List (List ℕ)) (fault : Option ConfFault) (read : Result ReadSoFar ConfKind)
    → option_or (option_or fault (fault_of_line number read)) (fault_of_reading (read_lines (Ok (unless_refused r read)) (number + 1) rest))
    ≡ option_or fault (fault_of_reading (read_lines (at_line number read) (number + 1) rest))
first_stays r number rest (Some fault) read = refl
first_stays r number rest None (Ok next) = refl
first_stays r number rest None (Err kind) = sym (ap fault_of_reading (refused_stays (refused_at number kind) (number + 1) rest))

pub fault_step : (r next : ReadSoFar) (number : ℕ) (line : List ℕ) (rest all : List (List ℕ)) (fault now : Option ConfFault) → all ≡ line ∷ rest
    → next ≡ unless_refused r (read_line r line) → now ≡ option_or fault (fault_of_line number (read_line r line))
    → option_or now (fault_of_reading (read_lines (Ok next) (number + 1) rest)) ≡ option_or fault (fault_of_reading (read_lines (Ok r) number all))
fault_step r next number line rest all fault now first taken kept =
    ap (λ (x : Option ConfFault). option_or x (fault_of_reading (read_lines (Ok next) (number + 1) rest))) kept
    ∙ ap (λ (x : ReadSoFar). option_or (option_or fault (fault_of_line number (read_line r line))) (fault_of_reading (read_lines (Ok x) (number + 1) rest))) taken
    ∙ first_stays r number rest fault (read_line r line)
    ∙ sym (ap (λ (x : List (List ℕ)). option_or fault (fault_of_reading (read_lines (Ok r) number x))) first)

-- an option of no table
pub of_no_table : (table : Table) (kind : Option (Table × LineKind)) → None ≡ option_map (λ (known : Table × LineKind). known.0) kind → is_option_of table kind ≡ false
of_no_table table None h = refl
of_no_table table (Some known) h = absurd (cc)

-- an option of a table
pub of_table : (table one : Table) (kind : Option (Table × LineKind)) → Some one ≡ option_map (λ (known : Table × LineKind). known.0) kind
    → is_option_of table kind ≡ is_same_table one table
of_table table one None h = absurd (cc)
of_table table one (Some known) h = let same : one ≡ known.0 = cc in ap (λ (t : Table). is_same_table t table) (sym same)
