-- The refused line of a text is its least refused line, and a text without one says what all its lines say.
use Rattle.std.specs.Option.{option_or}
use Rattle.std.specs.Prelude.{Option, if◌then◌else◌}
use Rattle.std.proofs.Common.{◌≡◌, ℕ, zero, suc, ◌+◌, ◌<◌, ◌≤◌, Bool, true, false, cond, nat_lt, List, [], ◌∷◌, length, take, Some, None, Result, Ok, Err, refl, sym, ap, subst, ◌∙◌, arith}
use Rattle.std.specs.List.{slice_get}
use Rattle.std.proofs.lemmas.Bool.Decides.{nat_tests}
use Rattle.std.specs.Str.Lines.{lines}
use Rattle.uw_conf.specs.declared.conf.Options.{Options}
use Rattle.uw_conf.specs.declared.conf.ConfFault.{ConfFault}
use Rattle.uw_conf.specs.declared.conf.ConfKind.{ConfKind}
use Rattle.uw_conf.specs.Reading.{ReadSoFar, blank_reading, read_line, at_line, read_lines, refused_at}
use Rattle.uw_conf.specs.Configuration.{configuration_of, fault_of_reading, first_refused_option, least_refused, lesser_fault, most_text_bytes, unless_fault}
use Rattle.uw_rules.specs.declared.grammar.Table.TheVariants as tables
use Rattle.uw_rules.specs.declared.grammar.Table.{Table}
use Rattle.uw_conf.specs.Routes.{first_refused_in, rule_lines_of, site_names_of}
use Rattle.uw_conf.proofs.RouteLemmas.{TellsOf, rules_rise, rules_tell}
use Rattle.uw_conf.specs.Reading.{reading_after, unless_refused}
use Rattle.uw_conf.specs.Laws.{IsLeastRefusal, own_refusal_at, refusal, refusal_at, refusal_behind, refusal_from, refusal_in}

-- what a reading has read, without where it stands
abbrev pub conf_read : Result ReadSoFar ConfFault → Result Options ConfFault
conf_read (Err fault) = Err fault
conf_read (Ok r) = Ok r.conf

-- the place of the fault is the least at which a line is refused
record IsLeastFrom (r : ReadSoFar) (number : ℕ) (all : List (List ℕ)) (fault : ConfFault) : Type 0 where
  place : ℕ
  line : fault.line ≡ number + place
  refused : refusal_from r all place ≡ Some fault.kind
  least : (before : ℕ) → before < place → refusal_from r all before ≡ None

refused_stays : (fault : ConfFault) (number : ℕ) (all : List (List ℕ)) → read_lines (Err fault) number all ≡ Err fault
refused_stays fault number [] = refl
refused_stays fault number (line ∷ rest) = refl

-- what a whole reading gives, by whether it was refused
abbrev Tells : ReadSoFar → ℕ → List (List ℕ) → Result ReadSoFar ConfFault → Type 0
Tells r number all (Err fault) = IsLeastFrom r number all fault
Tells r number all (Ok last) = ((place : ℕ) → refusal_from r all place ≡ None) × (last ≡ reading_after r all)

-- the first line decides, or else those behind it
tells_behind : (r : ReadSoFar) (number : ℕ) (line : List ℕ) (rest : List (List ℕ)) (read : Result ReadSoFar ConfKind) → read_line r line ≡ read
    → ((next : ReadSoFar) → Tells next (number + 1) rest (read_lines (Ok next) (number + 1) rest)) → Tells r number (line ∷ rest) (read_lines (at_line number read) (number + 1) rest)
tells_behind r number line rest (Err kind) e later =
    let here : IsLeastFrom r number (line ∷ rest) (refused_at number kind) = record { place = 0; line = omega arith; refused = ap refusal e; least = λ before below. absurd (omega arith) } in
    subst (λ (x : Result ReadSoFar ConfFault). Tells r number (line ∷ rest) x) (sym (refused_stays (refused_at number kind) (number + 1) rest)) here
tells_behind r number line rest (Ok next) e later = taken (read_lines (Ok next) (number + 1) rest) (later next)
  where
    shifted : (place : ℕ) → refusal_from r (line ∷ rest) (suc place) ≡ refusal_from next rest place
    shifted place = ap (λ (x : Result ReadSoFar ConfKind). refusal_behind (reading_after (unless_refused r x) (take place rest)) (slice_get rest place)) e

    first : refusal_from r (line ∷ rest) 0 ≡ None
    first = ap refusal e

    taken : (x : Result ReadSoFar ConfFault) → Tells next (number + 1) rest x → Tells r number (line ∷ rest) x
    taken (Err fault) h = record {
      place = suc h.place;
      line = omega (arith, h.line);
      refused = shifted h.place ∙ h.refused;
      least = λ before below. passed before below;
    }
      where
        passed : (before : ℕ) → before < suc h.place → refusal_from r (line ∷ rest) before ≡ None
        passed zero below = first
        passed (suc before) below = shifted before ∙ h.least before (omega arith)
    taken (Ok last) h = (passed, h.1 ∙ sym (ap (λ (x : Result ReadSoFar ConfKind). reading_after (unless_refused r x) rest) e))
      where
        passed : (place : ℕ) → refusal_from r (line ∷ rest) place ≡ None
        passed zero = first
        passed (suc place) = shifted place ∙ h.0 place

reading_tells : (r : ReadSoFar) (number : ℕ) (all : List (List ℕ)) → Tells r number all (read_lines (Ok r) number all)
reading_tells r number [] = (λ place. none place, refl)
  where
    none : (place : ℕ) → refusal_from r [] place ≡ None
    none zero = refl
    none (suc place) = refl
reading_tells r number (line ∷ rest) = tells_behind r number line rest (read_line r line) refl (λ next. reading_tells next (number + 1) rest)

-- the options' own refusals, by what their reading gives
own_tells : (all : List (List ℕ)) (x : Result ReadSoFar ConfFault) → Tells blank_reading 1 all x → TellsOf (own_refusal_at all) (fault_of_reading x)
own_tells all (Err fault) told =
    let at : fault.line ≡ suc told.place = omega (arith, told.line) in
    (ap (own_refusal_at all) at ∙ told.refused, before)
  where
    before : (number : ℕ) → number < fault.line → own_refusal_at all number ≡ None
    before zero below = refl
    before (suc place) below = told.least place (let line = told.line in omega arith)
own_tells all (Ok last) told = each
  where
    each : (number : ℕ) → own_refusal_at all number ≡ None
    each zero = refl
    each (suc place) = told.0 place

-- two refusals of each line: the lesser of the least refused lines is the least
both_tell : (one two : ℕ → Option ConfKind) (a b : Option ConfFault) → TellsOf one a → TellsOf two b → TellsOf (λ number. option_or (one number) (two number)) (lesser_fault a b)
both_tell one two None None h k = λ number. ap (λ x. option_or x (two number)) (h number) ∙ k number
both_tell one two None (Some b) h k = (ap (λ x. option_or x (two b.line)) (h b.line) ∙ k.0, λ number below. ap (λ x. option_or x (two number)) (h number) ∙ k.1 number below)
both_tell one two (Some a) None h k = (ap (λ x. option_or x (two a.line)) h.0, λ number below. ap (λ x. option_or x (two number)) (h.1 number below) ∙ k number)
both_tell one two (Some a) (Some b) h k = lesser (nat_lt b.line a.line) refl
  where
    lesser : (test : Bool) → nat_lt b.line a.line ≡ test → TellsOf (λ number. option_or (one number) (two number)) (if test then Some b else Some a)
    lesser true e =
        let below : b.line < a.line = grind (arith, nat_tests) in (
          ap (λ x. option_or x (two b.line)) (h.1 b.line below) ∙ k.0,
          λ number less. ap (λ x. option_or x (two number)) (h.1 number (omega arith)) ∙ k.1 number less,
        )
    lesser false e =
        let above : a.line ≤ b.line = grind (arith, nat_tests) in
        (ap (λ x. option_or x (two a.line)) h.0, λ number less. ap (λ x. option_or x (two number)) (h.1 number less) ∙ k.1 number (omega arith))

-- the first refused rule of a table
table_tells : (table : Table) (all : List (List ℕ)) → TellsOf (refusal_in table all) (first_refused_in table all)
table_tells table all = (rules_tell (site_names_of all) (rule_lines_of table all) 0 1 (rule_lines_of table all) (rules_rise table blank_reading 1 all)).0

-- the least refused line of a text
least_tells : (all : List (List ℕ)) → TellsOf (refusal_at all) (least_refused all)
least_tells all =
    both_tell (own_refusal_at all) (λ number. option_or (refusal_in tables.Requests all number) (refusal_in tables.Tasks all number)) (first_refused_option all)
    (lesser_fault (first_refused_in tables.Requests all) (first_refused_in tables.Tasks all))
    (own_tells all (read_lines (Ok blank_reading) 1 all) (reading_tells blank_reading 1 all))
    (both_tell (refusal_in tables.Requests all) (refusal_in tables.Tasks all) (first_refused_in tables.Requests all) (first_refused_in tables.Tasks all)
    (table_tells tables.Requests all) (table_tells tables.Tasks all))

-- a text within the limit, by what its lines say
refused_of : (all : List (List ℕ)) (found : Option ConfFault) (conf : Options) (fault : ConfFault) → TellsOf (refusal_at all) found → unless_fault found conf ≡ Err fault → IsLeastRefusal all fault
refused_of all None conf fault told e = absurd (cc)
refused_of all (Some found) conf fault told e = let same : found ≡ fault = cc in rw (← same) (record { refused = told.0; least = told.1 })

not_lt : (a b : ℕ) → b ≤ a → nat_lt a b ≡ false
not_lt a b h = grind (arith, nat_tests)

pub refused_is_least : (text : List ℕ) (fault : ConfFault) → length text ≤ most_text_bytes → configuration_of text ≡ Err fault → IsLeastRefusal (lines text) fault
refused_is_least text fault small says =
    let within : nat_lt most_text_bytes (length text) ≡ false = not_lt most_text_bytes (length text) small in
    refused_of (lines text) (least_refused (lines text)) (reading_after blank_reading (lines text)).conf fault (least_tells (lines text)) (rw within at says)

-- a text that is not refused, by how it was judged
said_of : (b : Bool) (fault : ConfFault) (found : Option ConfFault) (said conf : Options) → cond b (Err fault) (unless_fault found said) ≡ Ok conf → (found ≡ None) × (conf ≡ said)
said_of true fault found said conf e = absurd (cc)
said_of false fault None said conf e = (refl, cc)
said_of false fault (Some other) said conf e = absurd (cc)

-- a text that is not refused has no least refused line
pub nothing_refused : (text : List ℕ) (conf : Options) → configuration_of text ≡ Ok conf → least_refused (lines text) ≡ None
nothing_refused text conf says =
    (said_of (nat_lt most_text_bytes (length text)) _ (least_refused (lines text)) (reading_after blank_reading (lines text)).conf conf says).0

-- nor a refused one at any number, and it says what all its lines say
pub none_refused : (text : List ℕ) (conf : Options) → configuration_of text ≡ Ok conf
    → ((number : ℕ) → refusal_at (lines text) number ≡ None) × (conf ≡ (reading_after blank_reading (lines text)).conf)
none_refused text conf says =
    let said = said_of (nat_lt most_text_bytes (length text)) _ (least_refused (lines text)) (reading_after blank_reading (lines text)).conf conf says in
    (subst (TellsOf (refusal_at (lines text))) said.0 (least_tells (lines text)), said.1)

-- the options of a text that is not refused were read without a refusal
own_read : (all : List (List ℕ)) (other : Option ConfFault) (x : Result ReadSoFar ConfFault) (conf : Options) → Tells blank_reading 1 all x
    → lesser_fault (fault_of_reading x) other ≡ None → conf ≡ (reading_after blank_reading all).conf → conf_read x ≡ Ok conf
own_read all None (Err fault) conf told none same = absurd (cc)
own_read all (Some other) (Err fault) conf told none same = absurd (some_is_none (nat_lt other.line fault.line) none)
  where
    some_is_none : (test : Bool) → cond test (Some other) (Some fault) ≡ None → ⊥
    some_is_none true e = cc
    some_is_none false e = cc
own_read all other (Ok last) conf told none same = ap (λ (r : ReadSoFar). Ok r.conf) told.1 ∙ sym (ap (λ (c : Options). Ok c) same)

pub own_says : (text : List ℕ) (conf : Options) → configuration_of text ≡ Ok conf → conf_read (read_lines (Ok blank_reading) 1 (lines text)) ≡ Ok conf
own_says text conf says =
    let said = said_of (nat_lt most_text_bytes (length text)) _ (least_refused (lines text)) (reading_after blank_reading (lines text)).conf conf says in
    own_read (lines text) _ (read_lines (Ok blank_reading) 1 (lines text)) conf (reading_tells blank_reading 1 (lines text)) said.0 said.1
