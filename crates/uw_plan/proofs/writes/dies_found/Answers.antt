use Rattle.std.proofs.Common.{◌≡◌, ◌∙◌, ℕ, IfSome, None, Option, Some, ap, option_map, subst}
use Rattle.uw_model.specs.declared.entries.Entry.{Entry}
use Rattle.uw_words.specs.Parts.{seen}
use Rattle.uw_plan.specs.CallSteps.{IsItemOf}
use Rattle.uw_plan.specs.Plans.{IsInUse}
use Rattle.uw_plan.specs.Regions.{shape_of}
use Rattle.uw_plan.proofs.Dropping.{as_shape, as_used, used_short}
use Rattle.uw_plan.proofs.Setting.{dies_read}
use Rattle.uw_plan.proofs.writes.dies_found.Goals as goal

pub fields_of-requires-clause-item : goal.fields_of-requires-clause-item
fields_of-requires-clause-item c =
    let conf = c.args.conf.now in
    let shape = c.shape_of.result in
    let reader = seen c.args.over.now c.args.ram.now in
    let same = c.shape_of.ensures.parts in
    let used : IsInUse reader (shape_of conf) conf c.in-Some.item =
    subst (λ (o : Option ℕ). IfSome o (λ i. IsInUse reader (shape_of conf) conf i)) c.in-Some.is c.requires.used in
    used_short conf shape (as_shape conf shape same c.requires.conf) reader c.in-Some.item (as_used conf shape same reader c.in-Some.item used)

pub returns-in-None : goal.returns-in-None
returns-in-None c = λ items list entry agrees found.
    let none : entry ≡ None = subst (IsItemOf items list entry) c.in-None.is found in
    ap (λ (o : Option Entry). option_map {T = Entry} {U = ℕ} (λ e. e.dies) o) none

pub returns-in-Some : goal.returns-in-Some
returns-in-Some c = λ items list entry agrees found.
    let some : IsItemOf items list entry (Some c.in-Some.item) = subst (IsItemOf items list entry) c.in-Some.is found in
    ap (λ (o : Option Entry). option_map {T = Entry} {U = ℕ} (λ e. e.dies) o) some.1.0
    ∙ ap (λ (dies : ℕ). Some dies) (dies_read c.shape_of.result (seen c.args.over.now c.args.ram.now) c.args.conf.now items list c.in-Some.item some.0 c.fields_of.result.dies
    c.shape_of.ensures.parts agrees some.1.1 c.fields_of.ensures.dies)
