use Rattle.std.proofs.Common.{◌≡◌, ◌∙◌, ◌∷◌, List, None, false, true, inl, refl, sym, ap, subst}
use Rattle.uw_model.specs.declared.entries.Entry.{Entry}
use Rattle.uw_model.specs.declared.calls.Call.TheVariants as calls
use Rattle.uw_model.specs.Calls.{Outcome, is_bad_key, without}
use Rattle.uw_words.specs.Numbers.{without_number}
use Rattle.uw_words.specs.Parts.{seen}
use Rattle.uw_plan.specs.Agreement.{AgreesAs}
use Rattle.uw_plan.specs.Regions.{shape_of}
use Rattle.uw_plan.proofs.Planned.{planned_use}
use Rattle.uw_plan.proofs.Calling.{bad_get, good_get, got_leaves, got_tells, got_told, got_used, has_entries, region_length, seen_agrees, unchanged}
use Rattle.uw_plan.proofs.reads.plan_get.Goals as goal

pub returns-then-is_bad_key-clause-plan : goal.returns-then-is_bad_key-clause-plan
returns-then-is_bad_key-clause-plan c = λ list agrees.
    let bad : is_bad_key c.args.conf.now c.args.key.now ≡ true = sym c.is_bad_key.ensures ∙ c.if-is_bad_key.true in
    unchanged c.args.conf.now c.args.ram.now c.args.over.now c.requires list agrees c.args.moment (calls.Get c.args.key.now)
    (bad_get c.args.conf.now list c.args.moment c.args.key.now bad)

pub alive_item-requires-clause-region : goal.alive_item-requires-clause-region
alive_item-requires-clause-region c = region_length c.args.conf.now c.args.ram.now c.args.over.now c.requires

pub alive_item-requires-clause-some : goal.alive_item-requires-clause-some
alive_item-requires-clause-some c = has_entries c.args.conf.now c.args.ram.now c.args.over.now c.requires

pub returns-in_default-clause-plan : goal.returns-in_default-clause-plan
returns-in_default-clause-plan c = λ list agrees.
    let held = seen_agrees c.args.conf.now c.args.ram.now c.args.over.now c.requires list agrees in
    let good : is_bad_key c.args.conf.now c.args.key.now ≡ false = sym c.is_bad_key.ensures ∙ c.if-is_bad_key.false in
    let is = good_get c.args.conf.now list c.args.moment c.args.key.now None good (c.in_default.ensures agrees.items list held) in
    unchanged c.args.conf.now c.args.ram.now c.args.over.now c.requires list agrees c.args.moment (calls.Get c.args.key.now) (ap (λ (o : Outcome). o.list) is)

pub returns-in_default-clause-tells : goal.returns-in_default-clause-tells
returns-in_default-clause-tells c = λ list agrees.
    let held = seen_agrees c.args.conf.now c.args.ram.now c.args.over.now c.requires list agrees in
    let good : is_bad_key c.args.conf.now c.args.key.now ≡ false = sym c.is_bad_key.ensures ∙ c.if-is_bad_key.false in
    sym (ap (λ (o : Outcome). o.answer) (good_get c.args.conf.now list c.args.moment c.args.key.now None good (c.in_default.ensures agrees.items list held)))

pub returns-then-not-conf-clause-plan : goal.returns-then-not-conf-clause-plan
returns-then-not-conf-clause-plan c = λ list agrees.
    let conf = c.args.conf.now in
    let held = seen_agrees conf c.args.ram.now c.args.over.now c.requires list agrees in
    let good : is_bad_key conf c.args.key.now ≡ false = sym c.is_bad_key.ensures ∙ c.if-is_bad_key.false in
    unchanged conf c.args.ram.now c.args.over.now c.requires list agrees c.args.moment (calls.Get c.args.key.now)
    (got_leaves conf c.requires.is c.args.ram.now list agrees c.args.moment c.args.key.now good c.in-Some.item (c.in-Some.ensures agrees.items list held) c.if-not-conf.true)

pub returns-then-not-conf-clause-tells : goal.returns-then-not-conf-clause-tells
returns-then-not-conf-clause-tells c = λ list agrees.
    let conf = c.args.conf.now in
    let held = seen_agrees conf c.args.ram.now c.args.over.now c.requires list agrees in
    let good : is_bad_key conf c.args.key.now ≡ false = sym c.is_bad_key.ensures ∙ c.if-is_bad_key.false in
    let found = c.in-Some.ensures agrees.items list held in
    got_tells conf c.requires.is c.args.ram.now list agrees c.args.moment c.args.key.now good c.in-Some.item found c.args.over.now agrees.items list held found.1.1

pub use_entry-requires-clause-region : goal.use_entry-requires-clause-region
use_entry-requires-clause-region c = region_length c.args.conf.now c.args.ram.now c.args.over.now c.requires

pub use_entry-requires-clause-used : goal.use_entry-requires-clause-used
use_entry-requires-clause-used c =
    let some = has_entries c.args.conf.now c.args.ram.now c.args.over.now c.requires in
    let found = c.in-Some.ensures some.0 some.1 some.2 in
    (some.0, some.1, found.0, (some.2, found.1.1))

pub returns-clause-plan : goal.returns-clause-plan
returns-clause-plan c = λ list agrees.
    let conf = c.args.conf.now in
    let words = c.args.ram.now in
    let after = c.use_entry.new.over in
    let held = seen_agrees conf words c.args.over.now c.requires list agrees in
    let good : is_bad_key conf c.args.key.now ≡ false = sym c.is_bad_key.ensures ∙ c.if-is_bad_key.false in
    let found = c.in-Some.ensures agrees.items list held in
    let e : Entry = found.0 in
    let items = c.in-Some.item ∷ without_number agrees.items c.in-Some.item in
    let told = got_told conf c.requires.is words list agrees c.args.moment c.args.key.now good c.in-Some.item found in
    let next = got_used conf c.requires.is words list agrees c.args.moment c.args.key.now good c.in-Some.item found c.if-not-conf.false in
    planned_use conf c.requires.is words list held.fits.state.few c.args.moment (calls.Get c.args.key.now) c.args.over.now after told c.requires.empty c.use_entry.ensures.costs items
    (subst (λ (l : List Entry). AgreesAs (seen after words) (shape_of conf) conf items l) (sym next) (c.use_entry.ensures.list agrees.items list e held found.1.1))

pub returns-clause-tells : goal.returns-clause-tells
returns-clause-tells c = λ list agrees.
    let conf = c.args.conf.now in
    let words = c.args.ram.now in
    let held = seen_agrees conf words c.args.over.now c.requires list agrees in
    let good : is_bad_key conf c.args.key.now ≡ false = sym c.is_bad_key.ensures ∙ c.if-is_bad_key.false in
    let found = c.in-Some.ensures agrees.items list held in
    got_tells conf c.requires.is words list agrees c.args.moment c.args.key.now good c.in-Some.item found c.use_entry.new.over
    (c.in-Some.item ∷ without_number agrees.items c.in-Some.item) (found.0 ∷ without found.0.key list) (c.use_entry.ensures.list agrees.items list found.0 held found.1.1) (inl (refl, refl))
