use Rattle.std.proofs.Common.{◌≡◌, ◌∙◌, List, Some, None, false, true, refl, sym, ap, subst, arith}
use Rattle.uw_model.specs.declared.entries.Entry.{Entry}
use Rattle.uw_model.specs.declared.calls.Call.TheVariants as calls
use Rattle.uw_model.specs.Laws.{is_refusal}
use Rattle.uw_model.specs.Calls.{Outcome, is_bad_key}
use Rattle.uw_words.specs.Parts.{seen}
use Rattle.uw_plan.specs.CallSteps.{Leaves}
use Rattle.uw_plan.proofs.Planned.{planned_leaves}
use Rattle.uw_plan.proofs.OneByOne.{leaves_one, room_for_one}
use Rattle.uw_plan.proofs.Calling.{bad_del, good_del, has_entries, has_spare, region_length, seen_agrees, unchanged}
use Rattle.uw_plan.proofs.removes.plan_del.Goals as goal

pub returns-then-is_bad_key-clause-plan : goal.returns-then-is_bad_key-clause-plan
returns-then-is_bad_key-clause-plan c = λ list agrees.
    let bad : is_bad_key c.args.conf.now c.args.key.now ≡ true = sym c.is_bad_key.ensures ∙ c.if-is_bad_key.true in
    unchanged c.args.conf.now c.args.ram.now c.args.over.now c.requires list agrees c.args.moment (calls.Del c.args.key.now)
    (bad_del c.args.conf.now list c.args.moment c.args.key.now bad)

pub alive_item-requires-clause-region : goal.alive_item-requires-clause-region
alive_item-requires-clause-region c = region_length c.args.conf.now c.args.ram.now c.args.over.now c.requires

pub alive_item-requires-clause-some : goal.alive_item-requires-clause-some
alive_item-requires-clause-some c = has_entries c.args.conf.now c.args.ram.now c.args.over.now c.requires

pub returns-in_default-clause-plan : goal.returns-in_default-clause-plan
returns-in_default-clause-plan c = λ list agrees.
    let held = seen_agrees c.args.conf.now c.args.ram.now c.args.over.now c.requires list agrees in
    let good : is_bad_key c.args.conf.now c.args.key.now ≡ false = sym c.is_bad_key.ensures ∙ c.if-is_bad_key.false in
    let is = good_del c.args.conf.now list c.args.moment c.args.key.now None good (c.in_default.ensures agrees.items list held) in
    unchanged c.args.conf.now c.args.ram.now c.args.over.now c.requires list agrees c.args.moment (calls.Del c.args.key.now) (ap (λ (o : Outcome). o.list) is)

pub returns-in_default-clause-answer : goal.returns-in_default-clause-answer
returns-in_default-clause-answer c = λ list agrees.
    let held = seen_agrees c.args.conf.now c.args.ram.now c.args.over.now c.requires list agrees in
    let good : is_bad_key c.args.conf.now c.args.key.now ≡ false = sym c.is_bad_key.ensures ∙ c.if-is_bad_key.false in
    sym (ap (λ (o : Outcome). o.answer) (good_del c.args.conf.now list c.args.moment c.args.key.now None good (c.in_default.ensures agrees.items list held)))

pub drop_entry-requires-clause-region : goal.drop_entry-requires-clause-region
drop_entry-requires-clause-region c = region_length c.args.conf.now c.args.ram.now c.args.over.now c.requires

pub drop_entry-requires-clause-used : goal.drop_entry-requires-clause-used
drop_entry-requires-clause-used c =
    let some = has_entries c.args.conf.now c.args.ram.now c.args.over.now c.requires in
    let found = c.in-Some.ensures some.0 some.1 some.2 in
    (some.0, some.1, found.0, (some.2, found.1.1))

pub drop_entry-requires-clause-room : goal.drop_entry-requires-clause-room
drop_entry-requires-clause-room c =
    let conf = c.args.conf.now in
    let words = c.args.ram.now in
    let before = c.args.over.now in
    let some = has_entries conf words before c.requires in
    let found = c.in-Some.ensures some.0 some.1 some.2 in
    room_for_one conf c.requires.is words (seen before words) some.0 some.1 some.2 before c.in-Some.item found.0 found.1.1
    (has_spare conf words before c.requires some.1 0 some.2.fits.state.few (omega arith))

pub returns-clause-plan : goal.returns-clause-plan
returns-clause-plan c = λ list agrees.
    let conf = c.args.conf.now in
    let words = c.args.ram.now in
    let before = c.args.over.now in
    let held = seen_agrees conf words before c.requires list agrees in
    let good : is_bad_key conf c.args.key.now ≡ false = sym c.is_bad_key.ensures ∙ c.if-is_bad_key.false in
    let found = c.in-Some.ensures agrees.items list held in
    let e : Entry = found.0 in
    let is = good_del conf list c.args.moment c.args.key.now (Some e) good found.1.0 in
    let leaves = leaves_one conf c.requires.is words before c.drop_entry.new.over agrees.items list c.in-Some.item e held found.1.1
    (c.drop_entry.ensures.list agrees.items list e held found.1.1) c.drop_entry.ensures.costs in
    planned_leaves conf c.requires.is words list held.fits.state.few c.args.moment (calls.Del c.args.key.now) before c.drop_entry.new.over (ap is_refusal (ap (λ (o : Outcome). o.answer) is)) c.requires.empty refl refl
    (subst (λ (l : List Entry). Leaves conf words before c.drop_entry.new.over list l) (sym (ap (λ (o : Outcome). o.list) is)) leaves)

pub returns-clause-answer : goal.returns-clause-answer
returns-clause-answer c = λ list agrees.
    let held = seen_agrees c.args.conf.now c.args.ram.now c.args.over.now c.requires list agrees in
    let good : is_bad_key c.args.conf.now c.args.key.now ≡ false = sym c.is_bad_key.ensures ∙ c.if-is_bad_key.false in
    let found = c.in-Some.ensures agrees.items list held in
    sym (ap (λ (o : Outcome). o.answer) (good_del c.args.conf.now list c.args.moment c.args.key.now (Some found.0) good found.1.0))
