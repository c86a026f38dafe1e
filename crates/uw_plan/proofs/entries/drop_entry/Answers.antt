use Rattle.std.proofs.Common.{sym, ◌∙◌, subst, arith}
use Rattle.uw_words.specs.declared.shape.Shape.{Shape}
use Rattle.uw_words.specs.Numbers.{without_number}
use Rattle.uw_words.specs.Parts.{seen}
use Rattle.uw_model.specs.Calls.{without}
use Rattle.uw_plan.specs.Agreement.{AgreesAs}
use Rattle.uw_plan.specs.Plans.{Costs, item_run_places}
use Rattle.uw_plan.proofs.Dropping.{as_room, as_shape, as_used, dropped, dropped_costs, released_held, released_listed, released_parts, run_within, still_some, used_short, with_used}
use Rattle.uw_plan.proofs.Steps.{named_after, spare_behind}
use Rattle.uw_plan.proofs.entries.drop_entry.Goals as goal

pub release-requires-clause-region : goal.release-requires-clause-region
release-requires-clause-region c = c.requires.region ∙ sym c.shape_of-shape.ensures.words

pub release-requires-clause-item : goal.release-requires-clause-item
release-requires-clause-item c =
    let conf = c.args.conf.now in
    let shape = c.shape_of-shape.result in
    let old = seen c.args.over.now c.args.ram.now in
    let same = c.shape_of-shape.ensures.parts in
    let of = as_shape conf shape same c.requires.conf in
    used_short conf shape of old c.args.item (as_used conf shape same old c.args.item c.requires.used)

pub release-requires-clause-run : goal.release-requires-clause-run
release-requires-clause-run c =
    let conf = c.args.conf.now in
    let shape = c.shape_of-shape.result in
    let old = seen c.args.over.now c.args.ram.now in
    let same = c.shape_of-shape.ensures.parts in
    let of = as_shape conf shape same c.requires.conf in
    let used = as_used conf shape same old c.args.item c.requires.used in
    with_used old shape conf c.args.item used (λ items list e agrees paired. run_within conf shape of old items list c.args.item e agrees paired)

pub release-requires-clause-room : goal.release-requires-clause-room
release-requires-clause-room c =
    let conf = c.args.conf.now in
    let shape = c.shape_of-shape.result in
    let old = seen c.args.over.now c.args.ram.now in
    let room = as_room conf shape c.shape_of-shape.ensures.parts c.args.over.now 16 old c.args.item c.requires.room in
    omega (arith, room)

pub leave_lists-requires-clause-region : goal.leave_lists-requires-clause-region
leave_lists-requires-clause-region c = c.requires.region ∙ sym c.shape_of-shape.ensures.words

pub leave_lists-requires-clause-item : goal.leave_lists-requires-clause-item
leave_lists-requires-clause-item c =
    let conf = c.args.conf.now in
    let shape = c.shape_of-shape.result in
    let old = seen c.args.over.now c.args.ram.now in
    let same = c.shape_of-shape.ensures.parts in
    let of = as_shape conf shape same c.requires.conf in
    used_short conf shape of old c.args.item (as_used conf shape same old c.args.item c.requires.used)

pub leave_lists-requires-clause-listed : goal.leave_lists-requires-clause-listed
leave_lists-requires-clause-listed c =
    let conf = c.args.conf.now in
    let shape = c.shape_of-shape.result in
    let words = c.args.ram.now in
    let before = c.args.over.now in
    let item = c.args.item in
    let released = c.release.new.over in
    let bits = c.release.ensures.bits in
    let ran = c.release.ensures.places in
    let same = c.shape_of-shape.ensures.parts in
    let of = as_shape conf shape same c.requires.conf in
    let used = as_used conf shape same (seen before words) item c.requires.used in
    with_used (seen before words) shape conf item used (λ items list e agrees paired. (
      released_parts conf shape of words before items list item e agrees paired released bits ran,
      (
        released_held conf shape of words before items list item e agrees paired released bits ran,
        released_listed conf shape of words before items list item e agrees paired released bits ran,
      ),
    ))

pub leave_lists-requires-clause-room : goal.leave_lists-requires-clause-room
leave_lists-requires-clause-room c =
    let conf = c.args.conf.now in
    let shape = c.shape_of-shape.result in
    let old = seen c.args.over.now c.args.ram.now in
    let run = item_run_places old shape conf c.args.item in
    let room = as_room conf shape c.shape_of-shape.ensures.parts c.args.over.now 16 old c.args.item c.requires.room in
    omega (arith, spare_behind run 16 c.args.over.now c.release.new.over c.release.ensures.places room)

pub set_free-requires-clause-region : goal.set_free-requires-clause-region
set_free-requires-clause-region c = c.requires.region ∙ sym c.shape_of-shape.ensures.words

pub set_free-requires-clause-item : goal.set_free-requires-clause-item
set_free-requires-clause-item c =
    let conf = c.args.conf.now in
    let shape = c.shape_of-shape.result in
    let old = seen c.args.over.now c.args.ram.now in
    let same = c.shape_of-shape.ensures.parts in
    let of = as_shape conf shape same c.requires.conf in
    used_short conf shape of old c.args.item (as_used conf shape same old c.args.item c.requires.used)

pub set_free-requires-clause-some : goal.set_free-requires-clause-some
set_free-requires-clause-some c =
    let conf = c.args.conf.now in
    let shape = c.shape_of-shape.result in
    let words = c.args.ram.now in
    let before = c.args.over.now in
    let item = c.args.item in
    let same = c.shape_of-shape.ensures.parts in
    let of = as_shape conf shape same c.requires.conf in
    let used = as_used conf shape same (seen before words) item c.requires.used in
    with_used (seen before words) shape conf item used (λ items list e agrees paired.
    still_some conf shape of words before items list item e agrees paired c.release.new.over c.release.ensures.bits c.release.ensures.places c.leave_lists.new.over
    c.leave_lists.ensures.parts c.leave_lists.ensures.grew)

pub set_free-requires-clause-room : goal.set_free-requires-clause-room
set_free-requires-clause-room c =
    let conf = c.args.conf.now in
    let shape = c.shape_of-shape.result in
    let old = seen c.args.over.now c.args.ram.now in
    let run = item_run_places old shape conf c.args.item in
    let room = as_room conf shape c.shape_of-shape.ensures.parts c.args.over.now 16 old c.args.item c.requires.room in
    let spare = spare_behind run 16 c.args.over.now c.release.new.over c.release.ensures.places room in
    let grew = c.leave_lists.ensures.grew in
    let named = named_after grew.places c.release.new.over c.leave_lists.new.over grew.grew in
    omega (arith, spare, named, grew.few, grew.grew.room)

pub returns-clause-list : goal.returns-clause-list
returns-clause-list c = λ items list e agrees paired.
    let conf = c.args.conf.now in
    let shape = c.shape_of-shape.result in
    let words = c.args.ram.now in
    let before = c.args.over.now in
    let item = c.args.item in
    let now = c.set_free.new.over in
    let same = c.shape_of-shape.ensures.parts in
    let of = as_shape conf shape same c.requires.conf in
    let here : AgreesAs (seen before words) shape conf items list = subst (λ (s : Shape). AgreesAs (seen before words) s conf items list) (sym same) agrees in
    subst (λ (s : Shape). AgreesAs (seen now words) s conf (without_number items item) (without e.key list)) same
    (dropped conf shape of words before items list item e here paired c.release.new.over c.release.ensures.bits c.release.ensures.places c.leave_lists.new.over c.leave_lists.ensures.parts
    c.leave_lists.ensures.grew now c.set_free.ensures.parts c.set_free.ensures.grew)

pub returns-clause-costs : goal.returns-clause-costs
returns-clause-costs c =
    let conf = c.args.conf.now in
    let shape = c.shape_of-shape.result in
    let words = c.args.ram.now in
    let before = c.args.over.now in
    let item = c.args.item in
    let now = c.set_free.new.over in
    let same = c.shape_of-shape.ensures.parts in
    let of = as_shape conf shape same c.requires.conf in
    let used = as_used conf shape same (seen before words) item c.requires.used in
    subst (λ (s : Shape). Costs s 16 (item_run_places (seen before words) s conf item) before now) same
    (with_used (seen before words) shape conf item used (λ items list e agrees paired.
    dropped_costs conf shape of words before items list item e agrees paired c.release.new.over c.release.ensures.bits c.release.ensures.places c.leave_lists.new.over
    c.leave_lists.ensures.parts c.leave_lists.ensures.grew now c.set_free.ensures.parts c.set_free.ensures.grew))
