use Rattle.std.proofs.Common.{◌∷◌, [], subst, arith}
use Rattle.uw_model.specs.Calls.{without}
use Rattle.uw_words.specs.declared.shape.Shape.{Shape}
use Rattle.uw_words.specs.Numbers.{without_number}
use Rattle.uw_words.specs.Parts.{seen}
use Rattle.uw_words.proofs.Growth.{spare_room}
use Rattle.uw_recency.specs.Recency.{to_front_places}
use Rattle.uw_plan.specs.Agreement.{AgreesAs}
use Rattle.uw_plan.specs.Plans.{Costs}
use Rattle.uw_plan.proofs.Dropping.{as_shape, as_used, used_short, with_used}
use Rattle.uw_plan.proofs.Looking.{as_agrees, recent, used, used_costs}
use Rattle.uw_plan.proofs.lookup.use_entry.Goals as goal

pub to_front-requires-clause-item : goal.to_front-requires-clause-item
to_front-requires-clause-item c =
    let conf = c.args.conf.now in
    let shape = c.shape_of.result in
    let reader = seen c.args.over.now c.args.ram.now in
    let same = c.shape_of.ensures.parts in
    used_short conf shape (as_shape conf shape same c.requires.conf) reader c.args.item (as_used conf shape same reader c.args.item c.requires.used)

pub to_front-requires-clause-listed : goal.to_front-requires-clause-listed
to_front-requires-clause-listed c =
    let conf = c.args.conf.now in
    let shape = c.shape_of.result in
    let words = c.args.ram.now in
    let before = c.args.over.now in
    let item = c.args.item in
    let same = c.shape_of.ensures.parts in
    let of = as_shape conf shape same c.requires.conf in
    with_used (seen before words) shape conf item (as_used conf shape same (seen before words) item c.requires.used)
    (λ items list e agrees paired. (agrees.parts.items, (agrees.held.recency, recent conf shape of words before items list item e agrees paired)))

pub to_front-requires-clause-room : goal.to_front-requires-clause-room
to_front-requires-clause-room c = λ items recency.
    let reader = seen c.args.over.now c.args.ram.now in
    spare_room c.args.over.now (to_front_places reader c.shape_of.result items c.args.item) (omega (arith, c.requires.room))

pub returns-clause-list : goal.returns-clause-list
returns-clause-list c = λ items list e agrees paired.
    let conf = c.args.conf.now in
    let shape = c.shape_of.result in
    let words = c.args.ram.now in
    let before = c.args.over.now in
    let item = c.args.item in
    let now = c.to_front.new.over in
    let same = c.shape_of.ensures.parts in
    let of = as_shape conf shape same c.requires.conf in
    let here = as_agrees conf shape same (seen before words) items list agrees in
    let held = here.held.recency in
    subst (λ (s : Shape). AgreesAs (seen now words) s conf (item ∷ without_number items item) (e ∷ without e.key list)) same
    (used conf shape of words before items list item e here paired now (c.to_front.ensures.grew here.parts.items held)
    (c.to_front.ensures.list here.parts.items held (recent conf shape of words before items list item e here paired)))

pub returns-clause-costs : goal.returns-clause-costs
returns-clause-costs c =
    let conf = c.args.conf.now in
    let shape = c.shape_of.result in
    let words = c.args.ram.now in
    let before = c.args.over.now in
    let item = c.args.item in
    let now = c.to_front.new.over in
    let same = c.shape_of.ensures.parts in
    let of = as_shape conf shape same c.requires.conf in
    subst (λ (s : Shape). Costs s 6 [] before now) same
    (with_used (seen before words) shape conf item (as_used conf shape same (seen before words) item c.requires.used)
    (λ items list e agrees paired.
    used_costs conf shape of words before items list item e agrees paired now (c.to_front.ensures.grew agrees.parts.items agrees.held.recency)))
