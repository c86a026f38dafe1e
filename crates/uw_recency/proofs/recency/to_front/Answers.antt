use Rattle.std.proofs.Common.{◌≡◌, ℕ, ◌+◌, List, sym, subst}
use Rattle.uw_words.specs.Parts.{seen, HasRoom, GrewAt}
use Rattle.uw_words.specs.Numbers.{IsOneOf, without_number}
use Rattle.uw_words.proofs.Growth.{grew_then, room_early, room_then}
use Rattle.uw_words.proofs.Numbers.{gone}
use Rattle.uw_recency.specs.Recency.{front_places, out_places, link_of_first}
use Rattle.uw_recency.proofs.Lists.{front_link, one_list}
use Rattle.uw_recency.proofs.recency.to_front.Goals as goal

pub take_out-requires-clause-room : goal.take_out-requires-clause-room
take_out-requires-clause-room c =
    let shape = c.args.shape.now in
    let item = c.args.item in
    let reader = seen c.args.over.now c.args.ram.now in
    let list = c.requires.listed in
    room_early (out_places reader shape item) (front_places shape (link_of_first shape (without_number list.0 item)) item) c.args.over.now
    (c.requires.room list.0 list.1.0)

pub push_front-requires-clause-unlisted : goal.push_front-requires-clause-unlisted
push_front-requires-clause-unlisted c =
    let list = c.requires.listed in
    (without_number list.0 c.args.item, (c.take_out.ensures.list list.0 list.1.0 list.1.1, gone list.0 c.args.item list.1.0.distinct))

pub push_front-requires-clause-room : goal.push_front-requires-clause-room
push_front-requires-clause-room c =
    let shape = c.args.shape.now in
    let item = c.args.item in
    let list = c.requires.listed in
    let others = without_number list.0 item in
    let before = seen c.args.over.now c.args.ram.now in
    let between = seen c.take_out.new.over c.args.ram.now in
    let first : between (shape.head + 6) ≡ link_of_first shape others = front_link shape between others (c.take_out.ensures.list list.0 list.1.0 list.1.1) in
    subst (λ (f : ℕ). HasRoom c.take_out.new.over (front_places shape f item)) (sym first)
    (room_then (out_places before shape item) (front_places shape (link_of_first shape others) item) c.args.over.now c.take_out.new.over (c.requires.room list.0 list.1.0)
    c.take_out.ensures.grew)

pub returns-clause-list : goal.returns-clause-list
returns-clause-list c = λ items is one.
    c.push_front.ensures.list (without_number items c.args.item) (c.take_out.ensures.list items is one) (gone items c.args.item is.distinct)

pub returns-clause-grew : goal.returns-clause-grew
returns-clause-grew c = λ items is.
    let shape = c.args.shape.now in
    let item = c.args.item in
    let list = c.requires.listed in
    let others = without_number items item in
    let before = seen c.args.over.now c.args.ram.now in
    let between = seen c.take_out.new.over c.args.ram.now in
    let one : IsOneOf items item = subst (λ (l : List ℕ). IsOneOf l item) (one_list shape before list.0 items c.requires.shape list.1.0 is) list.1.1 in
    let first : between (shape.head + 6) ≡ link_of_first shape others = front_link shape between others (c.take_out.ensures.list items is one) in
    grew_then (out_places before shape item) (front_places shape (link_of_first shape others) item) c.args.over.now c.take_out.new.over c.push_front.new.over c.take_out.ensures.grew
    (subst (λ (f : ℕ). GrewAt (front_places shape f item) c.take_out.new.over c.push_front.new.over) first c.push_front.ensures.grew)
