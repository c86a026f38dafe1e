use Rattle.std.proofs.Common.{◌+◌, ℕ, List, [], slice_get, refl, ap, sym, ◌∙◌, subst}
use Rattle.uw_words.specs.Parts.{seen}
use Rattle.uw_words.specs.Walks.{IsWalk}
use Rattle.uw_words.proofs.Growth.{room_now}
use Rattle.uw_items.proofs.FreeItems.{walk_link, first_none, first_some, take_room, take_grew, take_list}
use Rattle.uw_items.proofs.free.take_free.Goals as goal

pub item_of-requires-clause-link : goal.item_of-requires-clause-link
item_of-requires-clause-link c =
    let reader = seen c.args.over.now c.args.ram.now in
    walk_link c.args.shape.now reader c.load.result c.requires.list.0
    (subst (λ (l : ℕ). IsWalk reader c.args.shape.now l 2 c.requires.list.0) (sym c.load.ensures) c.requires.list.1.walk)

pub returns-in_err-item-clause-item : goal.returns-in_err-item-clause-item
returns-in_err-item-clause-item c = λ items free.
    let reader = seen c.args.over.now c.args.ram.now in
    let walk : IsWalk reader c.args.shape.now c.load.result 2 items = subst (λ (l : ℕ). IsWalk reader c.args.shape.now l 2 items) (sym c.load.ensures) free.walk in
    c.from_residual.ensures
    ∙ sym (ap (λ (l : List ℕ). slice_get l 0) (first_none c.args.shape.now c.requires.shape reader c.load.result items (c.in_err-item.ensures.none.0 refl) walk))

pub put-requires : goal.put-requires
put-requires c =
    room_now c.args.over.now (c.args.shape.now.head + 8) []
    (take_room c.args.shape.now c.args.over.now c.args.over.now c.args.ram.now c.in_ok-item.item c.load.result 0 c.requires.shape c.load.ensures c.in_ok-item.ensures.item.1 c.requires.room)

pub returns-clause-item : goal.returns-clause-item
returns-clause-item c = λ items free.
    let reader = seen c.args.over.now c.args.ram.now in
    sym (first_some c.args.shape.now c.requires.shape reader c.load.result c.in_ok-item.item items c.in_ok-item.ensures.item.1
    (subst (λ (l : ℕ). IsWalk reader c.args.shape.now l 2 items) (sym c.load.ensures) free.walk))

pub returns-clause-list : goal.returns-clause-list
returns-clause-list c =
    let reader = seen c.args.over.now c.args.ram.now in
    take_list c.args.shape.now c.args.over.now c.put.new.self c.args.ram.now c.in_ok-item.item c.load.result c.load-next.result c.requires.shape c.load.ensures c.in_ok-item.ensures.item.1
    c.put.ensures (c.load-next.ensures ∙ ap (λ (l : ℕ). reader (l + 2)) c.link_of.ensures.link)

pub returns-clause-grew : goal.returns-clause-grew
returns-clause-grew c =
    take_grew c.args.shape.now c.args.over.now c.put.new.self c.args.ram.now c.in_ok-item.item c.load.result c.load-next.result c.requires.shape c.load.ensures c.in_ok-item.ensures.item.1
    c.put.ensures
