use Rattle.std.proofs.Common.{◌≡◌, ◌∙◌, ◌+◌, ℕ, length, None, refl, subst}
use Rattle.uw_model.specs.declared.entries.Entry.{Entry}
use Rattle.uw_model.specs.Calls.{without}
use Rattle.uw_model.specs.Placement.{room}
use Rattle.uw_words.specs.Texts.{text_words}
use Rattle.uw_plan.proofs.Writing.{HasMade, entered, mid_room, put_room, put_state, spare_alone}
use Rattle.uw_plan.proofs.put.put_entry.Goals as goal

pub remove_key-requires-clause-room : goal.remove_key-requires-clause-room
remove_key-requires-clause-room c = λ items list held.
    let most = 32 + text_words (length c.args.key.now) + text_words (length c.args.value.now) in
    spare_alone c.args.conf.now c.requires.conf c.args.ram.now list most c.args.over.now (c.requires.room items list held)

pub make_room-requires-clause-some : goal.make_room-requires-clause-some
make_room-requires-clause-some c =
    let some = c.requires.some in
    let removed = c.remove_key.ensures some.0 some.1 some.2 in
    (removed.items, without c.args.key.now some.1, removed.agrees)

pub make_room-requires-clause-room : goal.make_room-requires-clause-room
make_room-requires-clause-room c = λ others other held.
    let some = c.requires.some in
    mid_room c.args.conf.now c.requires.conf c.args.ram.now c.args.over.now c.remove_key.new.over some.0 some.1 some.2 c.args.key.now c.args.value.now c.args.dies c.args.moment
    (c.remove_key.ensures some.0 some.1 some.2) (c.requires.room some.0 some.1 some.2) others other held

pub returns-in_default-clause-room : goal.returns-in_default-clause-room
returns-in_default-clause-room c =
    let some = c.requires.some in
    c.make_room.ensures.room ∙ (c.remove_key.ensures some.0 some.1 some.2).costs.room

pub returns-in_default-clause-list : goal.returns-in_default-clause-list
returns-in_default-clause-list c = λ items list held.
    let others = without c.args.key.now list in
    let removed = c.remove_key.ensures items list held in
    subst (λ (n : ℕ). room c.args.conf.now others n c.args.moment ≡ None) c.span_of.ensures (c.in_default.ensures.list removed.items others removed.agrees)

pub add_entry-requires-clause-list : goal.add_entry-requires-clause-list
add_entry-requires-clause-list c =
    let some = c.requires.some in
    let list = without c.args.key.now some.1 in
    let removed = c.remove_key.ensures some.0 some.1 some.2 in
    let made = subst (HasMade c.args.conf.now c.args.ram.now c.remove_key.new.over c.make_room.new.over list c.args.moment c.in-Some.first) c.span_of.ensures
    (c.in-Some.ensures.list removed.items list removed.agrees) in
    let state = put_state c.args.conf.now c.requires.conf c.args.ram.now c.args.over.now c.remove_key.new.over some.0 some.1 some.2 c.args.key.now c.args.value.now c.args.dies c.args.moment
    removed (c.requires.room some.0 some.1 some.2) c.requires.key c.requires.value c.make_room.new.over c.in-Some.first made in
    (made.1.2.items, made.0, (made.1.2.agrees, state))

pub add_entry-requires-clause-room : goal.add_entry-requires-clause-room
add_entry-requires-clause-room c =
    let some = c.requires.some in
    let list = without c.args.key.now some.1 in
    let removed = c.remove_key.ensures some.0 some.1 some.2 in
    let made = subst (HasMade c.args.conf.now c.args.ram.now c.remove_key.new.over c.make_room.new.over list c.args.moment c.in-Some.first) c.span_of.ensures
    (c.in-Some.ensures.list removed.items list removed.agrees) in
    put_room c.args.conf.now c.requires.conf c.args.ram.now c.args.over.now c.remove_key.new.over some.0 some.1 some.2 c.args.key.now c.args.value.now c.args.dies c.args.moment
    removed (c.requires.room some.0 some.1 some.2) c.requires.key c.requires.value c.make_room.new.over c.in-Some.first made

pub returns-clause-room : goal.returns-clause-room
returns-clause-room c =
    let some = c.requires.some in
    c.add_entry.ensures.costs.room ∙ c.make_room.ensures.room ∙ (c.remove_key.ensures some.0 some.1 some.2).costs.room

pub returns-clause-list : goal.returns-clause-list
returns-clause-list c = λ items list held.
    let others = without c.args.key.now list in
    let removed = c.remove_key.ensures items list held in
    let made = subst (HasMade c.args.conf.now c.args.ram.now c.remove_key.new.over c.make_room.new.over others c.args.moment c.in-Some.first) c.span_of.ensures
    (c.in-Some.ensures.list removed.items others removed.agrees) in
    let state = put_state c.args.conf.now c.requires.conf c.args.ram.now c.args.over.now c.remove_key.new.over items list held c.args.key.now c.args.value.now c.args.dies c.args.moment
    removed (c.requires.room items list held) c.requires.key c.requires.value c.make_room.new.over c.in-Some.first made in
    let e : Entry = record { key = c.args.key.now; value = c.args.value.now; dies = c.args.dies; first = c.in-Some.first } in
    let added = c.add_entry.ensures.list made.1.2.items made.0 made.1.2.agrees e refl state in (
      made.0,
      (
        made.1.0,
        entered c.args.conf.now c.requires.conf c.args.ram.now c.args.over.now c.remove_key.new.over items list held c.args.key.now c.args.value.now c.args.dies c.args.moment removed
            (c.requires.room items list held) c.requires.key c.requires.value c.make_room.new.over c.in-Some.first made c.add_entry.new.over added.0 added.1 c.add_entry.ensures.costs,
      ),
    )
