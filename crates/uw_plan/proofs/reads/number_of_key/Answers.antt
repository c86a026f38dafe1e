use Rattle.uw_model.specs.Calls.{alive_at}
use Rattle.uw_words.specs.Parts.{seen}
use Rattle.uw_plan.proofs.Calling.{has_entries, seen_agrees}
use Rattle.uw_plan.proofs.Setting.{used_found}
use Rattle.uw_plan.proofs.reads.number_of_key.Goals as goal

pub alive_item-item-requires-clause-some : goal.alive_item-item-requires-clause-some
alive_item-item-requires-clause-some c = has_entries c.args.conf.now c.args.ram.now c.args.over.now c.requires

pub number_found-requires-clause-used : goal.number_found-requires-clause-used
number_found-requires-clause-used c =
    let conf = c.args.conf.now in
    let some = has_entries conf c.args.ram.now c.args.over.now c.requires in
    used_found (seen c.args.over.now c.args.ram.now) conf some.0 some.1 (alive_at conf some.1 c.args.moment c.args.key.now) c.alive_item-item.result some.2
    (c.alive_item-item.ensures some.0 some.1 some.2)

pub returns : goal.returns
returns c = λ list agrees.
    let conf = c.args.conf.now in
    let held = seen_agrees conf c.args.ram.now c.args.over.now c.requires list agrees in
    c.number_found.ensures agrees.items list (alive_at conf list c.args.moment c.args.key.now) held (c.alive_item-item.ensures agrees.items list held)
