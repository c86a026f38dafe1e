use Rattle.std.proofs.Common.{subst}
use Rattle.uw_plan.specs.CallSteps.{IsItemOf}
use Rattle.uw_plan.specs.KeyEntries.{entry_at}
use Rattle.uw_plan.proofs.Writing.{key_gone, key_in_use, key_room, key_unheld}
use Rattle.uw_plan.proofs.put.remove_key.Goals as goal

pub drop_entry-requires-clause-used : goal.drop_entry-requires-clause-used
drop_entry-requires-clause-used c =
    let some = c.requires.some in
    let found = subst (IsItemOf some.0 some.1 (entry_at some.1 c.args.key.now)) c.in-Some.is (c.item_of_key.ensures some.0 some.1 some.2) in
    key_in_use c.args.conf.now c.requires.conf c.args.ram.now c.args.over.now some.0 some.1 some.2 c.args.key.now c.in-Some.item found

pub drop_entry-requires-clause-room : goal.drop_entry-requires-clause-room
drop_entry-requires-clause-room c =
    let some = c.requires.some in
    let found = subst (IsItemOf some.0 some.1 (entry_at some.1 c.args.key.now)) c.in-Some.is (c.item_of_key.ensures some.0 some.1 some.2) in
    key_room c.args.conf.now c.requires.conf c.args.ram.now c.args.over.now some.0 some.1 some.2 c.args.key.now c.in-Some.item found (c.requires.room some.0 some.1 some.2)

pub returns-in-Some : goal.returns-in-Some
returns-in-Some c = λ items list held.
    let found = subst (IsItemOf items list (entry_at list c.args.key.now)) c.in-Some.is (c.item_of_key.ensures items list held) in
    key_gone c.args.conf.now c.requires.conf c.args.ram.now c.args.over.now items list held c.args.key.now c.in-Some.item found c.drop_entry.new.over
    (c.drop_entry.ensures.list items list found.0 held found.1.1) c.drop_entry.ensures.costs

pub returns-in_default : goal.returns-in_default
returns-in_default c = λ items list held.
    key_unheld c.args.conf.now c.requires.conf c.args.ram.now c.args.over.now items list held c.args.key.now
    (subst (IsItemOf items list (entry_at list c.args.key.now)) c.in_default.is (c.item_of_key.ensures items list held))
