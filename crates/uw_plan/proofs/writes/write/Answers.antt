use Rattle.uw_plan.proofs.Calling.{has_entries, seen_agrees}
use Rattle.uw_plan.proofs.Setting.{write_room}
use Rattle.uw_plan.proofs.writes.write.Goals as goal

pub put_entry-requires-clause-some : goal.put_entry-requires-clause-some
put_entry-requires-clause-some c = has_entries c.args.conf.now c.args.ram.now c.args.over.now c.requires.ready

pub put_entry-requires-clause-room : goal.put_entry-requires-clause-room
put_entry-requires-clause-room c =
    write_room c.args.conf.now c.args.ram.now c.args.over.now c.requires.ready c.args.key.now c.args.value.now c.requires.key c.requires.value

pub returns-then-put_entry-clause-list : goal.returns-then-put_entry-clause-list
returns-then-put_entry-clause-list c = λ list agrees.
    c.if-put_entry.ensures.list agrees.items list (seen_agrees c.args.conf.now c.args.ram.now c.args.over.now c.requires.ready list agrees)

pub returns-clause-list : goal.returns-clause-list
returns-clause-list c = λ list agrees.
    c.if-put_entry.ensures.list agrees.items list (seen_agrees c.args.conf.now c.args.ram.now c.args.over.now c.requires.ready list agrees)
