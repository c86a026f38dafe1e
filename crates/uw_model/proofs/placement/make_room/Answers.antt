-- The alive ones of entries that the configuration can hold are such entries.
use Rattle.std.proofs.lemmas.List.Elements.{All-filter}
use Rattle.uw_model.specs.Entries.{IsEntry}
use Rattle.uw_model.specs.Placement.{is_alive}
use Rattle.uw_model.proofs.placement.make_room.Goals as goal

pub returns-in-Some-run_beside-clause-entries : goal.returns-in-Some-run_beside-clause-entries
returns-in-Some-run_beside-clause-entries c =
    let conf = c.args.conf.now in
    rw c.keep_alive.ensures.alive (All-filter (is_alive conf c.args.moment) (IsEntry conf) c.args.entries.now.items c.requires.entries)
