-- There is an alive entry where it has a place.
use Rattle.std.proofs.Common.{◌∙◌}
use Rattle.uw_model.proofs.KeysLemmas.{is_some_place}
use Rattle.uw_model.proofs.steps.has_alive.Goals as goal

pub returns : goal.returns
returns c =
    c.is_some.ensures ∙ is_some_place c.args.conf.now c.args.entries.now c.args.moment c.args.key.now c.place_of_alive.result c.place_of_alive.ensures
