-- The keys of a state are apart.
use Rattle.uw_model.proofs.StateLemmas.{keys_of_state}
use Rattle.uw_model.proofs.steps.get.Goals as goal

pub touch-requires-clause-keys : goal.touch-requires-clause-keys
touch-requires-clause-keys c = keys_of_state c.args.conf.now c.args.entries.now.items c.requires
