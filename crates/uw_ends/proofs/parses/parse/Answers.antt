use Rattle.clap.proofs.WalkLemmas.{both}
use Rattle.uw_ends.proofs.parses.parse.Goals as goal

pub returns-in-Ok-clause-found : goal.returns-in-Ok-clause-found
returns-in-Ok-clause-found c = (c.in-Ok.ensures.matches (both _ _ c.requires).0).0
