use Rattle.uw_words.proofs.Growth.{read_grown}
use Rattle.uw_words.proofs.laws.growth_leaves_other_places.Goals as goal

pub returns : goal.returns
returns c = read_grown
