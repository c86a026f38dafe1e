use Rattle.uw_words.proofs.Links.{counted_is}
use Rattle.uw_words.proofs.laws.counted_walk_gives_the_walk.Goals as goal

pub returns : goal.returns
returns c = λ shape reader link field count items is walk short. counted_is shape is reader field items link count walk short
