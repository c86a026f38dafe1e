use Rattle.uw_items.proofs.Held.{words_within}
use Rattle.uw_items.proofs.laws.item_words_are_within.Goals as goal

pub returns : goal.returns
returns c = words_within
