use Rattle.uw_items.proofs.Held.{words_off_free}
use Rattle.uw_items.proofs.laws.item_words_are_apart_from_the_free_list.Goals as goal

pub returns : goal.returns
returns c = words_off_free
