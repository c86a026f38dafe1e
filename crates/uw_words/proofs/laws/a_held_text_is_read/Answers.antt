use Rattle.uw_words.proofs.Copies.{held_text}
use Rattle.uw_words.proofs.laws.a_held_text_is_read.Goals as goal

pub returns : goal.returns
returns c = held_text
