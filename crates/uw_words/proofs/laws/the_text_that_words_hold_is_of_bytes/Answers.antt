use Rattle.uw_words.proofs.Copies.{text_of_bytes}
use Rattle.uw_words.proofs.laws.the_text_that_words_hold_is_of_bytes.Goals as goal

pub returns : goal.returns
returns c = text_of_bytes
