use Rattle.uw_words.proofs.Copies.{told_apart}
use Rattle.uw_words.proofs.laws.texts_are_told_apart_by_their_words.Goals as goal

pub returns : goal.returns
returns c = told_apart
