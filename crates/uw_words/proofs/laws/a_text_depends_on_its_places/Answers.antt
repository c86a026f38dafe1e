use Rattle.uw_words.proofs.Copies.{text_same}
use Rattle.uw_words.proofs.laws.a_text_depends_on_its_places.Goals as goal

pub returns : goal.returns
returns c = text_same
