use Rattle.uw_words.proofs.Growth.{read_other}
use Rattle.uw_words.proofs.laws.other_places_are_read_as_before.Goals as goal

pub returns : goal.returns
returns c = read_other
