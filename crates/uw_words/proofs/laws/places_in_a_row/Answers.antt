use Rattle.uw_words.proofs.Growth.{in_row, row_has}
use Rattle.uw_words.proofs.laws.places_in_a_row.Goals as goal

pub returns : goal.returns
returns c = λ first count at. (in_row first count at, λ within. row_has first count at within.0 within.1)
