use Rattle.uw_model.proofs.AreaLemmas.{decrement_taken_back, increment_taken_back}
use Rattle.uw_model.proofs.area_laws.increment_is_taken_back.Goals as goal

pub returns-clause-down : goal.returns-clause-down
returns-clause-down c = increment_taken_back

pub returns-clause-up : goal.returns-clause-up
returns-clause-up c = decrement_taken_back
