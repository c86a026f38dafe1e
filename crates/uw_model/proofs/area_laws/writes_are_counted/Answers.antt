use Rattle.std.proofs.Common.{refl}
use Rattle.uw_model.specs.AreaOps.{area_answer}
use Rattle.uw_model.proofs.AreaLemmas.{writes_counted}
use Rattle.uw_model.proofs.area_laws.writes_are_counted.Goals as goal

pub returns-clause-raised : goal.returns-clause-raised
returns-clause-raised c = writes_counted

pub returns-clause-told : goal.returns-clause-told
unfolding area_answer
returns-clause-told c a = refl
