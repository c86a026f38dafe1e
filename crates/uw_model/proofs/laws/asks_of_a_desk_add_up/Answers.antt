use Rattle.std.proofs.lemmas.List.{map-append}
use Rattle.std.proofs.lemmas.List.Elements.{filter-append}
use Rattle.uw_model.proofs.laws.asks_of_a_desk_add_up.Goals as goal

pub returns-clause-of_desk : goal.returns-clause-of_desk
returns-clause-of_desk c early late = simp filter-append

pub returns-clause-answered : goal.returns-clause-answered
returns-clause-answered c moment early late = simp map-append
