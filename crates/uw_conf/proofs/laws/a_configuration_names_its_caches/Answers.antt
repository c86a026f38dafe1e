use Rattle.uw_conf.proofs.RoutePartLemmas.{names_areas, names_caches}
use Rattle.uw_conf.proofs.laws.a_configuration_names_its_caches.Goals as goal

pub returns-clause-caches : goal.returns-clause-caches
returns-clause-caches c = names_caches

pub returns-clause-areas : goal.returns-clause-areas
returns-clause-areas c = names_areas
