use Rattle.uw_plan.proofs.Agreeing.{regions_local}
use Rattle.uw_plan.proofs.laws.a_region_depends_on_words_beyond_its_record.Goals as goal

pub returns : goal.returns
returns c = regions_local
