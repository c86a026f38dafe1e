use Rattle.uw_area.proofs.Standing.{area_local}
use Rattle.uw_area.proofs.laws.an_area_depends_on_words_beyond_its_record.Goals as goal

pub returns : goal.returns
returns c = area_local
