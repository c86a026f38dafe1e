use Rattle.uw_area.proofs.Standing.{one_area}
use Rattle.uw_area.proofs.laws.words_agree_with_one_area.Goals as goal

pub returns : goal.returns
returns c size words area other agrees also = one_area size words area other agrees also
