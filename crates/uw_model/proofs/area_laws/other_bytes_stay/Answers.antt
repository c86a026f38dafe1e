use Rattle.uw_model.proofs.AreaLemmas.{bytes_stay, read_same, size_stays}
use Rattle.uw_model.proofs.area_laws.other_bytes_stay.Goals as goal

pub returns-clause-size : goal.returns-clause-size
returns-clause-size c = size_stays

pub returns-clause-bytes : goal.returns-clause-bytes
returns-clause-bytes c = bytes_stay

pub returns-clause-read : goal.returns-clause-read
returns-clause-read c = read_same
