use Rattle.uw_model.proofs.AreaLemmas.{bytes_read_back, number_read_back}
use Rattle.uw_model.proofs.area_laws.written_is_read.Goals as goal

pub returns-clause-bytes : goal.returns-clause-bytes
returns-clause-bytes c = bytes_read_back

pub returns-clause-number : goal.returns-clause-number
returns-clause-number c = number_read_back
