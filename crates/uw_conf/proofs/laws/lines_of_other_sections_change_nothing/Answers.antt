use Rattle.std.proofs.Common.{append_assoc}
use Rattle.uw_conf.proofs.OtherSectionLemmas.{said_replaced}
use Rattle.uw_conf.proofs.laws.lines_of_other_sections_change_nothing.Goals as goal

pub returns : goal.returns
returns c front others more back outside plain also same = rw (append_assoc, append_assoc) (said_replaced front others more back outside plain also same)
