use Rattle.uw_top.specs.Pipe.{both_lead, list_leads}
use Rattle.uw_top.proofs.SameEndLemmas.{same_end}
use Rattle.uw_top.proofs.laws.bytes_tell_how_a_run_ends.Goals as goal

pub returns : goal.returns
returns g c = λ site start last begin finish allowed more src from snk into clock now other_clock other_now told said fault other bytes run again is same of too.
    same_end (both_lead list_leads) (both_lead list_leads) start last begin finish allowed more site src from snk into _ _ told said fault other bytes run again is same of
    too
