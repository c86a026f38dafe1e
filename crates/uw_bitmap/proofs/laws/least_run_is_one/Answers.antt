use Rattle.std.proofs.Common.{⊎_elim, arith}
use Rattle.std.proofs.lemmas.Bool.{cases_lt}
use Rattle.uw_bitmap.proofs.laws.least_run_is_one.Goals as goal

pub returns : goal.returns
returns c = λ marked blocks n first second one other. ⊎_elim
    (λ before. absurd (other.least first before one.run))
    (λ behind. ⊎_elim (λ before. absurd (one.least second before other.run)) (λ same. omega (arith, behind, same)) (cases_lt second first))
    (cases_lt first second)
