-- Readings one after the other.
use Rattle.std.proofs.Common.{◌≡◌, ℕ, ◌<◌, List, [], ◌∷◌, ◌++◌, length, refl, sym, subst, arith, Result, Ok, Err}
use Rattle.uw_conf.specs.declared.conf.Conf.{Conf}
use Rattle.uw_conf.specs.declared.conf.ConfError.{ConfError}
use Rattle.uw_conf.specs.declared.conf.ConfError.TheVariants as errors
use Rattle.uw_conf.specs.declared.conf.ConfFault.{ConfFault}
use Rattle.uw_conf.specs.Given.{ReadsConf}
use Rattle.uw_check.specs.Checking.{HaveLines, LedBy, without_line}

-- one more reading behind others
pub led_more : (faults : List ConfFault) (text : List ℕ) (before : ℕ) (left : List ℕ) (middle after : ℕ) (fault : ConfFault) → LedBy faults text before left middle → ReadsConf left middle after (Err (errors.Refused fault)) → LedBy (faults ++ fault ∷ []) text before (without_line fault.line left) after
led_more [] text before left middle after fault led more = (
  after,
  subst (λ (start : ℕ). ReadsConf text start after (Err (errors.Refused fault))) led.1
      (subst (λ (whole : List ℕ). ReadsConf whole middle after (Err (errors.Refused fault))) led.0 more),
  (subst (λ (whole : List ℕ). without_line fault.line left ≡ without_line fault.line whole) led.0 refl, refl),
)
led_more (first ∷ faults) text before left middle after fault led more =
    (led.0, led.1, led_more faults (without_line first.line text) led.0 left middle after fault led.2 more)

-- a reading behind none
pub led_by_none : (faults : List ConfFault) (text : List ℕ) (before : ℕ) (left : List ℕ) (middle after : ℕ) (r : Result Conf ConfError) → length faults ≡ 0 → LedBy faults text before left middle → ReadsConf left middle after r → ReadsConf text before after r
led_by_none [] text before left middle after r none led reads =
    subst (λ (start : ℕ). ReadsConf text start after r) led.1 (subst (λ (whole : List ℕ). ReadsConf whole middle after r) led.0 reads)
led_by_none (first ∷ faults) text before left middle after r none led reads = absurd (omega (arith, none))

-- one more line behind others
pub lines_more : (faults : List ConfFault) (fault : ConfFault) → HaveLines faults → 0 < fault.line → HaveLines (faults ++ fault ∷ [])
lines_more [] fault have here = (here, have)
lines_more (first ∷ faults) fault have here = (have.0, lines_more faults fault have.1 here)
