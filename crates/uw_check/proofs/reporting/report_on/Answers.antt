use Rattle.std.proofs.Common.{refl, subst, inl, Ok}
use Rattle.uw_check.specs.declared.checked.Checked.{Checked}
use Rattle.uw_check.specs.Checking.{Checks}
use Rattle.uw_check.proofs.reporting.report_on.Goals as goal

pub returns-in_ok-taken_text-in-Taken : goal.returns-in_ok-taken_text-in-Taken
returns-in_ok-taken_text-in-Taken g c =
    let before = g.M.Patterns.faults c.args.make.now in
    let after = g.M.Patterns.faults c.check_conf.new.make in
    let said = c.in_ok-taken_text-in-Taken.ensures in
    inl (record {
      conf = c.in-Taken.conf;
      taken = subst (λ (found : Checked). Checks c.args.text.now before after (Ok found)) c.in-Taken.is c.in_ok-conf.ensures.checks;
      rest = said.0;
      says = said.1;
      status = refl;
    })
