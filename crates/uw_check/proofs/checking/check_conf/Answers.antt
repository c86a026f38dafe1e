use Rattle.std.proofs.Common.{◌<◌, ◌≤◌, ℕ, List, [], ◌∷◌, ◌++◌, length, refl, sym, ap, subst, ◌∙◌, arith, inl, inr, Ok, Err}
use Rattle.std.proofs.lemmas.List.{length_push}
use Rattle.uw_conf.specs.declared.conf.ConfError.{ConfError}
use Rattle.uw_conf.specs.declared.conf.ConfError.TheVariants as errors
use Rattle.uw_conf.specs.declared.conf.ConfFault.{ConfFault}
use Rattle.uw_conf.specs.Given.{ReadsConf}
use Rattle.uw_check.specs.Checking.{HaveLines, LedBy, TellsRefused, without_line}
use Rattle.uw_check.proofs.CheckLemmas.{led_more, lines_more}
use Rattle.uw_check.proofs.checking.check_conf.Goals as goal

pub returns-in-Ok-clause-checks : goal.returns-in-Ok-clause-checks
returns-in-Ok-clause-checks g c =
    let before = g.M.Patterns.faults c.readings.make in
    let after = g.M.Patterns.faults c.read_conf.new.make in
    record {
      some = omega (arith, c.len-in-Ok.ensures);
      few = c.readings.invariant.few;
      left = c.readings.left;
      middle = before;
      led = c.readings.invariant.led;
      ends =
          inr (inr (
            c.readings.invariant.lines,
            (c.in-Ok.conf, subst (λ (text : List ℕ). ReadsConf text before after (Ok c.in-Ok.conf)) c.as_slice.ensures c.in-Ok.ensures.says),
          ));
    }

pub returns-then-fault-eq0-clause-checks : goal.returns-then-fault-eq0-clause-checks
returns-then-fault-eq0-clause-checks g c =
    let start = g.M.Patterns.faults c.args.make.now in
    let before = g.M.Patterns.faults c.readings.make in
    let after = g.M.Patterns.faults c.read_conf.new.make in
    let told = c.readings.told in
    let fault = c.in-Err-Refused.fault in
    let left = c.readings.left in
    let reads : ReadsConf left before after (Err (errors.Refused fault)) =
    subst (λ (error : ConfError). ReadsConf left before after (Err error)) c.in-Err-Refused.field-0-is
    (subst (λ (text : List ℕ). ReadsConf text before after (Err c.in-Err-Refused.field-0)) c.as_slice.ensures c.in-Err-Refused.ensures.says)
    in
    let grown : length (told ++ fault ∷ []) ≤ 50 = omega (arith, length_push told fault, c.len.ensures) in
    subst (λ (faults : List ConfFault). TellsRefused c.args.text.now start after faults) (sym c.in_ok-push-in-Err-Refused.ensures.ok)
    (record {
      some = omega (arith, length_push told fault);
      few = grown;
      left = without_line fault.line left;
      middle = after;
      led = led_more told c.args.text.now start left before after fault c.readings.invariant.led reads;
      ends =
          inr (inl (
            record { front = told; last = fault; parts = refl; lines = c.readings.invariant.lines; whole = c.if-fault-eq0.true },
            refl,
          ));
    })

pub readings-preserved : goal.readings-preserved
readings-preserved g c =
    let start = g.M.Patterns.faults c.args.make.now in
    let before = g.M.Patterns.faults c.readings.make in
    let after = g.M.Patterns.faults c.read_conf.new.make in
    let told = c.readings.told in
    let fault = c.in-Err-Refused.fault in
    let left = c.readings.left in
    let reads : ReadsConf left before after (Err (errors.Refused fault)) =
    subst (λ (error : ConfError). ReadsConf left before after (Err error)) c.in-Err-Refused.field-0-is
    (subst (λ (text : List ℕ). ReadsConf text before after (Err c.in-Err-Refused.field-0)) c.as_slice.ensures c.in-Err-Refused.ensures.says)
    in
    let pushed = sym c.in_ok-push-in-Err-Refused.ensures.ok in
    let shorter = c.in_ok-left-in-Err-Refused.ensures.left ∙ ap (λ (text : List ℕ). without_line fault.line text) c.as_slice-in-Err-Refused.ensures in
    let led : LedBy (told ++ fault ∷ []) c.args.text.now start (without_line fault.line left) after =
    led_more told c.args.text.now start left before after fault c.readings.invariant.led reads
    in
    let grown : length (told ++ fault ∷ []) ≤ 50 = omega (arith, length_push told fault, c.len.ensures) in
    record {
      led =
          subst (λ (faults : List ConfFault). LedBy faults c.args.text.now start c.in_ok-left-in-Err-Refused.left after) pushed
          (subst (λ (text : List ℕ). LedBy (told ++ fault ∷ []) c.args.text.now start text after) (sym shorter) led);
      lines = subst HaveLines pushed (lines_more told fault c.readings.invariant.lines (omega (arith, c.if-fault-eq0.false)));
      few = subst (λ (faults : List ConfFault). length faults ≤ 50) pushed grown;
      short = omega (arith, c.in_ok-left-in-Err-Refused.ensures.shorter, ap length c.as_slice-in-Err-Refused.ensures, c.readings.invariant.short);
    }
