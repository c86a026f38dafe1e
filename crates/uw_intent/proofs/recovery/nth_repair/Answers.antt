use Rattle.std.proofs.Common.{◌≡◌, ◌≢◌, ◌+◌, ◌-◌, ℕ, ◌∷◌, [], ◌++◌, drop, sym, ap, ◌∙◌, arith}
use Rattle.uw_words.specs.Plans.{region}
use Rattle.uw_intent.specs.RedoRecord.{closing}
use Rattle.uw_intent.specs.CursorSteps.{writes_ahead}
use Rattle.uw_intent.proofs.Repairs.{open_gate, run_repairs, repairs_open, drop_next, drop_end, numbered_past, number_ahead, length_more}
use Rattle.uw_intent.proofs.recovery.nth_repair.Goals as goal

pub returns-in_err-step : goal.returns-in_err-step
returns-in_err-step c =
    let frame = c.args.frame.now in
    let ram = c.args.ram.now in
    let gate : region ram frame.gate ≢ 0 = open_gate (region ram frame.gate) c.is_pending.result c.if-not-is_pending.false c.is_pending.ensures in
    let end = drop_end (run_repairs frame ram) (c.loop.counter - 1) (c.loop.invariant.ahead ∙ c.in_err-step.ensures.none) in
    rw c.from_residual.ensures
    (rw (repairs_open frame ram gate)
    (numbered_past (run_repairs frame ram ++ closing frame ∷ []) c.args.n (omega (arith, end, length_more (run_repairs frame ram) (closing frame)))))

pub loop-preserved : goal.loop-preserved
loop-preserved c =
    let frame = c.args.frame.now in
    let ram = c.args.ram.now in
    let next = drop_next (run_repairs frame ram) (c.loop.counter - 1) c.in_ok-step.field-0 (writes_ahead c.step.new.self ram) (c.loop.invariant.ahead ∙ c.in_ok-step.ensures.some) in
    let count : c.loop.counter - 1 + 1 ≡ c.loop.counter + 1 - 1 = omega (arith, c.loop.invariant.first) in
    record {
      first = omega arith;
      runs = c.step.ensures.runs;
      within = omega (arith, next.2);
      ahead = ap (λ (n : ℕ). drop n (run_repairs frame ram)) (sym count) ∙ next.1;
    }

pub returns : goal.returns
returns c =
    let frame = c.args.frame.now in
    let ram = c.args.ram.now in
    let gate : region ram frame.gate ≢ 0 = open_gate (region ram frame.gate) c.is_pending.result c.if-not-is_pending.false c.is_pending.ensures in
    let at : c.loop.counter ≡ c.args.n = omega arith in
    rw (repairs_open frame ram gate)
    (rw c.unwrap_or.ensures
    (number_ahead (run_repairs frame ram) (writes_ahead c.loop.cursor ram) (writes_ahead c.step-2.new.self ram) (closing frame) c.args.n c.step-2.result
    (omega arith) (omega (arith, at, c.loop.invariant.within)) (ap (λ (n : ℕ). drop (n - 1) (run_repairs frame ram)) (sym at) ∙ c.loop.invariant.ahead) c.step-2.ensures.some c.step-2.ensures.none))
