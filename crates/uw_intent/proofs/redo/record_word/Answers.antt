use Rattle.std.proofs.Common.{◌≡◌, ℕ, ◌+◌, ◌*◌, ◌/◌, get_or, sym, ap, ◌∙◌, arith}
use Rattle.std.proofs.lemmas.Option.{get_or_from_slice_get}
use Rattle.uw_intent.specs.RedoRecord.{runs_of}
use Rattle.uw_intent.proofs.Listed.{runs_of-at}
use Rattle.uw_intent.proofs.redo.record_word.Goals as goal
use Rattle.uw_intent.proofs.redo.record_word.Goals.{After-nth-at}

planned : (c : After-nth-at) → get_or c.args.plan.now.writes (c.args.k / 3) (0, 0) ≡ c.nth-at.result
planned c = get_or_from_slice_get c.args.plan.now.writes (c.args.k / 3) c.nth-at.result (0, 0) c.nth-at.ensures

pub returns-in-0 : goal.returns-in-0
returns-in-0 c =
    let at = (goal.at.returns-in-0 c).After-nth-at in
    let plan = c.args.plan.now.writes in
    let q = c.args.k / 3 in
    let run = runs_of-at plan q (omega arith) in
    let place : 3 * q ≡ c.args.k = omega (arith, c.in-0.is) in
    sym (ap (λ (i : ℕ). get_or (runs_of plan) i 0) (sym place) ∙ run.0 ∙ ap (λ (p : ℕ × ℕ). p.0) (planned at))

pub returns-in-1 : goal.returns-in-1
returns-in-1 c =
    let plan = c.args.plan.now.writes in
    let q = c.args.k / 3 in
    let run = runs_of-at plan q (omega arith) in
    let place : 3 * q + 1 ≡ c.args.k = omega (arith, c.in-1.is) in
    sym (ap (λ (i : ℕ). get_or (runs_of plan) i 0) (sym place) ∙ run.1)

pub returns-in_default : goal.returns-in_default
returns-in_default c =
    let at = (goal.at.returns-in_default c).After-nth-at in
    let plan = c.args.plan.now.writes in
    let q = c.args.k / 3 in
    let run = runs_of-at plan q (omega arith) in
    let place : 3 * q + 2 ≡ c.args.k = omega (arith, c.in_default) in
    sym (ap (λ (i : ℕ). get_or (runs_of plan) i 0) (sym place) ∙ run.2 ∙ ap (λ (p : ℕ × ℕ). p.1) (planned at))
