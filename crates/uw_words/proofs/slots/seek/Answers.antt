use Rattle.std.proofs.Common.{◌≡◌, ◌+◌, ◌-◌, ◌<◌, ◌≤◌, ℕ, length, slice_index, arith, subst}
use Rattle.std.proofs.lemmas.Bool.Decides.{nat_tests}
use Rattle.uw_words.specs.Slots.{home, step_on}
use Rattle.uw_words.proofs.Tables.{Passed, ends_named, ends_free, passed_all}
use Rattle.uw_words.proofs.slots.seek.Goals as goal
use Rattle.uw_words.proofs.slots.seek.Goals.{then-step-ahead, else-step-ahead, then-number-eq0-via-then-number-eq0, then-number-eq0-via-else-number-eq0+then-plan-number}

-- the slot that the code reckons
ahead : (n from steps slot : ℕ) → from < n → steps < n - from → slot ≡ from + steps → step_on n from steps ≡ slot
ahead n from steps slot within short is = let below : from + steps < n = omega arith in grind (arith, nat_tests)

behind : (n from steps slot : ℕ) → from < n → n - from ≤ steps → slot ≡ steps - (n - from) → step_on n from steps ≡ slot
behind n from steps slot within long is = let above : n ≤ from + steps = omega arith in grind (arith, nat_tests)

pub returns-then-number-eq0 : goal.returns-then-number-eq0
returns-then-number-eq0 c =
    let slots = c.args.slots.now in
    let from = c.home_of-home.result in
    let steps = c.loop-step.step in
    let slot = c.if-step-ahead.slot in
    let at_step : step_on (length slots) from steps ≡ slot =
    elim c.if-step-ahead.branch [
      | then-step-ahead w ↦ ahead (length slots) from steps slot c.home_of-home.ensures.within w.if-step-ahead.true w.slot-is
      | else-step-ahead w ↦ behind (length slots) from steps slot c.home_of-home.ensures.within w.if-step-ahead.false w.slot-is
    ] in
    let within : slot < length slots = elim c.if-step-ahead.branch [ then-step-ahead w ↦ omega arith | else-step-ahead w ↦ omega arith ] in
    let here : step_on (length slots) (home (length slots) c.args.at) steps ≡ slot = subst (λ (h : ℕ). step_on (length slots) h steps ≡ slot) c.home_of-home.ensures.home at_step in
    elim c.then-number-eq0.branch [
      | then-number-eq0-via-then-number-eq0 w ↦
          ends_free c.args.plan.now slots c.args.at steps slot c.requires.table c.loop-step.invariant c.loop-step-test.true within here w.if-number-eq0.true
      | then-number-eq0-via-else-number-eq0+then-plan-number w ↦
          let number = slice_index slots slot in
          let some : number ≡ (number - 1) + 1 = omega (arith, w.if-number-eq0.false) in
          let planned : number - 1 < length c.args.plan.now = omega (arith, w.if-number-eq0.false, c.requires.table.numbers slot) in
          ends_named c.args.plan.now slots c.args.at steps slot (number - 1) c.loop-step.invariant c.loop-step-test.true within here some planned w.if-plan-number.true
    ]

pub returns : goal.returns
returns c =
    let all : c.loop-step.step ≡ length c.args.slots.now = omega arith in
    absurd (passed_all c.args.plan.now c.args.slots.now c.args.at c.requires.table c.requires.spare
    (subst (λ (h : ℕ). h < length c.args.slots.now) c.home_of-home.ensures.home c.home_of-home.ensures.within)
    (subst (λ (n : ℕ). Passed c.args.plan.now c.args.slots.now c.args.at n) all c.loop-step.invariant))
