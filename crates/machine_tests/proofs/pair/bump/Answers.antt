use Rattle.machine_tests.proofs.PairLemmas.{bump_made, bump_stands, bump_broken, broken_stands, made_frame}
use Rattle.machine_tests.proofs.pair.bump.Goals as goal

pub is_pending-requires : goal.is_pending-requires
is_pending-requires g c = made_frame c.args.ram.now c.commit.new.ram _ _ _ c.requires.pair.0 c.requires.pair.1 c.in-Err.ensures.part

pub returns-in-Ok-clause-made : goal.returns-in-Ok-clause-made
returns-in-Ok-clause-made g c number pair =
    let plan = c.plan_bump-number in
    bump_made c.args.ram.now c.commit.new.ram _ _ _ plan.result number plan.ensures.number plan.ensures.planned pair c.in-Ok.ensures.all

pub returns-in-Ok-clause-stands : goal.returns-in-Ok-clause-stands
returns-in-Ok-clause-stands g c number pair =
    let plan = c.plan_bump-number in
    bump_stands c.args.ram.now c.commit.new.ram _ _ _ plan.result number plan.ensures.number plan.ensures.planned pair c.in-Ok.ensures.all

pub returns-in-Err-clause-made : goal.returns-in-Err-clause-made
returns-in-Err-clause-made g c number pair =
    let plan = c.plan_bump-number in
    bump_broken c.args.ram.now c.commit.new.ram _ _ _ plan.result number plan.ensures.number plan.ensures.planned pair c.in-Err.ensures.part c.is_pending.result
    c.is_pending.ensures

pub returns-in-Err-clause-stands : goal.returns-in-Err-clause-stands
returns-in-Err-clause-stands g c number pair =
    let plan = c.plan_bump-number in
    broken_stands c.args.ram.now c.commit.new.ram _ _ _ plan.result number plan.ensures.number plan.ensures.planned pair c.in-Err.ensures.part
    c.is_pending.result c.is_pending.ensures

pub returns-in-Err-clause-standing : goal.returns-in-Err-clause-standing
returns-in-Err-clause-standing g c = record { number = _; stands = returns-in-Err-clause-stands g c c.requires.pair.0 c.requires.pair.1 }
