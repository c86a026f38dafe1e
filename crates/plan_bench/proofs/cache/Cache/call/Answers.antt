use Rattle.uw_intent.specs.Stores.{AllMade}
use Rattle.uw_intent.specs.RedoRecord.{commit_writes}
use Rattle.plan_bench.proofs.Committed.{on_ok, still_idle}
use Rattle.plan_bench.proofs.cache.Cache.call.Goals as goal

pub invariant_of-self : goal.invariant_of-self
invariant_of-self c =
    let inside = c.self.inside in
    let plan = c.plan_call-answer.new.over in
    let made = on_ok c.commit.result (AllMade (commit_writes c.frame_of-frame.result plan.writes) inside.ram c.commit.new.ram _ _) c.commit.ensures.alive c.commit.ensures.all in
    still_idle inside.conf inside.ram inside.over c.self.invariant c.frame_of-frame.result c.shape_of.result c.frame_of-frame.ensures c.shape_of.ensures.parts 0 c.args.call.now plan c.clear.new.self
    c.commit.new.ram c.plan_call-answer.ensures.right made.words c.plan_call-answer.ensures.room c.clear.ensures

pub invariant_of-self-in-ValueOf : goal.invariant_of-self-in-ValueOf
invariant_of-self-in-ValueOf c =
    let inside = c.self.inside in
    let plan = c.plan_call-answer.new.over in
    let made = on_ok c.commit.result (AllMade (commit_writes c.frame_of-frame.result plan.writes) inside.ram c.commit.new.ram _ _) c.commit.ensures.alive c.commit.ensures.all in
    still_idle inside.conf inside.ram inside.over c.self.invariant c.frame_of-frame.result c.shape_of.result c.frame_of-frame.ensures c.shape_of.ensures.parts 0 c.args.call.now plan c.clear.new.self
    c.commit.new.ram c.plan_call-answer.ensures.right made.words c.plan_call-answer.ensures.room c.clear.ensures

pub invariant_of-self-2 : goal.invariant_of-self-2
invariant_of-self-2 c =
    let inside = c.self.inside in
    let plan = c.plan_call-answer.new.over in
    let made = on_ok c.commit.result (AllMade (commit_writes c.frame_of-frame.result plan.writes) inside.ram c.commit.new.ram _ _) c.commit.ensures.alive c.commit.ensures.all in
    still_idle inside.conf inside.ram inside.over c.self.invariant c.frame_of-frame.result c.shape_of.result c.frame_of-frame.ensures c.shape_of.ensures.parts 0 c.args.call.now plan c.clear.new.self
    c.commit.new.ram c.plan_call-answer.ensures.right made.words c.plan_call-answer.ensures.room c.clear.ensures
