use Rattle.std.proofs.Common.{◌≢◌, Bool, is_ok, refl, subst, ◌++◌, [], ◌∷◌, ◌∙◌}
use Rattle.uw_outside.specs.Lives.{Allows}
use Rattle.uw_words.specs.Plans.{region}
use Rattle.uw_intent.specs.RedoRecord.{IsRecord, closing}
use Rattle.uw_intent.proofs.Progress.{still_alive, same_deaths}
use Rattle.uw_intent.proofs.Repairs.{open_gate, open_record, repairs_open, run_repairs, walk_on, closed_all, closed_none}
use Rattle.uw_intent.proofs.Recoveries.{left_intact, left_same}
use Rattle.uw_intent.proofs.Outcomes.{Made, made_by}
use Rattle.uw_intent.proofs.recovery.recover.Given.{Over}
use Rattle.uw_intent.proofs.recovery.recover.Goals as goal
use Rattle.uw_intent.proofs.recovery.recover.Goals.{After-store-2}

pub loop-write-preserved : goal.loop-write-preserved
loop-write-preserved g c =
    let frame = c.args.frame.now in
    let old = c.args.ram.now in
    let gate : region old frame.gate ≢ 0 = open_gate (region old frame.gate) c.is_pending.result c.if-not-is_pending.false c.is_pending.ensures in
    let record_ : IsRecord frame old = open_record frame old c.requires.intact gate in
    let allows = c.in_ok-store.ensures.told in
    record {
      walked = walk_on frame old (g.L.Life.allowances c.args.life.now) c.loop-write.ram (g.L.Life.allowances c.loop-write.life) c.loop-write.cursor c.loop-write.invariant.walked
          c.store.new.self (g.L.Life.allowances c.store.new.life) c.step.new.self c.in-Some.write record_ c.in-Some.ensures.some c.step.ensures.runs c.step.ensures.end c.step.ensures.next
          c.in_ok-store.ensures.stored (allows.counted refl);
      alive = still_alive (g.L.Life.alive c.loop-write.life) (g.L.Life.alive c.store.new.life) c.loop-write.invariant.alive c.in_ok-store.ensures.alive;
      deaths =
          same_deaths (g.L.Life.alive c.loop-write.life) (g.L.Life.deaths c.args.life.now) (g.L.Life.deaths c.loop-write.life) (g.L.Life.deaths c.store.new.life)
          c.loop-write.invariant.alive c.in_ok-store.ensures.cause c.loop-write.invariant.deaths;
    }

pub returns-clause-all : goal.returns-clause-all
returns-clause-all g c =
    let frame = c.args.frame.now in
    let old = c.args.ram.now in
    let gate : region old frame.gate ≢ 0 = open_gate (region old frame.gate) c.is_pending.result c.if-not-is_pending.false c.is_pending.ensures in
    let allows = subst (λ (b : Bool). Allows (g.L.Life.allowances c.loop-write.life) (g.L.Life.allowances c.store-2.new.life) b (is_ok c.store-2.result)) c.loop-write.invariant.alive c.store-2.ensures.told in
    rw (repairs_open frame old gate)
    (closed_all frame old (g.L.Life.allowances c.args.life.now) c.loop-write.ram (g.L.Life.allowances c.loop-write.life) c.loop-write.cursor c.loop-write.invariant.walked c.in_default.ensures.none
    c.store-2.new.self (g.L.Life.allowances c.store-2.new.life) c.store-2.result c.store-2.ensures.stored allows)

pub returns-in_err-store-clause-intact : goal.returns-in_err-store-clause-intact
returns-in_err-store-clause-intact g c =
    let frame = c.args.frame.now in
    let old = c.args.ram.now in
    let gate : region old frame.gate ≢ 0 = open_gate (region old frame.gate) c.is_pending.result c.if-not-is_pending.false c.is_pending.ensures in
    let walked = c.loop-write.invariant.walked in
    left_intact frame old c.store.new.self walked.count c.requires.frame c.requires.intact gate (c.in_err-store.ensures.refused ∙ walked.so_far.words)

pub returns-in_err-store-clause-same : goal.returns-in_err-store-clause-same
returns-in_err-store-clause-same g c =
    let frame = c.args.frame.now in
    let old = c.args.ram.now in
    let gate : region old frame.gate ≢ 0 = open_gate (region old frame.gate) c.is_pending.result c.if-not-is_pending.false c.is_pending.ensures in
    let walked = c.loop-write.invariant.walked in
    left_same frame old c.store.new.self walked.count c.requires.frame c.requires.intact gate (c.in_err-store.ensures.refused ∙ walked.so_far.words)

-- the words that are left where the gate was closed or not
left : (g : Over) (c : After-store-2 g) → Made (run_repairs c.args.frame.now c.args.ram.now ++ closing c.args.frame.now ∷ []) c.args.ram.now c.store-2.new.self
left g c =
    let frame = c.args.frame.now in
    let old = c.args.ram.now in
    let told = g.L.Life.allowances c.args.life.now in
    let before = g.L.Life.allowances c.loop-write.life in
    let after = g.L.Life.allowances c.store-2.new.life in
    let walked = c.loop-write.invariant.walked in
    let allows = subst (λ (b : Bool). Allows before after b (is_ok c.store-2.result)) c.loop-write.invariant.alive c.store-2.ensures.told in
    made_by (run_repairs frame old ++ closing frame ∷ []) old c.store-2.new.self told after c.store-2.result
    (closed_all frame old told c.loop-write.ram before c.loop-write.cursor walked c.in_default.ensures.none c.store-2.new.self after c.store-2.result c.store-2.ensures.stored allows)
    (closed_none frame old told c.loop-write.ram before c.loop-write.cursor walked c.in_default.ensures.none c.store-2.new.self after c.store-2.result c.store-2.ensures.refused allows)

pub returns-clause-intact : goal.returns-clause-intact
returns-clause-intact g c =
    let frame = c.args.frame.now in
    let old = c.args.ram.now in
    let gate : region old frame.gate ≢ 0 = open_gate (region old frame.gate) c.is_pending.result c.if-not-is_pending.false c.is_pending.ensures in
    let words_after = left g c in
    left_intact frame old c.store-2.new.self words_after.count c.requires.frame c.requires.intact gate words_after.words

pub returns-clause-same : goal.returns-clause-same
returns-clause-same g c =
    let frame = c.args.frame.now in
    let old = c.args.ram.now in
    let gate : region old frame.gate ≢ 0 = open_gate (region old frame.gate) c.is_pending.result c.if-not-is_pending.false c.is_pending.ensures in
    let words_after = left g c in
    left_same frame old c.store-2.new.self words_after.count c.requires.frame c.requires.intact gate words_after.words
