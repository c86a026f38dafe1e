use Rattle.std.proofs.Common.{sym, ◌≡◌, Bool, take, ℕ, ◌+◌, ◌-◌, ◌<◌, false, length, Some, ap, refl, ◌∙◌, subst, arith}
use Rattle.std.specs.List.{slice_get}
use Rattle.std.proofs.lemmas.List.Elements.{All-get_or}
use Rattle.std.proofs.lemmas.Option.{slice_get_within, get_or_from_slice_get}
use Rattle.uw_outside.specs.Lives.{Allows}
use Rattle.uw_intent.specs.declared.frame.WordWrite.{WordWrite}
use Rattle.uw_intent.specs.RedoRecord.{commit_writes, IsIntact}
use Rattle.uw_intent.proofs.Commits.{keeps_intact}
use Rattle.uw_intent.proofs.Listed.{numbered_some, numbered_none, commit_within, length-commit_writes, some}
use Rattle.uw_intent.proofs.Progress.{still_alive, same_deaths, SoFar, length-made, one_more, no_more, all_made}
use Rattle.uw_intent.proofs.redo.commit.Goals as goal
use Rattle.uw_intent.proofs.redo.commit.Goals.{In-Some}
use Rattle.uw_intent.proofs.redo.commit.Given.{Over}
use Rattle.std.proofs.lemmas.Result.{err_from_is_err_and}

next : (g : Over) (c : In-Some g) → slice_get (commit_writes c.args.frame.now c.args.plan.now.writes) (c.loop-write.n - 1) ≡ Some c.in-Some.write
next g c = numbered_some (commit_writes c.args.frame.now c.args.plan.now.writes) c.loop-write.n c.in-Some.write c.loop-write.invariant.first c.in-Some.ensures

pub store-requires : goal.store-requires
store-requires g c =
    let frame = c.args.frame.now in
    let plan = c.args.plan.now.writes in
    let writes = commit_writes frame plan in
    let next = next g (goal.at.store-requires g c).In-Some in
    let all = commit_within frame (length c.args.ram.now) plan c.requires.frame c.requires.fit in
    let at = All-get_or (λ (write : WordWrite). write.at < length c.args.ram.now) writes (c.loop-write.n - 1) c.in-Some.write (slice_get_within writes (c.loop-write.n - 1) c.in-Some.write next) all in
    let here : c.in-Some.write.at < length c.args.ram.now = subst (λ (write : WordWrite). write.at < length c.args.ram.now) (get_or_from_slice_get writes (c.loop-write.n - 1) c.in-Some.write c.in-Some.write next) at in
    let len : length c.loop-write.ram ≡ length c.args.ram.now = ap length c.loop-write.invariant.so_far.words ∙ length-made (take (c.loop-write.n - 1) writes) c.args.ram.now in
    omega (arith, here, len)

pub returns-in_err-store-clause-part : goal.returns-in_err-store-clause-part
returns-in_err-store-clause-part g c =
    let writes = commit_writes c.args.frame.now c.args.plan.now.writes in
    let p = err_from_is_err_and c.from_residual.result c.from_residual.ensures.1 in
    let allows = subst (λ (b : Bool). Allows (g.L.Life.allowances c.loop-write.life) (g.L.Life.allowances c.store.new.life) b false) c.loop-write.invariant.alive c.in_err-store.ensures.told in
    rw p.1
    (no_more writes c.args.ram.now (g.L.Life.allowances c.args.life.now) c.loop-write.ram c.store.new.self (g.L.Life.allowances c.loop-write.life) (g.L.Life.allowances c.store.new.life) (c.loop-write.n - 1)
    c.in-Some.write c.loop-write.invariant.so_far (next g (goal.at.returns-in_err-store-clause-part g c).In-Some) c.in_err-store.ensures.refused allows)

pub overflow_add-n : goal.overflow_add-n
overflow_add-n g c =
    let frame = c.args.frame.now in
    let plan = c.args.plan.now.writes in
    let writes = commit_writes frame plan in
    let within = slice_get_within writes (c.loop-write.n - 1) c.in-Some.write (next g (goal.at.overflow_add-n g c).In-Some) in
    record { fits = omega (arith, within, length-commit_writes frame plan (some frame plan (omega arith)), c.requires.fit.room, c.requires.frame.within, c.len-len.ensures.len, c.len-len.ensures.small) }

pub loop-write-smaller : goal.loop-write-smaller
loop-write-smaller g c =
    let writes = commit_writes c.args.frame.now c.args.plan.now.writes in
    omega (arith, slice_get_within writes (c.loop-write.n - 1) c.in-Some.write (next g (goal.at.loop-write-smaller g c).In-Some))

pub loop-write-preserved : goal.loop-write-preserved
loop-write-preserved g c =
    let writes = commit_writes c.args.frame.now c.args.plan.now.writes in
    let allows = c.in_ok-store.ensures.told in
    let more = one_more writes c.args.ram.now (g.L.Life.allowances c.args.life.now) c.loop-write.ram c.store.new.self (g.L.Life.allowances c.loop-write.life) (g.L.Life.allowances c.store.new.life) (c.loop-write.n - 1)
    c.in-Some.write c.loop-write.invariant.so_far (next g (goal.at.loop-write-preserved g c).In-Some) c.in_ok-store.ensures.stored (allows.counted refl) in
    let count : c.loop-write.n - 1 + 1 ≡ c.loop-write.n + 1 - 1 = omega (arith, c.loop-write.invariant.first) in
    record {
      first = omega arith;
      so_far = subst (λ (n : ℕ). SoFar writes c.args.ram.now c.store.new.self (g.L.Life.allowances c.args.life.now) (g.L.Life.allowances c.store.new.life) n) count more;
      alive = still_alive (g.L.Life.alive c.loop-write.life) (g.L.Life.alive c.store.new.life) c.loop-write.invariant.alive c.in_ok-store.ensures.alive;
      deaths =
          same_deaths (g.L.Life.alive c.loop-write.life) (g.L.Life.deaths c.args.life.now) (g.L.Life.deaths c.loop-write.life) (g.L.Life.deaths c.store.new.life)
          c.loop-write.invariant.alive c.in_ok-store.ensures.cause c.loop-write.invariant.deaths;
    }

pub returns-clause-all : goal.returns-clause-all
returns-clause-all g c =
    let writes = commit_writes c.args.frame.now c.args.plan.now.writes in
    all_made writes c.args.ram.now (g.L.Life.allowances c.args.life.now) c.loop-write.ram (g.L.Life.allowances c.loop-write.life) (c.loop-write.n - 1) c.loop-write.invariant.so_far
    (numbered_none writes c.loop-write.n c.loop-write.invariant.first c.in_default.ensures)

pub returns-in_err-store-clause-intact : goal.returns-in_err-store-clause-intact
returns-in_err-store-clause-intact g c =
    let frame = c.args.frame.now in
    subst (IsIntact frame) (sym (c.in_err-store.ensures.refused ∙ c.loop-write.invariant.so_far.words))
    (keeps_intact frame c.args.ram.now c.args.plan.now.writes (c.loop-write.n - 1) c.requires.frame c.requires.idle c.requires.fit)

pub returns-clause-intact : goal.returns-clause-intact
returns-clause-intact g c =
    let frame = c.args.frame.now in
    subst (IsIntact frame) (sym c.loop-write.invariant.so_far.words)
    (keeps_intact frame c.args.ram.now c.args.plan.now.writes (c.loop-write.n - 1) c.requires.frame c.requires.idle c.requires.fit)
