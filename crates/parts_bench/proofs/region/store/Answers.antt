use Rattle.std.proofs.Common.{◌≡◌, ℕ, List, length, ap, ◌∙◌, subst}
use Rattle.uw_words.specs.Plans.{region}
use Rattle.uw_intent.specs.declared.frame.Frame.{Frame}
use Rattle.uw_intent.specs.RedoRecord.{commit_writes}
use Rattle.uw_intent.specs.Stores.{words_after}
use Rattle.uw_intent.proofs.Progress.{length-made}
use Rattle.parts_bench.specs.Tables.{redo_frame}
use Rattle.parts_bench.proofs.Stored.{whole, stored_gate, stored_words}
use Rattle.parts_bench.proofs.region.store.Goals as goal

stored : (c : goal.After-commit) → c.commit.new.ram ≡ words_after (commit_writes (redo_frame c.args.shape.now) c.args.plan.now.writes) c.args.ram.now
stored c =
    let made = whole c.commit.result _ c.commit.ensures.alive c.commit.ensures.all in
    subst (λ (frame : Frame). c.commit.new.ram ≡ words_after (commit_writes frame c.args.plan.now.writes) c.args.ram.now) c.redo_frame.ensures made.words

pub returns-clause-len : goal.returns-clause-len
returns-clause-len c = ap length (stored c) ∙ length-made (commit_writes (redo_frame c.args.shape.now) c.args.plan.now.writes) c.args.ram.now

pub returns-clause-gate : goal.returns-clause-gate
returns-clause-gate c =
    ap (λ (words : List ℕ). region words 10) (stored c)
    ∙ stored_gate c.args.shape.now c.requires.shape c.args.ram.now c.args.plan.now c.requires.len c.requires.gate c.requires.fit

pub returns-clause-written : goal.returns-clause-written
returns-clause-written c = λ at above below.
    ap (λ (words : List ℕ). region words at) (stored c)
    ∙ stored_words c.args.shape.now c.requires.shape c.args.ram.now c.args.plan.now c.requires.len c.requires.gate c.requires.fit c.count-count.ensures.distinct at above below
