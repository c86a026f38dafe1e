-- The words of a region after a call is committed.
use Rattle.std.proofs.Common.{◌≡◌, ◌≤◌, ℕ, true, List, [], Result, Ok, Err, is_ok, OnOk, sym, ap, ◌∙◌, subst, arith}
use Rattle.uw_model.specs.declared.conf.CacheConf.{CacheConf}
use Rattle.uw_model.specs.declared.entries.Entry.{Entry}
use Rattle.uw_model.specs.declared.calls.Call.{Call}
use Rattle.uw_model.specs.Entries.{IsCacheConf}
use Rattle.uw_model.specs.Calls.{answer, next_state}
use Rattle.uw_words.specs.declared.shape.Shape.{Shape}
use Rattle.uw_intent.specs.declared.frame.Frame.{Frame}
use Rattle.uw_intent.specs.declared.frame.WordWrite.{WordWrite}
use Rattle.uw_intent.specs.Stores.{words_after}
use Rattle.uw_intent.specs.RedoRecord.{commit_writes}
use Rattle.uw_intent.specs.RightWrites.{IsRight}
use Rattle.uw_intent.proofs.Rights.{right_agree}
use Rattle.uw_words.specs.Plans.{Plan}
use Rattle.plan_bench.specs.Idle.{IsIdle}
use Rattle.uw_plan.specs.Agreement.{Agrees}
use Rattle.uw_plan.specs.CacheKind.{cache_kind}
use Rattle.uw_plan.specs.Regions.{frame_of, shape_of}
use Rattle.uw_plan.proofs.Agreeing.{regions_local}

module _ (conf : CacheConf) (is : IsCacheConf conf) (words : List ℕ) (list : List Entry) (agrees : Agrees conf words list) (frame : Frame)
    (shape : Shape) (of_shape : frame ≡ frame_of shape) (of_conf : shape ≡ shape_of conf) where
  framed : frame ≡ frame_of (shape_of conf)
  framed = of_shape ∙ ap frame_of of_conf

  -- the words after all writes of a commit agree with the next list
  pub agrees_after : (moment : ℕ) (call : Call) (plan : List (ℕ × ℕ)) (now : List ℕ)
      → IsRight (cache_kind conf) words list moment call (answer conf list moment call) (commit_writes (frame_of (shape_of conf)) plan)
      → now ≡ words_after (commit_writes frame plan) words → Agrees conf now (next_state conf list moment call)
  agrees_after moment call plan now right made =
      let todo : List WordWrite = commit_writes (frame_of (shape_of conf)) plan in
      let is_now : now ≡ words_after todo words = made ∙ ap (λ (f : Frame). words_after (commit_writes f plan) words) framed in
      subst (λ (w : List ℕ). Agrees conf w (next_state conf list moment call)) (sym is_now)
      (right_agree (cache_kind conf) (regions_local conf is) words list moment call (answer conf list moment call) todo agrees right)

-- what a call ensures where it ends well, as it does here
pub on_ok : {T E : Type 0} (result : Result T E) (P : Type 0) → true ≡ is_ok result → OnOk result P → P
on_ok (Ok value) P ok holds = holds
on_ok (Err error) P ok holds = absurd (let none : ⊥ = cc in none)

-- a cache stays idle behind a call
pub still_idle : (conf : CacheConf) (words : List ℕ) (before : Plan) → IsIdle conf words before → (frame : Frame) (shape : Shape) → frame ≡ frame_of shape → shape ≡ shape_of conf
    → (moment : ℕ) (call : Call) (planned cleared : Plan) (now : List ℕ)
    → ((list : List Entry) → Agrees conf words list
    → IsRight (cache_kind conf) words list moment call (answer conf list moment call) (commit_writes (frame_of (shape_of conf)) planned.writes))
    → now ≡ words_after (commit_writes frame planned.writes) words → planned.room ≡ before.room → cleared ≡ record planned { writes = [] } → IsIdle conf now cleared
still_idle conf words before idle frame shape of_shape of_conf moment call planned cleared now right made room clear =
    let list : List Entry = idle.some.0 in
    record {
      is = idle.is;
      some = (
        next_state conf list moment call,
        agrees_after conf idle.is words list idle.some.1 frame shape of_shape of_conf moment call planned.writes now (right list idle.some.1) made,
      );
      empty = ap (λ (p : Plan). p.writes) clear;
      room = omega (arith, ap (λ (p : Plan). p.room) clear, room, idle.room);
    }
