-- What a vault is between its calls, and how a call on it ends.
use Rattle.std.proofs.Common.{◌≡◌, ℕ, Bool, true, false, not, cond, eqb, List, [], Option, Result, Ok, Err, length, take, refl, sym, ap, ◌∙◌, subst}
use Rattle.uw_base.specs.declared.bytes.Memory.{Memory}
use Rattle.uw_model.specs.declared.conf.CacheConf.{CacheConf}
use Rattle.uw_model.specs.declared.entries.Entry.{Entry}
use Rattle.uw_model.specs.declared.calls.Call.{Call}
use Rattle.uw_model.specs.declared.calls.Answer.{Answer}
use Rattle.uw_model.specs.Entries.{IsCacheConf}
use Rattle.uw_model.specs.Calls.{answer, next_state}
use Rattle.uw_model.specs.Layout.{plan_room, words_of}
use Rattle.uw_words.specs.Plans.{Plan, region}
use Rattle.uw_intent.specs.declared.frame.Frame.{Frame}
use Rattle.uw_intent.specs.declared.frame.WordWrite.{WordWrite}
use Rattle.uw_intent.specs.Stores.{AllMade, SomeMade}
use Rattle.uw_intent.specs.RedoRecord.{IsFrame, IsIntact, applied, commit_writes, repairs}
use Rattle.uw_intent.specs.Standing.{IsLocal, StandsFor}
use Rattle.uw_intent.specs.RightWrites.{IsRight, has_opened}
use Rattle.uw_intent.specs.CallTurns.{CallEnd, given, died, no_memory}
use Rattle.uw_intent.proofs.Progress.{length-made}
use Rattle.uw_intent.proofs.Rights.{agreeing_stand, right_agree, right_gate, right_stand, standing_agree}
use Rattle.uw_plan.specs.Agreement.{Agrees}
use Rattle.uw_plan.specs.CacheKind.{cache_kind}
use Rattle.uw_plan.specs.Regions.{frame_of, shape_of}
use Rattle.uw_plan.specs.Told.{is_copied, may_copy}
use Rattle.uw_plan.specs.declared.plan.PlanAnswer.{PlanAnswer}
use Rattle.uw_plan.specs.declared.plan.PlanAnswer.TheVariants as plans
use Rattle.uw_plan.proofs.Agreeing.{regions_local}
use Rattle.uw_cache.specs.Vaults.{IsVault, IsVaultCall, VaultView}
use Rattle.uw_cache.specs.declared.vault.Held.{Held}

-- an answer for which no memory was left is one that copies
pub copied_where : (planned : PlanAnswer) (error : Memory) (told : Result Answer Memory) → told ≡ Err error
    → ((a : Answer) → planned ≡ plans.Ready a → told ≡ Ok a) → is_copied planned ≡ true
copied_where (plans.Ready a) error told failed ready = absurd (let both : Err error ≡ Ok a = sym failed ∙ ready a refl in let none : ⊥ = cc in none)
copied_where (plans.ValueOf item) error told failed ready = refl
copied_where plans.KeyList error told failed ready = refl

-- ---- what a vault holds

-- what contracts see of it
abbrev pub view_of : Held → VaultView
view_of held = record { conf = held.conf; words = held.ram; plan = held.over.writes }

-- an opened vault holds this, of which contracts see that
pub record Opened (held : Held) (view : VaultView) : Type 0 where
  pub was : IsVault held.conf held.ram held.over held.blank
  pub is : view_of held ≡ view

pub opened : (held inside : Held) (view : VaultView) → held ≡ inside → view_of inside ≡ view
    → IsVault inside.conf inside.ram inside.over inside.blank → Opened held view
opened held inside view same viewed is = record {
  was = subst (λ (h : Held). IsVault h.conf h.ram h.over h.blank) (sym same) is;
  is = ap view_of same ∙ viewed;
}

-- ---- words that stand for a list

module _ (conf : CacheConf) (is : IsCacheConf conf) where
  local : IsLocal (cache_kind conf)
  local = regions_local conf is

  -- they are as many as the configuration says
  standing_words : (words : List ℕ) (list : List Entry) → StandsFor (cache_kind conf) words list → length words ≡ words_of conf
  standing_words words list stands = sym (length-made (repairs (frame_of (shape_of conf)) words) words) ∙ stands.agrees.len

  -- they have room for the record
  pub standing_frame : (words : List ℕ) (list : List Entry) → StandsFor (cache_kind conf) words list → IsFrame (frame_of (shape_of conf)) (length words)
  standing_frame words list stands =
      subst (IsFrame (frame_of (shape_of conf))) (length-made (repairs (frame_of (shape_of conf)) words) words)
      (local.frame (applied (frame_of (shape_of conf)) words) list stands.agrees)

  pub vault_of : (words : List ℕ) (over blank : Plan) (list : List Entry) → over.room ≡ plan_room conf → blank.writes ≡ []
      → StandsFor (cache_kind conf) words list → IsVault conf words over blank
  vault_of words over blank list room empty stands =
      record { is = is; len = standing_words words list stands; room = room; empty = empty; list = list; stands = stands }

-- ---- a call whose plan is right for each list with which the words of an opened vault agree, where no repair is pending

module _ (held : Held) (view : VaultView) (o : Opened held view) (idle : region view.words 10 ≡ 0) where
  pub idle_agrees : Agrees held.conf held.ram o.was.list
  idle_agrees = standing_agree (cache_kind held.conf) held.ram o.was.list o.was.stands (ap (λ (v : VaultView). region v.words 10) o.is ∙ idle)

  module _ (frame : Frame) (framed : frame ≡ frame_of (shape_of held.conf)) (plan : List (ℕ × ℕ)) (moment : ℕ) (call : Call) (told left : Option (List ℕ))
      (right : (list : List Entry) → Agrees held.conf held.ram list
      → IsRight (cache_kind held.conf) held.ram list moment call (answer held.conf list moment call) (commit_writes (frame_of (shape_of held.conf)) plan)) where
    abbrev conf : CacheConf
    conf = held.conf

    abbrev words : List ℕ
    words = held.ram

    abbrev todo : List WordWrite
    todo = commit_writes (frame_of (shape_of held.conf)) plan

    abbrev Led : VaultView → List ℕ → CallEnd Answer → Type 0
    Led before now end = IsVaultCall before (record { conf = held.conf; words = now; plan = plan }) told left moment call end

    seen_so : (now : List ℕ) (end : CallEnd Answer) → Led (view_of held) now end → Led view now end
    seen_so now end led = subst (λ (v : VaultView). Led v now end) o.is led

    -- all of its writes were made
    module _ (now : List ℕ) (made : AllMade (commit_writes frame plan) held.ram now told left) where
      all : AllMade todo words now told left
      all = subst (λ (f : Frame). AllMade (commit_writes f plan) words now told left) framed made

      all_agree : (list : List Entry) → Agrees conf words list → Agrees conf now (next_state conf list moment call)
      all_agree list agrees =
          subst (λ (w : List ℕ). Agrees conf w (next_state conf list moment call)) (sym all.words)
          (right_agree (cache_kind conf) (regions_local conf o.was.is) words list moment call (answer conf list moment call) todo agrees (right list agrees))

      all_stand : (list : List Entry) → Agrees conf words list → StandsFor (cache_kind conf) now (next_state conf list moment call)
      all_stand list agrees = agreeing_stand (cache_kind conf) (regions_local conf o.was.is) now (next_state conf list moment call) (all_agree list agrees)

      pub answered : (a : Answer) → ((list : List Entry) → Agrees held.conf held.ram list → a ≡ answer held.conf list moment call)
          → IsVaultCall view (record { conf = held.conf; words = now; plan = plan }) told left moment call (given a)
      answered a same = seen_so now (given a) record {
        right = right;
        writes = all;
        answer = same;
        stands = all_stand;
        conf = refl;
        memory = λ none. absurd (let never : ⊥ = cc in never);
      }

      pub all_closed : region now 10 ≡ 0
      all_closed = (all_agree o.was.list idle_agrees).closed

      pub all_vault : (over : Plan) → over.room ≡ plan_room held.conf → IsVault held.conf now over held.blank
      all_vault over room =
          vault_of conf o.was.is now over held.blank (next_state conf o.was.list moment call) room o.was.empty (all_stand o.was.list idle_agrees)

    -- a death kept some of its writes from being made
    module _ (now : List ℕ) (made : SomeMade (commit_writes frame plan) held.ram now told left) where
      some : SomeMade todo words now told left
      some = subst (λ (f : Frame). SomeMade (commit_writes f plan) words now told left) framed made

      abbrev has_gate : Bool
      has_gate = has_opened (frame_of (shape_of conf)) (take some.count todo)

      some_stand : (list : List Entry) → Agrees conf words list → StandsFor (cache_kind conf) now (cond has_gate (next_state conf list moment call) list)
      some_stand list agrees =
          subst (λ (w : List ℕ). StandsFor (cache_kind conf) w (cond has_gate (next_state conf list moment call) list)) (sym some.words)
          (right_stand (cache_kind conf) (regions_local conf o.was.is) words list moment call (answer conf list moment call) todo agrees (right list agrees)
          some.count)

      whole_where : (whole : Bool) → whole ≡ not (eqb (region now frame.gate) 0) → whole ≡ has_gate
      whole_where whole gate =
          gate ∙ ap (λ (f : Frame). not (eqb (region now f.gate) 0)) framed ∙ ap (λ (w : List ℕ). not (eqb (region w 10) 0)) some.words
          ∙ ap (λ (n : ℕ). not (eqb n 0))
          (right_gate (cache_kind conf) (regions_local conf o.was.is) words o.was.list moment call (answer conf o.was.list moment call) todo idle_agrees
          (right o.was.list idle_agrees) some.count some.fewer)
          ∙ tells has_gate
        where
          tells : (b : Bool) → not (eqb (cond b 1 0) 0) ≡ b
          tells true = refl
          tells false = refl

      pub broken : (whole : Bool) → whole ≡ not (eqb (region now frame.gate) 0)
          → IsVaultCall view (record { conf = held.conf; words = now; plan = plan }) told left moment call (died whole)
      broken whole gate = seen_so now (died whole) record {
        right = right;
        writes = (some, whole_where whole gate);
        answer = λ list agrees. tt;
        stands = λ list agrees.
            subst (λ (b : Bool). StandsFor (cache_kind conf) now (cond b (next_state conf list moment call) list)) (sym (whole_where whole gate))
            (some_stand list agrees);
        conf = refl;
        memory = λ none. absurd (let never : ⊥ = cc in never);
      }

      pub some_frame : IsFrame frame (length now)
      some_frame = subst (λ (f : Frame). IsFrame f (length now)) (sym framed) (standing_frame conf o.was.is now _ (some_stand o.was.list idle_agrees))

      pub some_vault : (over : Plan) → over.room ≡ plan_room held.conf → IsVault held.conf now over held.blank
      some_vault over room = vault_of conf o.was.is now over held.blank _ room o.was.empty (some_stand o.was.list idle_agrees)

    -- no memory was left for its answer
    pub unmade : left ≡ told → may_copy call ≡ true
        → IsVaultCall view (record { conf = held.conf; words = held.ram; plan = plan }) told left moment call no_memory
    unmade kept copies = seen_so words no_memory record {
      right = right;
      writes = (refl, kept);
      answer = λ list agrees. tt;
      stands = λ list agrees. agreeing_stand (cache_kind conf) (regions_local conf o.was.is) words list agrees;
      conf = refl;
      memory = λ none. copies;
    }

-- ---- a repair

-- after some of it the words stand for the same lists
pub mended : (conf : CacheConf) (words now : List ℕ) (frame : Frame) → frame ≡ frame_of (shape_of conf) → IsIntact frame now
    → applied frame now ≡ applied frame words → (list : List Entry) → StandsFor (cache_kind conf) words list → StandsFor (cache_kind conf) now list
mended conf words now frame framed intact same list stands = record {
  intact = subst (λ (f : Frame). IsIntact f now) framed intact;
  agrees = subst (λ (w : List ℕ). Agrees conf w list) (sym (subst (λ (f : Frame). applied f now ≡ applied f words) framed same)) stands.agrees;
}
