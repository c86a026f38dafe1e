-- A call behind its repair is one turn of the region's world.
use Rattle.std.proofs.Common.{◌≡◌, inr, ℕ, ◌+◌, Bool, true, false, not, List, [], ◌∷◌, ◌++◌, Option, Some, zero, suc, length, replicate, refl, sym, ap, ◌∙◌, subst}
use Rattle.uw_outside.specs.Lives.{Spends}
use Rattle.uw_words.specs.Plans.{region}
use Rattle.uw_intent.specs.declared.frame.WordWrite.{WordWrite}
use Rattle.uw_intent.specs.Stores.{AllMade, SomeMade}
use Rattle.uw_intent.specs.RedoRecord.{repairs}
use Rattle.uw_intent.specs.Standing.{Kind, StandsFor}
use Rattle.uw_intent.specs.RightWrites.{IsRight}
use Rattle.uw_intent.specs.World.{Called, taking, writing, Step, taken, wrote, left_with, left_dead, Phase, calling, Lock, free, dead, held, World, with_call}
use Rattle.uw_intent.specs.World.{HeldBy, LeavesLock, has_joined, IsFresh, Ended, ended, joined_of}
use Rattle.uw_intent.specs.CallTurns.{CallEnd, given, died, no_memory, CallMade, EndsAs, IsCallTurn}
use Rattle.uw_intent.specs.OneTurn.{IsCommitted, world_of, AnswersAs, state_behind, EndsTurn, IsOneTurn, LedByTurn}
use Rattle.uw_intent.proofs.Progress.{spends_none, spends_then}
use Rattle.uw_intent.proofs.Repairs.{repairs_closed}
use Rattle.uw_intent.proofs.Histories.{calls_of, history_of_run}
use Rattle.uw_intent.proofs.Turns.{call_turn, given_writes, died_writes, no_memory_writes, broken_turn, broken_writes}

-- words with a closed gate have no repair that is left
pub nothing_left : {S C A : Type 0} (k : Kind S C A) (words : List ℕ) (told : Option (List ℕ)) → region words k.frame.gate ≡ 0
    → AllMade (repairs k.frame words) words words told told
nothing_left k words told closed =
    subst (λ (l : List WordWrite). AllMade l words words told told) (sym (repairs_closed k.frame words closed)) record { words = refl; spent = spends_none told }

module _ {S C A : Type 0} (k : Kind S C A) (s : S) (before : List ℕ) (made : Called C) where
  -- writes end no call
  writes_end_none : (n : ℕ) → ended {C = C} {A = A} (Some made) (replicate n (writing made.who)) (replicate n wrote) ≡ []
  writes_end_none zero = refl
  writes_end_none (suc n) = writes_end_none n

  module _ (now : List ℕ) (told left : Option (List ℕ)) (end : CallEnd A) (stands : StandsFor k before s)
      (turn : IsCallTurn k s (world_of before) made now told left end) where
    -- the holder's call is all that can have joined the history
    turn_history : turn.after.history ≡ joined_of turn.after.lock
    turn_history =
        let n = turn.writes in
        let who = made.who in
        let fresh : IsFresh k s (world_of before) = record { none = refl; fits = inr (refl, stands) } in
        history_of_run k s (taking made ∷ replicate n (writing who)) (taken ∷ replicate n wrote) (world_of before) turn.after fresh turn.runs
        ∙ ap (λ (l : List (Ended C A)). calls_of l ++ joined_of turn.after.lock) (writes_end_none n)

    joined_last : (joined : Bool) (history : List (Called C)) → history ≡ with_call joined [] made → with_call (not joined) history made ≡ made ∷ []
    joined_last true history is = is
    joined_last false history is = ap (λ (l : List (Called C)). l ++ made ∷ []) is

    -- the lock is let go, as the call ended
    turn_ends : (lock : Lock C A) → turn.after.lock ≡ lock → EndsAs made end turn.writes (length (repairs k.frame before)) left lock → EndsTurn k s turn.after made end
    turn_ends = go end
      where
        w : World C A
        w = turn.after

        history : (lock : Lock C A) → w.lock ≡ lock → w.history ≡ joined_of lock
        history lock is = turn_history ∙ ap joined_of is

        go : (end : CallEnd A) (lock : Lock C A) → w.lock ≡ lock → EndsAs made end turn.writes (length (repairs k.frame before)) left lock → EndsTurn k s w made end
        go (given answer) lock is ends =
            let joined : Bool = ends.0 in
            let held_so = is ∙ ends.1 in
            let after : World C A = record w { lock = free; history = with_call (not joined) w.history made } in
            let Leaves : Lock C A → Type 0 = λ lock. HeldBy made.who lock (λ made phase. LeavesLock k s w made phase (left_with answer) after) in
            record {
              after = after;
              happens = subst Leaves (sym held_so) (refl, (refl, refl));
              history = joined_last joined w.history (history (held made (calling answer [] joined)) held_so);
              words = refl;
            }
        go (died whole) lock is ends =
            let phase : Phase A = ends.0 in
            let held_so = is ∙ ends.1 in
            let same : whole ≡ has_joined phase = ends.3 in
            let after : World C A = record w { lock = dead } in
            let step : Step A = left_dead whole in
            let Dies : Lock C A → Type 0 = λ lock. HeldBy made.who lock (λ made phase. (step ≡ left_dead (has_joined phase)) × (after ≡ record w { lock = dead })) in
            record {
              after = after;
              happens = subst Dies (sym held_so) (refl, (ap left_dead same, refl));
              history = history (held made phase) held_so ∙ ap (λ (b : Bool). with_call b [] made) (sym same);
              words = refl;
            }
        go no_memory lock is ends =
            let phase : Phase A = calling ends.0 ends.1 false in
            let held_so = is ∙ ends.2 in
            let after : World C A = record w { lock = dead } in
            let step : Step A = left_dead false in
            let Dies : Lock C A → Type 0 = λ lock. HeldBy made.who lock (λ made phase. (step ≡ left_dead (has_joined phase)) × (after ≡ record w { lock = dead })) in
            record {
              after = after;
              happens = subst Dies (sym held_so) (refl, (refl, refl));
              history = history (held made phase) held_so;
              words = refl;
            }

    -- a call turn whose call answers so and leads to words that stand for the state behind it is one turn
    pub one_turn : (writes : ℕ) → turn.writes ≡ writes → AnswersAs k s made.moment made.call end → StandsFor k now (state_behind k s made.moment made.call end)
        → IsOneTurn k s before now told left writes made end
    one_turn writes many answer standing = record {
      turn = turn;
      many = many;
      ends = turn_ends turn.after.lock refl turn.ends;
      answer = answer;
      stands = standing;
    }

-- what a call ensures on words that agree
pub record CallEnsures {S C A : Type 0} (now : List ℕ) (left : Option (List ℕ)) (made : Called C) (todo : List WordWrite) (end : CallEnd A) (k : Kind S C A)
    (mid : List ℕ) (half : Option (List ℕ)) : Type 0 where
  pub right : (s : S) → k.agrees mid s → IsRight k mid s made.moment made.call (k.answer s made.moment made.call) todo
  pub writes : IsCommitted k.frame todo mid now half left end
  pub answer : (s : S) → k.agrees mid s → AnswersAs k s made.moment made.call end
  pub stands : (s : S) → k.agrees mid s → StandsFor k now (state_behind k s made.moment made.call end)

module _ {S C A : Type 0} (k : Kind S C A) (before now : List ℕ) (told left : Option (List ℕ)) (made : Called C) where
  -- a death in the repair
  pub led_broken : SomeMade (repairs k.frame before) before now told left → ((s : S) → StandsFor k before s → StandsFor k now s)
      → LedByTurn k before now told left made (died false)
  led_broken part kept = record {
    writes = part.count;
    spent = part.spent;
    turn = λ s stands.
        let turn = broken_turn k s made (world_of before) tt now told left part in
        one_turn k s before made now told left (died false) stands turn part.count (broken_writes k s made (world_of before) tt now told left part) tt
        (kept s stands);
  }

  -- a call on words that agree, behind all writes of the repair
  module _ (mid : List ℕ) (half : Option (List ℕ)) (todo : List WordWrite) (repaired : AllMade (repairs k.frame before) before mid told half)
      (agrees : (s : S) → StandsFor k before s → k.agrees mid s) where
    abbrev many_repairs : ℕ
    many_repairs = length (repairs k.frame before)

    pub led_call : (end : CallEnd A) → CallEnsures now left made todo end k mid half → LedByTurn k before now told left made end
    led_call (given answer) call =
        let all = call.writes in
        record {
          writes = many_repairs + length todo;
          spent = spends_then told half left many_repairs (length todo) repaired.spent all.spent;
          turn = λ s stands.
              let mid_agrees = agrees s stands in
              let is = call.answer s mid_agrees in
              let made_so : CallMade k s mid now half left made.moment made.call todo (given answer) =
              (subst (λ (a : A). IsRight k mid s made.moment made.call a todo) (sym is) (call.right s mid_agrees), all) in
              let turn = call_turn k s made (world_of before) tt mid now told half left todo (given answer) repaired made_so in
              one_turn k s before made now told left (given answer) stands turn (many_repairs + length todo)
              (given_writes k s made (world_of before) tt mid now told half left todo repaired answer made_so) is (call.stands s mid_agrees);
        }
    led_call (died whole) call =
        let broken = call.writes in
        record {
          writes = many_repairs + broken.0.count;
          spent = spends_then told half left many_repairs broken.0.count repaired.spent broken.0.spent;
          turn = λ s stands.
              let mid_agrees = agrees s stands in
              let made_so : CallMade k s mid now half left made.moment made.call todo (died whole) =
              (k.answer s made.moment made.call, call.right s mid_agrees, broken.0, broken.1) in
              let turn = call_turn k s made (world_of before) tt mid now told half left todo (died whole) repaired made_so in
              let many = died_writes k s made (world_of before) tt mid now told half left todo repaired whole made_so in
              one_turn k s before made now told left (died whole) stands turn (many_repairs + broken.0.count) many tt (call.stands s mid_agrees);
        }
    led_call no_memory call =
        let same = call.writes in
        record {
          writes = many_repairs;
          spent = subst (λ (l : Option (List ℕ)). Spends told l many_repairs) (sym same.1) repaired.spent;
          turn = λ s stands.
              let mid_agrees = agrees s stands in
              let made_so : CallMade k s mid now half left made.moment made.call todo no_memory =
              (k.answer s made.moment made.call, call.right s mid_agrees, same.0, same.1) in
              let turn = call_turn k s made (world_of before) tt mid now told half left todo no_memory repaired made_so in
              one_turn k s before made now told left no_memory stands turn many_repairs
              (no_memory_writes k s made (world_of before) tt mid now told half left todo repaired made_so) tt (call.stands s mid_agrees);
        }
