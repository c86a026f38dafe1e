-- What holds of the world of a region after each event.
use Rattle.std.proofs.Common.{◌≡◌, ◌⊎◌, inl, inr, ℕ, Bool, true, false, not, cond, ◌||◌, ◌&&◌, List, [], ◌∷◌, ◌++◌, length, set, take, refl, sym, ap, ◌∙◌}
use Rattle.std.proofs.Common.{subst, append_assoc}
use Rattle.std.proofs.lemmas.List.{take_at, append-nil}
use Rattle.std.proofs.lemmas.List.Folds.{list_any-append}
use Rattle.uw_intent.specs.declared.frame.WordWrite.{WordWrite}
use Rattle.uw_intent.specs.Stores.{words_after}
use Rattle.uw_intent.specs.RedoRecord.{IsFrame, IsIntact, repairs, applied}
use Rattle.uw_intent.specs.Standing.{Kind, IsLocal, StandsFor}
use Rattle.uw_intent.specs.RightWrites.{is_opening, has_opened, IsRight}
use Rattle.uw_intent.specs.World.{Called, Event, taking, writing, leaving, dying, Step, wrote, left_dead, Phase, repairing, calling, Lock, free, dead, held}
use Rattle.uw_intent.specs.World.{World, state_of, IsUnheld, HeldBy, has_joined, with_call, with_write, Begins, TakesLock, MakesWrite, LeavesLock, Happens}
use Rattle.uw_intent.specs.World.{RunsTo, IsFresh, IsUnderWay}
use Rattle.uw_intent.proofs.Progress.{length-made, made-append}
use Rattle.uw_intent.proofs.Recoveries.{all_intact, all_applied}
use Rattle.uw_intent.proofs.Rights.{or_false, agreeing_stand, standing_agree, right_stand, right_agree}

-- a state after one more call
state_of-push : {S C A : Type 0} → (k : Kind S C A) (s : S) (history : List (Called C)) (made : Called C)
    → state_of k s (history ++ made ∷ []) ≡ k.next (state_of k s history) made.moment made.call
state_of-push k s [] made = refl
state_of-push k s (first ∷ history) made = state_of-push k (k.next s first.moment first.call) history made

-- a repair under way: the words stood for the state when it began, so many of its writes are done, and the others are left
pub record IsRepaired {S C A : Type 0} (k : Kind S C A) (s : S) (now : List ℕ) (todo : List WordWrite) : Type 0 where
  pub before : List ℕ
  pub done : List WordWrite
  pub stood : StandsFor k before s
  pub is : repairs k.frame before ≡ done ++ todo
  pub words : now ≡ words_after done before

-- one more write is done
one_done : (done : List WordWrite) (write : WordWrite) (before now : List ℕ) → now ≡ words_after done before
    → set now write.at write.word ≡ words_after (done ++ write ∷ []) before
one_done done write before now words = ap (λ (l : List ℕ). set l write.at write.word) words ∙ sym (made-append done (write ∷ []) before)

module _ {S C A : Type 0} (k : Kind S C A) (start : S) where
  -- what holds of a world, by its lock
  abbrev pub Holds : World C A → Lock C A → Type 0
  Holds w free = k.agrees w.words (state_of k start w.history)
  Holds w dead = StandsFor k w.words (state_of k start w.history)
  Holds w (held made (repairing todo)) = IsRepaired k (state_of k start w.history) w.words todo
  Holds w (held made (calling answer todo joined)) = IsUnderWay k start w made answer todo joined

  module _ (is : IsLocal k) where
    framed : (words : List ℕ) (s : S) → StandsFor k words s → IsFrame k.frame (length words)
    framed words s stands = subst (IsFrame k.frame) (length-made (repairs k.frame words) words) (is.frame (applied k.frame words) s stands.agrees)

    repaired_stand : (s : S) (now : List ℕ) (todo : List WordWrite) → IsRepaired k s now todo → StandsFor k now s
    repaired_stand s now todo repair =
        let n = length repair.done in
        let some : take n (repairs k.frame repair.before) ≡ repair.done = ap (take n) repair.is ∙ take_at repair.done todo n refl in
        let same : words_after (take n (repairs k.frame repair.before)) repair.before ≡ now =
        ap (λ (l : List WordWrite). words_after l repair.before) some ∙ sym repair.words in
        let frame = framed repair.before s repair.stood in
        let applies = all_applied k.frame repair.before n frame repair.stood.intact in
        record {
          intact = subst (IsIntact k.frame) same (all_intact k.frame repair.before n frame repair.stood.intact);
          agrees = subst (λ (l : List ℕ). k.agrees l s) (sym applies ∙ ap (applied k.frame) same) repair.stood.agrees;
        }

    -- the state of the history, while a call is under way
    state_with : (past : List (Called C)) (made : Called C) (joined : Bool)
        → cond joined (k.next (state_of k start past) made.moment made.call) (state_of k start past) ≡ state_of k start (with_call joined past made)
    state_with past made true = sym (state_of-push k start past made)
    state_with past made false = refl

    under_way_stands : (w : World C A) (made : Called C) (answer : A) (todo : List WordWrite) (joined : Bool) → IsUnderWay k start w made answer todo joined
        → StandsFor k w.words (state_of k start w.history)
    under_way_stands w made answer todo joined call =
        let s = state_of k start call.past in
        let next = k.next s made.moment made.call in
        let n = length call.done in
        let some : take n (call.done ++ todo) ≡ call.done = take_at call.done todo n refl in
        let stands = right_stand k is call.before s made.moment made.call answer (call.done ++ todo) call.agreed call.right n in
        let by_done : StandsFor k (words_after call.done call.before) (cond (has_opened k.frame call.done) next s) =
        subst (λ (l : List WordWrite). StandsFor k (words_after l call.before) (cond (has_opened k.frame l) next s)) some stands in
        let state : cond (has_opened k.frame call.done) next s ≡ state_of k start w.history =
        ap (λ (b : Bool). cond b next s) (sym call.joins) ∙ state_with call.past made joined ∙ ap (state_of k start) (sym call.history) in
        subst (λ (l : List ℕ). StandsFor k l (state_of k start w.history)) (sym call.words)
        (subst (StandsFor k (words_after call.done call.before)) state by_done)

    -- the words stand for the state of the history
    pub holding_stands : (w : World C A) (lock : Lock C A) → Holds w lock → StandsFor k w.words (state_of k start w.history)
    holding_stands w free holds = agreeing_stand k is w.words (state_of k start w.history) holds
    holding_stands w dead holds = holds
    holding_stands w (held made (repairing todo)) holds = repaired_stand (state_of k start w.history) w.words todo holds
    holding_stands w (held made (calling answer todo joined)) holds = under_way_stands w made answer todo joined holds

    pub fresh_holds : (w : World C A) → IsFresh k start w → Holds w w.lock
    fresh_holds w fresh = go fresh.fits
      where
        same : start ≡ state_of k start w.history
        same = ap (state_of k start) (sym fresh.none)

        go : ((w.lock ≡ free) × k.agrees w.words start) ⊎ ((w.lock ≡ dead) × StandsFor k w.words start) → Holds w w.lock
        go (inl settled) = subst (Holds w) (sym settled.0) (subst (k.agrees w.words) same settled.1)
        go (inr stands) = subst (Holds w) (sym stands.0) (subst (StandsFor k w.words) same stands.1)

    -- a call begins on words that agree
    begins_holds : (w : World C A) (made : Called C) (now : World C A) → k.agrees w.words (state_of k start w.history) → Begins k start w made now
        → Holds now now.lock
    begins_holds w made now agrees begins = subst (λ (v : World C A). Holds v v.lock) (sym begins.is) (
        let call : IsUnderWay k start (record w { lock = held made (calling begins.answer begins.todo false) }) made begins.answer begins.todo false =
        record { before = w.words; past = w.history; done = []; agreed = agrees; right = begins.right; words = refl; history = refl; joins = refl } in call
        )

    repair_begins : (w : World C A) (made : Called C) (now : World C A) → StandsFor k w.words (state_of k start w.history)
        → now ≡ record w { lock = held made (repairing (repairs k.frame w.words)) } → Holds now now.lock
    repair_begins w made now stands same = subst (λ (v : World C A). Holds v v.lock) (sym same) (
        let repair : IsRepaired k (state_of k start w.history) w.words (repairs k.frame w.words) =
        record { before = w.words; done = []; stood = stands; is = refl; words = refl } in
        repair
        )

    takes_holds : (w : World C A) (lock : Lock C A) (made : Called C) (now : World C A) → Holds w lock → IsUnheld lock → TakesLock k start w made now
        → Holds now now.lock
    takes_holds w (held other phase) made now holds unheld takes = absurd unheld
    takes_holds w free made now holds unheld (inl (closed, begins)) = begins_holds w made now holds begins
    takes_holds w dead made now holds unheld (inl (closed, begins)) =
        begins_holds w made now (standing_agree k w.words (state_of k start w.history) holds closed) begins
    takes_holds w free made now holds unheld (inr (pending, same)) =
        repair_begins w made now (agreeing_stand k is w.words (state_of k start w.history) holds) same
    takes_holds w dead made now holds unheld (inr (pending, same)) = repair_begins w made now holds same

    -- after the last write of a repair the words agree
    pub last_repair : (s : S) (now : List ℕ) (write : WordWrite) → IsRepaired k s now (write ∷ []) → k.agrees (set now write.at write.word) s
    last_repair s now write repair =
        let all : set now write.at write.word ≡ applied k.frame repair.before =
        one_done repair.done write repair.before now repair.words ∙ ap (λ (l : List WordWrite). words_after l repair.before) (sym repair.is) in
        subst (λ (l : List ℕ). k.agrees l s) (sym all) repair.stood.agrees

    -- the history of a call under way after one more write
    joins_more : (joined opening : Bool) (past : List (Called C)) (made : Called C)
        → with_call (not joined && opening) (with_call joined past made) made ≡ with_call (joined || opening) past made
    joins_more true opening past made = refl
    joins_more false true past made = refl
    joins_more false false past made = refl

    writes_holds : (w : World C A) (made : Called C) (phase : Phase A) (now : World C A) → Holds w (held made phase) → MakesWrite k start w made phase now
        → Holds now now.lock
    writes_holds w made (repairing []) now repair writes = absurd writes
    writes_holds w made (repairing (write ∷ [])) now repair begins =
        begins_holds (with_write w write) made now (last_repair (state_of k start w.history) w.words write repair) begins
    writes_holds w made (repairing (write ∷ later ∷ todo)) now repair same = subst (λ (v : World C A). Holds v v.lock) (sym same) (
        let more : IsRepaired k (state_of k start w.history) (set w.words write.at write.word) (later ∷ todo) =
        record {
          before = repair.before;
          done = repair.done ++ write ∷ [];
          stood = repair.stood;
          is = repair.is ∙ sym (append_assoc repair.done (write ∷ []) (later ∷ todo));
          words = one_done repair.done write repair.before w.words repair.words;
        } in
        more
        )
    writes_holds w made (calling answer [] joined) now call writes = absurd writes
    writes_holds w made (calling answer (write ∷ todo) joined) now call same = subst (λ (v : World C A). Holds v v.lock) (sym same) (
        let opening = is_opening k.frame write in
        let after : World C A =
        record {
          words = set w.words write.at write.word;
          lock = held made (calling answer todo (joined || opening));
          history = with_call (not joined && opening) w.history made;
        } in
        let more : IsUnderWay k start after made answer todo (joined || opening) =
        record {
          before = call.before;
          past = call.past;
          done = call.done ++ write ∷ [];
          agreed = call.agreed;
          right =
              subst (IsRight k call.before (state_of k start call.past) made.moment made.call answer)
              (sym (append_assoc call.done (write ∷ []) todo)) call.right;
          words = one_done call.done write call.before w.words call.words;
          history = ap (λ (l : List (Called C)). with_call (not joined && opening) l made) call.history ∙ joins_more joined opening call.past made;
          joins =
              ap (λ (b : Bool). b || opening) call.joins ∙ ap (λ (b : Bool). has_opened k.frame call.done || b) (sym (or_false opening))
              ∙ sym (list_any-append (is_opening k.frame) call.done (write ∷ []));
        } in
        more
        )

    -- the history once a call has been left
    joins_last : (joined : Bool) (past : List (Called C)) (made : Called C) → with_call (not joined) (with_call joined past made) made ≡ past ++ made ∷ []
    joins_last true past made = refl
    joins_last false past made = refl

    leaves_holds : (w : World C A) (made : Called C) (phase : Phase A) (step : Step A) (now : World C A) → Holds w (held made phase)
        → LeavesLock k start w made phase step now → Holds now now.lock
    leaves_holds w made (repairing todo) step now repair leaves = absurd leaves
    leaves_holds w made (calling answer (write ∷ todo) joined) step now call leaves = absurd leaves
    leaves_holds w made (calling answer [] joined) step now call leaves = subst (λ (v : World C A). Holds v v.lock) (sym leaves.1) (
        let s = state_of k start call.past in
        let next = k.next s made.moment made.call in
        let all = call.done ++ [] in
        let agrees : k.agrees (words_after all call.before) next = right_agree k is call.before s made.moment made.call answer all call.agreed call.right in
        let words : words_after all call.before ≡ w.words = ap (λ (l : List WordWrite). words_after l call.before) (append-nil call.done) ∙ sym call.words in
        let after = with_call (not joined) w.history made in
        let history : after ≡ call.past ++ made ∷ [] =
        ap (λ (l : List (Called C)). with_call (not joined) l made) call.history ∙ joins_last joined call.past made in
        let state : next ≡ state_of k start after = sym (state_of-push k start call.past made) ∙ ap (state_of k start) (sym history) in
        subst (λ (l : List ℕ). k.agrees l (state_of k start after)) words (subst (k.agrees (words_after all call.before)) state agrees)
        )

    pub happens_holds : (w : World C A) (event : Event C) (step : Step A) (now : World C A) → Holds w w.lock → Happens k start w event step now
        → Holds now now.lock
    happens_holds w (taking made) step now holds takes = takes_holds w w.lock made now holds takes.0 takes.2
    happens_holds w (writing who) step now holds happens = go w.lock holds happens
      where
        go : (lock : Lock C A) → Holds w lock → HeldBy who lock (λ made phase. (step ≡ wrote) × MakesWrite k start w made phase now) → Holds now now.lock
        go free holds none = absurd none
        go dead holds none = absurd none
        go (held made phase) holds writes = writes_holds w made phase now holds writes.1.1
    happens_holds w (leaving who) step now holds happens = go w.lock holds happens
      where
        go : (lock : Lock C A) → Holds w lock → HeldBy who lock (λ made phase. LeavesLock k start w made phase step now) → Holds now now.lock
        go free holds none = absurd none
        go dead holds none = absurd none
        go (held made phase) holds leaves = leaves_holds w made phase step now holds leaves.1
    happens_holds w (dying who) step now holds happens = go w.lock holds happens
      where
        go : (lock : Lock C A) → Holds w lock → HeldBy who lock (λ made phase. (step ≡ left_dead (has_joined phase)) × (now ≡ record w { lock = dead }))
            → Holds now now.lock
        go free holds none = absurd none
        go dead holds none = absurd none
        go (held made phase) holds dies = subst (λ (v : World C A). Holds v v.lock) (sym dies.1.1) (holding_stands w (held made phase) holds)

    pub run_holds : (events : List (Event C)) (steps : List (Step A)) (w now : World C A) → Holds w w.lock → RunsTo k start w events steps now
        → Holds now now.lock
    run_holds [] [] w now holds same = subst (λ (v : World C A). Holds v v.lock) (sym same) holds
    run_holds [] (step ∷ steps) w now holds runs = absurd runs
    run_holds (event ∷ events) [] w now holds runs = absurd runs
    run_holds (event ∷ events) (step ∷ steps) w now holds runs = run_holds events steps runs.0 now (happens_holds w event step runs.0 holds runs.1) runs.2
