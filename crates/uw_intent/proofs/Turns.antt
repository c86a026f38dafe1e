-- A call on words is a run of the world's events.
use Rattle.std.proofs.Common.{◌≡◌, ◌≢◌, inl, inr, ℕ, ◌+◌, ◌<◌, Bool, false, not, ◌||◌, ◌&&◌, List, [], ◌∷◌, ◌++◌, Option, length, get_or, set}
use Rattle.std.proofs.Common.{take, drop, replicate, refl, sym, ap, ◌∙◌, subst, arith}
use Rattle.std.proofs.lemmas.Bool.{cases_eq}
use Rattle.std.proofs.lemmas.List.{append-nil, take-append-drop, length-drop, length-take-le, drop_more, replicate-append-replicate}
use Rattle.uw_outside.specs.Lives.{Spends}
use Rattle.uw_words.specs.Plans.{region}
use Rattle.uw_intent.specs.declared.frame.WordWrite.{WordWrite}
use Rattle.uw_intent.specs.Stores.{words_after, AllMade, SomeMade}
use Rattle.uw_intent.specs.RedoRecord.{closing, repairs}
use Rattle.uw_intent.specs.Standing.{Kind}
use Rattle.uw_intent.specs.RightWrites.{is_opening, has_opened, IsRight}
use Rattle.uw_intent.specs.World.{Called, Event, taking, writing, Step, taken, wrote, Phase, repairing, calling, held, World, state_of, IsUnheld, with_call}
use Rattle.uw_intent.specs.World.{Begins, RunsTo}
use Rattle.uw_intent.specs.CallTurns.{CallEnd, given, died, no_memory, CallMade, IsCallTurn}
use Rattle.uw_intent.proofs.Progress.{spends_then}
use Rattle.uw_intent.proofs.Rights.{or_false, or_assoc}
use Rattle.uw_intent.proofs.Repairs.{run_repairs, repairs_open, repairs_closed, length_more}

module _ {S C A : Type 0} (k : Kind S C A) (start : S) where
  -- runs one behind the other
  pub run-append : (events late : List (Event C)) (steps then : List (Step A)) (w mid now : World C A) → RunsTo k start w events steps mid
      → RunsTo k start mid late then now
      → RunsTo k start w (events ++ late) (steps ++ then) now
  run-append [] late [] then w mid now same runs = subst (λ (v : World C A). RunsTo k start v late then now) same runs
  run-append [] late (step ∷ steps) then w mid now first runs = absurd first
  run-append (event ∷ events) late [] then w mid now first runs = absurd first
  run-append (event ∷ events) late (step ∷ steps) then w mid now first runs = (first.0, first.1, run-append events late steps then first.0 mid now first.2 runs)

  module _ (made : Called C) where
    -- the world while the lock is held for the call
    abbrev holding : List ℕ → List (Called C) → Phase A → World C A
    holding words history phase = record { words = words; lock = held made phase; history = history }

    -- so many writes of the holder
    abbrev RunsWrites : ℕ → World C A → World C A → Type 0
    RunsWrites n w now = RunsTo k start w (replicate n (writing made.who)) (replicate n wrote) now

    -- the lock is taken, and then so many writes are made
    abbrev RunsTurn : ℕ → World C A → World C A → Type 0
    RunsTurn n w now = RunsTo k start w (taking made ∷ replicate n (writing made.who)) (taken ∷ replicate n wrote) now

    -- all writes of a repair, and the call begins
    repair_runs : (words : List ℕ) (history : List (Called C)) (todo : List WordWrite) (answer : A) (full : List WordWrite) → 0 < length todo
        → IsRight k (words_after todo words) (state_of k start history) made.moment made.call answer full
        → RunsWrites (length todo) (holding words history (repairing todo)) (holding (words_after todo words) history (calling answer full false))
    repair_runs words history [] answer full some right = absurd (omega arith)
    repair_runs words history (write ∷ []) answer full some right =
        let repaired = holding (set words write.at write.word) history (repairing (write ∷ [])) in
        let call = holding (set words write.at write.word) history (calling answer full false) in
        let begins : Begins k start repaired made call = record { answer = answer; todo = full; right = right; is = refl } in
        (call, (refl, (refl, begins)), refl)
    repair_runs words history (write ∷ later ∷ todo) answer full some right = (
      holding (set words write.at write.word) history (repairing (later ∷ todo)),
      (refl, (refl, refl)),
      repair_runs (set words write.at write.word) history (later ∷ todo) answer full (omega arith) right,
    )

    -- the first writes of a repair
    repair_breaks : (words : List ℕ) (history : List (Called C)) (early late : List WordWrite) (write : WordWrite)
        → RunsWrites (length early) (holding words history (repairing (early ++ write ∷ late)))
        (holding (words_after early words) history (repairing (write ∷ late)))
    repair_breaks words history [] late write = refl
    repair_breaks words history (first ∷ []) late write =
        (holding (set words first.at first.word) history (repairing (write ∷ late)), (refl, (refl, refl)), refl)
    repair_breaks words history (first ∷ second ∷ early) late write = (
      holding (set words first.at first.word) history (repairing (second ∷ (early ++ write ∷ late))),
      (refl, (refl, refl)),
      repair_breaks (set words first.at first.word) history (second ∷ early) late write,
    )

    -- the first writes of a call
    call_runs : (words : List ℕ) (history : List (Called C)) (answer : A) (early late : List WordWrite) (joined : Bool)
        → (after : List (Called C)) × RunsWrites (length early) (holding words history (calling answer (early ++ late) joined))
        (holding (words_after early words) after (calling answer late (joined || has_opened k.frame early)))
    call_runs words history answer [] late joined = (history, ap (λ (b : Bool). holding words history (calling answer late b)) (or_false joined))
    call_runs words history answer (write ∷ early) late joined =
        let opening = is_opening k.frame write in
        let stored = set words write.at write.word in
        let grown = with_call (not joined && opening) history made in
        let later = call_runs stored grown answer early late (joined || opening) in
        let next = holding stored grown (calling answer (early ++ late) (joined || opening)) in
        let rest = subst (λ (b : Bool). RunsWrites (length early) next (holding (words_after early stored) later.0 (calling answer late b)))
        (or_assoc joined opening (has_opened k.frame early)) later.1 in
        (later.0, (next, (refl, (refl, refl)), rest))

    module _ (w : World C A) (unheld : IsUnheld w.lock) where
      -- an answer and writes that are right for the call on these words
      abbrev AreRight : List ℕ → A → List WordWrite → Type 0
      AreRight words answer full = IsRight k words (state_of k start w.history) made.moment made.call answer full

      abbrev left_repairs : List WordWrite
      left_repairs = repairs k.frame w.words

      pending_repairs : region w.words k.frame.gate ≢ 0 → 0 < length left_repairs
      pending_repairs pending =
          omega (arith, ap (length {A = WordWrite}) (repairs_open k.frame w.words pending), length_more (run_repairs k.frame w.words) (closing k.frame))

      -- the lock is taken, the repair is made, and the call begins
      turn_begins : (before : List ℕ) (answer : A) (full : List WordWrite) → before ≡ words_after left_repairs w.words
          → IsRight k before (state_of k start w.history) made.moment made.call answer full
          → RunsTurn (length left_repairs) w (holding before w.history (calling answer full false))
      turn_begins before answer full are right = elim (cases_eq (region w.words k.frame.gate) 0) [
        | inl closed ↦
            let none : left_repairs ≡ [] = repairs_closed k.frame w.words closed in
            let same : before ≡ w.words = are ∙ ap (λ (l : List WordWrite). words_after l w.words) none in
            let call = holding w.words w.history (calling answer full false) in
            let begins : Begins k start w made call =
            record { answer = answer; todo = full; right = subst (λ (l : List ℕ). AreRight l answer full) same right; is = refl } in
            let began : RunsTurn 0 w call = (call, (unheld, refl, inl (closed, begins)), refl) in
            subst (λ (l : List WordWrite). RunsTurn (length l) w (holding before w.history (calling answer full false))) (sym none)
            (subst (λ (l : List ℕ). RunsTurn 0 w (holding l w.history (calling answer full false))) (sym same) began)
        | inr pending ↦
            let right_then = subst (λ (l : List ℕ). AreRight l answer full) are right in
            let repaired = repair_runs w.words w.history left_repairs answer full (pending_repairs pending) right_then in
            subst (λ (l : List ℕ). RunsTurn (length left_repairs) w (holding l w.history (calling answer full false))) (sym are)
            (holding w.words w.history (repairing left_repairs), (unheld, refl, inr (pending, refl)), repaired)
      ]

      -- writes of a turn that has begun
      turn_goes_on : (n m : ℕ) (mid now : World C A) → RunsTurn n w mid → RunsWrites m mid now → RunsTurn (n + m) w now
      turn_goes_on n m mid now first then =
          let who = writing made.who in
          let whole = run-append (taking made ∷ replicate n who) (replicate m who) (taken ∷ replicate n wrote) (replicate m wrote) w mid now first then in
          subst (λ (e : List (Event C)). RunsTo k start w (taking made ∷ e) (taken ∷ replicate (n + m) wrote) now) (replicate-append-replicate n m who)
          (subst (λ (s : List (Step A)). RunsTo k start w (taking made ∷ (replicate n who ++ replicate m who)) (taken ∷ s) now)
          (replicate-append-replicate n m wrote) whole)

      -- a call behind all writes of the repair
      pub call_turn : (before now : List ℕ) (told mid left : Option (List ℕ)) (todo : List WordWrite) (end : CallEnd A)
          → AllMade left_repairs w.words before told mid
          → CallMade k (state_of k start w.history) before now mid left made.moment made.call todo end → IsCallTurn k start w made now told left end
      call_turn before now told mid left todo (given answer) repaired call =
          let n = length left_repairs in
          let m = length todo in
          let all : todo ++ [] ≡ todo = append-nil todo in
          let began = turn_begins before answer (todo ++ []) repaired.words (subst (AreRight before answer) (sym all) call.0) in
          let done = call_runs before w.history answer todo [] false in
          let after = holding (words_after todo before) done.0 (calling answer [] (has_opened k.frame todo)) in
          record {
            writes = n + m;
            after = after;
            runs = turn_goes_on n m (holding before w.history (calling answer (todo ++ []) false)) after began done.1;
            words = sym call.1.words;
            ends = (has_opened k.frame todo, refl);
            spent = spends_then told mid left n m repaired.spent call.1.spent;
          }
      call_turn before now told mid left todo (died whole) repaired call =
          let part = call.2 in
          let n = length left_repairs in
          let early = take part.count todo in
          let late = drop part.count todo in
          let split : early ++ late ≡ todo = take-append-drop part.count todo in
          let m : length early ≡ part.count = length-take-le part.count todo (omega (arith, part.fewer)) in
          let more : late ≢ [] = λ none. omega (arith, part.fewer, length-drop part.count todo, ap (length {A = WordWrite}) none) in
          let began = turn_begins before call.0 (early ++ late) repaired.words (subst (AreRight before call.0) (sym split) call.1) in
          let done = call_runs before w.history call.0 early late false in
          let phase = calling call.0 late (has_opened k.frame early) in
          let after = holding (words_after early before) done.0 phase in
          record {
            writes = n + length early;
            after = after;
            runs = turn_goes_on n (length early) (holding before w.history (calling call.0 (early ++ late) false)) after began done.1;
            words = sym part.words;
            ends = (phase, refl, more, call.3, part.refused);
            spent = spends_then told mid left n (length early) repaired.spent (subst (Spends mid left) (sym m) part.spent);
          }
      call_turn before now told mid left todo no_memory repaired call = record {
        writes = length left_repairs;
        after = holding before w.history (calling call.0 todo false);
        runs = turn_begins before call.0 todo repaired.words call.1;
        words = sym call.2;
        ends = (call.0, todo, refl, refl);
        spent = subst (λ (l : Option (List ℕ)). Spends told l (length left_repairs)) (sym call.3) repaired.spent;
      }

      -- a death in the repair
      pub broken_turn : (now : List ℕ) (told left : Option (List ℕ)) → SomeMade left_repairs w.words now told left
          → IsCallTurn k start w made now told left (died false)
      broken_turn now told left part =
          let early = take part.count left_repairs in
          let first : WordWrite = get_or left_repairs part.count (closing k.frame) in
          let late = drop (part.count + 1) left_repairs in
          let more : drop part.count left_repairs ≡ first ∷ late = drop_more left_repairs part.count (closing k.frame) part.fewer in
          let split : early ++ first ∷ late ≡ left_repairs = ap (λ (l : List WordWrite). early ++ l) (sym more) ∙ take-append-drop part.count left_repairs in
          let m : length early ≡ part.count = length-take-le part.count left_repairs (omega (arith, part.fewer)) in
          let pending : region w.words k.frame.gate ≢ 0 =
          λ closed. omega (arith, part.fewer, ap (length {A = WordWrite}) (repairs_closed k.frame w.words closed)) in
          let phase = repairing (first ∷ late) in
          let after = holding (words_after early w.words) w.history phase in
          let broken = subst (λ (l : List WordWrite). RunsWrites (length early) (holding w.words w.history (repairing l)) after) split
          (repair_breaks w.words w.history early late first) in
          record {
            writes = length early;
            after = after;
            runs = (holding w.words w.history (repairing left_repairs), (unheld, refl, inr (pending, refl)), broken);
            words = sym part.words;
            ends = (phase, refl, λ none. cc, refl, part.refused);
            spent = subst (Spends told left) (sym m) part.spent;
          }

      -- how many writes each of these turns makes
      module _ (before now : List ℕ) (told mid left : Option (List ℕ)) (todo : List WordWrite) (repaired : AllMade left_repairs w.words before told mid) where
        abbrev Made : CallEnd A → Type 0
        Made end = CallMade k (state_of k start w.history) before now mid left made.moment made.call todo end

        pub given_writes : (answer : A) (call : Made (given answer))
            → (call_turn before now told mid left todo (given answer) repaired call).writes ≡ length left_repairs + length todo
        unfolding call_turn
        given_writes answer call = refl

        pub died_writes : (whole : Bool) (call : Made (died whole))
            → (call_turn before now told mid left todo (died whole) repaired call).writes ≡ length left_repairs + call.2.count
        unfolding call_turn
        died_writes whole call = ap (λ (n : ℕ). length left_repairs + n) (length-take-le call.2.count todo (omega (arith, call.2.fewer)))

        pub no_memory_writes : (call : Made no_memory)
            → (call_turn before now told mid left todo no_memory repaired call).writes ≡ length left_repairs
        unfolding call_turn
        no_memory_writes call = refl

      pub broken_writes : (now : List ℕ) (told left : Option (List ℕ)) (part : SomeMade left_repairs w.words now told left)
          → (broken_turn now told left part).writes ≡ part.count
      unfolding broken_turn
      broken_writes now told left part = length-take-le part.count left_repairs (omega (arith, part.fewer))
