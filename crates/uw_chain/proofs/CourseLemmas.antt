-- Courses of asks, and how code follows them.
use Rattle.std.proofs.Common.{◌≡◌, inl, inr, refl, sym, ap, ◌∙◌, subst, ℕ, ◌+◌, true, false, List, [], ◌∷◌, ◌++◌, Option, None, Some, Result, Ok, Err, append_assoc, arith}
use Rattle.std.specs.Option.{option_map}
use Rattle.std.proofs.lemmas.List.{append-nil, map-append}
use Rattle.uw_outside.specs.Lives.{raised, Spends}
use Rattle.uw_outside.proofs.Lives.{Spends-none}
use Rattle.uw_model.specs.declared.asks.Ask.{Ask}
use Rattle.uw_model.specs.declared.asks.AskAnswer.{AskAnswer}
use Rattle.uw_model.specs.declared.asks.Asked.{Asked}
use Rattle.uw_model.specs.Asks.{Asking, answered, answered_at, Leads, Led}
use Rattle.uw_chain.specs.declared.faults.ChainEnd.{ChainEnd}
use Rattle.uw_chain.specs.declared.faults.ChainEnd.TheVariants as chains
use Rattle.uw_chain.specs.Courses.{Course, ended, asking, and_then, Unfolds}
use Rattle.uw_chain.specs.Runs.{AsksOnce, Stops}
use Rattle.uw_chain.specs.RoutingSteps.{RunsTo}

-- ---- what a course reaches

-- a course behind which another one follows
pub Unfolds-then : {X Y : Type 0} → (course : Course X) (asked : List Asked) (rest : Course X) (next : X → Course Y)
    → Unfolds course asked rest → Unfolds (and_then course next) asked (and_then rest next)
Unfolds-then course [] rest next h = ap (λ k. and_then k next) h
Unfolds-then (ended result) (one ∷ asked) rest next h = absurd h
Unfolds-then (asking ask more) (one ∷ asked) rest next h = (h.0, Unfolds-then (more one.answer) asked rest next h.1)

-- some asks, and then others
pub Unfolds-more : {X : Type 0} → (course : Course X) (early late : List Asked) (between rest : Course X)
    → Unfolds course early between → Unfolds between late rest → Unfolds course (early ++ late) rest
Unfolds-more course [] late between rest first more = let P : Course _ → Type 0 = λ from. Unfolds from late rest in subst P (sym first) more
Unfolds-more (ended result) (one ∷ early) late between rest first more = absurd first
Unfolds-more (asking ask next) (one ∷ early) late between rest first more = (first.0, Unfolds-more (next one.answer) early late between rest first.1 more)

-- a course that ends, and then the one that its result decides
pub Unfolds-next : {X Y : Type 0} → (course : Course X) (early late : List Asked) (result : X) (next : X → Course Y) (rest : Course Y)
    → Unfolds course early (ended result) → Unfolds (next result) late rest → Unfolds (and_then course next) (early ++ late) rest
Unfolds-next course early late result next rest first more =
    Unfolds-more (and_then course next) early late (next result) rest (Unfolds-then course early (ended result) next first) more

-- ---- what the asks of a course did

-- word writes that were let through, and then more of them
pub Spends-more : (before middle now : Option (List ℕ)) (first more : ℕ) → Spends before middle first → Spends middle now more → Spends before now (first + more)
Spends-more before middle now first more early late = early ∙ ap (option_map (raised first)) late ∙ raised_twice now
  where
    raised_twice : (told : Option (List ℕ)) → option_map (raised first) (option_map (raised more) told) ≡ option_map (raised (first + more)) told
    raised_twice None = refl
    raised_twice (Some []) = refl
    raised_twice (Some (count ∷ others)) = let e : (count + more) + first ≡ count + (first + more) = omega arith in ap (λ (n : ℕ). Some (n ∷ others)) e

-- asks at one moment add up
answered_at-append : (moment : ℕ) (early late : List Asked) → answered_at moment (early ++ late) ≡ answered_at moment early ++ answered_at moment late
answered_at-append moment early late = simp (map-append)

-- no ask was made
pub Led-none : (led : List Asking → ℕ → Type 0) (told : Option (List ℕ)) (moment : ℕ) → led [] 0 → Led led told told moment [] []
Led-none led told moment none = (0, none, Spends-none told)

-- one ask was made
pub Led-one : (led : List Asking → ℕ → Type 0) (before now : Option (List ℕ)) (moment : ℕ) (ask : Ask) (answer : AskAnswer)
    → Leads led before now moment ask (answered answer) → Led led before now moment (record { ask = ask; answer = answer } ∷ []) []
Led-one led before now moment ask answer h = h

-- asks that led the desk on, and then others that led it on from there
pub Led-more : (led first_led late_led : List Asking → ℕ → Type 0) (before middle now : Option (List ℕ)) (moment : ℕ) (early late : List Asked) (others : List Asking)
    → ((early late : List Asking) (first more : ℕ) → first_led early first → late_led late more → led (early ++ late) (first + more))
    → Led first_led before middle moment early [] → Led late_led middle now moment late others → Led led before now moment (early ++ late) others
Led-more led first_led late_led before middle now moment early late others adds first more = (
  first.0 + more.0,
  subst (λ (made : List Asking). led made (first.0 + more.0)) one_list
      (adds (answered_at moment early ++ []) (answered_at moment late ++ others) first.0 more.0 first.1 more.1),
  Spends-more before middle now first.0 more.0 first.2 more.2,
)
  where
    one_list : (answered_at moment early ++ []) ++ (answered_at moment late ++ others) ≡ answered_at moment (early ++ late) ++ others
    one_list =
        ap (λ (l : List Asking). l ++ (answered_at moment late ++ others)) (append-nil (answered_at moment early))
        ∙ sym (append_assoc (answered_at moment early) (answered_at moment late) others)
        ∙ ap (λ (l : List Asking). l ++ others) (sym (answered_at-append moment early late))

-- ---- how a course was followed

-- a course that has ended
pub RunsTo-ended : {X : Type 0} → (led : List Asking → ℕ → Type 0) (told : Option (List ℕ)) (moment : ℕ) (course : Course X) (list : List Asked) (result : X)
    → led [] 0 → course ≡ ended result → RunsTo led told told moment course list list (Ok result)
RunsTo-ended led told moment course list result none is = ([], sym (append-nil list), (is, Led-none led told moment none))

-- no memory before the first ask
pub RunsTo-memory : {X : Type 0} → (led : List Asking → ℕ → Type 0) (told : Option (List ℕ)) (moment : ℕ) (course : Course X) (list : List Asked)
    → led [] 0 → RunsTo led told told moment course list list (Err chains.Memory)
RunsTo-memory led told moment course list none = ([], sym (append-nil list), inl (course, refl, Led-none led told moment none))

-- one ask that was answered, and then the end that its answer decides
pub RunsTo-answered : {T X : Type 0} → (led : List Asking → ℕ → Type 0) (before now : Option (List ℕ)) (moment : ℕ) (ask : Ask) (list after : List Asked) (done : T)
    (next : AskAnswer → Course X) (result : X) → AsksOnce led before now moment ask list after (Ok done)
    → ((answer : AskAnswer) → after ≡ list ++ record { ask = ask; answer = answer } ∷ [] → next answer ≡ ended result)
    → RunsTo led before now moment (asking ask next) list after (Ok result)
RunsTo-answered led before now moment ask list after done next result h decides =
    (record { ask = ask; answer = h.0 } ∷ [], h.1, ((refl, decides h.0 h.1), Led-one led before now moment ask h.0 h.2))

-- one ask that was not answered
pub RunsTo-unanswered : {X : Type 0} → (T : Type 0) (led : List Asking → ℕ → Type 0) (before now : Option (List ℕ)) (moment : ℕ) (ask : Ask) (list after : List Asked)
    (next : AskAnswer → Course X) (end : ChainEnd) → AsksOnce {T = T} led before now moment ask list after (Err end)
    → RunsTo led before now moment (asking ask next) list after (Err end)
RunsTo-unanswered T led before now moment ask list after next (chains.Died true) h =
    ([], h.0 ∙ sym (append-nil list), (h.1, (h.2.0, (ask, next, refl, h.2.1, h.3))))
RunsTo-unanswered T led before now moment ask list after next (chains.Died false) h = ([], h.0 ∙ sym (append-nil list), (h.1, (ask, next, refl, h.2, h.3)))
RunsTo-unanswered T led before now moment ask list after next chains.Memory h =
    ([], h.0 ∙ sym (append-nil list), elim h.1 [ inl none ↦ inl (asking ask next, refl, none) | inr one ↦ inr (ask, next, refl, one) ])

-- the same course
pub RunsTo-same : {X : Type 0} → (led : List Asking → ℕ → Type 0) (before now : Option (List ℕ)) (moment : ℕ) (course other : Course X) (list after : List Asked)
    (result : Result X ChainEnd) → course ≡ other → RunsTo led before now moment course list after result → RunsTo led before now moment other list after result
RunsTo-same led before now moment course other list after result same h =
    let P : Course _ → Type 0 = λ way. RunsTo led before now moment way list after result in subst P same h

-- ---- a course, and then the one that its result decides

-- it ends at once
pub RunsTo-then_ended : {X Y : Type 0} → (led : List Asking → ℕ → Type 0) (before now : Option (List ℕ)) (moment : ℕ) (course : Course X) (next : X → Course Y)
    (list after : List Asked) (result : X) (other : Y) → RunsTo led before now moment course list after (Ok result) → next result ≡ ended other
    → RunsTo led before now moment (and_then course next) list after (Ok other)
RunsTo-then_ended led before now moment course next list after result other h is =
    let P : Course _ → Type 0 = λ way. Unfolds (and_then course next) h.0 way in
    (h.0, h.1, (subst P is (Unfolds-then course h.0 (ended result) next h.2.0), h.2.1))

-- no memory before its first ask
pub RunsTo-then_memory : {X Y : Type 0} → (led : List Asking → ℕ → Type 0) (before now : Option (List ℕ)) (moment : ℕ) (course : Course X) (next : X → Course Y)
    (list after : List Asked) (result : X) → RunsTo led before now moment course list after (Ok result)
    → RunsTo led before now moment (and_then course next) list after (Err chains.Memory)
RunsTo-then_memory led before now moment course next list after result h =
    (h.0, h.1, inl (next result, Unfolds-then course h.0 (ended result) next h.2.0, h.2.1))

-- the first one was not followed to its end
pub RunsTo-fault : {X Y : Type 0} → (led : List Asking → ℕ → Type 0) (before now : Option (List ℕ)) (moment : ℕ) (course : Course X) (next : X → Course Y)
    (list after : List Asked) (end : ChainEnd) → RunsTo led before now moment course list after (Err end)
    → RunsTo led before now moment (and_then course next) list after (Err end)
RunsTo-fault led before now moment course next list after (chains.Died true) h =
    let why = h.2.1.1 in
    (h.0, h.1, (h.2.0, (h.2.1.0, (why.0, λ answer. and_then (why.1 answer) next, Unfolds-then course h.0 (asking why.0 why.1) next why.2, why.3, why.4))))
RunsTo-fault led before now moment course next list after (chains.Died false) h =
    let why = h.2.1 in
    (h.0, h.1, (h.2.0, (why.0, λ answer. and_then (why.1 answer) next, Unfolds-then course h.0 (asking why.0 why.1) next why.2, why.3, why.4)))
RunsTo-fault led before now moment course next list after chains.Memory h = (
  h.0,
  h.1,
  elim h.2 [
    | inl short ↦ inl (and_then short.0 next, Unfolds-then course h.0 short.0 next short.1, short.2)
    | inr why ↦ inr (why.0, λ answer. and_then (why.1 answer) next, Unfolds-then course h.0 (asking why.0 why.1) next why.2, why.3)
  ],
)

-- it was followed in its turn
pub RunsTo-then : {X Y : Type 0} → (led first_led late_led : List Asking → ℕ → Type 0) (before middle now : Option (List ℕ)) (moment : ℕ) (course : Course X)
    (next : X → Course Y) (list between after : List Asked) (result : X) (end : Result Y ChainEnd)
    → ((early late : List Asking) (first more : ℕ) → first_led early first → late_led late more → led (early ++ late) (first + more))
    → RunsTo first_led before middle moment course list between (Ok result) → RunsTo late_led middle now moment (next result) between after end
    → RunsTo led before now moment (and_then course next) list after end
RunsTo-then led first_led late_led before middle now moment course next list between after result (Ok other) adds first more = (
  first.0 ++ more.0,
  more.1 ∙ ap (λ (l : List Asked). l ++ more.0) first.1 ∙ append_assoc list first.0 more.0,
  (
    Unfolds-next course first.0 more.0 result next (ended other) first.2.0 more.2.0,
    Led-more led first_led late_led before middle now moment first.0 more.0 [] adds first.2.1 more.2.1,
  ),
)
RunsTo-then led first_led late_led before middle now moment course next list between after result (Err end) adds first more = (
  first.0 ++ more.0,
  more.1 ∙ ap (λ (l : List Asked). l ++ more.0) first.1 ∙ append_assoc list first.0 more.0,
  stops end more.2,
)
  where
    reaches : (rest : Course _) → Unfolds (next result) more.0 rest → Unfolds (and_then course next) (first.0 ++ more.0) rest
    reaches rest h = Unfolds-next course first.0 more.0 result next rest first.2.0 h

    leads : (others : List Asking) → Led late_led middle now moment more.0 others → Led led before now moment (first.0 ++ more.0) others
    leads others h = Led-more led first_led late_led before middle now moment first.0 more.0 others adds first.2.1 h

    stops : (end : ChainEnd) → Stops late_led middle now moment (next result) more.0 end → Stops led before now moment (and_then course next) (first.0 ++ more.0) end
    stops (chains.Died true) h = (h.0, (h.1.0, (h.1.1.0, h.1.1.1, reaches _ h.1.1.2, leads _ h.1.1.3, h.1.1.4)))
    stops (chains.Died false) h = (h.0, (h.1.0, h.1.1, reaches _ h.1.2, leads _ h.1.3, h.1.4))
    stops chains.Memory h =
        elim h [ inl short ↦ inl (short.0, reaches short.0 short.1, leads [] short.2) | inr why ↦ inr (why.0, why.1, reaches _ why.2, leads _ why.3) ]
