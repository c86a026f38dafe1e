-- Asks that lead from lists to lists leave in each cache the replay of its history, and each was answered at its place.
use Rattle.std.proofs.Common.{inl, inr, ◌==◌, ◌≡◌, ◌≢◌, ℕ, zero, suc, ◌<◌, true, false, cond, List, [], ◌∷◌, length, set, Option, Some, None, IfSome, is_some, refl, sym, ap, ◌∙◌}
use Rattle.std.specs.List.{slice_get}
use Rattle.std.specs.Option.{option_map}
use Rattle.std.proofs.lemmas.Bool.Decides.{eqb_tells}
use Rattle.std.proofs.lemmas.List.{get_or-set_same, get_or-set_other, length-set}
use Rattle.std.proofs.lemmas.Option.{slice_get_read, slice_get_within, get_or_from_slice_get, slice_get-map}
use Rattle.uw_model.specs.declared.conf.CacheConf.{CacheConf}
use Rattle.uw_model.specs.declared.calls.Call.{Call}
use Rattle.uw_model.specs.declared.calls.Answer.{Answer}
use Rattle.uw_model.specs.declared.asks.Ask.{Ask}
use Rattle.uw_model.specs.declared.asks.AskAnswer.{AskAnswer}
use Rattle.uw_model.specs.declared.asks.Ask.TheVariants as asks
use Rattle.uw_model.specs.declared.asks.AskAnswer.TheVariants as ask_answers
use Rattle.uw_model.specs.Calls.{answer, next_state}
use Rattle.uw_model.specs.ListState.{ListState}
use Rattle.uw_model.specs.Asks.{Asking, counted_answer}
use Rattle.uw_model.specs.Caches.{caches_after, empty_caches}
use Rattle.uw_model.specs.Lists.{Lists, LeadsLists, answer_of, lists_after}
use Rattle.uw_model.specs.History.{Answered, answer_at_from, history_of, replay_from, with_ask}

module _ {X : Type 0} where
  pub found_same : (xs : List X) (i : ℕ) (x y : X) → slice_get xs i ≡ Some x → slice_get (set xs i y) i ≡ Some y
  found_same xs i x y here =
      let within : i < length xs = slice_get_within xs i x here in
      let long : length xs ≡ length (set xs i y) = sym (length-set xs i y) in
      slice_get_read (set xs i y) (length xs) i y long within (sym (get_or-set_same xs i y y within))

  pub found_other : (xs : List X) (i j : ℕ) (x y : X) → j ≢ i → slice_get xs j ≡ Some x → slice_get (set xs i y) j ≡ Some x
  found_other xs i j x y apart here =
      let long : length xs ≡ length (set xs i y) = sym (length-set xs i y) in
      slice_get_read (set xs i y) (length xs) j x long (slice_get_within xs j x here) (sym (get_or-set_other xs i j y x apart ∙ get_or_from_slice_get xs j x x here))

-- a cache after a call of it
abbrev called : ListState → ℕ → Call → ListState
called c moment call = record { conf = c.conf; list = next_state c.conf c.list moment call }

caches_same : (caches : List ListState) (number moment : ℕ) (call : Call) (c : ListState) → slice_get caches number ≡ Some c → caches_after caches number moment call ≡ set caches number (called c moment call)
caches_same caches number moment call c there = rw there refl

caches_other : (caches : List ListState) (number cache moment : ℕ) (call : Call) (c : ListState) → cache ≢ number → slice_get caches cache ≡ Some c → slice_get (caches_after caches number moment call) cache ≡ Some c
caches_other caches number cache moment call c apart here = by_found (slice_get caches number) refl
  where
    by_found : (found : Option ListState) → slice_get caches number ≡ found → slice_get (caches_after caches number moment call) cache ≡ Some c
    by_found None e = rw e here
    by_found (Some x) e = rw e (found_other caches number cache c (called x moment call) apart here)

-- a cache after a history
abbrev replayed : ListState → List Answered → ListState
replayed c history = record { conf = c.conf; list = replay_from (λ (m : Answered). m.moment) (λ (m : Answered). m.call) c.conf c.list history }

-- the answers of a history are those at their places, from a cache on
abbrev AnswersAtPlaces : ListState → List Answered → Type 0
AnswersAtPlaces c history =
    (place : ℕ) → answer_at_from (λ (m : Answered). m.moment) (λ (m : Answered). m.call) c.conf c.list history place ≡ option_map (λ (m : Answered). m.answer) (slice_get history place)

-- what a list of asks leaves in a cache, and what it was answered there
abbrev IsReplayed : Lists → List Asking → Lists → ℕ → ListState → Type 0
IsReplayed before asked now cache c = (slice_get now.caches cache ≡ Some (replayed c (history_of cache asked))) × AnswersAtPlaces c (history_of cache asked)

answered_first : (c : ListState) (m : Answered) (history : List Answered) → m.answer ≡ answer c.conf c.list m.moment m.call → AnswersAtPlaces (called c m.moment m.call) history → AnswersAtPlaces c (m ∷ history)
answered_first c m history given later zero = ap Some (sym given)
answered_first c m history given later (suc place) = later place

-- an ask in front: what is behind it is known of any list that it leads to
module _ (cache : ℕ) (asked : List Asking) (now : Lists)
    (later : (before : Lists) (c : ListState) → LeadsLists before asked now → slice_get before.caches cache ≡ Some c → IsReplayed before asked now cache c) where
  abbrev Behind : ListState → ℕ → Ask → Option AskAnswer → Type 0
  Behind c moment ask counted =
      (slice_get now.caches cache ≡ Some (replayed c (with_ask cache moment ask counted (history_of cache asked)))) × AnswersAtPlaces c (with_ask cache moment ask counted (history_of cache asked))

  behind_counted : (before : Lists) (c : ListState) (moment number : ℕ) (call : Call) (given : Answer)
      → ask_answers.Cache given ≡ answer_of before moment (asks.Cache number call) → LeadsLists (lists_after before moment (asks.Cache number call)) asked now
      → slice_get before.caches cache ≡ Some c → Behind c moment (asks.Cache number call) (Some (ask_answers.Cache given))
  behind_counted before c moment number call given said led here = elim (eqb_tells number cache) [ inl same ↦ of_this same.0 same.1 | inr other ↦ of_another other.0 other.1 ]
    where
      of_this : (number == cache) ≡ true → number ≡ cache → Behind c moment (asks.Cache number call) (Some (ask_answers.Cache given))
      of_this test e =
          let there : slice_get before.caches number ≡ Some c = rw e here in
          let next : slice_get (caches_after before.caches number moment call) cache ≡ Some (called c moment call) =
          rw (caches_same before.caches number moment call c there, ← e) (found_same before.caches number c (called c moment call) there) in
          let is : given ≡ answer c.conf c.list moment call = cc (rw there at said) in
          let rest = later (lists_after before moment (asks.Cache number call)) (called c moment call) led next in
          rw test (rest.0, answered_first c (record { moment = moment; call = call; answer = given }) (history_of cache asked) is rest.1)

      of_another : (number == cache) ≡ false → number ≢ cache → Behind c moment (asks.Cache number call) (Some (ask_answers.Cache given))
      of_another test apart =
          rw test (later (lists_after before moment (asks.Cache number call)) c led (caches_other before.caches number cache moment call c (λ e. apart (sym e)) here))

  behind : (before : Lists) (c : ListState) (moment : ℕ) (ask : Ask) (counted : Option AskAnswer)
      → IfSome counted (λ given. given ≡ answer_of before moment ask) → LeadsLists (cond (is_some counted) (lists_after before moment ask) before) asked now
      → slice_get before.caches cache ≡ Some c → Behind c moment ask counted
  behind before c moment (asks.Cache number call) None said led here = later before c led here
  behind before c moment (asks.Cache number call) (Some (ask_answers.Cache given)) said led here = behind_counted before c moment number call given said led here
  behind before c moment (asks.Cache number call) (Some (ask_answers.Area given)) said led here = cc
  behind before c moment (asks.Cache number call) (Some (ask_answers.Spool given)) said led here = cc
  behind before c moment (asks.Area number op) None said led here = later before c led here
  behind before c moment (asks.Area number op) (Some given) said led here = later (lists_after before moment (asks.Area number op)) c led here
  behind before c moment (asks.Spool vars body) None said led here = later before c led here
  behind before c moment (asks.Spool vars body) (Some given) said led here = later before c led here

pub asks_replayed : (before now : Lists) (asked : List Asking) (cache : ℕ) (c : ListState) → LeadsLists before asked now → slice_get before.caches cache ≡ Some c → IsReplayed before asked now cache c
asks_replayed before now [] cache c led here = (ap (λ (lists : Lists). slice_get lists.caches cache) led ∙ here, λ place. refl)
asks_replayed before now (a ∷ asked) cache c led here =
    behind cache asked now (λ from d. asks_replayed from now asked cache d) before c a.moment a.ask (counted_answer a.end) led.0 led.1 here

-- a cache that was empty at first
pub empty_there : (confs : List CacheConf) (cache : ℕ) (conf : CacheConf) → slice_get confs cache ≡ Some conf → slice_get (empty_caches confs) cache ≡ Some (record { conf = conf; list = [] })
empty_there confs cache conf here = slice_get-map (λ (c : CacheConf). let state : ListState = record { conf = c; list = [] } in state) confs cache ∙ rw here refl
