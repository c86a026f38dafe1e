-- Asks that lead from lists to lists leave in each area the replay of its history, and each was answered at its place.
use Rattle.std.proofs.Common.{inl, inr, ◌==◌, ◌≡◌, ◌≢◌, ℕ, zero, suc, true, false, cond, List, [], ◌∷◌, set, Option, Some, None, IfSome, is_some, refl, sym, ap, ◌∙◌}
use Rattle.std.specs.List.{slice_get}
use Rattle.std.specs.Option.{option_map}
use Rattle.std.proofs.lemmas.Bool.Decides.{eqb_tells}
use Rattle.std.proofs.lemmas.Option.{slice_get-map}
use Rattle.uw_model.specs.declared.areas.AreaAnswer.{AreaAnswer}
use Rattle.uw_model.specs.declared.areas.AreaOp.{AreaOp}
use Rattle.uw_model.specs.declared.asks.Ask.{Ask}
use Rattle.uw_model.specs.declared.asks.AskAnswer.{AskAnswer}
use Rattle.uw_model.specs.declared.asks.Ask.TheVariants as asks
use Rattle.uw_model.specs.declared.asks.AskAnswer.TheVariants as ask_answers
use Rattle.uw_model.specs.AreaOps.{AreaState, area_answer, area_next, blank_area}
use Rattle.uw_model.specs.Areas.{areas_after, blank_areas}
use Rattle.uw_model.specs.Asks.{Asking, counted_answer}
use Rattle.uw_model.specs.Lists.{Lists, LeadsLists, answer_of, lists_after}
use Rattle.uw_model.specs.AreaHistory.{AnsweredOp, area_answer_at_from, area_history_of, area_replay_from, with_area_ask}
use Rattle.uw_model.proofs.HistoryLemmas.{found_other, found_same}

areas_same : (areas : List AreaState) (number : ℕ) (op : AreaOp) (a : AreaState) → slice_get areas number ≡ Some a → areas_after areas number op ≡ set areas number (area_next a op)
areas_same areas number op a there = rw there refl

areas_other : (areas : List AreaState) (number area : ℕ) (op : AreaOp) (a : AreaState) → area ≢ number → slice_get areas area ≡ Some a → slice_get (areas_after areas number op) area ≡ Some a
areas_other areas number area op a apart here = by_found (slice_get areas number) refl
  where
    by_found : (found : Option AreaState) → slice_get areas number ≡ found → slice_get (areas_after areas number op) area ≡ Some a
    by_found None e = rw e here
    by_found (Some x) e = rw e (found_other areas number area a (area_next x op) apart here)

-- an area after a history
abbrev replayed : AreaState → List AnsweredOp → AreaState
replayed a history = area_replay_from (λ (m : AnsweredOp). m.op) a history

-- the answers of a history are those at their places, from an area on
abbrev AnswersAtPlaces : AreaState → List AnsweredOp → Type 0
AnswersAtPlaces a history =
    (place : ℕ) → area_answer_at_from (λ (m : AnsweredOp). m.op) a history place ≡ option_map (λ (m : AnsweredOp). m.answer) (slice_get history place)

-- what a list of asks leaves in an area, and what it was answered there
abbrev IsReplayed : Lists → List Asking → Lists → ℕ → AreaState → Type 0
IsReplayed before asked now area a = (slice_get now.areas area ≡ Some (replayed a (area_history_of area asked))) × AnswersAtPlaces a (area_history_of area asked)

answered_first : (a : AreaState) (m : AnsweredOp) (history : List AnsweredOp) → m.answer ≡ area_answer a m.op → AnswersAtPlaces (area_next a m.op) history → AnswersAtPlaces a (m ∷ history)
answered_first a m history given later zero = ap Some (sym given)
answered_first a m history given later (suc place) = later place

-- an ask in front: what is behind it is known of any list that it leads to
module _ (area : ℕ) (asked : List Asking) (now : Lists)
    (later : (before : Lists) (a : AreaState) → LeadsLists before asked now → slice_get before.areas area ≡ Some a → IsReplayed before asked now area a) where
  abbrev Behind : AreaState → Ask → Option AskAnswer → Type 0
  Behind a ask counted =
      (slice_get now.areas area ≡ Some (replayed a (with_area_ask area ask counted (area_history_of area asked)))) × AnswersAtPlaces a (with_area_ask area ask counted (area_history_of area asked))

  behind_counted : (before : Lists) (a : AreaState) (moment number : ℕ) (op : AreaOp) (given : AreaAnswer)
      → ask_answers.Area given ≡ answer_of before moment (asks.Area number op) → LeadsLists (lists_after before moment (asks.Area number op)) asked now
      → slice_get before.areas area ≡ Some a → Behind a (asks.Area number op) (Some (ask_answers.Area given))
  behind_counted before a moment number op given said led here = elim (eqb_tells number area) [ inl same ↦ of_this same.0 same.1 | inr other ↦ of_another other.0 other.1 ]
    where
      of_this : (number == area) ≡ true → number ≡ area → Behind a (asks.Area number op) (Some (ask_answers.Area given))
      of_this test e =
          let there : slice_get before.areas number ≡ Some a = rw e here in
          let next : slice_get (areas_after before.areas number op) area ≡ Some (area_next a op) =
          rw (areas_same before.areas number op a there, ← e) (found_same before.areas number a (area_next a op) there) in
          let is : given ≡ area_answer a op = cc (rw there at said) in
          let rest = later (lists_after before moment (asks.Area number op)) (area_next a op) led next in
          rw test (rest.0, answered_first a (record { op = op; answer = given }) (area_history_of area asked) is rest.1)

      of_another : (number == area) ≡ false → number ≢ area → Behind a (asks.Area number op) (Some (ask_answers.Area given))
      of_another test apart =
          rw test (later (lists_after before moment (asks.Area number op)) a led (areas_other before.areas number area op a (λ e. apart (sym e)) here))

  behind : (before : Lists) (a : AreaState) (moment : ℕ) (ask : Ask) (counted : Option AskAnswer)
      → IfSome counted (λ given. given ≡ answer_of before moment ask) → LeadsLists (cond (is_some counted) (lists_after before moment ask) before) asked now
      → slice_get before.areas area ≡ Some a → Behind a ask counted
  behind before a moment (asks.Area number op) None said led here = later before a led here
  behind before a moment (asks.Area number op) (Some (ask_answers.Area given)) said led here = behind_counted before a moment number op given said led here
  behind before a moment (asks.Area number op) (Some (ask_answers.Cache given)) said led here = cc
  behind before a moment (asks.Area number op) (Some (ask_answers.Spool given)) said led here = cc
  behind before a moment (asks.Cache number call) None said led here = later before a led here
  behind before a moment (asks.Cache number call) (Some given) said led here = later (lists_after before moment (asks.Cache number call)) a led here
  behind before a moment (asks.Spool vars body) None said led here = later before a led here
  behind before a moment (asks.Spool vars body) (Some given) said led here = later before a led here

pub operations_replayed : (before now : Lists) (asked : List Asking) (area : ℕ) (a : AreaState) → LeadsLists before asked now → slice_get before.areas area ≡ Some a → IsReplayed before asked now area a
operations_replayed before now [] area a led here = (ap (λ (lists : Lists). slice_get lists.areas area) led ∙ here, λ place. refl)
operations_replayed before now (x ∷ asked) area a led here =
    behind area asked now (λ from b. operations_replayed from now asked area b) before a x.moment x.ask (counted_answer x.end) led.0 led.1 here

-- an area that was blank at first
pub blank_there : (sizes : List ℕ) (area size : ℕ) → slice_get sizes area ≡ Some size → slice_get (blank_areas sizes) area ≡ Some (blank_area size)
blank_there sizes area size here = slice_get-map blank_area sizes area ∙ rw here refl
