-- The history of an area: its operations in their order, what they leave, and the answer at a place ("SharedArea").
use Rattle.std.specs.Prelude.{ℕ, ◌==◌, if◌then◌else◌, List, [], ◌∷◌, take, slice_get, Option, Some}
use Rattle.std.specs.Option.{option_map}
use Rattle.uw_model.specs.declared.areas.AreaAnswer.{AreaAnswer}
use Rattle.uw_model.specs.declared.areas.AreaOp.{AreaOp}
use Rattle.uw_model.specs.declared.asks.Ask.{Ask}
use Rattle.uw_model.specs.declared.asks.AskAnswer.{AskAnswer}
use Rattle.uw_model.specs.declared.asks.Ask.TheVariants as asks
use Rattle.uw_model.specs.declared.asks.AskAnswer.TheVariants as ask_answers
use Rattle.uw_model.specs.AreaOps.{AreaState, area_answer, area_next, blank_area}
use Rattle.uw_model.specs.Asks.{Asking, counted_answer}

module _ {M : Type 0} (op_of : M → AreaOp) where
  -- the area that operations leave, from an area on
  abbrev pub area_replay_from : AreaState → List M → AreaState
  area_replay_from area [] = area
  area_replay_from area (m ∷ history) = area_replay_from (area_next area (op_of m)) history

  -- the area of a size that a history leaves, from zero bytes
  abbrev pub area_replay : ℕ → List M → AreaState
  area_replay size history = area_replay_from (blank_area size) history

  -- the answer of the operation at a place of the history, from an area on
  abbrev pub area_answer_at_from : AreaState → List M → ℕ → Option AreaAnswer
  area_answer_at_from area history place = option_map (λ m. area_answer (area_replay_from area (take place history)) (op_of m)) (slice_get history place)

  -- the answer of the operation at a place of the history, from zero bytes
  abbrev pub area_answer_at : ℕ → List M → ℕ → Option AreaAnswer
  area_answer_at size history place = area_answer_at_from (blank_area size) history place

-- an operation and its answer
pub record AnsweredOp : Type 0 where
  pub op : AreaOp
  pub answer : AreaAnswer

-- an ask in front of an area's history: it counts where it is of this area and has an answer
abbrev pub with_area_ask : ℕ → Ask → Option AskAnswer → List AnsweredOp → List AnsweredOp
with_area_ask area (asks.Area number op) (Some (ask_answers.Area answer)) history =
    if number == area then record { op = op; answer = answer } ∷ history else history
with_area_ask area ask answer history = history

-- the history of one area among asks: those of it that count, in their order, with their answers
abbrev pub area_history_of : ℕ → List Asking → List AnsweredOp
area_history_of area [] = []
area_history_of area (a ∷ asked) = with_area_ask area a.ask (counted_answer a.end) (area_history_of area asked)
