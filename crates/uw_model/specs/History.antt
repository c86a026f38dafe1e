-- The history of a cache: the calls in their order, the list that they leave, and the answer at a place. Moments need not rise.
-- What stands in a history is of any type, of which two functions tell the moment and the call.
use Rattle.std.specs.Prelude.{ℕ, ◌==◌, if◌then◌else◌, List, [], ◌∷◌, take, slice_get, Option, Some}
use Rattle.std.specs.Option.{option_map}
use Rattle.uw_model.specs.declared.conf.CacheConf.{CacheConf}
use Rattle.uw_model.specs.declared.entries.Entry.{Entry}
use Rattle.uw_model.specs.declared.calls.Call.{Call}
use Rattle.uw_model.specs.declared.calls.Answer.{Answer}
use Rattle.uw_model.specs.declared.asks.Ask.{Ask}
use Rattle.uw_model.specs.declared.asks.AskAnswer.{AskAnswer}
use Rattle.uw_model.specs.declared.asks.Ask.TheVariants as asks
use Rattle.uw_model.specs.declared.asks.AskAnswer.TheVariants as ask_answers
use Rattle.uw_model.specs.Asks.{Asking, counted_answer}
use Rattle.uw_model.specs.Calls.{answer, next_state}

module _ {M : Type 0} (moment_of : M → ℕ) (call_of : M → Call) where
  -- the list that calls leave, from a list on
  abbrev pub replay_from : CacheConf → List Entry → List M → List Entry
  replay_from conf list [] = list
  replay_from conf list (m ∷ history) = replay_from conf (next_state conf list (moment_of m) (call_of m)) history

  -- the list that a history leaves, from the empty list
  abbrev pub replay : CacheConf → List M → List Entry
  replay conf history = replay_from conf [] history

  -- the answer of the call at a place of the history, from a list on
  abbrev pub answer_at_from : CacheConf → List Entry → List M → ℕ → Option Answer
  answer_at_from conf list history place =
      option_map (λ m. answer conf (replay_from conf list (take place history)) (moment_of m) (call_of m)) (slice_get history place)

  -- the answer of the call at a place of the history, from the empty list
  abbrev pub answer_at : CacheConf → List M → ℕ → Option Answer
  answer_at conf history place = answer_at_from conf [] history place

-- a call at its moment, and its answer
pub record Answered : Type 0 where
  pub moment : ℕ
  pub call : Call
  pub answer : Answer

-- an ask in front of a cache's history: it counts where it is of this cache and has an answer
abbrev pub with_ask : ℕ → ℕ → Ask → Option AskAnswer → List Answered → List Answered
with_ask cache moment (asks.Cache number call) (Some (ask_answers.Cache answer)) history =
    if number == cache then record { moment = moment; call = call; answer = answer } ∷ history else history
with_ask cache moment ask answer history = history

-- the history of one cache among asks: those of it that count, in their order, with their answers
abbrev pub history_of : ℕ → List Asking → List Answered
history_of cache [] = []
history_of cache (a ∷ asked) = with_ask cache a.moment a.ask (counted_answer a.end) (history_of cache asked)
