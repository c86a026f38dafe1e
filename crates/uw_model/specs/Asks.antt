-- What a desk is asked, how each ask ended, and what one call of a desk did (own rule).
use Rattle.std.specs.Prelude.{◌≡◌, ◌⊎◌, ℕ, ◌<◌, Bool, true, false, List, [], ◌∷◌, ◌++◌, filter, map, Option, None, Some, Result, Ok, Err}
use Rattle.uw_outside.specs.Lives.{IsSpent, Spends}
use Rattle.uw_model.specs.declared.asks.Ask.{Ask}
use Rattle.uw_model.specs.declared.asks.AskAnswer.{AskAnswer}
use Rattle.uw_model.specs.declared.asks.Asked.{Asked}
use Rattle.uw_model.specs.declared.asks.Ask.TheVariants as asks
use Rattle.uw_model.specs.declared.desk.DeskFault.{DeskFault}
use Rattle.uw_model.specs.declared.desk.DeskFault.TheVariants as faults

-- how an ask ended: it was answered; or its worker died when the ask already counted, with an answer that nobody was told, or before it counted; or no memory was found for it
pub data AskEnd : Type 0 where
  answered : AskAnswer → AskEnd
  died_whole : AskAnswer → AskEnd
  died_absent : AskEnd
  no_memory : AskEnd

-- an ask, its moment and how it ended; for an ask of an area or of the spool the moment counts for nothing
pub record Asking : Type 0 where
  pub moment : ℕ
  pub ask : Ask
  pub end : AskEnd

-- the answer of an ask that counts; an ask that died before it counted, or found no memory, is absent and has none
abbrev pub counted_answer : AskEnd → Option AskAnswer
counted_answer (answered answer) = Some answer
counted_answer (died_whole answer) = Some answer
counted_answer died_absent = None
counted_answer no_memory = None

-- one ask led the desk on, by word writes that the life let through
abbrev pub Leads : (List Asking → ℕ → Type 0) → Option (List ℕ) → Option (List ℕ) → ℕ → Ask → AskEnd → Type 0
Leads led before now moment ask end = (writes : ℕ) × led (record { moment = moment; ask = ask; end = end } ∷ []) writes × Spends before now writes

-- what a call of a desk did, by what it answered: `led` says which asks led the desk on, and how many word writes were made for them; a death comes in place of the next word write
abbrev pub Calls : {T : Type 0} → (T → AskAnswer) → (List Asking → ℕ → Type 0) → Option (List ℕ) → Option (List ℕ) → ℕ → Ask → Result T DeskFault → Type 0
Calls kind led before now moment ask (Ok answer) = Leads led before now moment ask (answered (kind answer))
Calls kind led before now moment ask (Err (faults.Died true)) = IsSpent now × ((answer : AskAnswer) × Leads led before now moment ask (died_whole answer))
Calls kind led before now moment ask (Err (faults.Died false)) = IsSpent now × Leads led before now moment ask died_absent
Calls kind led before now moment ask (Err faults.Memory) = Leads led before now moment ask no_memory

-- the worker died in a call
abbrev pub has_died : {T : Type 0} → Result T DeskFault → Bool
has_died (Ok answer) = false
has_died (Err (faults.Died whole)) = true
has_died (Err faults.Memory) = false

-- an ask that a desk is asked; one of the spool is none
abbrev pub is_of_desk : Ask → Bool
is_of_desk (asks.Cache cache call) = true
is_of_desk (asks.Area area op) = true
is_of_desk (asks.Spool vars body) = false

-- of asks, those that a desk is asked
abbrev pub of_desk : List Asking → List Asking
of_desk asked = filter (λ (a : Asking). is_of_desk a.ask) asked

-- asks with their answers, at one moment
abbrev pub answered_at : ℕ → List Asked → List Asking
answered_at moment asked = map (λ (a : Asked). record { moment = moment; ask = a.ask; end = answered a.answer }) asked

-- how many caches and how many areas a desk has
pub record DeskParts : Type 0 where
  pub caches : ℕ
  pub areas : ℕ

-- an ask of a cache or an area that a desk has
abbrev pub IsOfPart : DeskParts → Ask → Type 0
IsOfPart parts (asks.Cache cache call) = cache < parts.caches
IsOfPart parts (asks.Area area op) = area < parts.areas
IsOfPart parts (asks.Spool vars body) = ⊥

-- asks that were answered led on at one moment, and behind them others that ended as they say; the life let through the word writes that were made for them
abbrev pub Led : (List Asking → ℕ → Type 0) → Option (List ℕ) → Option (List ℕ) → ℕ → List Asked → List Asking → Type 0
Led led before now moment asked others = (writes : ℕ) × led (answered_at moment asked ++ others) writes × Spends before now writes

-- nothing was asked, and no word was written
abbrev pub AsksNothing : (List Asking → ℕ → Type 0) → Option (List ℕ) → Option (List ℕ) → Type 0
AsksNothing led before now = led [] 0 × Spends before now 0

-- no ask was made, or one that found no memory
abbrev pub IsUnanswered : (List Asking → ℕ → Type 0) → Option (List ℕ) → Option (List ℕ) → ℕ → Ask → Type 0
IsUnanswered led before now moment ask = Led led before now moment [] [] ⊎ Leads led before now moment ask no_memory

-- an ask was answered, and stands with its answer at the end of a list; or why it was not, and the list is as it was
abbrev pub MakesAsk : {T : Type 0} → (List Asking → ℕ → Type 0) → Option (List ℕ) → Option (List ℕ) → ℕ → Ask → List Asked → List Asked → Result T DeskFault → Type 0
MakesAsk led before now moment ask list after (Ok done) =
    (answer : AskAnswer) × (after ≡ list ++ record { ask = ask; answer = answer } ∷ []) × Leads led before now moment ask (answered answer)
MakesAsk led before now moment ask list after (Err (faults.Died true)) =
    (after ≡ list) × IsSpent now × ((answer : AskAnswer) × Leads led before now moment ask (died_whole answer))
MakesAsk led before now moment ask list after (Err (faults.Died false)) = (after ≡ list) × IsSpent now × Leads led before now moment ask died_absent
MakesAsk led before now moment ask list after (Err faults.Memory) = (after ≡ list) × IsUnanswered led before now moment ask
