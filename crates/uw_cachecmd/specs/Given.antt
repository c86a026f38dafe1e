-- A command as the code answers it.
use Rattle.std.specs.Prelude.{◌≡◌, ℕ, Result, Ok, Err}
use Rattle.uw_model.specs.declared.asks.Ask.{Ask}
use Rattle.uw_model.specs.Asks.{IsOfPart}
use Rattle.uw_cachecmd.specs.declared.commands.CmdFault.{CmdFault}
use Rattle.uw_cachecmd.specs.declared.commands.CmdFault.TheVariants as faults

-- the defined ask or refusal, unless no memory was left
abbrev pub GivesAsk : Result Ask CmdFault → Result Ask CmdFault → Type 0
GivesAsk (Err faults.Memory) defined = Unit {0}
GivesAsk (Err (faults.BadBlock at)) defined = defined ≡ Err (faults.BadBlock at)
GivesAsk (Err faults.UnknownCommand) defined = defined ≡ Err faults.UnknownCommand
GivesAsk (Err faults.UnknownCache) defined = defined ≡ Err faults.UnknownCache
GivesAsk (Err faults.BadNumber) defined = defined ≡ Err faults.BadNumber
GivesAsk (Ok ask) defined = defined ≡ Ok ask

-- an ask is of one of so many caches, whatever areas there are besides
abbrev pub AsksOneOf : ℕ → Result Ask CmdFault → Type 0
AsksOneOf count (Ok ask) = (areas : ℕ) → IsOfPart (record { caches = count; areas = areas }) ask
AsksOneOf count (Err fault) = Unit {0}
