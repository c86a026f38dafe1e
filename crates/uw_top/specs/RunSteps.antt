-- The steps of a run: a configuration is read.
use Rattle.std.specs.Prelude.{ℕ, ◌≤◌, List, Some, Result, Ok, Err}
use Rattle.uw_outside.specs.Streams.{Inflow}
use Rattle.uw_conf.specs.declared.conf.Conf.{Conf}
use Rattle.uw_conf.specs.declared.conf.ConfFault.{ConfFault}
use Rattle.uw_ends.specs.declared.ends.RunFault.{RunFault}
use Rattle.uw_ends.specs.declared.ends.RunFault.TheVariants as faults
use Rattle.uw_top.specs.Run.{ReadsText, IsNotBegun}

-- a configuration was read, or why it was not
abbrev pub GivesConf : (before after : ℕ) → (ℕ → ℕ → List ℕ → Result Conf ConfFault → Type 0) → Inflow → Result Conf RunFault → Type 0
GivesConf before after said r (Ok conf) = (text : List ℕ) × ReadsText r text × said before after text (Ok conf)
GivesConf before after said r (Err fault) = IsNotBegun before after said r (Some fault)

-- what is made of a text: what it says, or its refusal, or there was no memory
abbrev pub Says : (before after : ℕ) → (ℕ → ℕ → Result Conf ConfFault → Type 0) → Result Conf RunFault → Type 0
Says before after said (Ok conf) = said before after (Ok conf)
Says before after said (Err (faults.Conf fault)) = said before after (Err fault)
Says before after said (Err faults.Memory) = before ≤ after
Says before after said (Err _) = ⊥
