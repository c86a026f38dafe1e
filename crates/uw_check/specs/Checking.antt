-- What is told of the refused lines of a configuration (own rule).
use Rattle.std.specs.Prelude.{◌≡◌, ◌⊎◌, ℕ, ◌-◌, ◌==◌, ◌<◌, ◌≤◌, if◌then◌else◌, List, [], ◌∷◌, ◌++◌, length, Result, Ok, Err}
use Rattle.std.specs.List.{AllByRecursion}
use Rattle.uw_base.specs.declared.bytes.Memory.{Memory}
use Rattle.uw_conf.specs.declared.conf.Conf.{Conf}
use Rattle.uw_conf.specs.declared.conf.ConfError.TheVariants as errors
use Rattle.uw_conf.specs.declared.conf.ConfFault.{ConfFault}
use Rattle.uw_conf.specs.Given.{ReadsConf}
use Rattle.uw_conf.specs.Sound.{ArePartsOfSite}
use Rattle.uw_check.specs.declared.checked.Checked.{Checked}
use Rattle.uw_check.specs.declared.checked.Checked.TheVariants as answers

-- a text in which the line of a number, counted from 1, has no byte before its line feed (10)
abbrev pub without_line : ℕ → List ℕ → List ℕ
without_line number [] = []
without_line number (byte ∷ text) =
    if byte == 10 then byte ∷ without_line (number - 1) text
    else (if number == 1 then without_line number text else byte ∷ without_line number text)

-- the most lines that are told
abbrev pub most_told : ℕ
most_told = 50

-- readings that refuse these lines one after the other, each of the text with the lines before it made empty: from a
-- text and a count of refused patterns to what is left of the text, and the count behind them
abbrev pub LedBy : List ConfFault → List ℕ → ℕ → List ℕ → ℕ → Type 0
LedBy [] text before left after = (left ≡ text) × (after ≡ before)
LedBy (fault ∷ faults) text before left after =
    (middle : ℕ) × ReadsConf text before middle (Err (errors.Refused fault))
    × LedBy faults (without_line fault.line text) middle left after

-- each of the faults is that of a line, and none of the whole text
abbrev pub HaveLines : List ConfFault → Type 0
HaveLines faults = AllByRecursion (λ (fault : ConfFault). 0 < fault.line) faults

-- the last of the faults, and it alone, is that of line 0, which stands for the whole text
pub record EndsInWhole (faults : List ConfFault) : Type 0 where
  pub front : List ConfFault
  pub last : ConfFault
  pub parts : faults ≡ front ++ last ∷ []
  pub lines : HaveLines front
  pub whole : last.line ≡ 0

-- why no more lines are told: so many are; or the whole text is refused; or a reading takes what is left
abbrev pub EndsTelling : List ConfFault → List ℕ → ℕ → ℕ → Type 0
EndsTelling faults left middle after =
    ((length faults ≡ most_told) × HaveLines faults × (after ≡ middle))
    ⊎ ((EndsInWhole faults × (after ≡ middle)) ⊎ (HaveLines faults × ((conf : Conf) × ReadsConf left middle after (Ok conf))))

-- the lines that are told of a text that is not taken
pub record TellsRefused (text : List ℕ) (before after : ℕ) (faults : List ConfFault) : Type 0 where
  pub some : 0 < length faults
  pub few : length faults ≤ most_told
  pub left : List ℕ
  pub middle : ℕ
  pub led : LedBy faults text before left middle
  pub ends : EndsTelling faults left middle after

-- a check takes just the text that a reading takes, or tells its refused lines; want of memory alone is free
abbrev pub Checks : List ℕ → ℕ → ℕ → Result Checked Memory → Type 0
Checks text before after (Ok (answers.Taken conf)) = ReadsConf text before after (Ok conf)
Checks text before after (Ok (answers.Refused faults)) = TellsRefused text before after faults
Checks text before after (Err memory) = Unit {0}

-- a configuration that is taken has caches and areas within their limits
abbrev pub IsSoundAnswer : Checked → Type 0
IsSoundAnswer (answers.Taken conf) = ArePartsOfSite conf.caches conf.areas
IsSoundAnswer (answers.Refused faults) = Unit {0}
