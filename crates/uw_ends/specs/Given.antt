-- How a call answers where a definition gives a value or none.
use Rattle.std.specs.Prelude.{All, ◌≡◌, ◌<◌, ◌≤◌, ◌^◌, Option, Some, None, Result, Ok, Err}
use Rattle.uw_ends.specs.declared.words.Command.{Command}
use Rattle.uw_ends.specs.declared.words.Command.TheVariants.{Pipe, Spool, Steps, Load, Serve}
use Rattle.uw_ends.specs.declared.words.WordsFault.{WordsFault}
use Rattle.uw_ends.specs.declared.words.WordsFault.TheVariants.{Usage, Memory}

-- an Ok is the defined value, and Usage comes only where there is none; want of memory is free
abbrev pub GivesOrUsage : {X : Type 0} → Result X WordsFault → Option X → Type 0
GivesOrUsage (Ok value) wanted = wanted ≡ Some value
GivesOrUsage (Err Usage) wanted = wanted ≡ None
GivesOrUsage (Err Memory) wanted = Unit {0}

-- the numbers of a command lie in their ranges
abbrev pub IsWithin : Command → Type 0
IsWithin (Pipe die) = All (λ n. 1 ≤ n) die
IsWithin Spool = Unit {0}
IsWithin Steps = Unit {0}
IsWithin (Load first count) = (first < 2 ^ 31) × (count ≤ 1000000)
IsWithin Serve = Unit {0}
