use Rattle.std.proofs.Common.{◌≡◌, drop}
use Rattle.std.specs.List.{position_from}
use Rattle.std.specs.Str.{bytes_eq}
use Rattle.uw_rules.proofs.compiling.number_of.Given as goal

-- the names that are left have it, if any has
abbrev pub invariant-loop-number : goal.invariant-loop-number
invariant-loop-number l = position_from (bytes_eq l.fn.name) l.number (drop l.number l.names) ≡ position_from (bytes_eq l.fn.name) 0 l.names
