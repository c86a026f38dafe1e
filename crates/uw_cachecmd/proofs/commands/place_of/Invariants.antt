use Rattle.std.proofs.Common.{◌≡◌, drop}
use Rattle.std.specs.List.{position_from}
use Rattle.std.specs.Str.{bytes_eq}
use Rattle.uw_cachecmd.proofs.commands.place_of.Given as goal

-- none of the names so far is it
abbrev pub invariant-loop-place : goal.invariant-loop-place
invariant-loop-place l = position_from (λ other. bytes_eq other l.name) 0 l.names ≡ position_from (λ other. bytes_eq other l.name) l.place (drop l.place l.names)
