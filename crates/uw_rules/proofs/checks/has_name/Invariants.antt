use Rattle.std.proofs.Common.{◌≡◌, drop}
use Rattle.std.specs.List.{list_any}
use Rattle.std.specs.Str.{bytes_eq}
use Rattle.uw_rules.proofs.checks.has_name.Given as goal

-- the names that are left have it, if any has
abbrev pub invariant-loop-name : goal.invariant-loop-name
invariant-loop-name l = list_any (λ name. bytes_eq name l.fn.text) (drop l.name-index l.names) ≡ list_any (λ name. bytes_eq name l.fn.text) l.names
