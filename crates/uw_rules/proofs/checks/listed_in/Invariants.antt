use Rattle.std.proofs.Common.{◌≡◌, ◌==◌, drop}
use Rattle.std.specs.List.{list_any}
use Rattle.uw_rules.proofs.checks.listed_in.Given as goal

-- the codes that are left have it, if any has
abbrev pub invariant-loop-listed : goal.invariant-loop-listed
invariant-loop-listed l = list_any (λ listed. listed == l.fn.code) (drop l.listed-index l.codes) ≡ list_any (λ listed. listed == l.fn.code) l.codes
