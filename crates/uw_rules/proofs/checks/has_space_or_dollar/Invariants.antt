use Rattle.std.proofs.Common.{◌≡◌, ◌==◌, ◌||◌, drop}
use Rattle.std.specs.List.{list_any}
use Rattle.uw_rules.proofs.checks.has_space_or_dollar.Given as goal

-- the bytes that are left have one, if any has
abbrev pub invariant-loop-byte : goal.invariant-loop-byte
invariant-loop-byte l = list_any (λ byte. byte == 32 || byte == 36) (drop l.byte-index l.text) ≡ list_any (λ byte. byte == 32 || byte == 36) l.text
