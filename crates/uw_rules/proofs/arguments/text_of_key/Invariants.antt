use Rattle.std.proofs.Common.{◌≡◌, ◌+◌, length}
use Rattle.std.specs.Option.{option_copied, option_map_or}
use Rattle.uw_rules.specs.Arguments.{text_of_key, text_in}
use Rattle.uw_rules.specs.GrammarSteps.{pairs_left}
use Rattle.uw_rules.proofs.arguments.text_of_key.Given as goal

-- the pairs that are left have the text, if any has
abbrev pub invariant-pairs : goal.invariant-pairs
invariant-pairs l = text_in l.fn.key (pairs_left l.rest) ≡ text_of_key l.fn.key (option_copied l.fn.argument)

abbrev pub decreases-pairs : goal.decreases-pairs
decreases-pairs l = option_map_or (λ text. length text.now + 1) l.rest 0
