use Rattle.std.specs.Option.{option_copied}
use Rattle.uw_rules.proofs.CompileLemmas.{pattern_stands}
use Rattle.uw_rules.proofs.compiling.condition_meant.Goals as goal

pub regexp-requires-clause-some : goal.regexp-requires-clause-some
regexp-requires-clause-some c = pattern_stands (option_copied c.args.argument) (rw c.in-Regexp.is at c.requires.taken)
