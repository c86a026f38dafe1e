use Rattle.uw_chain.proofs.LawLemmas.{passed_over}
use Rattle.uw_chain.proofs.laws.a_jump_passes_over_the_rules_between.Goals as goal

pub returns : goal.returns
returns c = passed_over
