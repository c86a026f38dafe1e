use Rattle.uw_plan.proofs.Examples.{example_agrees}
use Rattle.uw_plan.proofs.laws.the_example_agrees_with_its_entries.Goals as goal

pub returns : goal.returns
returns c = example_agrees
