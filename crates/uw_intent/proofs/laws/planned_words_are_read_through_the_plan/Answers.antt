use Rattle.std.proofs.Common.{length}
use Rattle.uw_intent.proofs.Listed.{copies_within}
use Rattle.uw_intent.proofs.RightCommits.{region-copies}
use Rattle.uw_intent.proofs.laws.planned_words_are_read_through_the_plan.Goals as goal

pub returns : goal.returns
returns c frame words plan at fit distinct = region-copies words plan at (copies_within frame (length words) plan fit.targets) distinct
