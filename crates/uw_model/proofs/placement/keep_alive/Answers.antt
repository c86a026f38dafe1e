-- What the closure keeps is what passes its test.
use Rattle.std.proofs.Common.{rules}
use Rattle.std.proofs.lemmas.Fn.{filter_same}
use Rattle.uw_model.proofs.placement.keep_alive.Goals as goal

pub returns-clause-alive : goal.returns-clause-alive
returns-clause-alive c = filter_same _ _ _ (λ x b f' k. search rules) _ _ c.retain.ensures.filtered
