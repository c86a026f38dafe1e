use Rattle.uw_chain.specs.Tests.{filled_within}
use Rattle.uw_chain.proofs.LawLemmas.{overlong_action}
use Rattle.uw_chain.proofs.laws.a_text_past_its_limit_asks_nothing.Goals as goal

pub returns : goal.returns
returns c moment captures request action text of none =
    overlong_action (λ template. filled_within template request.vars captures moment) request action text of none
