-- The place of the last ask is behind the others.
use Rattle.std.proofs.Common.{rules}
use Rattle.uw_model.proofs.AskLemmas.{last_answered}
use Rattle.uw_model.proofs.ask_list.AskList.answer_last.Goals as goal

pub returns : goal.returns
returns c front last e =
    last_answered c.self.inside.asked.items front last c.index_mut.result.now c.args.answer c.len-last.result (rw (← c.self.view_is) at e) (search rules) c.index_mut.ensures.value
