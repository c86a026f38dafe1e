use Rattle.uw_top.proofs.OneWayLemmas.{same_replies}
use Rattle.uw_top.proofs.laws.replies_over_lists_are_a_function.Goals as goal

pub returns : goal.returns
returns c = λ site start begin after last rows allowed more left rest turns others same told again one other alive living ok well packets.
    same_replies site turns others start begin after last rows allowed more left rest same told again one other alive living ok well packets
