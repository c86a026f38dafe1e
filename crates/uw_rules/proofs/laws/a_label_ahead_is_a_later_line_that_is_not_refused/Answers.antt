use Rattle.uw_rules.proofs.LawLemmas.{label_ahead, label_later}
use Rattle.uw_rules.proofs.laws.a_label_ahead_is_a_later_line_that_is_not_refused.Goals as goal

pub returns-clause-ahead : goal.returns-clause-ahead
returns-clause-ahead c = label_ahead

pub returns-clause-later : goal.returns-clause-later
returns-clause-later c = label_later
