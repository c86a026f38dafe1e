use Rattle.uw_rules.proofs.LawLemmas.{goto_ahead}
use Rattle.uw_rules.proofs.laws.a_goto_leads_ahead.Goals as goal

pub returns : goal.returns
returns c = goto_ahead
