use Rattle.uw_subst.proofs.PieceLemmas.{pieces_written}
use Rattle.uw_subst.proofs.laws.pieces_are_the_text.Goals as goal

pub returns : goal.returns
returns c = pieces_written
