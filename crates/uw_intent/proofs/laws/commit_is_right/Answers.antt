use Rattle.uw_intent.proofs.RightCommits.{commit_right}
use Rattle.uw_intent.proofs.laws.commit_is_right.Goals as goal

pub returns : goal.returns
returns g c words s moment call plan is agrees fit distinct planned few =
    commit_right g.K.RegionKind.kind is words s moment call plan agrees fit distinct planned few
