-- The entry in front of the list without it.
use Rattle.std.proofs.Common.{◌∙◌, arith}
use Rattle.uw_model.proofs.KeysLemmas.{used_at}
use Rattle.uw_model.proofs.steps.touch.Goals as goal

pub returns : goal.returns
returns c = λ d.
    c.move_to_front.ensures d ∙ used_at c.args.conf.now c.args.entries.now.items c.args.place d c.requires.keys (omega arith) c.if-not-conf.false
