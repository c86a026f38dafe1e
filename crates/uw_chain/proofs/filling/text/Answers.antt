use Rattle.std.proofs.lemmas.Result.{IfOk-weaker}
use Rattle.uw_chain.proofs.ActLemmas.{few_filled}
use Rattle.uw_chain.proofs.filling.text.Goals as goal

pub returns-clause-few : goal.returns-clause-few
returns-clause-few c =
    IfOk-weaker c.text.result _ _ (few_filled c.args.template.now c.args.request.now.vars c.args.captures.now c.args.moment) c.text.ensures
