use Rattle.std.proofs.Common.{Bool, ◌&&◌, Option, is_some, List, length, [], ap}
use Rattle.std.proofs.lemmas.Bool.{and_right}
use Rattle.uw_model.specs.declared.entries.Entry.{Entry}
use Rattle.uw_model.specs.Placement.{longest_front}
use Rattle.uw_plan.proofs.OneByOne.{leaves_none}
use Rattle.uw_plan.proofs.Roomy.{matched}
use Rattle.uw_plan.proofs.policies.run_purged.Goals as goal

pub returns-then-not-conf : goal.returns-then-not-conf
returns-then-not-conf c = λ items list agrees.
    let conf = c.args.conf.now in (
      ap (λ (b : Bool). b && is_some (longest_front conf list c.args.n (length list))) c.if-not-conf.true,
      (list, leaves_none conf c.requires.conf c.args.ram.now c.args.over.now items list agrees),
    )

pub returns : goal.returns
returns c = λ items list agrees.
    let conf = c.args.conf.now in
    matched c.purge.result
    (λ none. (
      and_right conf.purge_lru (is_some (longest_front conf list c.args.n (length list))) (ap (λ (o : Option (List Entry)). is_some o) none.0),
      ([], none.1),
    ))
    (λ first some. (c.if-not-conf.false, some))
    (c.purge.ensures items list agrees)
