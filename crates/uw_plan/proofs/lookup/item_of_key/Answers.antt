use Rattle.std.proofs.Common.{◌<◌, arith}
use Rattle.std.proofs.lemmas.List.Elements.{All-from_get_or}
use Rattle.uw_words.specs.Parts.{seen}
use Rattle.uw_plan.proofs.Dropping.{as_shape}
use Rattle.uw_plan.proofs.Looking.{as_agrees, found_item}
use Rattle.uw_plan.proofs.lookup.item_of_key.Goals as goal

pub returns : goal.returns
returns c = λ items list agrees.
    let conf = c.args.conf.now in
    let shape = c.shape_of.result in
    let reader = seen c.args.over.now c.args.ram.now in
    let key = c.args.key.now in
    let same = c.shape_of.ensures.parts in
    let here = as_agrees conf shape same reader items list agrees in
    found_item conf shape (as_shape conf shape same c.requires.conf) reader items list here key c.find.result
    (All-from_get_or (λ byte. byte < 256) key 0 (λ k short. omega (arith, c.type_inv.key k))) (c.find.ensures.found here.parts.chains here.held.chains)
    (c.find.ensures.none here.parts.chains here.held.chains)
