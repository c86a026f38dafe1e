use Rattle.std.proofs.Common.{inl, arith}
use Rattle.uw_plan.proofs.Entering.{counted_up, grew_up}
use Rattle.uw_plan.proofs.entries.count_up.Goals as goal

pub load-count-requires : goal.load-count-requires
load-count-requires c =
    let is = c.requires.shape in
    omega (arith, c.requires.region, is.head, is.intent, is.blocks, is.items, is.chains, is.bitmap)

pub put-requires : goal.put-requires
put-requires c = inl (omega (arith, c.requires.room))

pub returns-clause-parts : goal.returns-clause-parts
returns-clause-parts c =
    counted_up c.args.shape.now c.requires.shape c.args.ram.now c.args.over.now c.put.new.self c.load-count.result c.load-count.ensures c.put.ensures

pub returns-clause-grew : goal.returns-clause-grew
returns-clause-grew c = grew_up c.args.shape.now c.requires.shape c.args.ram.now c.args.over.now c.put.new.self c.load-count.result c.load-count.ensures c.put.ensures
