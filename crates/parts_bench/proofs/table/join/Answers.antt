use Rattle.std.proofs.Common.{◌+◌, arith}
use Rattle.uw_words.specs.Parts.{seen}
use Rattle.parts_bench.proofs.Firsts.{still_first}
use Rattle.parts_bench.proofs.table.join.Goals as goal

pub returns-clause-done : goal.returns-clause-done
returns-clause-done c = λ done.
    still_first c.args.shape.now c.requires.idle.layout (seen c.plan_item.new.plan c.args.ram.now) (seen c.write.new.plan c.write.new.ram) (c.args.item + 1) (omega arith)
    (c.write.ensures.written done) c.plan_item.ensures.chains
