use Rattle.std.proofs.Common.{ℕ, ◌*◌, ◌≤◌, length, arith}
use Rattle.uw_words.specs.Parts.{seen}
use Rattle.parts_bench.proofs.Firsts.{grown_first, next_none, next_unchained, linked_first}
use Rattle.parts_bench.proofs.table.plan_item.Goals as goal

pub link-requires-clause-unchained : goal.link-requires-clause-unchained
link-requires-clause-unchained c =
    let shape = c.args.shape.now in
    let bytes : ℕ = length c.key_of.result in
    let short : bytes ≤ 8 * shape.key_words = omega arith in
    next_unchained shape c.requires.idle.layout (seen c.put_key.new.over c.args.ram.now) c.args.item
    (grown_first shape c.requires.idle.layout c.args.plan.now c.put_key.new.over c.args.ram.now c.args.item bytes short c.put_key.ensures.grew c.requires.chains)

pub returns : goal.returns
returns c =
    let shape = c.args.shape.now in
    let item = c.args.item in
    let mid = seen c.put_key.new.over c.args.ram.now in
    let bytes : ℕ = length c.key_of.result in
    let short : bytes ≤ 8 * shape.key_words = omega arith in
    let keyed = grown_first shape c.requires.idle.layout c.args.plan.now c.put_key.new.over c.args.ram.now item bytes short c.put_key.ensures.grew c.requires.chains in
    record {
      chains = linked_first shape c.requires.idle.layout mid (seen c.link.new.over c.args.ram.now) item keyed.0 keyed.1.1
          (c.link.ensures.chains keyed.0 keyed.1.0 (next_none shape c.requires.idle.layout mid item keyed.0 keyed.1.1));
    }
