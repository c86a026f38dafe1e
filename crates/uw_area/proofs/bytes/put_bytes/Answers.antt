use Rattle.std.proofs.Common.{◌≡◌, ◌+◌, ◌*◌, ◌/◌, ◌<◌, ℕ, length, subst, arith}
use Rattle.uw_words.specs.Parts.{GrewAt}
use Rattle.uw_words.specs.Numbers.{places_from}
use Rattle.uw_area.specs.AreaKind.{touched_words}
use Rattle.uw_area.specs.AreaSteps.{IsWordAfter}
use Rattle.uw_area.proofs.Splices.{Splicing, splicing_start, splicing_next, splicing_room, splicing_all}
use Rattle.uw_area.proofs.bytes.put_bytes.Goals as goal

pub loop-n-init : goal.loop-n-init
loop-n-init c = splicing_start c.args.ram.now c.args.over.now c.args.at c.args.put.now

pub put-requires : goal.put-requires
put-requires c =
    let short : c.loop-n.n < touched_words c.args.at (c.args.at + length c.args.put.now) = omega
    (arith, c.loop-n-test.true, c.div_ceil.ensures, c.loop-n.auto.n-end) in
    splicing_room c.args.ram.now c.args.over.now c.args.at c.args.put.now c.loop-n.over c.loop-n.n short c.requires.room c.loop-n.invariant

pub loop-n-preserved : goal.loop-n-preserved
loop-n-preserved c =
    let k = c.args.at / 8 + c.loop-n.n in
    let more : 8 * k < c.args.at + length c.args.put.now = omega (arith, c.loop-n-test.true, c.div_ceil.ensures, c.loop-n.auto.n-end) in
    splicing_next c.args.ram.now c.args.over.now c.args.at c.args.put.now c.loop-n.over c.put.new.self c.loop-n.n c.word_with.result c.loop-n.invariant
    c.put.ensures more
    (subst (λ (w : ℕ). IsWordAfter w c.word_with.result c.args.at k c.args.put.now) c.load-word.ensures c.word_with.ensures)

pub returns-clause-grew : goal.returns-clause-grew
returns-clause-grew c =
    let all : c.loop-n.n ≡ touched_words c.args.at (c.args.at + length c.args.put.now) = omega
    (arith, c.loop-n-test.false, c.loop-n.auto.n-end, c.div_ceil.ensures) in
    subst (λ (n : ℕ). GrewAt (places_from (16 + c.args.at / 8) n) c.args.over.now c.loop-n.over) all c.loop-n.invariant.grew

pub returns-clause-bytes : goal.returns-clause-bytes
returns-clause-bytes c =
    let all : c.loop-n.n ≡ touched_words c.args.at (c.args.at + length c.args.put.now) = omega
    (arith, c.loop-n-test.false, c.loop-n.auto.n-end, c.div_ceil.ensures) in
    splicing_all c.args.ram.now c.args.over.now c.args.at c.args.put.now c.loop-n.over
    (subst (λ (n : ℕ). Splicing c.args.ram.now c.args.over.now c.loop-n.over c.args.at c.args.put.now n) all c.loop-n.invariant)
