use Rattle.std.proofs.Common.{◌≡◌, ◌≤◌, length, refl, arith}
use Rattle.uw_base.specs.declared.variables.Pair.{Pair}
use Rattle.uw_packet.specs.Blocks.{array_of, texts_of_pairs}
use Rattle.uw_chain.proofs.TaskLemmas.{has_no_block, has_short_block, whole_block, with_pair}
use Rattle.uw_chain.proofs.spooling.has_block.Goals as goal
use Rattle.uw_chain.proofs.spooling.has_block.Goals.{then-key-gt-LONGEST-via-then-key-gt-LONGEST, then-key-gt-LONGEST-via-else-key-gt-LONGEST+then-value-gt-LONGEST}

pub returns-then-key-gt-LONGEST : goal.returns-then-key-gt-LONGEST
returns-then-key-gt-LONGEST c =
    let pair : Pair = record { key = c.pair.result.0.now; value = c.pair.result.1.now } in
    let whole = with_pair c.args.vars.now c.loop-place.place c.loop-place.length pair c.pair.ensures c.loop-place.invariant.whole in
    let size = length (array_of (texts_of_pairs c.args.vars.now)) in
    elim c.then-key-gt-LONGEST.branch [
      | then-key-gt-LONGEST-via-then-key-gt-LONGEST w ↦ has_no_block c.args.vars.now size refl (omega (arith, whole, w.if-key-gt-LONGEST.true))
      | then-key-gt-LONGEST-via-else-key-gt-LONGEST+then-value-gt-LONGEST w ↦ has_no_block c.args.vars.now size refl (omega (arith, whole, w.if-value-gt-LONGEST.true))
    ]

pub returns-then-length-gt-LONGEST : goal.returns-then-length-gt-LONGEST
returns-then-length-gt-LONGEST c =
    let pair : Pair = record { key = c.pair.result.0.now; value = c.pair.result.1.now } in
    let whole = with_pair c.args.vars.now c.loop-place.place c.loop-place.length pair c.pair.ensures c.loop-place.invariant.whole in
    has_no_block c.args.vars.now (length (array_of (texts_of_pairs c.args.vars.now))) refl (omega (arith, whole))

pub loop-place-preserved : goal.loop-place-preserved
loop-place-preserved c =
    let pair : Pair = record { key = c.pair.result.0.now; value = c.pair.result.1.now } in
    let whole = with_pair c.args.vars.now c.loop-place.place c.loop-place.length pair c.pair.ensures c.loop-place.invariant.whole in
    record { short = omega arith; whole = omega (arith, whole) }

pub returns : goal.returns
returns c =
    has_short_block c.args.vars.now c.loop-place.length (whole_block c.args.vars.now c.loop-place.place c.loop-place.length (omega arith) c.loop-place.invariant.whole)
    c.loop-place.invariant.short
