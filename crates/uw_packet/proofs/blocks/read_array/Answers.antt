use Rattle.std.proofs.Common.{◌≡◌, ◌<◌, [], length, refl, sym, ◌∙◌, arith}
use Rattle.std.proofs.lemmas.List.{nil_from_length}
use Rattle.std.proofs.lemmas.Bool.{eqb-true, eqb-false}
use Rattle.std.proofs.lemmas.Result.{err_from_is_err_and}
use Rattle.uw_packet.proofs.Arrays.{front_goes_on, front_stops, length-first_text, array_read-whole, array_read-broken}
use Rattle.uw_packet.proofs.blocks.read_array.Goals as goal

pub returns-in_err-text : goal.returns-in_err-text
returns-in_err-text c =
    let p = err_from_is_err_and c.from_residual.result c.from_residual.ensures.1 in
    let more : 0 < length c.loop-rest.rest.now = omega (arith, eqb-false _ _ (sym c.is_empty.ensures ∙ c.loop-rest-test.true)) in
    let front = front_stops c.args.block.now c.loop-rest.rest.now c.loop-rest.texts c.in_err-text.ensures.broken c.loop-rest.invariant.front in
    rw (p.1, p.2, c.in_err-text.ensures.place) (array_read-broken c.args.block.now c.loop-rest.texts c.loop-rest.rest.now front more)

pub loop-rest-preserved : goal.loop-rest-preserved
loop-rest-preserved c =
    let shorter = length-first_text c.loop-rest.rest.now c.in_ok-text.text.now c.in_ok-text.behind.now c.in_ok-text.ensures.whole in
    let front = front_goes_on c.args.block.now c.loop-rest.rest.now c.in_ok-text.text.now c.in_ok-text.behind.now c.loop-rest.texts c.in_ok-text.ensures.whole c.loop-rest.invariant.front in
    record {
      within = omega arith;
      front = rw (c.in_ok-push.ensures.ok, c.in_ok-from_slice.ensures) front;
    }

pub loop-rest-smaller : goal.loop-rest-smaller
loop-rest-smaller c =
    length-first_text c.loop-rest.rest.now c.in_ok-text.text.now c.in_ok-text.behind.now c.in_ok-text.ensures.whole

pub returns : goal.returns
returns c =
    let ended : c.loop-rest.rest.now ≡ [] = nil_from_length c.loop-rest.rest.now (eqb-true _ _ (sym c.is_empty.ensures ∙ c.loop-rest-test.false)) in
    let so_far = rw ended at c.loop-rest.invariant.front in
    array_read-whole c.args.block.now c.loop-rest.texts (front_stops c.args.block.now [] c.loop-rest.texts refl so_far)
