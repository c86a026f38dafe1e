use Rattle.std.proofs.Common.{◌≡◌, ◌<◌, [], ◌∷◌, ◌++◌, length, refl, sym, ◌∙◌, arith}
use Rattle.std.proofs.lemmas.List.{nil_from_length}
use Rattle.std.proofs.lemmas.Bool.{eqb-true, eqb-false}
use Rattle.std.proofs.lemmas.Result.{err_from_is_err_and}
use Rattle.uw_packet.specs.Blocks.{texts_of_pairs}
use Rattle.uw_packet.proofs.Arrays.{front_goes_on, front_stops, length-first_text, pair_goes_on, vars_read-whole, vars_read-broken, vars_read-after_key}
use Rattle.uw_packet.proofs.blocks.read_vars.Goals as goal

pub returns-in_err-key : goal.returns-in_err-key
returns-in_err-key c =
    let p = err_from_is_err_and c.from_residual-in_err-key.result c.from_residual-in_err-key.ensures.1 in
    let more : 0 < length c.loop-rest.rest.now = omega (arith, eqb-false _ _ (sym c.is_empty.ensures ∙ c.loop-rest-test.true)) in
    let front = front_stops c.args.block.now c.loop-rest.rest.now (texts_of_pairs c.loop-rest.vars) c.in_err-key.ensures.broken c.loop-rest.invariant.front in
    rw (p.1, p.2, c.in_err-key.ensures.place) (vars_read-broken c.args.block.now (texts_of_pairs c.loop-rest.vars) c.loop-rest.rest.now front more)

pub returns-in_err-value : goal.returns-in_err-value
returns-in_err-value c =
    let p = err_from_is_err_and c.from_residual-in_err-value.result c.from_residual-in_err-value.ensures.1 in
    let texts = texts_of_pairs c.loop-rest.vars in
    let keyed = front_goes_on c.args.block.now c.loop-rest.rest.now c.in_ok-key.key.now c.in_ok-key.behind_key.now texts c.in_ok-key.ensures.whole c.loop-rest.invariant.front in
    let front = front_stops c.args.block.now c.in_ok-key.behind_key.now (texts ++ c.in_ok-key.key.now ∷ []) c.in_err-value.ensures.broken keyed in
    rw (p.1, p.2, c.in_err-value.ensures.place) (vars_read-after_key c.args.block.now c.loop-rest.vars c.in_ok-key.key.now c.in_ok-key.behind_key.now front)

pub loop-rest-smaller : goal.loop-rest-smaller
loop-rest-smaller c =
    let key = length-first_text c.loop-rest.rest.now c.in_ok-key.key.now c.in_ok-key.behind_key.now c.in_ok-key.ensures.whole in
    let value = length-first_text c.in_ok-key.behind_key.now c.in_ok-value.value.now c.in_ok-value.behind.now c.in_ok-value.ensures.whole in
    omega arith

pub loop-rest-preserved : goal.loop-rest-preserved
loop-rest-preserved c =
    let key = length-first_text c.loop-rest.rest.now c.in_ok-key.key.now c.in_ok-key.behind_key.now c.in_ok-key.ensures.whole in
    let value = length-first_text c.in_ok-key.behind_key.now c.in_ok-value.value.now c.in_ok-value.behind.now c.in_ok-value.ensures.whole in
    let texts = texts_of_pairs c.loop-rest.vars in
    let keyed = front_goes_on c.args.block.now c.loop-rest.rest.now c.in_ok-key.key.now c.in_ok-key.behind_key.now texts c.in_ok-key.ensures.whole c.loop-rest.invariant.front in
    let front = front_goes_on c.args.block.now c.in_ok-key.behind_key.now c.in_ok-value.value.now c.in_ok-value.behind.now (texts ++ c.in_ok-key.key.now ∷ []) c.in_ok-value.ensures.whole keyed in
    record {
      within = omega arith;
      front = rw (c.in_ok-set.ensures.ok, ← pair_goes_on c.loop-rest.vars c.in_ok-key.key.now c.in_ok-value.value.now) front;
    }

pub returns : goal.returns
returns c =
    let ended : c.loop-rest.rest.now ≡ [] = nil_from_length c.loop-rest.rest.now (eqb-true _ _ (sym c.is_empty.ensures ∙ c.loop-rest-test.false)) in
    let so_far = rw ended at c.loop-rest.invariant.front in
    vars_read-whole c.args.block.now c.loop-rest.vars (front_stops c.args.block.now [] (texts_of_pairs c.loop-rest.vars) refl so_far)
