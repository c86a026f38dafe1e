use Rattle.std.proofs.Common.{◌≡◌, ◌%◌, ◌^◌, ℕ, ap, ◌∙◌, subst, sym, arith, List}
use Rattle.std.specs.Int.{w64, to_le_bytes}
use Rattle.uw_model.specs.declared.areas.AreaOp.TheVariants as ops
use Rattle.uw_model.specs.AreaOps.{bytes_in_width}
use Rattle.uw_model.specs.declared.areas.Width.{Width}
use Rattle.uw_area.specs.AreaSteps.{PlansOp}
use Rattle.uw_area.proofs.ops.put_number.Goals as goal

pub returns-in-W64-clause-plan : goal.returns-in-W64-clause-plan
returns-in-W64-clause-plan c =
    let whole : c.args.number ≡ c.args.number % 2 ^ 64 = omega (arith, c.ranges.number.fits) in
    let Plans : List ℕ → Type 0 = λ bytes. PlansOp c.args.size c.args.ram.now (ops.Write c.args.at bytes) c.put_within-in-W64.new.over in
    subst (λ (w : Width). Plans (bytes_in_width w c.args.number)) (sym c.in-W64.is)
    (subst Plans (c.to_le_bytes-in-W64.ensures ∙ ap (to_le_bytes w64) whole) c.put_within-in-W64.ensures.plan)
