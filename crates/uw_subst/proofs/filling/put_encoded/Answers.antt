use Rattle.std.proofs.Common.{◌≡◌, ◌<◌, length, arith, take_all}
use Rattle.base64.specs.Engines.{standard}
use Rattle.base64.specs.GeneralPurpose.{encoded_size_of}
use Rattle.uw_subst.proofs.FillLemmas.{encoded_length}
use Rattle.uw_subst.proofs.filling.put_encoded.Goals as goal

pub returns-in_default-checked_sub : goal.returns-in_default-checked_sub
returns-in_default-checked_sub c =
    let size : c.in-Some.size ≡ encoded_size_of standard (length c.args.value.now) = grind arith in
    let long : c.args.room < c.in-Some.size = omega (arith, c.in_default-checked_sub.ensures) in
    (omega (arith, encoded_length c.args.value.now), take_all (length c.args.out.now) c.args.out.now (omega arith))
