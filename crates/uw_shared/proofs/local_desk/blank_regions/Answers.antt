-- One area more begins with its size.
use Rattle.std.proofs.Common.{get_or}
use Rattle.std.proofs.lemmas.List.{take_more}
use Rattle.std.proofs.lemmas.Slice.Zip.{all_zipped_more}
use Rattle.std.proofs.Common.{take}
use Rattle.uw_shared.specs.BeginningSteps.{BeginsAsArea}
use Rattle.uw_shared.proofs.local_desk.blank_regions.Goals as goal

pub loop-size-preserved : goal.loop-size-preserved
loop-size-preserved c =
    let sizes = c.args.sizes.now in
    let i = c.loop-size.size-index in
    rw (take_more sizes i 0 c.loop-size-test.true, c.in_ok-push.ensures.items)
    (all_zipped_more BeginsAsArea (take i sizes) c.loop-size.areas.items (get_or sizes i 0) c.in_ok-new.field-0 c.loop-size.invariant
    (record { size = c.in_ok-new.ensures.size; blank = c.in_ok-new.ensures.blank }))
