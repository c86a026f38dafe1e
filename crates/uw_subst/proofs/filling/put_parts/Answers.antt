use Rattle.std.specs.List.{flat_map}
use Rattle.std.proofs.Common.{take}
use Rattle.uw_subst.specs.Parts.{part_text}
use Rattle.uw_subst.specs.declared.parts.Part.TheVariants.{Constant}
use Rattle.uw_subst.proofs.FillLemmas.{front_more, room_passed}
use Rattle.uw_subst.proofs.filling.put_parts.Goals as goal

pub returns-in-None : goal.returns-in-None
returns-in-None c =
    let from = c.args.from.now in
    let text_of = part_text from.text.now from.vars.now from.captures.now from.moment in
    let stopped = rw c.in-None.is at c.in_ok-left.ensures in (
      room_passed text_of c.args.parts.now c.loop-part.part-index (Constant (record { from = 0; len = 0 })) c.loop-part.room c.loop-part-test.true c.loop-part.invariant.room stopped.0,
      front_more c.args.out.now c.loop-part.out (flat_map text_of (take c.loop-part.part-index c.args.parts.now)) c.put_part.new.out c.loop-part.invariant.same stopped.1,
    )
