use Rattle.std.proofs.Common.{◌≡◌, ◌+◌, ◌++◌, length, take}
use Rattle.std.specs.List.{flat_map}
use Rattle.uw_subst.specs.Parts.{part_text}
use Rattle.uw_subst.proofs.filling.put_parts.Given as goal

-- the parts so far were put behind what was there, and took of the room
abbrev pub invariant-loop-part : goal.invariant-loop-part
invariant-loop-part l =
    let text = flat_map (part_text l.from.text.now l.from.vars.now l.from.captures.now l.from.moment) (take l.part-index l.parts) in
    record { same : l.out ≡ l.fn.out ++ text; room : l.room + length text ≡ 65536 }
