use Rattle.std.proofs.Common.{ℕ, List, get_or, ap, ◌∙◌, ◌%◌, ◌<◌, subst, sym}
use Rattle.std.specs.Int.{w64, to_le_bytes}
use Rattle.uw_words.specs.Plans.{region}
use Rattle.uw_area.proofs.ByteWords.{held_byte}
use Rattle.uw_area.proofs.bytes.byte_at.Goals as goal

pub returns : goal.returns
returns c area holds =
    ap (λ (l : List ℕ). get_or l (c.args.place % 8) 0) (c.to_le_bytes.ensures ∙ ap (to_le_bytes w64) c.load.ensures)
    ∙ held_byte (region c.args.ram.now) 16 area.bytes holds.small holds.bytes c.args.place (subst (λ (n : ℕ). c.args.place < n)
    (sym holds.many) c.requires.within)
