use Rattle.std.proofs.Common.{◌≡◌, ℕ, ◌-◌, ◌*◌, ◌<◌, ◌≤◌, true}
use Rattle.uw_words.specs.Parts.{seen}
use Rattle.uw_bitmap.specs.Bits.{is_marked}
use Rattle.uw_bitmap.proofs.search.behind_full.Given as goal

abbrev pub invariant-loop-at : goal.invariant-loop-at
invariant-loop-at l = (block : ℕ) → l.from ≤ block → block < 64 * (l.at - l.shape.bitmap) → is_marked (seen l.over l.ram) l.shape block ≡ true
