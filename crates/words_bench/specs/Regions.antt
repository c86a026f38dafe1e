-- What holds of a region between its calls.
use Rattle.std.specs.Prelude.{◌≡◌, ℕ, List, length}
use Rattle.uw_words.specs.Plans.{Plan}
use Rattle.uw_intent.specs.declared.frame.Frame.{Frame}
use Rattle.uw_intent.specs.RedoRecord.{IsIntact, FitsRecord}

-- the redo record of a thousand planned words
abbrev pub frame : Frame
frame = record { gate = 10; used = 11; start = 12; room = 3000 }

-- its words are intact, and its plan fits the record
pub record IsRegion (words : List ℕ) (plan : Plan) : Type 0 where
  pub len : length words ≡ 131072
  pub intact : IsIntact frame words
  pub fits : FitsRecord frame 131072 plan.writes
