-- Which words of a region agree with a shared area ("SharedArea"; own rule).
use Rattle.std.specs.Prelude.{◌≡◌, ℕ, ◌+◌, ◌*◌, ◌<◌, List, All, length}
use Rattle.uw_model.specs.Layout.{head_words}
use Rattle.uw_model.specs.AreaLayout.{area_plan_room, area_words, byte_words}
use Rattle.uw_model.specs.AreaOps.{AreaState}
use Rattle.uw_words.specs.Plans.{region}
use Rattle.uw_words.specs.Texts.{HoldsText}
use Rattle.uw_intent.specs.declared.frame.Frame.{Frame}

-- where the redo record of an area of so many bytes stands: behind the header and the bytes
abbrev pub area_frame : ℕ → Frame
area_frame size = record { gate = 10; used = 11; start = head_words + byte_words size; room = 3 * area_plan_room size }

-- a reader's words hold an area of so many bytes: the layout's number, the size and the count of updates in the header, and
-- behind it the bytes, eight a word, the first lowest
pub record HoldsArea (reader : ℕ → ℕ) (size : ℕ) (area : AreaState) : Type 0 where
  pub layout : reader 0 ≡ 2
  pub told : reader 1 ≡ size
  pub updates : reader 2 ≡ area.updates
  pub many : length area.bytes ≡ size
  pub small : All (λ byte. byte < 256) area.bytes
  pub bytes : HoldsText reader head_words area.bytes

-- the words of a region, whose gate is closed, agree with an area of so many bytes
pub record AgreesWithArea (size : ℕ) (words : List ℕ) (area : AreaState) : Type 0 where
  pub len : length words ≡ area_words size
  pub closed : region words 10 ≡ 0
  pub holds : HoldsArea (region words) size area
