-- A part of a region is a predicate over a reader, which gives the word at each place: what it depends on, and what a call on it writes (own rule).
use Rattle.std.specs.Prelude.{◌≡◌, ℕ, ◌≤◌, List, [], ◌∷◌, map, length, if◌then◌else◌, ◌==◌}
use Rattle.uw_words.specs.Plans.{Plan, region, planned, through}
use Rattle.uw_words.specs.Numbers.{IsNoneOf}

-- the words of a region as they are read through an overlay
abbrev pub seen : Plan → List ℕ → ℕ → ℕ
seen plan words = through plan.writes (region words)

-- two readers give the same words at some places
abbrev pub AgreeOn : (ℕ → Type 0) → (ℕ → ℕ) → (ℕ → ℕ) → Type 0
AgreeOn places before now = (at : ℕ) → places at → now at ≡ before at

-- a part holds of every reader that gives the same words at some places
abbrev pub DependsOn : ((ℕ → ℕ) → Type 0) → (ℕ → Type 0) → Type 0
DependsOn part places = (before now : ℕ → ℕ) → AgreeOn places before now → part before → part now

-- the places of planned writes, in the order in which they were first put
abbrev pub places_of : List (ℕ × ℕ) → List ℕ
places_of writes = map (λ write. write.0) writes

-- the places after one more is put: it comes last where it is new
abbrev pub with_place : List ℕ → ℕ → List ℕ
with_place [] at = at ∷ []
with_place (first ∷ places) at = if first == at then first ∷ places else first ∷ with_place places at

-- the places after some more are put, one after the other
abbrev pub with_places : List ℕ → List ℕ → List ℕ
with_places named [] = named
with_places named (at ∷ places) = with_places (with_place named at) places

-- an overlay can name these places too
abbrev pub HasRoom : Plan → List ℕ → Type 0
HasRoom plan places = length (with_places (places_of plan.writes) places) ≤ plan.room

-- an overlay names just these places more, and plans the same words for all others
pub record GrewAt (places : List ℕ) (before now : Plan) : Type 0 where
  pub room : now.room ≡ before.room
  pub named : places_of now.writes ≡ with_places (places_of before.writes) places
  pub others : (at : ℕ) → IsNoneOf places at → planned now.writes at ≡ planned before.writes at
