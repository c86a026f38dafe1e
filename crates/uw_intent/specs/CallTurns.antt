-- A call on the words of a region, and the events of its world that the call is (own rule).
use Rattle.std.specs.Prelude.{◌≡◌, ◌≢◌, ℕ, Bool, false, List, [], ◌∷◌, Option, length, take, replicate}
use Rattle.uw_outside.specs.Lives.{IsSpent, Spends}
use Rattle.uw_intent.specs.declared.frame.WordWrite.{WordWrite}
use Rattle.uw_intent.specs.Stores.{AllMade, SomeMade}
use Rattle.uw_intent.specs.RedoRecord.{repairs}
use Rattle.uw_intent.specs.Standing.{Kind}
use Rattle.uw_intent.specs.RightWrites.{has_opened, IsRight}
use Rattle.uw_intent.specs.World.{Called, taking, writing, taken, wrote, Phase, calling, Lock, held, World, has_joined, writes_left, RunsTo}

-- how a call ended: its answer was given; it died in place of a word write, and had joined the history or not; or there was no memory for the answer
pub data CallEnd (A : Type 0) : Type 0 where
  given : A → CallEnd A
  died : Bool → CallEnd A
  no_memory : CallEnd A

module _ {S C A : Type 0} (k : Kind S C A) where
  -- what a call made of words that agree with a state: right writes, all of them with an answer, some of them with a death, and none where there was no memory
  abbrev pub CallMade : S → (before now : List ℕ) → (told left : Option (List ℕ)) → ℕ → C → List WordWrite → CallEnd A → Type 0
  CallMade s before now told left moment call todo (given answer) = IsRight k before s moment call answer todo × AllMade todo before now told left
  CallMade s before now told left moment call todo (died whole) =
      (answer : A) × IsRight k before s moment call answer todo
      × (made : SomeMade todo before now told left) × (whole ≡ has_opened k.frame (take made.count todo))
  CallMade s before now told left moment call todo no_memory =
      (answer : A) × IsRight k before s moment call answer todo × (now ≡ before) × (left ≡ told)

module _ {C A : Type 0} (made : Called C) where
  -- where a call that ended so leaves the lock: an answered one has no write left; one that died has one, of its own or of the repair before it, and the life refused
  -- it; and one without memory made no write of its own behind so many of the repair
  abbrev pub EndsAs : CallEnd A → (writes repaired : ℕ) → Option (List ℕ) → Lock C A → Type 0
  EndsAs (given answer) writes repaired left lock = (joined : Bool) × (lock ≡ held made (calling answer [] joined))
  EndsAs (died whole) writes repaired left lock = (phase : Phase A) × (lock ≡ held made phase) × (writes_left phase ≢ []) × (whole ≡ has_joined phase) × IsSpent left
  EndsAs no_memory writes repaired left lock =
      (answer : A) × (todo : List WordWrite) × (lock ≡ held made (calling answer todo false)) × (writes ≡ repaired)

module _ {S C A : Type 0} (k : Kind S C A) (start : S) where
  -- in the world the lock was taken for the call, and just so many word writes were made as the life let through: the words are these, and the call ended so
  pub record IsCallTurn (w : World C A) (made : Called C) (now : List ℕ) (told left : Option (List ℕ)) (end : CallEnd A) : Type 0 where
    pub writes : ℕ
    pub after : World C A
    pub runs : RunsTo k start w (taking made ∷ replicate writes (writing made.who)) (taken ∷ replicate writes wrote) after
    pub words : after.words ≡ now
    pub ends : EndsAs made end writes (length (repairs k.frame w.words)) left after.lock
    pub spent : Spends told left writes
