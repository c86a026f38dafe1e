-- What the words of a region stand for, for any kind of region (own rule).
use Rattle.std.specs.Prelude.{◌≡◌, ℕ, List, length}
use Rattle.uw_words.specs.Plans.{region}
use Rattle.uw_intent.specs.declared.frame.Frame.{Frame}
use Rattle.uw_intent.specs.RedoRecord.{IsFrame, IsBeyond, IsIntact, applied}

-- a kind of region: where its record stands, which words with a closed gate agree with a state, and what a call at a moment answers, leaves and writes at most
pub record Kind (S C A : Type 0) : Type 1 where
  pub frame : Frame
  pub agrees : List ℕ → S → Type 0
  pub answer : S → ℕ → C → A
  pub next : S → ℕ → C → S
  pub most : S → ℕ → C → ℕ

-- words that agree have a closed gate and room for the record, and agree still where the places beyond the record are the same
pub record IsLocal {S C A : Type 0} (k : Kind S C A) : Type 0 where
  pub frame : (words : List ℕ) (s : S) → k.agrees words s → IsFrame k.frame (length words)
  pub gate : (words : List ℕ) (s : S) → k.agrees words s → region words k.frame.gate ≡ 0
  pub same : (words now : List ℕ) (s : S) → length now ≡ length words → region now k.frame.gate ≡ 0
      → ((at : ℕ) → IsBeyond k.frame at → region now at ≡ region words at) → k.agrees words s → k.agrees now s

-- the words are intact, and what they come to with the writes that are left agrees with the state
pub record StandsFor {S C A : Type 0} (k : Kind S C A) (words : List ℕ) (s : S) : Type 0 where
  pub intact : IsIntact k.frame words
  pub agrees : k.agrees (applied k.frame words) s
