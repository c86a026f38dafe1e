-- The parts of an overlay, as its calls leave them.
use Rattle.std.proofs.Common.{◌≡◌, ◌≢◌, ◌⊎◌, ⊎_elim, ℕ, ◌-◌, ◌*◌, ◌^◌, ◌<◌, ◌≤◌, List, [], Option, None, IsSome, unwrap_or, Vec, vec_len, length, get_or, set, replicate, sym, ap, ◌∙◌, subst, arith}
use Rattle.std.specs.Vec.{vec_capacity}
use Rattle.std.specs.declared.alloc.Global.{Global}
use Rattle.std.proofs.lemmas.List.{length-replicate}
use Rattle.uw_words.specs.Plans.{planned, Names, through, with_put, HasDistinctPlaces}
use Rattle.uw_words.specs.Slots.{place, IsTable, Passes, PassesAll}
use Rattle.uw_words.specs.SlotSteps.{Ends}
use Rattle.uw_words.specs.Overlays.{IsSound}
use Rattle.uw_words.proofs.Tables.{table_empty}
use Rattle.uw_words.proofs.Writes.{planned_none, planned_at, with_put_at}

-- no write is planned
pub sound_empty : (room most : ℕ) (writes : Vec (ℕ × ℕ) Global) (slots : Vec ℕ Global) → writes.items ≡ [] → room ≤ vec_capacity writes → slots.items ≡ replicate 128 0
    → most ≤ vec_capacity slots → 128 ≤ most → 2 * room < most → room < 2 ^ 32 → IsSound room writes slots most
sound_empty room most writes slots none capacity empty within fewest enough few =
    let no_write : vec_len writes ≡ 0 = writes.ok.0 ∙ ap length none in
    let len : vec_len slots ≡ 128 = slots.ok.0 ∙ ap length empty ∙ length-replicate {A = ℕ} 128 0 in
    record {
      within = omega arith;
      few = few;
      capacity = capacity;
      distinct = subst HasDistinctPlaces (sym none) (λ i j d early h. absurd (omega arith));
      table = subst (λ (l : List (ℕ × ℕ)). IsTable l slots.items) (sym none) (subst (IsTable []) (sym empty) (table_empty 128));
      spare = omega arith;
      fewest = omega arith;
      most = omega arith;
      enough = enough;
      slots_capacity = within;
    }

-- a search that was made in slices of the vectors
pub ends_in : (plan plan' : List (ℕ × ℕ)) (slots slots' : List ℕ) (at slot : ℕ) → plan' ≡ plan → slots' ≡ slots → Ends plan' slots' at slot → Ends plan slots at slot
ends_in plan plan' slots slots' at slot same_plan same_slots ends =
    subst (λ (l : List ℕ). Ends plan l at slot) same_slots (subst (λ (l : List (ℕ × ℕ)). Ends l slots' at slot) same_plan ends)

-- what is read at a place whose bit is not set
pub read_sifted : (sieve : List ℕ) (plan : List (ℕ × ℕ)) (at : ℕ) (reader : ℕ → ℕ) → PassesAll sieve plan → (Passes sieve at → ⊥) → through plan reader at ≡ reader at
read_sifted sieve plan at reader all out =
    ap (λ (word : Option ℕ). unwrap_or word (reader at)) (planned_none plan at (λ k h is. out (subst (Passes sieve) is (all k h))))

module _ (plan : List (ℕ × ℕ)) (slots : List ℕ) (at slot number : ℕ) (ends : Ends plan slots at slot) (is : number ≡ get_or slots slot 0) where
  -- the search ended at a number
  pub is_named : number ≢ 0 → (number - 1 < length plan) × (place plan (number - 1) ≡ at)
  is_named some = ends.named (number - 1) (sym is ∙ omega arith)

  -- the search ended at an empty slot
  pub is_free : number ≡ 0 → (k : ℕ) → k < length plan → place plan k ≢ at
  is_free none = ends.free (sym is ∙ none)

  not_named : number ≡ 0 → Names plan at → ⊥
  not_named none named =
      let nothing : planned plan at ≡ None = planned_none plan at (is_free none) in
      cc (subst IsSome nothing named)

  pub has_room : (room : ℕ) → number ≡ 0 → (length plan < room) ⊎ Names plan at → length plan < room
  has_room room none room_or_named = ⊎_elim (λ room. room) (λ named. absurd (not_named none named)) room_or_named

  -- what is read
  pub read_free : (reader : ℕ → ℕ) → number ≡ 0 → through plan reader at ≡ reader at
  read_free reader none = ap (λ (word : Option ℕ). unwrap_or word (reader at)) (planned_none plan at (is_free none))

  pub read_named : (reader : ℕ → ℕ) → HasDistinctPlaces plan → number ≢ 0 → through plan reader at ≡ (get_or plan (number - 1) (0, 0)).1
  read_named reader distinct some =
      let named = is_named some in
      ap (λ (word : Option ℕ). unwrap_or word (reader at)) (planned_at plan at (number - 1) distinct named.0 named.1)

  -- what a put plans
  pub put_named : (word : ℕ) → HasDistinctPlaces plan → number ≢ 0 → with_put plan at word ≡ set plan (number - 1) (at, word)
  put_named word distinct some = let named = is_named some in with_put_at plan at word (number - 1) distinct named.0 named.1
