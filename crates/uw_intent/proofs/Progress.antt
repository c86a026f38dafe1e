-- Writes that are made one by one.
use Rattle.std.proofs.Common.{◌≡◌, ℕ, ◌+◌, ◌≤◌, Bool, true, false, not, List, [], ◌∷◌, ◌++◌, Option, Some, None, IfSome, length, set, take, refl, sym, ap, ◌∙◌, subst, arith, ◌&&◌}
use Rattle.std.specs.List.{slice_get}
use Rattle.std.specs.Option.{option_map}
use Rattle.std.proofs.lemmas.List.{length-set, take_more, take_all}
use Rattle.std.proofs.lemmas.Option.{get_or_from_slice_get, slice_get_within}
use Rattle.uw_outside.specs.Faults.{HasCause}
use Rattle.uw_outside.specs.Lives.{raised, is_spent, Spends, IsSpent, Allows}
use Rattle.uw_intent.specs.declared.frame.WordWrite.{WordWrite}
use Rattle.uw_intent.specs.Stores.{words_after, AllMade, SomeMade}

-- so many of the writes were made
pub record SoFar (writes : List WordWrite) (before now : List ℕ) (told left : Option (List ℕ)) (count : ℕ) : Type 0 where
  pub within : count ≤ length writes
  pub words : now ≡ words_after (take count writes) before
  pub spent : Spends told left count

pub made-append : (early late : List WordWrite) (words : List ℕ) → words_after (early ++ late) words ≡ words_after late (words_after early words)
made-append [] late words = refl
made-append (write ∷ early) late words = made-append early late (set words write.at write.word)

pub length-made : (writes : List WordWrite) (words : List ℕ) → length (words_after writes words) ≡ length words
length-made [] words = refl
length-made (write ∷ writes) words = length-made writes (set words write.at write.word) ∙ length-set words write.at write.word

pub take_next : (writes : List WordWrite) (k : ℕ) (write : WordWrite) → slice_get writes k ≡ Some write → take (k + 1) writes ≡ take k writes ++ write ∷ []
take_next writes k write is =
    take_more writes k write (slice_get_within writes k write is) ∙ ap (λ (w : WordWrite). take k writes ++ w ∷ []) (get_or_from_slice_get writes k write write is)

-- so many writes were let through, and then so many more
pub spends_then : (told mid left : Option (List ℕ)) (early late : ℕ) → Spends told mid early → Spends mid left late → Spends told left (early + late)
spends_then told mid left early late first then = first ∙ ap (option_map (raised early)) then ∙ again left
  where
    again : (left : Option (List ℕ)) → option_map (raised early) (option_map (raised late) left) ≡ option_map (raised (early + late)) left
    again None = refl
    again (Some []) = refl
    again (Some (x ∷ xs)) = ap (λ (n : ℕ). Some (n ∷ xs)) (let e : x + late + early ≡ x + (early + late) = omega arith in e)

pub spends_none : (told : Option (List ℕ)) → Spends told told 0
spends_none None = refl
spends_none (Some []) = refl
spends_none (Some (x ∷ xs)) = ap (λ (n : ℕ). Some (n ∷ xs)) (let e : x ≡ x + 0 = omega arith in e)

module _ (writes : List WordWrite) (before : List ℕ) (told : Option (List ℕ)) where
  pub none_made : SoFar writes before before told told 0
  none_made = record { within = omega arith; words = refl; spent = spends_none told }

  -- the next write was let through
  pub one_more : (now after : List ℕ) (left later : Option (List ℕ)) (count : ℕ) (write : WordWrite) → SoFar writes before now told left count
      → slice_get writes count ≡ Some write → after ≡ set now write.at write.word → Spends left later 1 → SoFar writes before after told later (count + 1)
  one_more now after left later count write so_far next stored counted = record {
    within = omega (arith, slice_get_within writes count write next);
    words =
        stored ∙ ap (λ (words : List ℕ). set words write.at write.word) so_far.words ∙ sym (made-append (take count writes) (write ∷ []) before)
        ∙ ap (λ (l : List WordWrite). words_after l before) (sym (take_next writes count write next));
    spent = spends_then told left later count 1 so_far.spent counted;
  }

  -- the next write was refused
  pub no_more : (now after : List ℕ) (left later : Option (List ℕ)) (count : ℕ) (write : WordWrite) → SoFar writes before now told left count
      → slice_get writes count ≡ Some write → after ≡ now → Allows left later true false → SomeMade writes before after told later
  no_more now after left later count write so_far next same allows = record {
    count = count;
    fewer = slice_get_within writes count write next;
    words = same ∙ so_far.words;
    spent = subst (λ (l : Option (List ℕ)). Spends told l count) (sym (allows.kept refl)) so_far.spent;
    refused = subst IsSpent (sym (allows.kept refl)) (spent left (allows.refused refl));
  }
    where
      spent : (left : Option (List ℕ)) → IfSome left (λ allowances. false ≡ not (is_spent allowances)) → IsSpent left
      spent None h = tt
      spent (Some allowances) h = go (is_spent allowances) h
        where
          go : (b : Bool) → false ≡ not b → b ≡ true
          go true h = refl
          go false h = h

  -- no write was left
  pub all_made : (now : List ℕ) (left : Option (List ℕ)) (count : ℕ) → SoFar writes before now told left count → length writes ≤ count → AllMade writes before now told left
  all_made now left count so_far all =
      let same : count ≡ length writes = omega (arith, so_far.within) in
      record {
        words = so_far.words ∙ ap (λ (l : List WordWrite). words_after l before) (take_all count writes all);
        spent = subst (Spends told left) same so_far.spent;
      }

-- a write that was let through leaves a life alive, and its deaths
pub still_alive : (old new : Bool) → old ≡ true → new ≡ (old && true) → new ≡ true
still_alive old new was is = is ∙ ap (λ (b : Bool). b && true) was

pub same_deaths : (alive : Bool) (first before now : ℕ) → alive ≡ true → HasCause before now (alive && not true) → before ≡ first → now ≡ first
same_deaths alive first before now was cause same =
    let counted : HasCause before now (true && not true) = subst (λ (b : Bool). HasCause before now (b && not true)) was cause in
    counted.kept refl ∙ same
