-- The entries that count, as a filter, and what one of them says of the free runs.
use Rattle.std.proofs.Common.{◌≡◌, ℕ, ◌+◌, ◌<◌, ◌≤◌, Bool, true, false, not, ◌&&◌, List, [], ◌∷◌, length, get_or, filter, count_by, Option, None, Some, refl, sym, ap, ◌∙◌, inl, inr, arith}
use Rattle.std.specs.List.{list_all}
use Rattle.std.proofs.lemmas.List.Sums.{length-filter}
use Rattle.std.proofs.lemmas.List.Folds.{list_all_at}
use Rattle.std.proofs.lemmas.Bool.{cases_Bool}
use Rattle.std.proofs.lemmas.Bool.Decides.{nat_tests}
use Rattle.uw_model.specs.declared.conf.CacheConf.{CacheConf}
use Rattle.uw_model.specs.declared.entries.Entry.{Entry}
use Rattle.uw_model.specs.Entries.{span}
use Rattle.uw_model.specs.Placement.{is_clear_of, is_free}
use Rattle.uw_model.specs.PlacementSteps.{counts, counted, is_in_the_way, IsBlockedUntil}

pub counted-filter : (conf : CacheConf) (at : Option ℕ) (list : List Entry) → counted conf at list ≡ filter (counts conf at) list
counted-filter conf None [] = refl
counted-filter conf None (e ∷ list) = ap (λ l. e ∷ l) (counted-filter conf None list)
counted-filter conf (Some now) list = refl

pub length_counted : (conf : CacheConf) (at : Option ℕ) (list : List Entry) → count_by (counts conf at) list ≡ length (counted conf at list)
length_counted conf at list = sym (ap length (counted-filter conf at list) ∙ length-filter (counts conf at) list)

not-not : (b : Bool) → not (not b) ≡ b
not-not true = refl
not-not false = refl

-- a test over the elements that pass another
pub list_all-filter : {X : Type 0} (p q : X → Bool) (xs : List X) → list_all p (filter q xs) ≡ list_all (λ x. not (q x && not (p x))) xs
list_all-filter p q [] = refl
list_all-filter p q (x ∷ xs) =
    elim (cases_Bool (q x)) [
      | inl kept ↦ rw kept (ap (λ b. p x && b) (list_all-filter p q xs) ∙ ap (λ b. b && list_all (λ y. not (q y && not (p y))) xs) (sym (not-not (p x))))
      | inr left ↦ rw left (list_all-filter p q xs)
    ]

pub free_of : (conf : CacheConf) (at : Option ℕ) (list : List Entry) (n place : ℕ) → is_free conf (counted conf at list) n place ≡ list_all (λ e. not (is_in_the_way conf at n place e)) list
free_of conf at list n place = ap (list_all (is_clear_of conf place n)) (counted-filter conf at list) ∙ list_all-filter (is_clear_of conf place n) (counts conf at) list

-- an entry in the way of a place is in the way of each place from there up to the entry's end
in_the_way_before : (conf : CacheConf) (at : Option ℕ) (n place k : ℕ) (e : Entry) → is_in_the_way conf at n place e ≡ true → place ≤ k → k < e.first + span conf e.value → is_in_the_way conf at n k e ≡ true
in_the_way_before conf at n place k e stands from below = grind (arith, nat_tests)

ahead_of : (conf : CacheConf) (at : Option ℕ) (n place : ℕ) (e : Entry) → is_in_the_way conf at n place e ≡ true → place < e.first + span conf e.value
ahead_of conf at n place e stands = grind (arith, nat_tests)

-- up to the end of an entry in the way no run is free
pub end_blocks : (conf : CacheConf) (at : Option ℕ) (n place : ℕ) (list : List Entry) (i : ℕ) (e : Entry) → i < length list → e ≡ get_or list i e → is_in_the_way conf at n place e ≡ true → e.first + span conf e.value ≤ conf.blocks → IsBlockedUntil conf (counted conf at list) n place (e.first + span conf e.value)
end_blocks conf at n place list i e within is stands ends = record {
  ahead = ahead_of conf at n place e stands;
  within = ends;
  blocked = λ k from below. free_of conf at list n k ∙ list_all_at (λ o. not (is_in_the_way conf at n k o)) list i e within (ap (λ o. not (is_in_the_way conf at n k o)) (sym is) ∙ ap not (in_the_way_before conf at n place k e stands from below));
}
