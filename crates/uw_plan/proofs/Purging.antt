-- The least recent entries leave the list, one after the other.
use Rattle.std.proofs.Common.{◌≡◌, ℕ, ◌+◌, ◌-◌, false, true, List, [], ◌∷◌, ◌++◌, Some, None, append-nil, append_assoc, length, take, refl, sym, ap, ◌∙◌, subst, arith}
use Rattle.std.proofs.lemmas.List.{length-append}
use Rattle.uw_model.specs.declared.conf.CacheConf.{CacheConf}
use Rattle.uw_model.specs.declared.entries.Entry.{Entry}
use Rattle.uw_model.specs.Entries.{AreApart, IsCacheConf}
use Rattle.uw_model.specs.Calls.{without}
use Rattle.uw_model.specs.Placement.{fits, longest_front}
use Rattle.uw_model.proofs.PlacementLemmas.{front_fits, no_front, shorter_front}
use Rattle.uw_words.specs.declared.shape.Shape.{Shape}
use Rattle.uw_words.specs.Plans.{Plan}
use Rattle.uw_words.specs.Parts.{seen}
use Rattle.uw_words.specs.Numbers.{without_number}
use Rattle.uw_plan.specs.Regions.{shape_of}
use Rattle.uw_plan.specs.Agreement.{AgreesAs}
use Rattle.uw_plan.specs.Plans.{Costs, IsPaired, item_run_places}
use Rattle.uw_plan.specs.CallSteps.{Leaves}
use Rattle.uw_plan.proofs.OneByOne.{leaves_more, leaves_none, without_midst}
use Rattle.uw_plan.proofs.Walking.{IsLastEntry}

-- a front of the list is left, no front so long or longer has room
pub record Purged (conf : CacheConf) (words : List ℕ) (n : ℕ) (before now : Plan) (list kept : List Entry) : Type 0 where
  pub gone : List Entry
  pub is : list ≡ kept ++ gone
  pub full : fits conf kept n ≡ false
  pub longest : longest_front conf list n (length list) ≡ longest_front conf list n (length kept)
  pub leaves : Leaves conf words before now list kept

-- a front is the list as far as it is long
front_is : (list front back : List Entry) → list ≡ front ++ back → take (length front) list ≡ front
front_is list front back is = ap (take (length front)) is ∙ take_front front back
  where
    take_front : (front back : List Entry) → take (length front) (front ++ back) ≡ front
    take_front [] back = refl
    take_front (e ∷ front) back = ap (λ (l : List Entry). e ∷ l) (take_front front back)

module _ (conf : CacheConf) (is : IsCacheConf conf) (words : List ℕ) (n : ℕ) (before : Plan) (list : List Entry) where
  abbrev pub shape : Shape
  shape = shape_of conf

  pub purged_none : (items : List ℕ) → AgreesAs (seen before words) shape conf items list → fits conf list n ≡ false → Purged conf words n before before list list
  purged_none items agrees full = record { gone = []; is = sym (append-nil list); full = full; longest = refl; leaves = leaves_none conf is words before items list agrees }

  -- where nothing is left, no front has room
  pub purged_all : (now : Plan) (kept : List Entry) → Purged conf words n before now list kept → kept ≡ [] → (longest_front conf list n (length list) ≡ None) × Leaves conf words before now list []
  purged_all now kept purged none =
      let some_full : fits conf (take 0 list) n ≡ false = ap (λ (l : List Entry). fits conf l n) (sym none) ∙ purged.full in (
        purged.longest ∙ ap (λ (l : List Entry). longest_front conf list n (length l)) none ∙ no_front conf list n 0 some_full refl,
        subst (λ (l : List Entry). Leaves conf words before now list l) none purged.leaves,
      )

  -- the last one leaves
  module _ (mid : Plan) (kept : List Entry) (purged : Purged conf words n before mid list kept) (item : ℕ) (last : IsLastEntry purged.leaves.items kept item) (now : Plan)
      (drops : (items : List ℕ) (list : List Entry) (e : Entry) → AgreesAs (seen mid words) shape conf items list → IsPaired items list item e
      → AgreesAs (seen now words) shape conf (without_number items item) (without e.key list))
      (costs : Costs shape 16 (item_run_places (seen mid words) shape conf item) mid now) where
    abbrev pub front : List Entry
    front = last.front

    front_left : without last.e.key kept ≡ front
    front_left =
        ap (without last.e.key) last.is ∙ without_midst conf front last.e [] (subst (AreApart conf) last.is purged.leaves.agrees.fits.state.apart) ∙ append-nil front

    pub front_leaves : Leaves conf words before now list front
    front_leaves =
        subst (λ (l : List Entry). Leaves conf words before now list l) front_left
        (leaves_more conf is words before mid list kept purged.leaves item last.e last.paired now drops costs)

    list_is : list ≡ front ++ (last.e ∷ purged.gone)
    list_is = purged.is ∙ ap (λ (l : List Entry). l ++ purged.gone) last.is ∙ append_assoc front (last.e ∷ []) purged.gone

    longest_of_front : longest_front conf list n (length list) ≡ longest_front conf list n (length front)
    longest_of_front =
        let one_less : length kept ≡ length front + 1 = omega (arith, ap length last.is, length-append front (last.e ∷ [])) in
        let full : fits conf (take (length kept) list) n ≡ false = ap (λ (l : List Entry). fits conf l n) (front_is list kept purged.gone purged.is) ∙ purged.full in
        purged.longest ∙ shorter_front conf list n (length kept) full (λ none. omega (arith, none, one_less))
        ∙ ap (longest_front conf list n) (let less : length kept - 1 ≡ length front = omega (arith, one_less) in less)

    pub purged_more : fits conf front n ≡ false → Purged conf words n before now list front
    purged_more full = record { gone = last.e ∷ purged.gone; is = list_is; full = full; longest = longest_of_front; leaves = front_leaves }

    pub purged_enough : fits conf front n ≡ true → longest_front conf list n (length list) ≡ Some front
    purged_enough room =
        let same : take (length front) list ≡ front = front_is list front (last.e ∷ purged.gone) list_is in
        longest_of_front ∙ front_fits conf list n (length front) (ap (λ (l : List Entry). fits conf l n) same ∙ room) ∙ ap (λ (l : List Entry). Some l) same
