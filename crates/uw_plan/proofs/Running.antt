-- Where there is room for one more entry, by the marks of the blocks.
use Rattle.std.proofs.Common.{◌≡◌, ℕ, ◌+◌, ◌-◌, ◌<◌, ◌≤◌, ◌&&◌, nat_lt, Bool, true, false, not, List, length, Option, Some, None, is_some, refl, sym, ap, ◌∙◌, subst, arith}
use Rattle.std.specs.Prelude.{IfSome}
use Rattle.std.proofs.lemmas.Bool.{false_from_ne_true, le-ltb, lt-ltb, not-false}
use Rattle.uw_model.specs.declared.conf.CacheConf.{CacheConf}
use Rattle.uw_model.specs.declared.entries.Entry.{Entry}
use Rattle.uw_model.specs.Placement.{first_run, fits, is_free}
use Rattle.uw_model.proofs.LawLemmas.{free_covered, no_run}
use Rattle.uw_model.proofs.PlacementLemmas.{first_run_found}
use Rattle.uw_bitmap.specs.Bits.{IsFreeRun, IsLeastFreeRun, is_marked}
use Rattle.uw_plan.specs.Agreement.{AgreesAs}
use Rattle.uw_plan.specs.Regions.{shape_of}

-- blocks are free where each of them is
module _ (conf : CacheConf) (list : List Entry) (n place : ℕ) (some : 1 ≤ n) where
  each_free : is_free conf list n place ≡ true → (i : ℕ) → i < n → is_free conf list 1 (place + i) ≡ true
  each_free free i short =
      (free_covered conf list 1 (place + i) (omega arith)).1
      (λ k d within block low high covered. (free_covered conf list n place some).0 free k d within block (omega arith) (omega arith) covered)

  all_free : ((i : ℕ) → i < n → is_free conf list 1 (place + i) ≡ true) → is_free conf list n place ≡ true
  all_free each = (free_covered conf list n place some).1
      (λ k d within block low high covered.
      let there : place + (block - place) ≡ block = omega arith in
      let free : is_free conf list 1 block ≡ true = subst (λ (b : ℕ). is_free conf list 1 b ≡ true) there (each (block - place) (omega arith)) in
      (free_covered conf list 1 block (omega arith)).0 free k d within block (omega arith) (omega arith) covered)

-- the marks say which blocks are free
module _ (conf : CacheConf) (list : List Entry) (n : ℕ) (some : 1 ≤ n) (marked : ℕ → Bool)
    (marks : (block : ℕ) → block < conf.blocks → marked block ≡ not (is_free conf list 1 block)) where
  free_of_run : (first : ℕ) → IsFreeRun marked conf.blocks first n → is_free conf list n first ≡ true
  free_of_run first run = all_free conf list n first some
      (λ i short. not-false (is_free conf list 1 (first + i)) (sym (marks (first + i) (omega (arith, run.within, short))) ∙ run.free i short))

  run_of_free : (first : ℕ) → first + n ≤ conf.blocks → is_free conf list n first ≡ true → IsFreeRun marked conf.blocks first n
  run_of_free first within free = record {
    within = within;
    free = λ i short. marks (first + i) (omega (arith, within, short)) ∙ ap not (each_free conf list n first some free i short);
  }

  least_is : (first : ℕ) → IsLeastFreeRun marked conf.blocks first n → first_run conf list n ≡ Some first
  least_is first least = sym (first_run_found conf list n first least.run.within (free_of_run first least.run)
      (λ k before. false_from_ne_true (is_free conf list n k)
      (λ free. least.least k before (run_of_free k (omega (arith, before, least.run.within)) free))))

  none_is : ((first : ℕ) → IsFreeRun marked conf.blocks first n → ⊥) → first_run conf list n ≡ None
  none_is none = (no_run conf list n).1 (λ place within. false_from_ne_true (is_free conf list n place) (λ free. none place (run_of_free place within free)))

  -- the least free run by the marks is the first run
  pub run_is : (result : Option ℕ) → IfSome result (λ first. IsLeastFreeRun marked conf.blocks first n)
      → (result ≡ None → (first : ℕ) → IsFreeRun marked conf.blocks first n → ⊥) → result ≡ first_run conf list n
  run_is (Some first) least none = sym (least_is first least)
  run_is None least none = sym (none_is (none refl))

-- what a reader's words say of a list with which they agree
module _ (reader : ℕ → ℕ) (conf : CacheConf) (items : List ℕ) (list : List Entry) (agrees : AgreesAs reader (shape_of conf) conf items list) where
  pub count_is : reader 9 ≡ length list
  count_is = agrees.held.count ∙ agrees.fits.count

  pub marks_are : (block : ℕ) → block < conf.blocks → is_marked reader (shape_of conf) block ≡ not (is_free conf list 1 block)
  marks_are block within = agrees.held.bits block (omega (arith, within)) ∙ agrees.fits.covered block (omega (arith, within))

  -- what is found, where fewer items are in use than there are, and where all are
  module _ (n : ℕ) (some : 1 ≤ n) (result : Option ℕ)
      (least : IfSome result (λ first. IsLeastFreeRun (is_marked reader (shape_of conf)) conf.blocks first n))
      (none : result ≡ None → (first : ℕ) → IsFreeRun (is_marked reader (shape_of conf)) conf.blocks first n → ⊥) where
    found : result ≡ first_run conf list n
    found = run_is conf list n some (is_marked reader (shape_of conf)) marks_are result least none

    pub found_fits : reader 9 < conf.items → is_some result ≡ fits conf list n
    found_fits fewer =
        let room : nat_lt (length list) conf.items ≡ true = lt-ltb (length list) conf.items (omega (arith, fewer, count_is)) in
        ap is_some found ∙ ap (λ (b : Bool). b && is_some (first_run conf list n)) (sym room)

    pub found_run : IfSome result (λ first. first_run conf list n ≡ Some first)
    found_run = of_found result found
      where
        of_found : (r : Option ℕ) → r ≡ first_run conf list n → IfSome r (λ first. first_run conf list n ≡ Some first)
        of_found (Some first) is = sym is
        of_found None is = tt

  pub full_fits : (n : ℕ) → conf.items ≤ reader 9 → false ≡ fits conf list n
  full_fits n full =
      let room : nat_lt (length list) conf.items ≡ false = le-ltb (length list) conf.items (omega (arith, full, count_is)) in
      ap (λ (b : Bool). b && is_some (first_run conf list n)) (sym room)

  -- where it is not for want of items that there is no room, no run is free
  pub no_run_is_free : (n : ℕ) → 1 ≤ n → reader 9 < conf.items → fits conf list n ≡ false
      → (start : ℕ) → IsFreeRun (is_marked reader (shape_of conf)) conf.blocks start n → ⊥
  no_run_is_free n some fewer full start run =
      let room : nat_lt (length list) conf.items ≡ true = lt-ltb (length list) conf.items (omega (arith, fewer, count_is)) in
      let none : is_some (first_run conf list n) ≡ false = ap (λ (b : Bool). b && is_some (first_run conf list n)) (sym room) ∙ full in
      let taken : is_free conf list n start ≡ false = (no_run conf list n).0 (is_none (first_run conf list n) none) start run.within in
      let free : is_free conf list n start ≡ true = free_of_run conf list n some (is_marked reader (shape_of conf)) marks_are start run in
      let other : true ≡ false = sym free ∙ taken in
      grind (arith, other)
    where
      is_none : (o : Option ℕ) → is_some o ≡ false → o ≡ None
      is_none None is = refl
      is_none (Some place) is = let other : true ≡ false = is in grind (arith, other)
