-- An entry comes in front of the list with which a region agrees.
use Rattle.std.proofs.Common.{◌≡◌, ⊎_elim, inl, inr, ℕ, zero, suc, ◌+◌, ◌*◌, ◌<◌, ◌≤◌, ◌||◌, ◌&&◌, ◌↔◌, Bool, true, false, not, cond, nat_le, List, [], ◌∷◌, length, refl, sym, ap, ◌∙◌, subst, arith}
use Rattle.std.proofs.lemmas.Bool.{cases_eq, cases_lt}
use Rattle.std.proofs.lemmas.Bool.Decides.{nat_tests}
use Rattle.std.specs.List.{list_all}
use Rattle.uw_model.specs.declared.conf.CacheConf.{CacheConf}
use Rattle.uw_model.specs.declared.entries.Entry.{Entry}
use Rattle.uw_model.specs.Entries.{IsState, covers, span}
use Rattle.uw_model.specs.Layout.{bitmap_words}
use Rattle.uw_model.specs.Placement.{is_clear_of}
use Rattle.uw_words.specs.declared.shape.Shape.{Shape}
use Rattle.uw_words.specs.Numbers.{AreDistinct, IsNoneOf, IsOneOf, without_number}
use Rattle.uw_words.proofs.Links.{walk_short}
use Rattle.uw_words.proofs.Numbers.{not_none}
use Rattle.uw_bitmap.specs.Bits.{is_in_run}
use Rattle.uw_bitmap.proofs.Runs.{before_run, behind_run, in_run}
use Rattle.uw_chains.specs.Chains.{item_chain, with_chain}
use Rattle.uw_chains.proofs.Places.{with_other, with_same}
use Rattle.uw_plan.specs.Parts.{HoldEntries, HoldsEntry, HoldsParts, Parts}
use Rattle.uw_plan.specs.Agreement.{AgreesAs, FitsList, is_covered}
use Rattle.uw_plan.proofs.Shapes.{IsShapeOf}
use Rattle.uw_plan.proofs.Parted.{clear_of}
use Rattle.uw_plan.proofs.Dropping.{one_left}

-- a list that has each number below a bound has at least as many
pub length_left : (numbers : List ℕ) (number : ℕ) → IsOneOf numbers number → suc (length (without_number numbers number)) ≡ length numbers
length_left [] number one = absurd one
length_left (first ∷ numbers) number one = elim (cases_eq first number) [
  | inl same ↦ (let e : without_number (first ∷ numbers) number ≡ numbers = grind (arith, nat_tests) in ap (λ (l : List ℕ). suc (length l)) e)
  | inr differs ↦
      let e : without_number (first ∷ numbers) number ≡ first ∷ without_number numbers number = grind (arith, nat_tests) in
      let later : IsOneOf numbers number = ⊎_elim (λ here. absurd (differs here)) (λ rest. rest) one in
      ap (λ (l : List ℕ). suc (length l)) e ∙ ap suc (length_left numbers number later)
]

pub all_below : (bound : ℕ) (numbers : List ℕ) → ((number : ℕ) → number < bound → IsOneOf numbers number) → bound ≤ length numbers
all_below zero numbers all = omega arith
all_below (suc bound) numbers all =
    let last : IsOneOf numbers bound = all bound (omega arith) in
    let rest : bound ≤ length (without_number numbers bound) =
    all_below bound (without_number numbers bound) (λ number low. one_left numbers bound number (all number (omega (arith, low))) (λ same. omega (arith, same, low))) in
    omega (arith, rest, length_left numbers bound last)

-- as many items as entries
pub held_length : (reader : ℕ → ℕ) (shape : Shape) (items : List ℕ) (list : List Entry) → HoldEntries reader shape items list → length items ≡ length list
held_length reader shape [] [] holds = refl
held_length reader shape [] (e ∷ list) holds = absurd holds
held_length reader shape (item ∷ items) [] holds = absurd holds
held_length reader shape (item ∷ items) (e ∷ list) holds = ap suc (held_length reader shape items list holds.1)

-- an entry covers a block, and then it isn't clear of it
blocked : (conf : CacheConf) (e : Entry) (block : ℕ) → covers conf e block → is_clear_of conf block 1 e ≡ false
blocked conf e block both = covered e.first (span conf e.value) block both.0 both.1
  where
    covered : (first n b : ℕ) → first ≤ b → b < first + n → (nat_le (first + n) b || nat_le (b + 1) first) ≡ false
    covered first n b low high = grind (arith, nat_tests)

pub covered_by : (conf : CacheConf) (e : Entry) (list : List Entry) (block : ℕ) → covers conf e block → is_covered conf (e ∷ list) block ≡ true
covered_by conf e list block both = ap (λ (b : Bool). not (b && list_all (is_clear_of conf block 1) list)) (blocked conf e block both)

pub covered_else : (conf : CacheConf) (e : Entry) (list : List Entry) (block : ℕ) → (covers conf e block → ⊥) → is_covered conf (e ∷ list) block ≡ is_covered conf list block
covered_else conf e list block off = ap (λ (b : Bool). not (b && list_all (is_clear_of conf block 1) list)) (clear_of conf e block off)

-- the parts after an item, the first of the free ones, holds a new entry
abbrev pub added_parts : Parts → (chain item first n : ℕ) → List ℕ → Parts
added_parts parts chain item first n rest = record {
  items = item ∷ parts.items;
  free = rest;
  chains = with_chain parts.chains chain (item ∷ parts.chains chain);
  marked = λ block. cond (is_in_run first n block) true (parts.marked block);
  count = parts.count + 1;
}

module _ (conf : CacheConf) (shape : Shape) (of : IsShapeOf conf shape) (reader : ℕ → ℕ) (items : List ℕ) (list : List Entry) (agrees : AgreesAs reader shape conf items list)
    (e : Entry) (state : IsState conf (e ∷ list)) where
  -- some item is free
  pub some_free : (agrees.parts.free ≡ []) → ⊥
  some_free empty =
      let all : conf.items ≤ length agrees.parts.items = all_below conf.items agrees.parts.items (λ number low. listed agrees.parts.items number (λ none.
      subst (λ (l : List ℕ). IsOneOf l number) empty ((agrees.fits.others number low).1 none))) in
      omega (arith, all, held_length reader shape items list agrees.entries, ap length agrees.is, state.few)
    where
      listed : (numbers : List ℕ) (number : ℕ) → (IsNoneOf numbers number → ⊥) → IsOneOf numbers number
      listed [] number off = absurd (off tt)
      listed (first ∷ numbers) number off = elim (cases_eq first number) [
        | inl same ↦ inl same
        | inr apart ↦ inr (listed numbers number (λ none. off (apart, none)))
      ]

  module _ (item : ℕ) (rest : List ℕ) (free : agrees.parts.free ≡ item ∷ rest) (chain : ℕ) where
    is_free_item : IsOneOf agrees.parts.free item
    is_free_item = subst (λ (l : List ℕ). IsOneOf l item) (sym free) (inl refl)

    pub free_item_short : item < shape.n_items
    free_item_short = walk_short shape reader 2 agrees.parts.free (reader (shape.head + 8)) agrees.held.free.walk item is_free_item

    pub free_item_new : IsNoneOf agrees.parts.items item
    free_item_new = (agrees.fits.others item (omega (arith, free_item_short, of.items))).0 is_free_item

    none_from : (numbers : List ℕ) → (IsOneOf numbers item → ⊥) → IsNoneOf numbers item
    none_from [] off = tt
    none_from (first ∷ numbers) off = ((λ same. off (inl same)), none_from numbers (λ one. off (inr one)))

    pub free_item_unchained : (other : ℕ) → other < shape.n_chains → IsNoneOf (agrees.parts.chains other) item
    free_item_unchained other few =
        none_from (agrees.parts.chains other) (λ one. not_none agrees.parts.items item (agrees.fits.linked other item (omega (arith, few, of.chains)) one) free_item_new)

    free_item_once : AreDistinct (item ∷ rest)
    free_item_once = subst AreDistinct free agrees.held.free.distinct

    pub free_apart : (other : ℕ) → IsOneOf rest other → IsNoneOf (item ∷ agrees.parts.items) other
    free_apart other one =
        let before : IsOneOf agrees.parts.free other = subst (λ (l : List ℕ). IsOneOf l other) (sym free) (inr one) in
        let low : other < shape.n_items = walk_short shape reader 2 agrees.parts.free (reader (shape.head + 8)) agrees.held.free.walk other before in (
          λ same. not_none rest item (subst (IsOneOf rest) (sym same) one) free_item_once.0,
          (agrees.fits.others other (omega (arith, low, of.items))).0 before,
        )

    abbrev pub new_parts : Parts
    new_parts = added_parts agrees.parts chain item e.first (span conf e.value) rest

    new_linked : (other linked : ℕ) → other < conf.chains → IsOneOf (new_parts.chains other) linked → IsOneOf new_parts.items linked
    new_linked other linked few one = elim (cases_eq other chain) [
      | inl same ↦ front (subst (λ (l : List ℕ). IsOneOf l linked) (with_same agrees.parts.chains chain (item ∷ agrees.parts.chains chain) other same) one)
          (omega (arith, few, same))
      | inr differs ↦
          inr (agrees.fits.linked other linked few (subst (λ (l : List ℕ). IsOneOf l linked) (with_other agrees.parts.chains chain (item ∷ agrees.parts.chains chain) other differs) one))
    ]
      where
        front : IsOneOf (item ∷ agrees.parts.chains chain) linked → chain < conf.chains → IsOneOf (item ∷ agrees.parts.items) linked
        front (inl here) low = inl here
        front (inr later) low = inr (agrees.fits.linked chain linked low later)

    new_others : (other : ℕ) → other < conf.items → IsOneOf rest other ↔ IsNoneOf (item ∷ agrees.parts.items) other
    new_others other few = (
      λ one. free_apart other one,
      λ none.
          let before : IsOneOf (item ∷ rest) other = subst (λ (l : List ℕ). IsOneOf l other) free ((agrees.fits.others other few).1 none.1) in
          ⊎_elim (λ here. absurd (none.0 here)) (λ later. later) before,
    )

    new_covered : (block : ℕ) → block < 64 * bitmap_words conf → new_parts.marked block ≡ is_covered conf (e ∷ list) block
    new_covered block low = elim (cases_lt block e.first) [
      | inl before ↦ rw (before_run e.first (span conf e.value) block before) (outside (λ cover. omega (arith, cover.0, before)))
      | inr behind ↦ elim (cases_lt block (e.first + span conf e.value)) [
        | inl within ↦ rw (in_run e.first (span conf e.value) block behind within) (sym (covered_by conf e list block (behind, within)))
        | inr after ↦ rw (behind_run e.first (span conf e.value) block after) (outside (λ cover. omega (arith, cover.1, after)))
      ]
    ]
      where
        outside : (covers conf e block → ⊥) → agrees.parts.marked block ≡ is_covered conf (e ∷ list) block
        outside off = agrees.fits.covered block low ∙ sym (covered_else conf e list block off)

    pub new_fits : FitsList conf new_parts (e ∷ list)
    new_fits = record {
      state = state;
      count = omega (arith, agrees.fits.count);
      linked = new_linked;
      others = new_others;
      covered = new_covered;
    }

    -- the words after it
    module _ (now : ℕ → ℕ) (held : HoldsParts now shape new_parts) (holds : HoldsEntry now shape item e) (entries : HoldEntries now shape items list)
        (own : item_chain now shape item ≡ chain) (same_chain : (other : ℕ) → IsOneOf items other → item_chain now shape other ≡ item_chain reader shape other) where
      pub joined_agrees : AgreesAs now shape conf (item ∷ items) (e ∷ list)
      joined_agrees = record {
        parts = new_parts;
        is = ap (λ (l : List ℕ). item ∷ l) agrees.is;
        held = held;
        fits = new_fits;
        entries = (holds, entries);
        chained = λ other one. on_chain other one;
      }
        where
          on_new : (c other : ℕ) → c ≡ chain → IsOneOf (item ∷ agrees.parts.chains chain) other → IsOneOf (new_parts.chains c) other
          on_new c other same one = subst (λ (l : List ℕ). IsOneOf l other) (sym (with_same agrees.parts.chains chain (item ∷ agrees.parts.chains chain) c same)) one

          on_old : (c other : ℕ) → IsOneOf (agrees.parts.chains c) other → IsOneOf (new_parts.chains c) other
          on_old c other one = elim (cases_eq c chain) [
            | inl same ↦ on_new c other same (inr (subst (λ (d : ℕ). IsOneOf (agrees.parts.chains d) other) same one))
            | inr differs ↦ subst (λ (l : List ℕ). IsOneOf l other) (sym (with_other agrees.parts.chains chain (item ∷ agrees.parts.chains chain) c differs)) one
          ]

          on_chain : (other : ℕ) → IsOneOf (item ∷ items) other → IsOneOf (new_parts.chains (item_chain now shape other)) other
          on_chain other (inl here) = subst (λ (i : ℕ). IsOneOf (new_parts.chains (item_chain now shape i)) i) here (on_new (item_chain now shape item) item own (inl refl))
          on_chain other (inr later) =
              subst (λ (c : ℕ). IsOneOf (new_parts.chains c) other) (sym (same_chain other later)) (on_old (item_chain reader shape other) other (agrees.chained other later))
