-- Places among the items of a recency list, and the entries that stand there.
use Rattle.std.proofs.Common.{◌≡◌, ◌≢◌, inl, inr, ℕ, zero, suc, ◌+◌, ◌<◌, List, [], ◌∷◌, ◌++◌, Some, None, length, slice_get, refl, sym, ap, ◌∙◌, subst, arith}
use Rattle.std.proofs.lemmas.Option.{none-some, same_Some}
use Rattle.std.proofs.lemmas.Bool.Decides.{nat_tests}
use Rattle.uw_model.specs.declared.conf.CacheConf.{CacheConf}
use Rattle.uw_model.specs.declared.entries.Entry.{Entry}
use Rattle.uw_words.specs.declared.shape.Shape.{Shape}
use Rattle.uw_words.specs.Numbers.{AreDistinct, IsNoneOf, IsOneOf, without_number}
use Rattle.uw_words.proofs.Links.{walk_short}
use Rattle.uw_words.proofs.Numbers.{not_none}
use Rattle.uw_recency.specs.Recency.{HasRecency, IsRecency, IsRecent, last_of, next_of}
use Rattle.uw_plan.specs.Agreement.{AgreesAs}
use Rattle.uw_plan.specs.Parts.{HoldEntries}
use Rattle.uw_plan.specs.Plans.{IsPaired}
use Rattle.uw_plan.specs.Regions.{shape_of}

-- the item at a place
pub one_at : (items : List ℕ) (at item : ℕ) → slice_get items at ≡ Some item → IsOneOf items item
one_at [] at item here = absurd (none-some item here)
one_at (first ∷ items) zero item here = inl (same_Some first item here)
one_at (first ∷ items) (suc at) item here = inr (one_at items at item here)

first_apart : (first : ℕ) (items : List ℕ) (at item : ℕ) → IsNoneOf items first → slice_get items at ≡ Some item → first ≢ item
first_apart first items at item none here = λ same. not_none items item (one_at items at item here) (subst (IsNoneOf items) same none)

pub next_at : (items : List ℕ) (at item : ℕ) → AreDistinct items → slice_get items at ≡ Some item → next_of items item ≡ slice_get items (suc at)
next_at [] at item distinct here = absurd (none-some item here)
next_at (first ∷ items) zero item distinct here =
    let same : first ≡ item = same_Some first item here in
    let next : next_of (first ∷ items) item ≡ slice_get items 0 = grind (arith, nat_tests) in
    next
next_at (first ∷ items) (suc at) item distinct here =
    let apart : first ≢ item = first_apart first items at item distinct.0 here in
    let next : next_of (first ∷ items) item ≡ next_of items item = grind (arith, nat_tests) in
    next ∙ next_at items at item distinct.1 here

-- where it left, the next one stands at its place
pub left_at : (items : List ℕ) (at item : ℕ) → AreDistinct items → slice_get items at ≡ Some item → slice_get (without_number items item) at ≡ slice_get items (suc at)
left_at [] at item distinct here = absurd (none-some item here)
left_at (first ∷ items) zero item distinct here =
    let same : first ≡ item = same_Some first item here in
    let left : without_number (first ∷ items) item ≡ items = grind (arith, nat_tests) in
    ap (λ (l : List ℕ). slice_get l 0) left
left_at (first ∷ items) (suc at) item distinct here =
    let apart : first ≢ item = first_apart first items at item distinct.0 here in
    let left : without_number (first ∷ items) item ≡ first ∷ without_number items item = grind (arith, nat_tests) in
    ap (λ (l : List ℕ). slice_get l (suc at)) left ∙ left_at items at item distinct.1 here

-- an entry at a place of the list, and those behind it
pub record IsEntryAt (items : List ℕ) (front back : List Entry) (item : ℕ) : Type 0 where
  pub e : Entry
  pub more : List Entry
  pub is : back ≡ e ∷ more
  pub paired : IsPaired items (front ++ back) item e

module _ (reader : ℕ → ℕ) (shape : Shape) where
  pub entry_at_place : (items : List ℕ) (front back : List Entry) (item : ℕ) → HoldEntries reader shape items (front ++ back) → slice_get items (length front) ≡ Some item
      → IsEntryAt items front back item
  entry_at_place [] [] back item holds here = absurd (none-some item here)
  entry_at_place [] (o ∷ front) back item holds here = absurd holds
  entry_at_place (first ∷ items) [] [] item holds here = absurd holds
  entry_at_place (first ∷ items) [] (e ∷ more) item holds here = record { e = e; more = more; is = refl; paired = inl (same_Some first item here, refl) }
  entry_at_place (first ∷ items) (o ∷ front) back item holds here =
      let later = entry_at_place items front back item holds.1 here in
      record { e = later.e; more = later.more; is = later.is; paired = inr later.paired }

  pub none_at_place : (items : List ℕ) (front back : List Entry) → HoldEntries reader shape items (front ++ back) → slice_get items (length front) ≡ None → back ≡ []
  none_at_place [] [] [] holds here = refl
  none_at_place [] [] (e ∷ back) holds here = absurd holds
  none_at_place [] (o ∷ front) back holds here = absurd holds
  none_at_place (first ∷ items) [] back holds here = absurd (none-some first (sym here))
  none_at_place (first ∷ items) (o ∷ front) back holds here = none_at_place items front back holds.1 here

-- the last entry of a list, and those before it
pub record IsLastEntry (items : List ℕ) (list : List Entry) (item : ℕ) : Type 0 where
  pub e : Entry
  pub front : List Entry
  pub is : list ≡ front ++ (e ∷ [])
  pub paired : IsPaired items list item e

module _ (reader : ℕ → ℕ) (shape : Shape) where
  pub last_entry : (items : List ℕ) (list : List Entry) (item : ℕ) → HoldEntries reader shape items list → last_of items ≡ Some item → IsLastEntry items list item
  last_entry [] list item holds here = absurd (none-some item here)
  last_entry (first ∷ items) [] item holds here = absurd holds
  last_entry (first ∷ []) (e ∷ []) item holds here = record { e = e; front = []; is = refl; paired = inl (same_Some first item here, refl) }
  last_entry (first ∷ []) (e ∷ o ∷ list) item holds here = absurd holds.1
  last_entry (first ∷ second ∷ items) (o ∷ list) item holds here =
      let later = last_entry (second ∷ items) list item holds.1 here in
      record { e = later.e; front = o ∷ later.front; is = ap (λ (l : List Entry). o ∷ l) later.is; paired = inr later.paired }

  pub none_last : (items : List ℕ) (list : List Entry) → HoldEntries reader shape items list → last_of items ≡ None → list ≡ []
  none_last [] [] holds here = refl
  none_last [] (e ∷ list) holds here = absurd holds
  none_last (first ∷ items) list holds here = absurd (some_last first items here)
    where
      some_last : (first : ℕ) (items : List ℕ) → last_of (first ∷ items) ≡ None → ⊥
      some_last first [] none = none-some first (sym none)
      some_last first (second ∷ items) none = some_last second items none

-- what code that has the shape of a configuration reads from its region
module _ (conf : CacheConf) (has : Shape) (same : has ≡ shape_of conf) (reader : ℕ → ℕ) (items : List ℕ) (list : List Entry)
    (agrees : AgreesAs reader (shape_of conf) conf items list) where
  pub recency_then : IsRecency reader has items
  recency_then = subst (λ (s : Shape). IsRecency reader s items) (sym same) (subst (IsRecency reader (shape_of conf)) agrees.is agrees.held.recency)

  pub has_recency : HasRecency reader has
  has_recency = (items, recency_then)

  pub is_recent : (item : ℕ) → IsOneOf items item → IsRecent reader has item
  is_recent item one = (items, (recency_then, one))

  pub item_short : (item : ℕ) → IsOneOf items item → item < has.n_items
  item_short item one = walk_short has reader 2 items (reader (has.head + 6)) recency_then.walk item one

  -- the first item, and the last one
  pub first_entry : (item : ℕ) → ((items : List ℕ) → IsRecency reader has items → Some item ≡ slice_get items 0) → IsEntryAt items [] list item
  first_entry item newest = entry_at_place reader (shape_of conf) items [] list item agrees.entries (sym (newest items recency_then))

  pub no_first_entry : ((items : List ℕ) → IsRecency reader has items → None ≡ slice_get items 0) → list ≡ []
  no_first_entry newest = none_at_place reader (shape_of conf) items [] list agrees.entries (sym (newest items recency_then))

  pub last_of_all : (item : ℕ) → ((items : List ℕ) → IsRecency reader has items → Some item ≡ last_of items) → IsLastEntry items list item
  last_of_all item last = last_entry reader (shape_of conf) items list item agrees.entries (sym (last items recency_then))

  pub no_last_of_all : ((items : List ℕ) → IsRecency reader has items → None ≡ last_of items) → list ≡ []
  no_last_of_all last = none_last reader (shape_of conf) items list agrees.entries (sym (last items recency_then))
