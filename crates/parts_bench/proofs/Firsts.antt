-- Chains of the first items of a region, past a key that is put, an item that joins, and a write.
use Rattle.std.proofs.Common.{◌≡◌, ◌⊎◌, ⊎_elim, inl, inr, ℕ, ◌+◌, ◌*◌, ◌<◌, ◌≤◌, List, [], ◌∷◌, refl, sym, ◌∙◌, subst, arith}
use Rattle.std.proofs.lemmas.Bool.{cases_eq}
use Rattle.uw_words.specs.declared.shape.Shape.{Shape}
use Rattle.uw_words.specs.Plans.{Plan, region}
use Rattle.uw_words.specs.Shapes.{IsShape}
use Rattle.uw_words.specs.Numbers.{IsOneOf, IsNoneOf}
use Rattle.uw_words.specs.Parts.{seen, GrewAt}
use Rattle.uw_words.proofs.Growth.{read_grown}
use Rattle.uw_words.proofs.Links.{link_above, item_within, same_item}
use Rattle.uw_chains.specs.Chains.{IsChains, IsUnchained, chain_place, item_chain, with_chain, IsChainsPlace, IsChainsKeyPlace}
use Rattle.uw_chains.proofs.Places.{head_apart, word_apart, own_short, depend, with_same, with_other}
use Rattle.uw_items.specs.Items.{key_places, IsRecordPlace}
use Rattle.uw_items.proofs.Held.{key_own}
use Rattle.parts_bench.specs.Tables.{ChainsFirst}

-- chains have none but the first so many items
abbrev pub AreFirst : Shape → (ℕ → List ℕ) → ℕ → Type 0
AreFirst shape chains count = (chain item : ℕ) → chain < shape.n_chains → IsOneOf (chains chain) item → item < count

-- the places on which chains depend
abbrev pub IsPlace : Shape → (ℕ → List ℕ) → ℕ → Type 0
IsPlace shape chains at = IsChainsPlace shape chains at ⊎ IsChainsKeyPlace shape chains at

pub none_of : (numbers : List ℕ) (at : ℕ) → (IsOneOf numbers at → ⊥) → IsNoneOf numbers at
none_of [] at not = tt
none_of (first ∷ numbers) at not = (λ same. not (inl same), none_of numbers at (λ later. not (inr later)))

-- with nothing planned the words are seen
pub bare : (plan : Plan) (words : List ℕ) (at : ℕ) → plan.writes ≡ [] → seen plan words at ≡ region words at
bare plan words at empty = rw empty refl

module _ (shape : Shape) (is : IsShape shape) where
  between : (chains : ℕ → List ℕ) (count : ℕ) → count ≤ shape.n_items → AreFirst shape chains count → (at : ℕ) → IsPlace shape chains at → (16 ≤ at) × (at < shape.intent)
  between chains count within first at (inl (inl head)) = (omega (arith, is.bitmap, is.chains, head.1.1), omega (arith, is.items, is.blocks, is.intent, head.1.0, head.1.1))
  between chains count within first at (inl (inr link)) =
      let short : link.0 < shape.n_items = omega (arith, within, first link.1.0.0 link.0 link.1.0.1.0 link.1.0.1.1) in (
        omega (arith, link_above shape is link.0, link.1.1),
        omega (arith, item_within shape is link.0 0 short (omega (arith, is.stride)), link.1.1, is.intent),
      )
  between chains count within first at (inr word) =
      let short : word.0 < shape.n_items = omega (arith, within, first word.2.0.0 word.0 word.2.0.1.0 word.2.0.1.1) in (
        omega (arith, link_above shape is word.0, word.2.3),
        omega (arith, item_within shape is word.0 word.1 short word.2.2, word.2.3, is.intent),
      )

  pub still_first : (before now : ℕ → ℕ) (count : ℕ) → count ≤ shape.n_items → ((at : ℕ) → 16 ≤ at → at < shape.intent → now at ≡ before at) → ChainsFirst before shape count
      → ChainsFirst now shape count
  still_first before now count within same old =
      (old.0, (depend shape old.0 is before now (λ at place. let bounds = between old.0 count within old.1.1 at place in same at bounds.0 bounds.1) old.1.0, old.1.1))

  -- no place of the first items' chains is one of the next item's words
  off : (chains : ℕ → List ℕ) (item : ℕ) → AreFirst shape chains item → (at : ℕ) → IsPlace shape chains at → IsRecordPlace shape item at → ⊥
  off chains item first at (inl (inl head)) own = head_apart shape is head.0 item own.0 head.1.0 (sym head.1.1 ∙ own.1.2)
  off chains item first at (inl (inr link)) own = word_apart shape is item link.0 own.0 (omega (arith, own.1.0)) own.1.1 (sym own.1.2 ∙ link.1.1)
  off chains item first at (inr word) own =
      let low : word.0 < item = first word.2.0.0 word.0 word.2.0.1.0 word.2.0.1.1 in
      let same : word.0 ≡ item = same_item shape is word.0 item word.1 own.0 word.2.2 own.1.1 (sym word.2.3 ∙ own.1.2) in
      omega (arith, low, same)

  keyed_first : (before now : ℕ → ℕ) (item bytes : ℕ) → bytes ≤ 8 * shape.key_words → ((at : ℕ) → IsNoneOf (key_places shape item bytes) at → now at ≡ before at)
      → ChainsFirst before shape item → ChainsFirst now shape item
  keyed_first before now item bytes short same old = (
    old.0,
    (
      depend shape old.0 is before now
          (λ at place. same at (none_of (key_places shape item bytes) at (λ one. off old.0 item old.1.1 at place (key_own shape item bytes at is short one)))) old.1.0,
      old.1.1,
    ),
  )

  pub grown_first : (before now : Plan) (words : List ℕ) (item bytes : ℕ) → bytes ≤ 8 * shape.key_words → GrewAt (key_places shape item bytes) before now
      → ChainsFirst (seen before words) shape item → ChainsFirst (seen now words) shape item
  grown_first before now words item bytes short grew =
      keyed_first (seen before words) (seen now words) item bytes short (λ at none. read_grown (key_places shape item bytes) before now words at grew none)

  pub next_none : (reader : ℕ → ℕ) (item : ℕ) (chains : ℕ → List ℕ) → AreFirst shape chains item → IsNoneOf (chains (item_chain reader shape item)) item
  next_none reader item chains first =
      none_of (chains (item_chain reader shape item)) item
      (λ one. let low : item < item = first (item_chain reader shape item) item (own_short shape is reader item) one in omega (arith, low))

  pub next_unchained : (reader : ℕ → ℕ) (item : ℕ) → ChainsFirst reader shape item → IsUnchained reader shape item
  next_unchained reader item old = (old.0, (old.1.0, next_none reader item old.0 old.1.1))

  linked_item : (chains : ℕ → List ℕ) (chain item : ℕ) → AreFirst shape chains item → chain < shape.n_chains → AreFirst shape (with_chain chains chain (item ∷ chains chain)) (item + 1)
  linked_item chains chain item first own other one short among = elim (cases_eq other chain) [
    | inl same ↦ (let both : (item ≡ one) ⊎ IsOneOf (chains chain) one =
        subst (λ (l : List ℕ). IsOneOf l one) (with_same chains chain (item ∷ chains chain) other same) among in
        ⊎_elim (λ here. omega (arith, here)) (λ later. omega (arith, first chain one own later)) both)
    | inr apart ↦ (let there : IsOneOf (chains other) one = subst (λ (l : List ℕ). IsOneOf l one) (with_other chains chain (item ∷ chains chain) other apart) among in
        omega (arith, first other one short there))
  ]

  pub linked_first : (reader now : ℕ → ℕ) (item : ℕ) (chains : ℕ → List ℕ) → AreFirst shape chains item
      → IsChains now shape (with_chain chains (item_chain reader shape item) (item ∷ chains (item_chain reader shape item))) → ChainsFirst now shape (item + 1)
  linked_first reader now item chains first linked =
      let chain = item_chain reader shape item in
      (with_chain chains chain (item ∷ chains chain), (linked, linked_item chains chain item first (own_short shape is reader item)))

  pub none_first : (reader : ℕ → ℕ) → ((at : ℕ) → reader at ≡ 0) → ChainsFirst reader shape 0
  none_first reader zeros = (
    (λ chain. []),
    (
      record {
        walk = λ chain short. zeros (chain_place shape chain);
        distinct = λ chain short. tt;
        falls = λ chain item short one. absurd one;
      },
      λ chain item short one. absurd one,
    ),
  )
