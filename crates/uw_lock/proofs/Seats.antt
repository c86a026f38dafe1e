-- The views of all seats, as a list of which one is changed or one is added.
use Rattle.std.proofs.Common.{◌≡◌, ◌≢◌, ℕ, zero, suc, ◌<◌, ◌⊎◌, List, [], ◌∷◌, ◌++◌, length, set, sym, refl, ◌∙◌, subst, inl, inr, ⊎_elim, arith}
use mathlib.Core.Option.{some, some-injective, some-ne-none}
use lib.ListN.{get_elem?}
use Rattle.atomic_table.proofs.Lists.{at_set}
use Rattle.uw_lock.specs.declared.entries.View.{View}
use Rattle.uw_lock.specs.LockRule.{owns, HaveOwnNumbers}

module _ {V : Type 0} where
  pub at_below : (l : List V) (i : ℕ) (a : V) → get_elem? l i ≡ some a → i < length l
  at_below [] i a e = absurd (some-ne-none a (sym e))
  at_below (x ∷ xs) zero a e = omega arith
  at_below (x ∷ xs) (suc i) a e = let h = at_below xs i a e in omega arith

  pub at_end : (l : List V) (a b : V) (j : ℕ) → get_elem? (l ++ a ∷ []) j ≡ some b → (get_elem? l j ≡ some b) ⊎ ((j ≡ length l) × (a ≡ b))
  at_end [] a b zero e = inr (refl, some-injective a b e)
  at_end [] a b (suc j) e = absurd (some-ne-none b (sym e))
  at_end (x ∷ xs) a b zero e = inl e
  at_end (x ∷ xs) a b (suc j) e = ⊎_elim inl (λ t. let n = t.0 in inr (omega arith, t.1)) (at_end xs a b j e)

  pub same_place : (l : List V) (i : ℕ) (a b : V) → get_elem? l i ≡ some a → get_elem? l i ≡ some b → a ≡ b
  same_place l i a b p q = some-injective a b (sym p ∙ q)

  -- what holds of the new view and of each other one, holds of each
  pub each_set : (P : ℕ → V → Type 0) (views : List V) (id : ℕ) (w : V) → P id w → ((j : ℕ) (u : V) → j ≢ id → get_elem? views j ≡ some u → P j u)
      → (j : ℕ) (u : V) → get_elem? (set views id w) j ≡ some u → P j u
  each_set P views id w here others j u e = ⊎_elim (λ (t : (j ≡ id) × (w ≡ u)). subst (λ (z : ℕ × V). P z.0 z.1) (λ i. (sym t.0 i, t.1 i)) here)
      (λ (t : (j ≢ id) × (get_elem? views j ≡ some u)). others j u t.0 t.1) (at_set views id j w u e)

  pub each_end : (P : ℕ → V → Type 0) (views : List V) (w : V) → P (length views) w → ((j : ℕ) (u : V) → get_elem? views j ≡ some u → P j u)
      → (j : ℕ) (u : V) → get_elem? (views ++ w ∷ []) j ≡ some u → P j u
  each_end P views w here others j u e = ⊎_elim (others j u) (λ (t : (j ≡ length views) × (w ≡ u)). subst (λ (z : ℕ × V). P z.0 z.1) (λ i. (sym t.0 i, t.1 i)) here) (at_end views w u j e)

module _ {E C : Type 0} where
  -- the two own no number in common
  abbrev pub Apart : View E C → View E C → Type 0
  Apart v w = 0 < v.step → 0 < w.step → (k l : ℕ) → owns v k ≢ owns w l

  pub apart_turned : (v w : View E C) → Apart v w → Apart w v
  apart_turned v w a p q k l e = a q p l k (sym e)

  -- w owns only numbers of v
  abbrev pub OwnsOf : View E C → View E C → Type 0
  OwnsOf v w = 0 < w.step → (0 < v.step) × ((k : ℕ) → (l : ℕ) × (owns w k ≡ owns v l))

  pub apart_of : (u v w : View E C) → OwnsOf v w → Apart v u → Apart w u
  apart_of u v w o a p q k l e = let z = o p in let t = z.1 k in a z.0 q t.0 l (sym t.1 ∙ e)

  pub apart_set : (views : List (View E C)) (id : ℕ) (v w : View E C) → get_elem? views id ≡ some v → HaveOwnNumbers views → OwnsOf v w → HaveOwnNumbers (set views id w)
  apart_set views id v w at apart o i j a b ei ej differ =
      each_set (λ x u. x ≢ j → Apart u b) views id w
      (λ ne. each_set (λ y z. id ≢ y → Apart w z) views id w (λ no. absurd (no refl)) (λ y z other e no. apart_of z v w o (apart id y v z at e no)) j b ej ne)
      (λ x u other e ne. each_set (λ y z. x ≢ y → Apart u z) views id w
      (λ no. apart_turned w u (apart_of u v w o (apart id x v u at e (λ same. other (sym same))))) (λ y z _ f no. apart x y u z e f no) j b ej ne)
      i a ei differ

  pub apart_end : (views : List (View E C)) (w : View E C) → HaveOwnNumbers views → ((j : ℕ) (u : View E C) → get_elem? views j ≡ some u → Apart u w) → HaveOwnNumbers (views ++ w ∷ [])
  apart_end views w apart new i j a b ei ej differ =
      each_end (λ x u. x ≢ j → Apart u b) views w
      (λ ne. each_end (λ y z. length views ≢ y → Apart w z) views w (λ no. absurd (no refl)) (λ y z e no. apart_turned z w (new y z e)) j b ej ne)
      (λ x u e ne. each_end (λ y z. x ≢ y → Apart u z) views w (λ no. new x u e) (λ y z f no. apart x y u z e f no) j b ej ne)
      i a ei differ
