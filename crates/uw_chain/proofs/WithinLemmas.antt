-- A text that stands somewhere in another one.
use Rattle.std.proofs.Common.{◌≡◌, sym, ap, ◌∙◌, subst, inl, inr, ℕ, zero, suc, ◌+◌, true, List, [], ◌∷◌, length, take, Option, None, Some, slice_index, arith}
use Rattle.std.specs.Option.{is_some}
use Rattle.std.proofs.lemmas.Bool.{or_cases, or_left, or_right, false_from_ne_true}
use Rattle.std.proofs.lemmas.List.{length-take}
use Rattle.std.proofs.lemmas.Slice.Eq.{bytes_eq-Decides}
use Rattle.memchr.specs.Find.{FindsNeedle, OccursAt}
use Rattle.memchr.proofs.lemmas.MatchLemmas.{OccursAt-part, OccursAt-from_part}
use Rattle.uw_chain.specs.Tests.{has_front, has_within}

front_occurs : (text other : List ℕ) → has_front text other ≡ true → OccursAt text other 0
unfolding has_front
front_occurs text other h =
    let e : take (length other) text ≡ other = (bytes_eq-Decides (take (length other) text) other).0 h in
    OccursAt-from_part text other 0 (omega (arith, ap length e, length-take (length other) text)) e

front_true : (text other : List ℕ) → OccursAt text other 0 → has_front text other ≡ true
unfolding has_front
front_true text other h = (bytes_eq-Decides (take (length other) text) other).1 (OccursAt-part text other 0 h)

occurs_later : (byte : ℕ) (text other : List ℕ) (k : ℕ) → OccursAt text other k → OccursAt (byte ∷ text) other (suc k)
occurs_later byte text other k h = record {
  fits = omega (arith, h.fits);
  reads = λ j l. let e : suc k + j ≡ suc (k + j) = omega arith in ap (λ n. slice_index (byte ∷ text) n) e ∙ h.reads j l;
}

occurs_earlier : (byte : ℕ) (text other : List ℕ) (k : ℕ) → OccursAt (byte ∷ text) other (suc k) → OccursAt text other k
occurs_earlier byte text other k h = record {
  fits = omega (arith, h.fits);
  reads = λ j l. let e : suc (k + j) ≡ suc k + j = omega arith in ap (λ n. slice_index (byte ∷ text) n) e ∙ h.reads j l;
}

within_at : (text other : List ℕ) → has_within text other ≡ true → (k : ℕ) × OccursAt text other k
unfolding has_within
within_at [] other h = (0, front_occurs [] other h)
within_at (byte ∷ text) other h = elim (or_cases (has_front (byte ∷ text) other) (has_within text other) h) [
  | inl here ↦ (0, front_occurs (byte ∷ text) other here)
  | inr there ↦ let later = within_at text other there in (suc later.0, occurs_later byte text other later.0 later.1)
]

within_true : (text other : List ℕ) (k : ℕ) → OccursAt text other k → has_within text other ≡ true
unfolding has_within
within_true [] other k h = let first : k ≡ 0 = omega (arith, h.fits) in front_true [] other (subst (OccursAt [] other) first h)
within_true (byte ∷ text) other zero h = or_left (has_front (byte ∷ text) other) (has_within text other) (front_true (byte ∷ text) other h)
within_true (byte ∷ text) other (suc k) h =
    or_right (has_front (byte ∷ text) other) (has_within text other) (within_true text other k (occurs_earlier byte text other k h))

-- a search for the first place finds one just where there is one
pub finds_within : (text other : List ℕ) (found : Option ℕ) → FindsNeedle text other 0 found → is_some found ≡ has_within text other
finds_within text other None h =
    sym (false_from_ne_true (has_within text other) (λ e. let at = within_at text other e in h at.0 (omega arith) (omega (arith, at.1.fits)) at.1))
finds_within text other (Some k) h = sym (within_true text other k h.1)
