-- Weights that stop at a greatest number.
use Rattle.std.proofs.Common.{◌≡◌, ℕ, zero, suc, ◌+◌, ◌*◌, ◌<◌, ◌≤◌, min, max, map, length, Bool, Option, Some, None, Vec, Box, Global, sym, ap, ◌∙◌, arith, ⊎_elim, refl}
use Rattle.std.specs.List.{sum_by}
use Rattle.std.proofs.Math.Nat.{min-eq_left, le-mul_of_pos_right}
use Rattle.std.proofs.lemmas.Bool.{cases_lt}
use Rattle.std.proofs.lemmas.List.{length-map}
use Rattle.std.proofs.lemmas.List.Sums.{sum-map}
use Rattle.regex_hir.specs.declared.hir.Hir.{Hir, Hir-F, fold-roll-Hir}
use Rattle.regex_hir.specs.declared.hir.Hir.TheVariants.{Repetition, Alternation, rolls-Repetition, rolls-Alternation}
use Rattle.uw_rules.specs.Weight.{repetition_weight, node_weight, weight}

-- a product stops at m whether its factor did before or not
min-mul : (a n m : ℕ) → min (min a m * n) m ≡ min (a * n) m
min-mul a zero m = omega arith
min-mul a (suc n) m = ⊎_elim
    (λ (large : m < a).
    let whole : min a m ≡ m = omega arith in
    let least : m ≤ m * suc n = le-mul_of_pos_right m (omega arith) in
    let more : a ≤ a * suc n = le-mul_of_pos_right a (omega arith) in
    rw whole (omega arith))
    (λ (small : a ≤ m). rw (min-eq_left small) refl)
    (cases_lt m a)

-- a repetition stops at m whether what it repeats did before or not
pub min-repetition : (least : ℕ) (most : Option ℕ) (each m : ℕ) → min (repetition_weight least most (min each m)) m ≡ min (repetition_weight least most each) m
min-repetition least None each m = let cut = min-mul each (max least 1) m in omega arith
min-repetition least (Some most) each m = let cut = min-mul each most m in omega arith

-- the weight of a choice
pub weight-Alternation : (subs : Vec Hir Global) → weight (Alternation subs) ≡ sum_by weight subs.items + length subs.items * 2
weight-Alternation subs =
    ap weight (sym (rolls-Alternation subs)) ∙ fold-roll-Hir ℕ node_weight (Hir-F.Alternation subs)
    ∙ ap (λ n. n + length (map weight subs.items) * 2) (sum-map weight subs.items)
    ∙ ap (λ n. sum_by weight subs.items + n * 2) (length-map subs.items weight)

-- the weight of a repetition
pub weight-Repetition : (least : ℕ) (most : Option ℕ) (greedy : Bool) (sub : Box Hir Global) →
    weight (Repetition least most greedy sub) ≡ repetition_weight least most (weight sub.value)
weight-Repetition least most greedy sub =
    ap weight (sym (rolls-Repetition least most greedy sub)) ∙ fold-roll-Hir ℕ node_weight (Hir-F.Repetition least most greedy sub)
