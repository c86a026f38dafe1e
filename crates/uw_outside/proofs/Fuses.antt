-- The allowances that a renewal leaves.
use Rattle.std.proofs.Common.{◌≡◌, ℕ, ◌+◌, ◌≤◌, List, length, drop, map, true, sym, ap, ◌∙◌}
use Rattle.std.proofs.lemmas.List.{drop-map, drop-drop, drop_all}
use Rattle.uw_outside.specs.Lives.{LifeLeft}

-- one number further on
pub renewed_next : (f : ℕ → ℕ) (numbers : List ℕ) (place deaths : ℕ) → (let after : LifeLeft = record { alive = true; deaths = deaths; allowances = map f (drop (place + 1) numbers) } in after ≡ record { alive = true; deaths = deaths; allowances = drop 1 (map f (drop place numbers)) })
renewed_next f numbers place deaths =
    let at : List ℕ → LifeLeft = λ left. record { alive = true; deaths = deaths; allowances = left } in
    ap at (ap (map f) (sym (drop-drop 1 place numbers)) ∙ sym (drop-map f 1 (drop place numbers)))

-- behind the last number
pub renewed_last : (f : ℕ → ℕ) (numbers : List ℕ) (place deaths : ℕ) → length numbers ≤ place → (let after : LifeLeft = record { alive = true; deaths = deaths; allowances = map f (drop place numbers) } in after ≡ record { alive = true; deaths = deaths; allowances = drop 1 (map f (drop place numbers)) })
renewed_last f numbers place deaths past =
    let at : List ℕ → LifeLeft = λ left. record { alive = true; deaths = deaths; allowances = left } in
    let none = drop_all place numbers past in
    ap at (ap (map f) none ∙ sym (ap (λ (l : List ℕ). drop 1 (map f l)) none))
