use Rattle.std.proofs.Common.{◌≡◌, ℕ, ◌+◌, ◌-◌, ◌/◌, List, [], ⊎_elim, subst, arith}
use Rattle.std.proofs.lemmas.Bool.{cases_eq}
use Rattle.std.proofs.lemmas.Bool.Decides.{nat_tests}
use Rattle.uw_words.specs.Numbers.{IsOneOf, places_from}
use Rattle.uw_words.proofs.Growth.{in_row}
use Rattle.uw_bitmap.specs.Bits.{run_places, word_of}
use Rattle.uw_bitmap.proofs.laws.run_places_are_of_the_bitmap.Goals as goal

pub returns : goal.returns
returns c = λ shape first n at is within one. ⊎_elim
    (λ none. let empty : run_places shape first n ≡ [] = grind (arith, nat_tests) in
    absurd (subst (λ (places : List ℕ). IsOneOf places at) empty one))
    (λ some. let places : run_places shape first n ≡ places_from (word_of shape first) ((first + n - 1) / 64 + 1 - first / 64) = grind (arith, nat_tests) in
    let row = in_row (word_of shape first) ((first + n - 1) / 64 + 1 - first / 64) at (subst (λ (places : List ℕ). IsOneOf places at) places one) in
    (omega (arith, row), omega (arith, row, is.chains, within, some)))
    (cases_eq n 0)
