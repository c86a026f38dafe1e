use Rattle.std.proofs.Common.{◌≡◌, ◌+◌, ◌-◌, ◌/◌, [], length, ⊎_elim, ap, ◌∙◌, arith}
use Rattle.std.proofs.lemmas.Bool.{cases_eq}
use Rattle.std.proofs.lemmas.Bool.Decides.{nat_tests}
use Rattle.uw_words.specs.Numbers.{places_from}
use Rattle.uw_bitmap.specs.Bits.{run_places, word_of}
use Rattle.uw_words.proofs.Growth.{row_length}
use Rattle.uw_bitmap.proofs.laws.run_places_are_few.Goals as goal

pub returns : goal.returns
returns c = λ shape first n. ⊎_elim
    (λ none. let empty : run_places shape first n ≡ [] = grind (arith, nat_tests) in
    let zero_long : length (run_places shape first n) ≡ 0 = ap length empty in
    omega (arith, zero_long))
    (λ some. let places : run_places shape first n ≡ places_from (word_of shape first) ((first + n - 1) / 64 + 1 - first / 64) = grind (arith, nat_tests) in
    let long : length (run_places shape first n) ≡ (first + n - 1) / 64 + 1 - first / 64 = ap length places ∙ row_length (word_of shape first) ((first + n - 1) / 64 + 1 - first / 64) in
    omega (arith, long, some))
    (cases_eq n 0)
