-- The command `load`, from what clap found.
use Rattle.std.proofs.Common.{◌≡◌, ◌∙◌, Bool, true, false, true≢false, ℕ, List, Option, None, Some, refl, sym, ap, ap₂}
use Rattle.std.specs.Prelude.{codes, if◌then◌else◌, option_and_then}
use Rattle.clap.specs.Walk.{Row, Text, first_of}
use Rattle.clap.specs.Simple.{matches_of}
use Rattle.uw_ends.specs.Numbers.{number_within}
use Rattle.uw_ends.specs.Words.{is_taken, load_app, load_of, load_with}
use Rattle.uw_ends.specs.declared.words.Command.TheVariants.{Load}
use Rattle.uw_ends.specs.declared.words.TheConstants.{LAST_FIRST, MOST_REQUESTS}

chosen : {X : Type 0} (test : Bool) (x y : X) → test ≡ true → (if test then x else y) ≡ x
chosen true x y e = refl
chosen false x y e = absurd (true≢false (sym e))

-- clap took the words, and both of its values are numbers in their ranges
pub load_is : (words : List Text) (rows : List Row) (first count : ℕ) → is_taken load_app words ≡ true → rows ≡ matches_of load_app words
    → option_and_then (number_within 0 LAST_FIRST) (first_of (codes "first") rows) ≡ Some first
    → option_and_then (number_within 0 MOST_REQUESTS) (first_of (codes "count") rows) ≡ Some count
    → load_of words ≡ Some (Load first count)
load_is words rows first count taken found f n =
    let given : Text → ℕ → List Row → Option ℕ = λ name high rs. option_and_then (number_within 0 high) (first_of name rs) in
    chosen (is_taken load_app words) _ None taken
    ∙ ap₂ load_with (ap (given (codes "first") LAST_FIRST) (sym found) ∙ f) (ap (given (codes "count") MOST_REQUESTS) (sym found) ∙ n)
