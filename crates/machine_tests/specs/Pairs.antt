-- A region of two words that a call keeps equal (own rule).
use Rattle.std.specs.Prelude.{◌≡◌, ℕ, ◌+◌, ◌%◌, ◌^◌, List, Result, Ok, Err, length, if◌then◌else◌}
use Rattle.uw_words.specs.Plans.{region}
use Rattle.uw_intent.specs.Standing.{Kind, StandsFor}
use Rattle.uw_intent.specs.CallTurns.{CallEnd, given, died}
use Rattle.machine_tests.specs.declared.pair.TheConstants.{FRAME}
use Rattle.machine_tests.specs.declared.pair.Broken.{Broken}

-- both words of the pair are this number, and the gate is closed
pub record ArePair (words : List ℕ) (number : ℕ) : Type 0 where
  pub many : length words ≡ 20
  pub closed : region words 10 ≡ 0
  pub left : region words 18 ≡ number
  pub right : region words 19 ≡ number

-- one more than a number, as a word
abbrev pub bumped : ℕ → ℕ
bumped number = (number + 1) % 2 ^ 64

-- the kind of region: its state is the number, a call of it makes it one more and answers that, by two planned words at most
abbrev pub pair_kind : Kind ℕ (Unit {0}) ℕ
pair_kind = record {
  frame = FRAME;
  agrees = ArePair;
  answer = λ number moment call. bumped number;
  next = λ number moment call. bumped number;
  most = λ number moment call. 11;
}

-- how a bump ended
abbrev pub bump_end : Result ℕ Broken → CallEnd ℕ
bump_end (Ok number) = given number
bump_end (Err broken) = died broken.whole

-- the number for which the words stand after a bump
abbrev pub number_after : ℕ → Result ℕ Broken → ℕ
number_after number (Ok answer) = bumped number
number_after number (Err broken) = if broken.whole then bumped number else number

-- the words stand for some number
pub record IsStanding (words : List ℕ) : Type 0 where
  pub number : ℕ
  pub stands : StandsFor pair_kind words number
