-- What the maker of patterns by the crate `regex` shows.
use Rattle.std.specs.Prelude.{◌≡◌, ℕ, true, List}
use Rattle.uw_rules.specs.Patterns.{is_pattern, is_refused}
use Rattle.uw_rules.specs.declared.patterns.Built.{Built}

-- a maker: the numbers of the calls that it refuses, how many calls were made, and how many texts it refused
pub record Maker : Type 0 where
  pub refuse : List ℕ
  pub calls : ℕ
  pub faults : ℕ

-- only a text that is a pattern is refused: it weighs too much, or the crate finds it too large
abbrev pub RefusesPatterns : List ℕ → Built → Type 0
RefusesPatterns text built = is_refused built ≡ true → is_pattern text ≡ true
