-- What the keeper in memory shows.
use Rattle.std.specs.Prelude.{ℕ, List}
use Rattle.uw_keeper.specs.declared.keeper.Row.{Row}

-- a keeper: its rows, the numbers of the calls that fail, how many calls were made, how often `append` failed, and how often the other calls failed
pub record KeptRows : Type 0 where
  pub rows : List Row
  pub fails : List ℕ
  pub calls : ℕ
  pub append_faults : ℕ
  pub other_faults : ℕ
