-- What the keeper over a folder shows.
use Rattle.std.specs.Prelude.{ℕ}

-- how often `append` failed, and how often the other calls failed
pub record KeptFaults : Type 0 where
  pub append_faults : ℕ
  pub other_faults : ℕ
