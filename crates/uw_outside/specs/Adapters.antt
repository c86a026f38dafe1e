-- What the adapters over the system show.
use Rattle.std.specs.Prelude.{ℕ, Bool}

-- whether the last read answered the end, and how many failed
pub record Progress : Type 0 where
  pub ended : Bool
  pub faults : ℕ

-- how many sockets were refused, and how many listeners were said to be closed
pub record Bindings : Type 0 where
  pub faults : ℕ
  pub closings : ℕ
