-- The limits of a shared area ("SharedArea").
use Rattle.std.specs.Prelude.{ℕ}

-- the most bytes of one write
abbrev pub most_written : ℕ
most_written = 65536
