-- What a pass has after some turns.
use Rattle.std.specs.Prelude.{◌≡◌, ℕ, ◌+◌, length}
use Rattle.uw_lock.specs.LockRule.{Known}

-- the pass q is the pass p after so many turns, with an entry of its own for each
abbrev pub TookTurns : {E C : Type 0} → Known E C → Known E C → ℕ → Type 0
TookTurns p q count = (q.lock ≡ p.lock) × (q.number ≡ p.number) × (length q.mine ≡ length p.mine + count)
