use Rattle.std.proofs.Common.{◌-◌, ℕ, arith}
use Rattle.uw_outside.proofs.Fuses.{renewed_next, renewed_last}
use Rattle.uw_outside.proofs.fuse.Fuse.renew.Goals as goal
use Rattle.uw_outside.proofs.fuse.Fuse.renew.Goals.{then-self-len, else-self-len}

pub returns : goal.returns
returns c =
    let inside = c.self.inside in
    elim c.if-self-len.branch [
      | then-self-len w ↦
          rw (w.self-inside-is, ← c.self.view_is) (renewed_next (λ (n : ℕ). n - 1) inside.numbers.items inside.place inside.deaths)
      | else-self-len w ↦
          rw (w.self-inside-is, ← c.self.view_is) (renewed_last (λ (n : ℕ). n - 1) inside.numbers.items inside.place inside.deaths (omega (arith, inside.numbers.ok.0)))
    ]
