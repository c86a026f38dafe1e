-- What a pass knows, from one call to the next.
use Rattle.std.proofs.Common.{◌≡◌, ℕ, [], Option, refl, sym, subst, arith}
use Rattle.atomic_table.specs.Table.{Me}
use Rattle.uw_lock.specs.declared.entries.View.{View}
use Rattle.uw_lock.specs.LockRule.{IsAtRest, IsHolding, made}
use Rattle.uw_lock.specs.LockSteps.{divided, granted, noted}
use Rattle.uw_lock.proofs.Histories.{divided_mine, granted_mine, noted_mine}

module _ {K E C : Type 0} where
  pub divided_rests : (m n : Me (Option K) (View E C)) → IsAtRest m → n ≡ (divided m.0, m.1) → IsAtRest n
  divided_rests m n r e = let some_step = r.1 in subst IsAtRest (sym e) (r.0, omega arith, r.2, r.3, divided_mine m.0 m.0.seen r.4)

  pub granted_rests : (m n : Me (Option K) (View E C)) → IsAtRest m → n ≡ (granted m.0, []) → IsAtRest n
  granted_rests m n r e = let some_step = r.1 in subst IsAtRest (sym e) (refl, omega arith, r.2, r.3, granted_mine m.0 m.0.seen r.4)

  pub noted_holds : (m n : Me (Option K) (View E C)) (moment : ℕ) (entry : E) → IsHolding m → n ≡ noted m moment entry → IsHolding n
  noted_holds m n moment entry h e = subst IsHolding (sym e) (h.0, h.1, h.2, h.3, noted_mine m.0 (made m.0.number moment entry) m.0.seen refl h.1 h.4)
