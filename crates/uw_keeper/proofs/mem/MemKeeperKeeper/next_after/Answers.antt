use Rattle.std.proofs.Common.{◌≡◌, ◌<◌, IfSome, sym, subst, rules}
use Rattle.uw_keeper.specs.declared.keeper.Row.{Row}
use Rattle.uw_keeper.specs.Rows.{row_after}
use Rattle.uw_keeper.proofs.RowsLemmas.{row_after-above}
use Rattle.uw_keeper.proofs.mem.MemKeeperKeeper.next_after.Goals as goal

pub returns-clause-gives : goal.returns-clause-gives
returns-clause-gives c =
    let is : c.in_ok-copy_after.field-0 ≡ row_after c.args.number c.args.self.now.rows = search rules in
    (subst (λ next. IfSome next (λ (row : Row). c.args.number < row.number)) (sym is) (row_after-above c.args.number c.args.self.now.rows), is)
