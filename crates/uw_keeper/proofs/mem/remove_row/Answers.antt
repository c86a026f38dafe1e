use Rattle.std.proofs.Common.{◌≡◌, ◌==◌, not, sym, subst, rules}
use Rattle.std.proofs.lemmas.Fn.{filter_same}
use Rattle.uw_keeper.specs.declared.keeper.Row.{Row}
use Rattle.uw_keeper.specs.Rows.{AreRows, without_row}
use Rattle.uw_keeper.proofs.RowsLemmas.{AreRows-filter}
use Rattle.uw_keeper.proofs.mem.remove_row.Goals as goal

pub returns-clause-removed : goal.returns-clause-removed
returns-clause-removed c =
    let kept : c.retain.new.self.items ≡ without_row c.args.number c.args.rows.now.items = filter_same _ _ _ (λ x b f' k. search rules) _ _ c.retain.ensures.filtered in
    (search rules, cc)

pub returns-clause-rows : goal.returns-clause-rows
returns-clause-rows c =
    let kept : c.retain.new.self.items ≡ without_row c.args.number c.args.rows.now.items = filter_same _ _ _ (λ x b f' k. search rules) _ _ c.retain.ensures.filtered in
    subst AreRows (sym kept) (AreRows-filter (λ (row : Row). not (row.number == c.args.number)) c.args.rows.now.items c.requires)
