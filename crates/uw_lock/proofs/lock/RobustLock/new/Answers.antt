use Rattle.std.proofs.Common.{◌≡◌, List, [], ◌∷◌, ◌++◌, Option, Some, sym, ap, refl, subst, ◌∙◌}
use Rattle.atomic_table.specs.Table.{opening}
use Rattle.uw_lock.specs.LockRule.{HoldsHistory}
use Rattle.uw_lock.specs.LockSteps.{first_view}
use Rattle.uw_lock.proofs.Steps.{opens}
use Rattle.uw_lock.proofs.lock.RobustLock.new.Goals as goal

pub new-requires : goal.new-requires
new-requires g c =
    let conf = g.K.Kept.conf in
    let about : c.of-about.result.value ≡ c.args.value = c.of-about.ensures in
    let items : c.push_reserved.new.self.items ≡ Some c.args.value ∷ [] = c.push_reserved.ensures.items ∙ ap (λ l. l ++ Some c.args.value ∷ []) c.in-Ok.ensures.items in
    subst (λ (z : g.row.K.Denot × List (Option g.row.K.Denot)). HoldsHistory g.K.Kept.stands g.K.Kept.pending conf (conf z.0) (opening (0 ∷ 0 ∷ []) z.1 (first_view (conf z.0))))
    (λ i. (sym about i, sym items i)) (opens g.K.Kept.stands g.K.Kept.pending conf (conf c.args.value) c.args.value c.requires.stands c.requires.settled refl)
