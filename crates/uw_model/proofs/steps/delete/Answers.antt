-- The list without the entry at its place.
use Rattle.std.proofs.Common.{sym, ◌∙◌}
use Rattle.uw_model.proofs.KeysLemmas.{deleted_at}
use Rattle.uw_model.proofs.StateLemmas.{keys_of_state}
use Rattle.uw_model.proofs.steps.delete.Goals as goal

pub returns-clause-next : goal.returns-clause-next
returns-clause-next c =
    let list = c.args.entries.now.items in
    c.remove.ensures.items ∙ deleted_at c.args.conf.now list c.args.moment c.args.key.now c.in-Some.place (sym c.is_bad_key.ensures ∙ c.if-is_bad_key.false) (keys_of_state c.args.conf.now list c.requires) (rw c.deref.ensures.value at c.in-Some.ensures)
