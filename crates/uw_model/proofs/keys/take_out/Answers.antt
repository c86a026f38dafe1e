-- The list without the key, where no entry has it and where one was taken out.
use Rattle.std.proofs.Common.{sym, ◌∙◌}
use Rattle.uw_model.proofs.KeysLemmas.{without_at, without_none}
use Rattle.uw_model.proofs.keys.take_out.Goals as goal

pub returns-in_err-place-clause-without : goal.returns-in_err-place-clause-without
returns-in_err-place-clause-without c =
    sym (without_none c.args.entries.now.items c.args.key.now (rw c.deref.ensures.value at c.in_err-place.ensures))

pub returns-clause-without : goal.returns-clause-without
returns-clause-without c =
    let is = rw c.deref.ensures.value at c.in_ok-place.ensures in
    c.remove-entry.ensures.items ∙ sym (without_at c.args.entries.now.items c.args.key.now c.in_ok-place.place c.requires is c.remove-entry.result)
