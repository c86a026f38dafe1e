use Rattle.std.proofs.Common.{◌≡◌, ◌+◌, ◌≤◌, arith}
use Rattle.uw_subst.proofs.DateLemmas.{date_at_none, date_result}
use Rattle.uw_subst.proofs.dates.date_after.Goals as goal

pub returns-in_err-checked_add : goal.returns-in_err-checked_add
returns-in_err-checked_add c =
    let past : 253402300800 ≤ c.args.moment + c.args.seconds = omega (arith, c.in_err-checked_add.ensures) in
    rw c.from_residual.ensures (date_at_none (c.args.moment + c.args.seconds) past)

pub returns : goal.returns
returns c =
    let same : c.in_ok-checked_add.field-0 ≡ c.args.moment + c.args.seconds = omega (arith, c.in_ok-checked_add.ensures) in
    rw c.ok.ensures.value (date_result c.from_unix_secs.result c.in_ok-checked_add.field-0 (c.args.moment + c.args.seconds) same c.from_unix_secs.ensures.succeeds.1 c.from_unix_secs.ensures.value)
