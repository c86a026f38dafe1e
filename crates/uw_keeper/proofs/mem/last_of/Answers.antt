use Rattle.std.proofs.Common.{◌≡◌, ◌-◌, ◌<◌, length, sym, arith, rules, Some, slice_get}
use Rattle.std.proofs.lemmas.Option.{slice_get_within}
use Rattle.uw_keeper.proofs.RowsLemmas.{last_of_rows-get}
use Rattle.uw_keeper.proofs.mem.last_of.Goals as goal

pub returns-in-Some : goal.returns-in-Some
returns-in-Some c =
    let rows = c.args.rows.now in
    let at : slice_get rows (length rows - 1) ≡ Some c.in-Some.row.now = search rules in
    let within : length rows - 1 < length rows = slice_get_within rows (length rows - 1) c.in-Some.row.now at in
    sym (last_of_rows-get rows c.in-Some.row.now (length rows - 1) (omega (arith, within)) at)
