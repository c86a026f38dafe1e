use Rattle.std.proofs.Common.{◌≡◌, ◌+◌, ◌++◌, ◌∷◌, [], arith, sym, subst, rules}
use Rattle.uw_keeper.specs.declared.keeper.Row.{Row}
use Rattle.uw_keeper.specs.Rows.{AreRows, last_number}
use Rattle.uw_keeper.proofs.RowsLemmas.{AreRows-append, last_of_rows-number}
use Rattle.uw_keeper.proofs.mem.push_row.Goals as goal

pub returns-clause-rows : goal.returns-clause-rows
returns-clause-rows c =
    let rows = c.args.rows.now.items in
    let new : Row = record { number = c.in-Some.number; bytes = c.in_ok-bytes.bytes } in
    let pushed : c.push.new.self.items ≡ rows ++ new ∷ [] = search rules in
    let last = last_of_rows-number rows in
    let next : c.in-Some.number ≡ last_number rows + 1 = search rules in
    subst AreRows (sym pushed) (AreRows-append rows new c.requires (omega (arith, next)))
