use Rattle.std.proofs.Common.{◌%◌, refl}
use Rattle.std.proofs.lemmas.Nat.{mod_below}
use Rattle.uw_spool.proofs.LawLemmas.{has_spooler, only_spooler}
use Rattle.uw_spool.proofs.laws.row_has_one_spooler.Goals as goal

pub returns-clause-one : goal.returns-clause-one
returns-clause-one c = λ rules now spoolers rows row some has.
    (row.number % spoolers, mod_below row.number spoolers some, has_spooler (record { rules = rules; now = now; spooler = row.number % spoolers; spoolers = spoolers }) rows row has refl)

pub returns-clause-only : goal.returns-clause-only
returns-clause-only c = λ rules now spoolers k rows row has.
    only_spooler (record { rules = rules; now = now; spooler = k; spoolers = spoolers }) rows row has
