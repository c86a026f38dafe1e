use Rattle.std.proofs.Common.{◌≡◌}
use Rattle.uw_keeper.proofs.folder.FolderKeeper.name_row.Given as goal

-- the counts of faults stay
abbrev pub invariant-loop : goal.invariant-loop
invariant-loop g l = l.self ≡ l.initial.self
