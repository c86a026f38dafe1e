-- The steps of a call of the keeper over a folder.
use Rattle.uw_keeper.specs.declared.keeper.KeepFault.{KeepFault}
use Rattle.uw_keeper.specs.declared.keeper.KeepFault.TheVariants as faults

-- the fault of a step: the file system failed, or no memory was left
abbrev pub IsOfFolder : KeepFault → Type 0
IsOfFolder (faults.Absent number) = ⊥
IsOfFolder faults.NoNumber = ⊥
IsOfFolder faults.KeeperFault = Unit {0}
IsOfFolder faults.Memory = Unit {0}
