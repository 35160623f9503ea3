-- The numbers of the faults of a snapshot, which programs answer.
use Rattle.std.specs.Prelude.{ℕ}
use Rattle.etagere_base.specs.declared.faults.RestoreFault.{RestoreFault}
use Rattle.etagere_base.specs.declared.faults.RestoreFault.TheVariants.{Frame, Counts, Link, Shelves, Runs, Neighbours, FreeList, Sharing, Unused, Space, Memory}

-- the number by which a fault of a snapshot is told: that of the rule which is broken
abbrev pub restore_fault_number : RestoreFault → ℕ
restore_fault_number Frame = 1
restore_fault_number Counts = 2
restore_fault_number Link = 3
restore_fault_number Shelves = 4
restore_fault_number Runs = 5
restore_fault_number Neighbours = 6
restore_fault_number FreeList = 7
restore_fault_number Sharing = 8
restore_fault_number Unused = 9
restore_fault_number Space = 10
restore_fault_number Memory = 11
