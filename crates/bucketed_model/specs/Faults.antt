-- The numbers of the faults of a grow.
use Rattle.std.specs.Prelude.{ℕ}
use Rattle.bucketed_model.specs.declared.faults.GrowFault.{GrowFault}
use Rattle.bucketed_model.specs.declared.faults.GrowFault.TheVariants.{Size, Smaller, Area, Memory}

-- the number by which a fault is told
abbrev pub grow_fault_number : GrowFault → ℕ
grow_fault_number Size = 1
grow_fault_number Smaller = 2
grow_fault_number Area = 3
grow_fault_number Memory = 4
