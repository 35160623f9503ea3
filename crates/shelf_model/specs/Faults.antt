-- The numbers of the faults of a grow.
use Rattle.std.specs.Prelude.{ℕ}
use Rattle.shelf_model.specs.declared.faults.AtlasGrowFault.{AtlasGrowFault}
use Rattle.shelf_model.specs.declared.faults.AtlasGrowFault.TheVariants.{Size, Smaller, Area, Records, Memory}

-- the number by which a fault is told
abbrev pub grow_fault_number : AtlasGrowFault → ℕ
grow_fault_number Size = 1
grow_fault_number Smaller = 2
grow_fault_number Area = 3
grow_fault_number Records = 4
grow_fault_number Memory = 5
