-- The numbers of the faults of options, which scripts and programs answer.
use Rattle.std.specs.Prelude.{ℕ}
use Rattle.etagere_base.specs.declared.faults.OptionsFault.{OptionsFault}
use Rattle.etagere_base.specs.declared.faults.OptionsFault.TheVariants.{Size, Area, Alignment, Columns, ColumnTooNarrow, Memory}

-- the number by which a fault is told
abbrev pub options_fault_number : OptionsFault → ℕ
options_fault_number Size = 1
options_fault_number Area = 2
options_fault_number Alignment = 3
options_fault_number Columns = 4
options_fault_number ColumnTooNarrow = 5
options_fault_number Memory = 6
