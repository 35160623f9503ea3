-- The numbers of the faults of pages.
use Rattle.std.specs.Prelude.{ℕ}
use Rattle.etagere_base.specs.Faults.{options_fault_number}
use Rattle.atlas_pages.specs.declared.faults.PagesFault.{PagesFault}
use Rattle.atlas_pages.specs.declared.faults.PagesFault.TheVariants.{Options, NoPages}

-- the number by which a fault is told
abbrev pub pages_fault_number : PagesFault → ℕ
pages_fault_number (Options fault) = options_fault_number fault
pages_fault_number NoPages = 7
