-- The numbers of faults.
use Rattle.std.specs.Prelude.{ℕ}
use Rattle.atlas_pages.specs.Faults.{pages_fault_number}
use Rattle.paged_cache.specs.declared.faults.NewCacheFault.{NewCacheFault}
use Rattle.paged_cache.specs.declared.faults.NewCacheFault.TheVariants as new_faults
use Rattle.paged_cache.specs.declared.faults.PlacingFault.{PlacingFault}
use Rattle.paged_cache.specs.declared.faults.PlacingFault.TheVariants.{TooLarge, Memory}

abbrev pub new_cache_fault_number : NewCacheFault → ℕ
new_cache_fault_number (new_faults.Pages fault) = pages_fault_number fault
new_cache_fault_number new_faults.Memory = 6

abbrev pub placing_fault_number : PlacingFault → ℕ
placing_fault_number TooLarge = 1
placing_fault_number (Memory evicted) = 2
