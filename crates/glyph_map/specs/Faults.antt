-- The numbers of the faults of a map.
use Rattle.std.specs.Prelude.{ℕ}
use Rattle.glyph_shelf.specs.Faults.{cache_restore_fault_number}
use Rattle.glyph_map.specs.declared.faults.MapFault.{MapFault}
use Rattle.glyph_map.specs.declared.faults.MapFault.TheVariants as placing
use Rattle.glyph_map.specs.declared.faults.MapRestoreFault.{MapRestoreFault}
use Rattle.glyph_map.specs.declared.faults.MapRestoreFault.TheVariants.{Cache, Memory, WrongCount, SameKey}

-- the number by which a fault is told
abbrev pub map_fault_number : {K V : Type 0} → MapFault K V → ℕ
map_fault_number placing.TooLarge = 1
map_fault_number (placing.Memory evicted) = 2
map_fault_number placing.FrameFull = 3

abbrev pub map_restore_fault_number : MapRestoreFault → ℕ
map_restore_fault_number (Cache fault) = cache_restore_fault_number fault
map_restore_fault_number Memory = 11
map_restore_fault_number WrongCount = 17
map_restore_fault_number (SameKey index) = 18
