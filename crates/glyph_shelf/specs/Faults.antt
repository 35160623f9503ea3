-- The numbers of the faults of a cache.
use Rattle.std.specs.Prelude.{ℕ}
use Rattle.etagere_base.specs.RestoreFaults.{restore_fault_number}
use Rattle.glyph_shelf.specs.declared.faults.CacheRestoreFault.{CacheRestoreFault}
use Rattle.glyph_shelf.specs.declared.faults.CacheRestoreFault.TheVariants as restoring
use Rattle.glyph_shelf.specs.declared.faults.GlyphFault.{GlyphFault}
use Rattle.glyph_shelf.specs.declared.faults.GlyphFault.TheVariants.{TooLarge, Memory, FrameFull}

-- the number by which a fault is told
abbrev pub glyph_fault_number : GlyphFault → ℕ
glyph_fault_number TooLarge = 1
glyph_fault_number (Memory evicted) = 2
glyph_fault_number FrameFull = 3

abbrev pub cache_restore_fault_number : CacheRestoreFault → ℕ
cache_restore_fault_number (restoring.Atlas fault) = restore_fault_number fault
cache_restore_fault_number restoring.Memory = 11
cache_restore_fault_number restoring.NoCapacity = 12
cache_restore_fault_number restoring.TooManyKeys = 13
cache_restore_fault_number (restoring.KeyTwice key) = 14
cache_restore_fault_number (restoring.WrongId id) = 15
cache_restore_fault_number restoring.NoKey = 16
