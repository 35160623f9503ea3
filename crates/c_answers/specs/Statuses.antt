-- The numbers that calls answer.
use Rattle.std.specs.Prelude.{ℕ, ◌+◌}
use Rattle.etagere_base.specs.Faults.{options_fault_number}
use Rattle.etagere_base.specs.RestoreFaults.{restore_fault_number}
use Rattle.etagere_base.specs.declared.faults.OptionsFault.{OptionsFault}
use Rattle.etagere_base.specs.declared.faults.RestoreFault.{RestoreFault}
use Rattle.shelf_model.specs.Faults.{grow_fault_number}
use Rattle.shelf_model.specs.declared.faults.AtlasGrowFault.{AtlasGrowFault}
use Rattle.bucketed_model.specs.Faults as buckets
use Rattle.bucketed_model.specs.declared.faults.GrowFault.{GrowFault}
use Rattle.glyph_shelf.specs.Faults.{cache_restore_fault_number, glyph_fault_number}
use Rattle.glyph_shelf.specs.declared.faults.CacheRestoreFault.{CacheRestoreFault}
use Rattle.glyph_shelf.specs.declared.faults.GlyphFault.{GlyphFault}

abbrev pub ok : ℕ
ok = 0

abbrev pub null_handle : ℕ
null_handle = 1

abbrev pub handle_in_use : ℕ
handle_in_use = 2

abbrev pub no_room : ℕ
no_room = 3

abbrev pub too_short : ℕ
too_short = 4

abbrev pub unreadable : ℕ
unreadable = 5

abbrev pub out_of_memory : ℕ
out_of_memory = 6

abbrev pub unknown_key : ℕ
unknown_key = 7

abbrev pub unknown_id : ℕ
unknown_id = 501

-- the fault of a call that makes an atlas
abbrev pub options_refused : OptionsFault → ℕ
options_refused fault = 100 + options_fault_number fault

-- the fault of a grow
abbrev pub grow_refused : AtlasGrowFault → ℕ
grow_refused fault = 200 + grow_fault_number fault

-- the fault of a grow of a bucketed atlas
abbrev pub bucketed_grow_refused : GrowFault → ℕ
bucketed_grow_refused fault = 300 + buckets.grow_fault_number fault

-- the fault of a restoring
abbrev pub restore_refused : RestoreFault → ℕ
restore_refused fault = 400 + restore_fault_number fault

-- the fault of a restoring of a cache
abbrev pub cache_restore_refused : CacheRestoreFault → ℕ
cache_restore_refused fault = 400 + cache_restore_fault_number fault

abbrev pub restore_memory : ℕ
restore_memory = 411

-- the fault of placing a key
abbrev pub cache_refused : GlyphFault → ℕ
cache_refused fault = 600 + glyph_fault_number fault

abbrev pub too_large : ℕ
too_large = 601

abbrev pub cache_memory : ℕ
cache_memory = 602

abbrev pub frame_full : ℕ
frame_full = 603
