-- What a cache answers to a ticket, and the fault of the map that follows from it.
use Rattle.std.specs.Prelude.{◌≡◌, ℕ, Result, Ok, Err, List, []}
use Rattle.glyph_shelf.specs.declared.cache.Placed.{Placed}
use Rattle.glyph_shelf.specs.declared.faults.GlyphFault.{GlyphFault}
use Rattle.glyph_shelf.specs.declared.faults.GlyphFault.TheVariants as cache
use Rattle.glyph_map.specs.declared.faults.MapFault.{MapFault}
use Rattle.glyph_map.specs.declared.faults.MapFault.TheVariants.{TooLarge, Memory, FrameFull}

-- the keys that a fault names as evicted
abbrev pub went_before : GlyphFault → List ℕ
went_before cache.TooLarge = []
went_before (cache.Memory evicted) = evicted.items
went_before cache.FrameFull = []

-- the keys that were evicted
abbrev pub went : Result Placed GlyphFault → List ℕ
went (Ok placed) = placed.evicted.items
went (Err fault) = went_before fault

-- the fault of a map whose cache has this fault, when these had gone
abbrev pub IsFaultOf : {K V : Type 0} → GlyphFault → List (K × V) → MapFault K V → Type 0
IsFaultOf cache.TooLarge evicted TooLarge = Unit {0}
IsFaultOf (cache.Memory tickets) evicted (Memory gone) = gone.items ≡ evicted
IsFaultOf cache.FrameFull evicted FrameFull = Unit {0}
IsFaultOf fault evicted other = ⊥
