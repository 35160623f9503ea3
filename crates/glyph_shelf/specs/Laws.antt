-- Laws of a cache, in the words of a caller.
use Rattle.std.specs.Prelude.{◌≡◌, true, is_some, length}
use Rattle.etagere_base.specs.declared.geometry.Size.{Size}
use Rattle.shelf_model.specs.Choice.{placement_of}
use Rattle.shelf_model.specs.Fresh.{fresh}
use Rattle.glyph_shelf.specs.Cache.{CacheState, evictable, frame_uses}
use Rattle.glyph_shelf.specs.Placing.{MakesRoom}
use Rattle.glyph_shelf.specs.Promises.{KeepsCachePromises}

-- no frame is one without uses: any key may be evicted, and evictions make room for each size that isn't too large
abbrev pub NoFrameBindsNothing : Type 0
NoFrameBindsNothing =
    (state : CacheState) (size : Size) → KeepsCachePromises state → frame_uses state ≡ 0
    → is_some (placement_of (fresh state.atlas.frame) size) ≡ true
    → (evictable state ≡ length state.entries) × MakesRoom state size (length state.entries)
