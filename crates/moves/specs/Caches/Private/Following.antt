-- How keys follow the rectangles that have moved into another atlas.
use Rattle.std.specs.Prelude.{◌≡◌, List, ◌++◌}
use Rattle.std.specs.List.{filter_map}
use Rattle.etagere_base.specs.declared.ids.Allocation.{Allocation}
use Rattle.shelf_model.specs.Atlas.{KeepsPromises}
use Rattle.shelf_model.specs.Callers.{AreTied}
use Rattle.shelf_model.specs.Places.{allocations}
use Rattle.shelf_model.specs.State.{AtlasState}
use Rattle.glyph_shelf.specs.Cache.{CacheState}
use Rattle.glyph_shelf.specs.Promises.{KeepsCachePromises}
use Rattle.glyph_shelf.specs.Saved.{without_frame}
use Rattle.moves.specs.Atlases.Arranging.{moved_from, moved_to}
use Rattle.moves.specs.declared.atlases.rearrangement.Move.{Move}
use Rattle.moves.specs.Caches.Arranging.{key_left, key_move, moved_cache}
use Rattle.moves.specs.declared.caches.rearrangement.KeyMove.{KeyMove}
use Rattle.moves.specs.declared.caches.rearrangement.UnplacedKey.{UnplacedKey}

-- what was allocated has moved or was left, and another atlas has allocated what moved
pub record IsMovedInto (old : AtlasState) (moves : List Move) (unplaced : List Allocation) (new : AtlasState)
    : Type 0 where
  pub each : AreTied (moved_from moves ++ unplaced) (allocations old)
  pub whole : AreTied (moved_to moves) (allocations new)
  pub promises : KeepsPromises new

-- the keys are told for the rectangles, and those that moved are in the new cache
pub record Follows (old : CacheState) (moves : List Move) (unplaced : List Allocation) (atlas : AtlasState)
    (told : List KeyMove) (left : List UnplacedKey) (new : CacheState) : Type 0 where
  pub was : KeepsCachePromises (without_frame old)
  pub told_are : told ≡ filter_map (key_move old) moves
  pub left_are : left ≡ filter_map (key_left old) unplaced
  pub follows : new ≡ moved_cache old moves atlas
  pub promises : KeepsCachePromises new
