-- What every cache keeps, whatever was called before.
use Rattle.std.specs.Prelude.{ℕ, ◌≤◌, length}
use Rattle.std.specs.Map.{keys_of}
use Rattle.shelf_model.specs.Atlas.{KeepsPromises}
use Rattle.shelf_model.specs.Callers.{AreTied}
use Rattle.shelf_model.specs.Places.{allocations}
use Rattle.std.specs.List.{AllByRecursion}
use Rattle.etagere_base.specs.Lists.{times}
use Rattle.etagere_base.specs.Rectangles.{AreApart, IsInside}
use Rattle.etagere_base.specs.declared.ids.Allocation.{Allocation}
use Rattle.glyph_shelf.specs.Cache.{CacheState, frame_uses, kept_allocations}

-- there are at most as many entries as there may be, and no key stands twice; what is kept is all
-- that the atlas has allocated; it lies inside, and no two rectangles share a unit square; no more
-- keys were used in this frame than are there
pub record KeepsCachePromises (state : CacheState) : Type 0 where
  pub atlas : KeepsPromises state.atlas
  pub few : length state.entries ≤ state.capacity
  pub capacity : 1 ≤ state.capacity
  pub keys : (key : ℕ) → times key (keys_of state.entries) ≤ 1
  pub tied : AreTied (kept_allocations state) (allocations state.atlas)
  pub inside : AllByRecursion
      (λ (allocation : Allocation). IsInside state.atlas.frame allocation.rectangle)
      (kept_allocations state)
  pub apart : AreApart (kept_allocations state)
  pub uses : frame_uses state ≤ length state.entries
