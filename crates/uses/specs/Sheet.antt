-- What the places of a sprite sheet are.
use Rattle.std.specs.Prelude.{◌≡◌, Some, List, length, take}
use Rattle.std.specs.List.{AllByRecursion, AllZip}
use Rattle.etagere_base.specs.Rectangles.{AreApart, IsLarge}
use Rattle.etagere_base.specs.declared.geometry.Size.{Size}
use Rattle.etagere_base.specs.declared.ids.Allocation.{Allocation}
use Rattle.shelf_model.specs.Places.{rectangle_of}
use Rattle.shelf_model.specs.State.{AtlasState}

-- the places of the first sizes of a list: each is found in the atlas under its id, no two share a
-- unit square, and each is as large as its size asks for
pub record AreAllocations (state : AtlasState) (sizes : List Size) (allocations : List Allocation) : Type 0 where
  pub found : AllByRecursion
      (λ (allocation : Allocation). rectangle_of state allocation.id ≡ Some allocation.rectangle)
      allocations
  pub apart : AreApart allocations
  pub large : AllZip
      (λ (size : Size) (allocation : Allocation). IsLarge state.frame size allocation.rectangle)
      (take (length allocations) sizes) allocations
