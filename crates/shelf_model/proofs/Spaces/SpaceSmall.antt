-- The area that is allocated, and that is allocated after an allocation, is less than 2 ^ 31 pixels.
use Rattle.std.specs.Prelude.{◌^◌}
use Rattle.std.proofs.Common.{◌≡◌, ℕ, ◌+◌, ◌<◌, Some, arith}
use Rattle.etagere_base.specs.declared.geometry.Size.{Size}
use Rattle.shelf_model.specs.Choice.{Placement, area, placement_of}
use Rattle.shelf_model.specs.Space.{allocated_space}
use Rattle.shelf_model.specs.State.{AtlasState}
use Rattle.shelf_model.specs.Taking.{taken}
use Rattle.shelf_model.specs.Valid.{IsValid}
use Rattle.shelf_model.proofs.Spaces.SpaceBounds.{space-le-area, tiled-space-le}
use Rattle.shelf_model.proofs.Taken.TakenSpace.{space-taken}
use Rattle.shelf_model.proofs.Taken.TakenTiling.{taken-tiled}

-- what is allocated is less than 2 ^ 31 pixels
pub space-small : (state : AtlasState) → IsValid state → allocated_space state < 2 ^ 31
space-small state valid = omega (arith, space-le-area state valid, valid.frame.area)

-- the space that is allocated after an allocation is still less than 2 ^ 31 pixels
pub space-taken-small : (state : AtlasState) (size : Size) (placement : Placement) (id : ℕ) → IsValid state → placement_of state size ≡ Some placement
    → allocated_space state + area placement < 2 ^ 31
space-taken-small state size placement id valid placed =
    omega (
      arith,
      space-taken state size placement id valid placed,
      tiled-space-le state.frame (taken state placement id).shelves (taken-tiled state size placement id valid placed),
      valid.frame.area,
    )
