-- Returning an id takes the area that it allocated from the space that is allocated.
use Rattle.std.proofs.Common.{◌≡◌, ℕ, ◌+◌, ◌*◌, Some, ap, ◌∙◌, arith}
use Rattle.std.proofs.Math.Nat.{add-mul}
use Rattle.std.specs.Prelude.{slice_get, position}
use Rattle.etagere_base.specs.declared.frames.Frame.{Frame}
use Rattle.shelf_model.specs.Returning.{number_of, freed, returned}
use Rattle.shelf_model.specs.Space.{allocated_width, space_in, allocated_space}
use Rattle.shelf_model.specs.State.{Shelf, AtlasState}
use Rattle.shelf_model.proofs.Allocations.InShelves.{width_of, is_allocated_in, returned_shelf}
use Rattle.shelf_model.specs.Valid.{IsValid}
use Rattle.etagere_base.proofs.FirstPlace.{at_first-set}
use Rattle.shelf_model.proofs.Allocations.AllocatedItems.{height-returned_shelf, number_of-allocated, returned_shelf-allocated}
use Rattle.shelf_model.proofs.Returned.ReturnedWhole.{returned-near}
use Rattle.shelf_model.proofs.Spaces.SpaceLemmas.{allocated_width-freed, allocated_width-merged, space_in-merged, space_in-set}

-- a shelf to which an id returns its item holds that width less
allocated_width-returned_shelf : (frame : Frame) (id k : ℕ) (shelf : Shelf) → number_of id shelf.items ≡ Some k
    → allocated_width (returned_shelf frame id shelf).items + width_of shelf.items k ≡ allocated_width shelf.items
allocated_width-returned_shelf frame id k shelf h =
    omega (
      arith,
      ap (λ (s : Shelf). allocated_width s.items) (returned_shelf-allocated frame id k shelf h),
      allocated_width-merged (freed k shelf.items),
      allocated_width-freed k shelf.items (number_of-allocated id k shelf.items h),
    )

-- the shelf to which an id returns its item holds that area less
space-returned_shelf : (frame : Frame) (id k : ℕ) (shelf : Shelf) → number_of id shelf.items ≡ Some k
    → allocated_width (returned_shelf frame id shelf).items * (returned_shelf frame id shelf).height + width_of shelf.items k * shelf.height
    ≡ allocated_width shelf.items * shelf.height
space-returned_shelf frame id k shelf h =
    areas (allocated_width (returned_shelf frame id shelf).items) (returned_shelf frame id shelf).height (width_of shelf.items k) shelf.height (allocated_width shelf.items)
    (height-returned_shelf frame id shelf) (allocated_width-returned_shelf frame id k shelf h)
  where
    areas : (new m width n old : ℕ) → m ≡ n → new + width ≡ old → new * m + width * n ≡ old * n
    areas new m width n old h k = rw (h, ← k) (omega (arith, add-mul new width n))

-- returning an id takes the area of its item
pub space-returned : (state : AtlasState) (id n k : ℕ) (shelf : Shelf) → IsValid state → position (is_allocated_in id) state.shelves ≡ Some n
    → slice_get state.shelves n ≡ Some shelf → number_of id shelf.items ≡ Some k
    → allocated_space (returned state id) + width_of shelf.items k * shelf.height ≡ allocated_space state
space-returned state id n k shelf valid found at number =
    let shelves = at_first-set (is_allocated_in id) (returned_shelf state.frame id) state.shelves n shelf found at in
    omega (
      arith,
      ap allocated_space (returned-near state id valid),
      space_in-merged _ ∙ ap space_in shelves,
      space_in-set n state.shelves shelf (returned_shelf state.frame id shelf) at,
      space-returned_shelf state.frame id k shelf number,
    )
