-- What is allocated in a valid state begins and ends along the shelves at multiples of the alignment.
use Rattle.std.proofs.Common.{◌≡◌, ℕ, ◌*◌, ◌/◌, ◌%◌, Option, None, Some, List, [], ap, sym, ◌∙◌}
use Rattle.std.proofs.Math.Nat.{mul-mod_left, mul_assoc}
use Rattle.etagere_base.specs.Frames.{IsFrame, alignment_along}
use Rattle.etagere_base.specs.declared.frames.Frame.{Frame}
use Rattle.etagere_base.specs.declared.ids.Allocation.{Allocation}
use Rattle.std.specs.List.{AllByRecursion}
use Rattle.etagere_base.specs.Places.{rectangle_at}
use Rattle.shelf_model.specs.Places.{allocation_of, column_place, column_height, allocations, allocations_after, allocations_along}
use Rattle.etagere_base.specs.Rectangles.{IsAligned}
use Rattle.shelf_model.specs.State.{AtlasState, Item, Shelf}
use Rattle.shelf_model.specs.Valid.{IsItem, IsShelf, IsValid}
use Rattle.etagere_base.proofs.AlignedPlaces.{multiple, rectangle-aligned, sum_aligned}
use Rattle.etagere_base.proofs.GatheredLemmas.{Each-gathered}

-- what an item allocates is aligned
allocation-aligned : (owner : Option ℕ) (frame : Frame) (along across width height place extent : ℕ)
    → along ≡ place * alignment_along frame → width ≡ extent * alignment_along frame
    → AllByRecursion (λ (a : Allocation). IsAligned frame a.rectangle) (allocation_of owner (rectangle_at frame along across width height))
allocation-aligned None frame along across width height place extent begins wide = tt
allocation-aligned (Some id) frame along across width height place extent begins wide =
    (rectangle-aligned frame along across width height place extent begins wide, tt)

-- what items hold is aligned where the first one begins so
allocations_along-aligned : (frame : Frame) (across height here : ℕ) (items : List Item) → here % alignment_along frame ≡ 0 → AllByRecursion (IsItem frame) items
    → AllByRecursion (λ (a : Allocation). IsAligned frame a.rectangle) (allocations_along frame across height here items)
allocations_along-aligned frame across height here items begins each =
    Each-gathered _ _ (λ (a : Allocation). IsAligned frame a.rectangle) (λ (n : ℕ). n % alignment_along frame ≡ 0) (IsItem frame)
    (λ n item even h. (
      allocation-aligned item.id frame n across item.width height _ _ (multiple n (alignment_along frame) even) (multiple item.width (alignment_along frame) h.aligned),
      sum_aligned n item.width (alignment_along frame) even h.aligned,
    ))
    here items begins each

-- what shelves hold that stand after others is aligned
allocations_after-aligned : (frame : Frame) (before shelves : List Shelf) → IsFrame 65535 frame → AllByRecursion (IsShelf frame) shelves
    → AllByRecursion (λ (a : Allocation). IsAligned frame a.rectangle) (allocations_after frame before shelves)
allocations_after-aligned frame before shelves is_frame valid =
    Each-gathered _ _ (λ (a : Allocation). IsAligned frame a.rectangle) (λ (_ : List Shelf). Unit {0}) (IsShelf frame)
    (λ front shelf _ h. (
      allocations_along-aligned frame (column_height shelf.column front) shelf.height (column_place frame shelf) shelf.items (begins shelf) h.items,
      tt,
    ))
    before shelves tt valid
  where
    begins : (shelf : Shelf) → column_place frame shelf % alignment_along frame ≡ 0
    begins shelf =
        let columns = frame.column_width / alignment_along frame in
        let place : column_place frame shelf ≡ shelf.column * columns * alignment_along frame =
        ap (λ (n : ℕ). shelf.column * n) (multiple frame.column_width (alignment_along frame) is_frame.aligned)
        ∙ sym (mul_assoc shelf.column columns (alignment_along frame)) in
        rw place (mul-mod_left (shelf.column * columns) (alignment_along frame))

-- everything that is allocated is aligned along the shelves
pub allocated-aligned : (state : AtlasState) → IsValid state → AllByRecursion (λ (a : Allocation). IsAligned state.frame a.rectangle) (allocations state)
allocated-aligned state valid = allocations_after-aligned state.frame [] state.shelves valid.frame valid.shelves
