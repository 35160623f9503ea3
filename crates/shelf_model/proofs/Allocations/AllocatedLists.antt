-- What items and shelves allocate, by a front and a back, and by the heights before.
use Rattle.std.proofs.Common.{◌≡◌, ℕ, ◌+◌, List, [], ◌∷◌, ◌++◌, refl, arith}
use Rattle.etagere_base.specs.declared.frames.Frame.{Frame}
use Rattle.shelf_model.specs.Places.{allocation_of, column_height, column_place, allocations_along, allocations_after}
use Rattle.shelf_model.specs.State.{Item, Shelf, total_width}
use Rattle.etagere_base.specs.Places.{rectangle_at}
use Rattle.etagere_base.proofs.GatheredLemmas.{after-append, along-append}
use Rattle.shelf_model.proofs.Places.Heights.{column_height-append}

-- what the items of a front and a back allocate
pub allocations_along-append : (frame : Frame) (across height here : ℕ) (front back : List Item)
    → allocations_along frame across height here (front ++ back) ≡ allocations_along frame across height here front ++ allocations_along frame across height (here + total_width front) back
allocations_along-append frame across height here front back =
    along-append (λ item. item.width) (λ here item. allocation_of item.id (rectangle_at frame here across item.width height)) here front back

-- what shelves allocate that stand after a front
pub allocations_after-append : (frame : Frame) (before front back : List Shelf)
    → allocations_after frame before (front ++ back) ≡ allocations_after frame before front ++ allocations_after frame (before ++ front) back
allocations_after-append frame before front back =
    after-append
    (λ before shelf. allocations_along frame (column_height shelf.column before) shelf.height (column_place frame shelf) shelf.items)
    before front back

-- of the shelves before it a shelf's allocations depend on the heights alone
pub allocations_after-heights : (frame : Frame) (before other shelves : List Shelf)
    → ((column : ℕ) → column_height column before ≡ column_height column other) → allocations_after frame before shelves ≡ allocations_after frame other shelves
allocations_after-heights frame before other [] h = refl
allocations_after-heights frame before other (shelf ∷ shelves) h =
    let later = allocations_after-heights frame (before ++ shelf ∷ []) (other ++ shelf ∷ []) shelves
    (λ column. omega (arith, h column, column_height-append column before (shelf ∷ []), column_height-append column other (shelf ∷ []))) in
    rw (h shelf.column, later) refl
