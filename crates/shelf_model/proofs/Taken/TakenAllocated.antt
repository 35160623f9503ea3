-- What is allocated after a placement was taken: the same as before, and one rectangle more.
use Rattle.std.proofs.Common.{◌≡◌, ℕ, ◌+◌, ◌-◌, true, None, Some, List, [], ◌∷◌, ◌++◌, refl, sym, subst, ap, ◌∙◌, append_assoc, arith}
use Rattle.std.proofs.lemmas.List.{append-nil}
use Rattle.etagere_base.specs.declared.frames.Frame.{Frame}
use Rattle.etagere_base.specs.declared.geometry.Size.{Size}
use Rattle.etagere_base.specs.declared.ids.Allocation.{Allocation}
use Rattle.shelf_model.specs.Choice.{Placement, placement_of, rectangle_of_placement}
use Rattle.etagere_base.specs.Places.{rectangle_at}
use Rattle.shelf_model.specs.Places.{column_place, column_height, allocations_along, allocations_after, allocations}
use Rattle.shelf_model.specs.Atlas.{Adds}
use Rattle.shelf_model.specs.State.{Item, Shelf, AtlasState, is_one_free, total_width}
use Rattle.shelf_model.specs.Taking.{item_pieces, shelf_pieces, taken}
use Rattle.shelf_model.specs.Valid.{IsValid}
use Rattle.etagere_base.proofs.ReplacedLists.{split-at}
use Rattle.shelf_model.proofs.Places.Heights.{column_height-append}
use Rattle.shelf_model.proofs.Allocations.AllocatedLists.{allocations_along-append, allocations_after-append, allocations_after-heights}
use Rattle.shelf_model.proofs.Chosen.Placed.{placement_of-placed}
use Rattle.shelf_model.proofs.Taken.TakenPieces.{IsRoom, allocated_item, free_item, pieces-cases}
use Rattle.shelf_model.proofs.Taken.TakenShelves.{IsTaking, taken-items, taken_to, taking, shelf_pieces-cases}
use Rattle.shelf_model.proofs.Taken.TakenTiling.{pieces-heights}

-- what items allocate, where a free one is in view
allocations_along-free : (frame : Frame) (across height here : ℕ) (front : List Item) (item : Item) (back : List Item) → item.id ≡ None
    → allocations_along frame across height here (front ++ item ∷ back) ≡ allocations_along frame across height here front ++ allocations_along frame across height ((here + total_width front) + item.width) back
allocations_along-free frame across height here front item back free = rw (allocations_along-append frame across height here front (item ∷ back), free) refl

-- the same with one allocation more where that item is taken
allocations_along-pieces : (frame : Frame) (across height here : ℕ) (front : List Item) (item : Item) (back : List Item) (placement : Placement) (id : ℕ) → IsRoom frame item placement
    → allocations_along frame across height here (front ++ (item_pieces placement id item ++ back))
    ≡ allocations_along frame across height here front ++ record { id = id; rectangle = rectangle_at frame (here + total_width front) across placement.width height } ∷ allocations_along frame across height ((here + total_width front) + item.width) back
allocations_along-pieces frame across height here front item back placement id room =
    pieces-cases (λ b pieces. allocations_along frame across height here (front ++ (pieces ++ back))
    ≡ allocations_along frame across height here front ++ record { id = id; rectangle = rectangle_at frame (here + total_width front) across placement.width height } ∷ allocations_along frame across height ((here + total_width front) + item.width) back) frame placement id item room
    (λ split.
    let begin : allocations_along frame across height (((here + total_width front) + placement.width) + (item.width - placement.width)) back ≡ allocations_along frame across height ((here + total_width front) + item.width) back =
    ap (λ n. allocations_along frame across height n back) (omega arith) in
    rw (allocations_along-append frame across height here front (allocated_item placement.width id ∷ free_item (item.width - placement.width) ∷ back), begin) refl)
    (λ whole. rw whole (allocations_along-append frame across height here front (allocated_item item.width id ∷ back)))

-- the one item of an empty shelf stands alone
alone : (front : List Item) (item : Item) (back : List Item) → is_one_free (front ++ item ∷ back) ≡ true → (front ≡ []) × (back ≡ [])
alone [] item [] h = (refl, refl)
alone [] item (next ∷ back) h = cc
alone (first ∷ []) item back h = cc
alone (first ∷ next ∷ front) item back h = cc

-- what a shelf allocates in which a placement took an item
taken_shelf-allocated : (frame : Frame) (placement : Placement) (id across height : ℕ) (shelf : Shelf) → (t : IsTaking frame placement shelf)
    → allocations_along frame across height (column_place frame shelf) (taken_to placement id height shelf).items
    ≡ allocations_along frame across height (column_place frame shelf) t.found.at.front ++ record { id = id; rectangle = rectangle_at frame placement.along across placement.width height } ∷ allocations_along frame across height (placement.along + t.found.item.width) t.found.at.back
taken_shelf-allocated frame placement id across height shelf t =
    let f = t.found in
    rw (taken-items frame placement id shelf t, f.begins) (allocations_along-pieces frame across height (column_place frame shelf) f.at.front f.item f.at.back placement id t.room)

-- the allocations of a shelf before the item that a placement takes
abbrev allocated_front : (frame : Frame) (placement : Placement) (before : List Shelf) (shelf : Shelf) → IsTaking frame placement shelf → List Allocation
allocated_front frame placement before shelf t = allocations_along frame (column_height shelf.column before) shelf.height (column_place frame shelf) t.found.at.front

-- the allocations of a shelf after the item that a placement takes
abbrev allocated_back : (frame : Frame) (placement : Placement) (before : List Shelf) (shelf : Shelf) → IsTaking frame placement shelf → List Allocation
allocated_back frame placement before shelf t = allocations_along frame (column_height shelf.column before) shelf.height (placement.along + t.found.item.width) t.found.at.back

-- what a shelf allocates in which a placement will take an item
shelf-allocated : (frame : Frame) (placement : Placement) (before : List Shelf) (shelf : Shelf) → (t : IsTaking frame placement shelf)
    → allocations_after frame before (shelf ∷ []) ≡ allocated_front frame placement before shelf t ++ allocated_back frame placement before shelf t
shelf-allocated frame placement before shelf t =
    let f = t.found in
    let here = column_place frame shelf in
    let across = column_height shelf.column before in
    append-nil _ ∙ (ap (allocations_along frame across shelf.height here) f.at.whole
    ∙ (allocations_along-free frame across shelf.height here f.at.front f.item f.at.back f.free
    ∙ ap (λ n. allocations_along frame across shelf.height here f.at.front ++ allocations_along frame across shelf.height (n + f.item.width) f.at.back) (sym f.begins)))

-- no items allocate nothing at any height
none-allocated : (frame : Frame) (across height other here : ℕ) (items : List Item)
    → items ≡ [] → allocations_along frame across height here items ≡ allocations_along frame across other here items
none-allocated frame across height other here items h = ap (allocations_along frame across height here) h ∙ sym (ap (allocations_along frame across other here) h)

-- what the shelves allocate that stand for a shelf in which a placement took an item
pieces-allocated : (frame : Frame) (placement : Placement) (id : ℕ) (before : List Shelf) (shelf : Shelf) → (t : IsTaking frame placement shelf)
    → allocations_after frame before (shelf_pieces frame placement id shelf)
    ≡ allocated_front frame placement before shelf t ++ record { id = id; rectangle = rectangle_at frame placement.along (column_height shelf.column before) placement.width placement.height } ∷ allocated_back frame placement before shelf t
pieces-allocated frame placement id before shelf t =
    let f = t.found in
    let across = column_height shelf.column before in
    shelf_pieces-cases (λ b pieces. allocations_after frame before pieces
    ≡ allocated_front frame placement before shelf t ++ record { id = id; rectangle = rectangle_at frame placement.along across placement.width placement.height } ∷ allocated_back frame placement before shelf t) frame placement id shelf t
    (λ empty split.
    let none = alone f.at.front f.item f.at.back (subst (λ (items : List Item). is_one_free items ≡ true) f.at.whole empty) in
    let front = none-allocated frame across placement.height shelf.height (column_place frame shelf) f.at.front none.0 in
    let back = none-allocated frame across placement.height shelf.height (placement.along + f.item.width) f.at.back none.1 in
    append-nil _ ∙ (taken_shelf-allocated frame placement id across placement.height shelf t
    ∙ rw (front, back) refl))
    (λ full. rw full (append-nil _ ∙ taken_shelf-allocated frame placement id across shelf.height shelf t))

-- what shelves allocate, where what the middle ones allocate falls in two
middle-allocated : (frame : Frame) (front middle back : List Shelf) (one other : List Allocation) → allocations_after frame front middle ≡ one ++ other
    → allocations_after frame [] (front ++ (middle ++ back)) ≡ (allocations_after frame [] front ++ one) ++ (other ++ allocations_after frame (front ++ middle) back)
middle-allocated frame front middle back one other h =
    allocations_after-append frame [] front (middle ++ back) ∙ rw (allocations_after-append frame front middle back, h) (simp append_assoc)

-- what shelves allocate that stand after a shelf or after the shelves that stand for it
later-allocated : (frame : Frame) (placement : Placement) (id : ℕ) (front : List Shelf) (shelf : Shelf) (back : List Shelf) → IsTaking frame placement shelf
    → allocations_after frame (front ++ shelf_pieces frame placement id shelf) back ≡ allocations_after frame (front ++ shelf ∷ []) back
later-allocated frame placement id front shelf back t =
    allocations_after-heights frame (front ++ shelf_pieces frame placement id shelf) (front ++ shelf ∷ []) back
    (λ column. omega (arith, column_height-append column front (shelf_pieces frame placement id shelf), column_height-append column front (shelf ∷ []), pieces-heights frame placement id shelf t column))

-- taking a placement allocates its rectangle, and leaves what was allocated as it was
pub taken-allocations : (state : AtlasState) (size : Size) (placement : Placement) (id : ℕ)
    → IsValid state → placement_of state size ≡ Some placement
    → Adds (allocations state) (record { id = id; rectangle = rectangle_of_placement state.frame placement }) (allocations (taken state placement id))
taken-allocations state size placement id valid h =
    let placed = placement_of-placed state size placement h in
    let shelf = placed.chosen.shelf in
    let at = placed.chosen.at in
    let frame = state.frame in
    let t = taking state size placement valid placed in
    let split = split-at state.shelves placement.shelf shelf at in
    let pieces = shelf_pieces frame placement id shelf in
    let front = allocated_front frame placement split.front shelf t in
    let back = allocated_back frame placement split.front shelf t in
    let across : column_height shelf.column split.front ≡ placement.across =
    sym (ap (λ (p : Placement). p.across) placed.chosen.is ∙ ap (column_height shelf.column) split.before) in
    record {
      front = allocations_after frame [] split.front ++ front;
      back = back ++ allocations_after frame (split.front ++ shelf ∷ []) split.back;
      before = ap (allocations_after frame []) split.whole
          ∙ middle-allocated frame split.front (shelf ∷ []) split.back front back (shelf-allocated frame placement split.front shelf t);
      after = ap (allocations_after frame []) (split.split (shelf_pieces frame placement id))
          ∙ (middle-allocated frame split.front pieces split.back front (record { id = id; rectangle = rectangle_at frame placement.along (column_height shelf.column split.front) placement.width placement.height } ∷ back) (pieces-allocated frame placement id split.front shelf t)
          ∙ (ap (λ (l : List Allocation). (allocations_after frame [] split.front ++ front) ++ (record { id = id; rectangle = rectangle_at frame placement.along (column_height shelf.column split.front) placement.width placement.height } ∷ back ++ l)) (later-allocated frame placement id split.front shelf split.back t)
          ∙ ap (λ (n : ℕ). (allocations_after frame [] split.front ++ front) ++ record { id = id; rectangle = rectangle_at frame placement.along n placement.width placement.height } ∷ (back ++ allocations_after frame (split.front ++ shelf ∷ []) split.back)) across));
    }
