-- Taking a placement adds the area that it gives to the space that is allocated.
use Rattle.std.proofs.Common.{◌≡◌, ℕ, ◌+◌, ◌-◌, ◌*◌, Some, List, ◌∷◌, ◌++◌, sym, ap, ◌∙◌, arith}
use Rattle.std.proofs.Math.Nat.{add-mul}
use Rattle.etagere_base.specs.declared.frames.Frame.{Frame}
use Rattle.etagere_base.specs.declared.geometry.Size.{Size}
use Rattle.shelf_model.specs.Choice.{Placement, area, placement_of}
use Rattle.shelf_model.specs.Space.{allocated_width, space_in, allocated_space}
use Rattle.shelf_model.specs.State.{Item, Shelf, AtlasState}
use Rattle.shelf_model.specs.Taking.{item_pieces, shelf_pieces, taken}
use Rattle.shelf_model.specs.Valid.{IsValid}
use Rattle.etagere_base.proofs.Totals.{total-replaced_at}
use Rattle.shelf_model.proofs.Chosen.Placed.{placement_of-placed}
use Rattle.shelf_model.proofs.Spaces.SpaceLemmas.{allocated_width-append, allocated_width-free, allocated_width-one_free, space_of}
use Rattle.shelf_model.proofs.Taken.TakenPieces.{IsRoom, allocated_item, free_item, pieces-cases}
use Rattle.shelf_model.proofs.Taken.TakenShelves.{IsTaking, shelf_pieces-cases, taken-items, taken_to, taking}

-- items of which a free one was taken hold the width that was given more
pieces-allocated_width : (frame : Frame) (front : List Item) (item : Item) (back : List Item) (placement : Placement) (id : ℕ) → IsRoom frame item placement
    → allocated_width (front ++ (item_pieces placement id item ++ back)) ≡ allocated_width (front ++ item ∷ back) + placement.width
pieces-allocated_width frame front item back placement id room =
    pieces-cases (λ b pieces. allocated_width (front ++ (pieces ++ back)) ≡ allocated_width (front ++ item ∷ back) + placement.width) frame placement id item room
    (λ split. omega (arith, allocated_width-free item back room.free, allocated_width-append front (item ∷ back), allocated_width-append front (allocated_item placement.width id ∷ free_item (item.width - placement.width) ∷ back)))
    (λ whole. omega (arith, allocated_width-free item back room.free, allocated_width-append front (item ∷ back), allocated_width-append front (allocated_item item.width id ∷ back)))

-- a shelf in which a placement takes an item holds the width that it gives more
taken_shelf-allocated_width : (frame : Frame) (placement : Placement) (id height : ℕ) (shelf : Shelf) → IsTaking frame placement shelf
    → allocated_width (taken_to placement id height shelf).items ≡ allocated_width shelf.items + placement.width
taken_shelf-allocated_width frame placement id height shelf t =
    let f = t.found in
    rw (taken-items frame placement id shelf t)
    (pieces-allocated_width frame f.at.front f.item f.at.back placement id t.room
    ∙ ap (λ (items : List Item). allocated_width items + placement.width) (sym f.at.whole))

-- the shelves that stand for one in which a placement takes an item hold the area that it gives more
pieces-space : (frame : Frame) (placement : Placement) (id : ℕ) (shelf : Shelf) → IsTaking frame placement shelf
    → space_in (shelf_pieces frame placement id shelf) ≡ allocated_width shelf.items * shelf.height + area placement
pieces-space frame placement id shelf t =
    shelf_pieces-cases
    (λ b pieces. space_in pieces ≡ allocated_width shelf.items * shelf.height + placement.width * placement.height)
    frame placement id shelf t
    (λ empty split.
    split_area (allocated_width shelf.items) shelf.height (allocated_width (taken_to placement id placement.height shelf).items) placement.width placement.height (shelf.height - placement.height)
    (allocated_width-one_free shelf.items empty) (taken_shelf-allocated_width frame placement id placement.height shelf t))
    (λ full. rw full (whole_area (allocated_width shelf.items) (allocated_width (taken_to placement id shelf.height shelf).items) placement.width shelf.height
    (taken_shelf-allocated_width frame placement id shelf.height shelf t)))
  where
    split_area : (old height new width split rest : ℕ) → old ≡ 0 → new ≡ old + width → new * split + (0 * rest + 0) ≡ old * height + width * split
    split_area old height new width split rest h k = rw (k, h) (omega arith)

    whole_area : (old new width height : ℕ) → new ≡ old + width → new * height + 0 ≡ old * height + width * height
    whole_area old new width height h = rw h (omega (arith, add-mul old width height))

-- taking a placement adds the area that it gives
pub space-taken : (state : AtlasState) (size : Size) (placement : Placement) (id : ℕ) → IsValid state
    → placement_of state size ≡ Some placement
    → allocated_space (taken state placement id) ≡ allocated_space state + area placement
space-taken state size placement id valid h =
    let placed = placement_of-placed state size placement h in
    let t = taking state size placement valid placed in
    omega (
      arith,
      total-replaced_at space_of (shelf_pieces state.frame placement id) placement.shelf state.shelves placed.chosen.shelf placed.chosen.at,
      pieces-space state.frame placement id placed.chosen.shelf t,
    )
