-- The shelves after a placement was taken: each is as a shelf must be, and they fill the columns in order.
use Rattle.std.proofs.Common.{◌≡◌, ℕ, ◌+◌, ◌-◌, ◌≤◌, Bool, true, false, cond, Some, List, [], ◌∷◌, ◌++◌, refl, subst, arith}
use Rattle.std.proofs.lemmas.Bool.{and_left, and_right}
use Rattle.std.specs.Prelude.{◌<◌, ◌==◌}
use Rattle.etagere_base.specs.Frames.{IsFrame, across_side}
use Rattle.etagere_base.specs.declared.frames.Frame.{Frame}
use Rattle.etagere_base.specs.declared.geometry.Size.{Size}
use Rattle.shelf_model.specs.Choice.{Placement, placement_of}
use Rattle.shelf_model.specs.Merging.{both_empty}
use Rattle.std.specs.List.{AllByRecursion}
use Rattle.etagere_base.specs.Lists.{NoNeighbours}
use Rattle.shelf_model.specs.Places.{column_height}
use Rattle.shelf_model.specs.State.{Shelf, AtlasState, is_empty, empty_shelf}
use Rattle.shelf_model.specs.Taking.{shelf_pieces, taken}
use Rattle.shelf_model.specs.Valid.{IsShelf, IsValid, is_out_of_order}
use Rattle.etagere_base.proofs.ReplacedLists.{split-at}
use Rattle.etagere_base.proofs.EachLemmas.{Each-append, Each-back, Each-front}
use Rattle.etagere_base.proofs.ColumnTotals.{part}
use Rattle.etagere_base.proofs.Totals.{total-replaced_at}
use Rattle.etagere_base.proofs.NoNeighboursLemmas.{NoNeighbours-changed, NoNeighbours-split}
use Rattle.shelf_model.proofs.Chosen.Placed.{placement_of-placed}
use Rattle.shelf_model.proofs.Places.Heights.{column_of, height_of}
use Rattle.shelf_model.proofs.Places.Tiling.{IsTiled}
use Rattle.shelf_model.proofs.Taken.TakenShelves.{IsTaking, empty_shelf-valid, shelf_pieces-cases, taken_shelf-not_empty, taken_shelf-valid, taken_to, taking}

-- the shelves are valid after a placement took an item in one
each-shelf : (frame : Frame) (placement : Placement) (id : ℕ) (front : List Shelf) (shelf : Shelf) (back : List Shelf)
    → IsFrame 65535 frame → IsTaking frame placement shelf → AllByRecursion (IsShelf frame) (front ++ shelf ∷ back) → AllByRecursion (IsShelf frame) (front ++ (shelf_pieces frame placement id shelf ++ back))
each-shelf frame placement id front shelf back valid t each =
    let old = Each-back (IsShelf frame) front (shelf ∷ back) each in
    Each-append (IsShelf frame) front _ (Each-front (IsShelf frame) front (shelf ∷ back) each)
    (shelf_pieces-cases (λ _ pieces. AllByRecursion (IsShelf frame) (pieces ++ back)) frame placement id shelf t
    (λ empty split. (taken_shelf-valid frame placement id placement.height shelf t t.height, (empty_shelf-valid frame shelf.column (shelf.height - placement.height) valid t.valid.column (omega arith), old.1)))
    (λ _. (taken_shelf-valid frame placement id shelf.height shelf t t.valid.height, old.1)))

-- the shelves stand column after column after a placement took an item in one
ordered-shelves : (frame : Frame) (placement : Placement) (id : ℕ) (front : List Shelf) (shelf : Shelf) (back : List Shelf)
    → IsTaking frame placement shelf → NoNeighbours is_out_of_order (front ++ shelf ∷ back) → NoNeighbours is_out_of_order (front ++ (shelf_pieces frame placement id shelf ++ back))
ordered-shelves frame placement id front shelf back t ordered =
    shelf_pieces-cases (λ _ pieces. NoNeighbours is_out_of_order (front ++ (pieces ++ back))) frame placement id shelf t
    (λ empty split. NoNeighbours-split is_out_of_order front shelf (taken_to placement id placement.height shelf) (empty_shelf frame shelf.column (shelf.height - placement.height)) back (λ y h. h) (grind arith) (λ y h. h) ordered)
    (λ _. NoNeighbours-changed is_out_of_order front shelf (taken_to placement id shelf.height shelf) back (λ y h. h) (λ y h. h) ordered)

-- a shelf that is not empty is next to no empty one before it
not_empty-before : (y shelf : Shelf) → is_empty shelf ≡ false → both_empty y shelf ≡ false
not_empty-before y shelf h = and_right _ _ (and_right _ _ h)

-- a shelf that is not empty is next to no empty one after it
not_empty-after : (shelf y : Shelf) → is_empty shelf ≡ false → both_empty shelf y ≡ false
not_empty-after shelf y h = and_right _ _ (and_left _ _ h)

-- an empty shelf has the empty neighbours of another of its column
empty-after : (frame : Frame) (shelf : Shelf) (height : ℕ) (y : Shelf)
    → is_empty shelf ≡ true → both_empty shelf y ≡ false → both_empty (empty_shelf frame shelf.column height) y ≡ false
empty-after frame shelf height y empty h = rw empty at h

-- no two empty shelves stand side by side after a placement took an item in one
apart-shelves : (frame : Frame) (placement : Placement) (id : ℕ) (front : List Shelf) (shelf : Shelf) (back : List Shelf)
    → IsTaking frame placement shelf → NoNeighbours both_empty (front ++ shelf ∷ back) → NoNeighbours both_empty (front ++ (shelf_pieces frame placement id shelf ++ back))
apart-shelves frame placement id front shelf back t apart =
    shelf_pieces-cases (λ _ pieces. NoNeighbours both_empty (front ++ (pieces ++ back))) frame placement id shelf t
    (λ empty split. NoNeighbours-split both_empty front shelf (taken_to placement id placement.height shelf) (empty_shelf frame shelf.column (shelf.height - placement.height)) back
    (λ y h. not_empty-before y (taken_to placement id placement.height shelf) (taken_shelf-not_empty frame placement id placement.height shelf t))
    (not_empty-after (taken_to placement id placement.height shelf) (empty_shelf frame shelf.column (shelf.height - placement.height)) (taken_shelf-not_empty frame placement id placement.height shelf t))
    (λ y h. empty-after frame shelf (shelf.height - placement.height) y empty h) apart)
    (λ _. NoNeighbours-changed both_empty front shelf (taken_to placement id shelf.height shelf) back
    (λ y h. not_empty-before y (taken_to placement id shelf.height shelf) (taken_shelf-not_empty frame placement id shelf.height shelf t))
    (λ y h. not_empty-after (taken_to placement id shelf.height shelf) y (taken_shelf-not_empty frame placement id shelf.height shelf t)) apart)

-- the shelves that stand for a shelf are as tall as it was
pub pieces-heights : (frame : Frame) (placement : Placement) (id : ℕ) (shelf : Shelf) → IsTaking frame placement shelf → (column : ℕ)
    → column_height column (shelf_pieces frame placement id shelf) ≡ column_height column (shelf ∷ [])
pieces-heights frame placement id shelf t column =
    shelf_pieces-cases (λ _ pieces. column_height column pieces ≡ column_height column (shelf ∷ [])) frame placement id shelf t
    (λ empty split. split_height (shelf.column == column) placement.height shelf.height (omega arith))
    (λ _. refl)
  where
    split_height : (b : Bool) (n m : ℕ) → n ≤ m → cond b n 0 + (cond b (m - n) 0 + 0) ≡ cond b m 0 + 0
    split_height true n m h = omega arith
    split_height false n m h = refl

-- each shelf is as a shelf must be after a placement was taken
pub taken-shelves : (state : AtlasState) (size : Size) (placement : Placement) (id : ℕ) → IsValid state
    → placement_of state size ≡ Some placement → AllByRecursion (IsShelf state.frame) (taken state placement id).shelves
taken-shelves state size placement id valid h =
    let placed = placement_of-placed state size placement h in
    let shelf = placed.chosen.shelf in
    let t = taking state size placement valid placed in
    let split = split-at state.shelves placement.shelf shelf placed.chosen.at in
    rw (split.split (shelf_pieces state.frame placement id))
    (each-shelf state.frame placement id split.front shelf split.back valid.frame t
    (subst (AllByRecursion (IsShelf state.frame)) split.whole valid.shelves))

-- the shelves stand column after column after a placement was taken
pub taken-ordered : (state : AtlasState) (size : Size) (placement : Placement) (id : ℕ) → IsValid state
    → placement_of state size ≡ Some placement → NoNeighbours is_out_of_order (taken state placement id).shelves
taken-ordered state size placement id valid h =
    let placed = placement_of-placed state size placement h in
    let shelf = placed.chosen.shelf in
    let t = taking state size placement valid placed in
    let split = split-at state.shelves placement.shelf shelf placed.chosen.at in
    rw (split.split (shelf_pieces state.frame placement id))
    (ordered-shelves state.frame placement id split.front shelf split.back t
    (subst (NoNeighbours is_out_of_order) split.whole valid.ordered))

-- no two empty shelves stand side by side after a placement was taken
pub taken-apart : (state : AtlasState) (size : Size) (placement : Placement) (id : ℕ) → IsValid state
    → placement_of state size ≡ Some placement → NoNeighbours both_empty (taken state placement id).shelves
taken-apart state size placement id valid h =
    let placed = placement_of-placed state size placement h in
    let shelf = placed.chosen.shelf in
    let t = taking state size placement valid placed in
    let split = split-at state.shelves placement.shelf shelf placed.chosen.at in
    rw (split.split (shelf_pieces state.frame placement id))
    (apart-shelves state.frame placement id split.front shelf split.back t
    (subst (NoNeighbours both_empty) split.whole valid.apart))

-- the columns are filled after a placement was taken
pub taken-heights : (state : AtlasState) (size : Size) (placement : Placement) (id : ℕ) → IsValid state
    → placement_of state size ≡ Some placement → (column : ℕ) → column < state.frame.columns
    → column_height column (taken state placement id).shelves ≡ across_side state.frame
taken-heights state size placement id valid h column below =
    let placed = placement_of-placed state size placement h in
    let shelf = placed.chosen.shelf in
    omega (
      arith,
      valid.heights column below,
      total-replaced_at (part column_of height_of column) (shelf_pieces state.frame placement id) placement.shelf state.shelves shelf placed.chosen.at,
      pieces-heights state.frame placement id shelf (taking state size placement valid placed) column,
    )

-- the shelves fill the columns after a placement was taken by any id
pub taken-tiled : (state : AtlasState) (size : Size) (placement : Placement) (id : ℕ) → IsValid state
    → placement_of state size ≡ Some placement → IsTiled state.frame (taken state placement id).shelves
taken-tiled state size placement id valid h =
    record {
      is_frame = valid.frame;
      are_shelves = taken-shelves state size placement id valid h;
      heights = taken-heights state size placement id valid h;
    }
