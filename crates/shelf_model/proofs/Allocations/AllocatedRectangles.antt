-- The rectangle that an id holds, in a shelf and in an atlas.
use Rattle.std.proofs.Common.{◌≡◌, ℕ, ◌+◌, Some, List, refl, ap, sym, ◌∙◌, arith, suc, Bool, true, false, cond, is_some, ◌==◌, Option, None, option_map, [], ◌∷◌, ◌++◌, take}
use Rattle.std.proofs.lemmas.List.Folds.{find-append}
use Rattle.std.specs.List.{list_any}
use Rattle.std.specs.Option.{option_or}
use Rattle.std.specs.Prelude.{find, position, slice_get}
use Rattle.etagere_base.specs.declared.frames.Frame.{Frame}
use Rattle.etagere_base.specs.declared.geometry.Rectangle.{Rectangle}
use Rattle.etagere_base.specs.declared.ids.Allocation.{Allocation}
use Rattle.etagere_base.specs.Places.{rectangle_at}
use Rattle.shelf_model.specs.Places.{column_place, column_height, allocations_along, allocations_after, rectangle_of}
use Rattle.shelf_model.specs.Returning.{has_id, number_of, place_at}
use Rattle.shelf_model.specs.State.{Item, Shelf, total_width}
use Rattle.shelf_model.proofs.Allocations.InShelves.{allocated_rectangle, width_of, state_of, is_allocated_in}
use Rattle.etagere_base.proofs.FirstPlace.{find-none, first-at, found_first, is_some-map, position-cons}
use Rattle.shelf_model.proofs.Allocations.AllocatedIds.{is_allocated-shelves, is_allocated-any}
use Rattle.shelf_model.proofs.Allocations.AllocatedLists.{allocations_after-append}

-- the rectangle of an allocation
abbrev area : Allocation → Rectangle
area allocation = allocation.rectangle

-- the allocation is an id's
abbrev is_of : ℕ → Allocation → Bool
is_of id allocation = allocation.id == id

module _ (frame : Frame) (across height id : ℕ) where
  -- the rectangle of the item of a number, the first one here
  abbrev area_at : ℕ → List Item → ℕ → Rectangle
  area_at here items n = rectangle_at frame (place_at here items n) across (width_of items n) height

  -- the rectangles of items behind a first one
  area_later : (here : ℕ) (item : Item) (items : List Item) (o : Option ℕ)
      → option_map (area_at (here + item.width) items) o ≡ option_map (area_at here (item ∷ items)) (option_map suc o)
  area_later here item items None = refl
  area_later here item items (Some n) =
      let place : (here + item.width) + total_width (take n items) ≡ here + (item.width + total_width (take n items)) = omega arith in
      ap (λ p. Some (rectangle_at frame p across (width_of items n) height)) place

  -- the rectangle that is found first among a shelf's is that of the number of the id
  found_along : (here : ℕ) (items : List Item)
      → option_map area (find (is_of id) (allocations_along frame across height here items)) ≡ option_map (area_at here items) (number_of id items)
  found_along here [] = refl
  found_along here (item ∷ items) =
      of_owner item.width item.id (found_along (here + item.width) items)
      ∙ ap (option_map (area_at here (item ∷ items))) (sym (position-cons (λ (r : Item). has_id id r.id) item items))
    where
      of_test : (b : Bool) (width owner : ℕ) (rest : List Allocation)
          → option_map area (find (is_of id) rest) ≡ option_map (area_at (here + width) items) (number_of id items)
          → option_map area (cond b (Some (record { id = owner; rectangle = rectangle_at frame here across width height })) (find (is_of id) rest))
          ≡ option_map (area_at here (record { width = width; id = Some owner } ∷ items)) (cond b (Some 0) (option_map suc (number_of id items)))
      of_test true width owner rest h =
          let begin : here ≡ here + 0 = omega arith in
          ap (λ p. Some (rectangle_at frame p across width height)) begin
      of_test false width owner rest h = h ∙ area_later here (record { width = width; id = Some owner }) items (number_of id items)

      of_owner : (width : ℕ) (owner : Option ℕ)
          → option_map area (find (is_of id) (allocations_along frame across height (here + width) items)) ≡ option_map (area_at (here + width) items) (number_of id items)
          → option_map area (find (is_of id) (allocations_along frame across height here (record { width = width; id = owner } ∷ items)))
          ≡ option_map (area_at here (record { width = width; id = owner } ∷ items)) (cond (has_id id owner) (Some 0) (option_map suc (number_of id items)))
      of_owner width None h = h ∙ area_later here (record { width = width; id = None }) items (number_of id items)
      of_owner width (Some owner) h = of_test (owner == id) width owner (allocations_along frame across height (here + width) items) h

-- the rectangle that is found first among what shelves allocate is that of the first shelf in which an id holds an item
found_after : (frame : Frame) (id : ℕ) (front : List Shelf) (shelf : Shelf) (back : List Shelf) → list_any (is_allocated_in id) front ≡ false → is_allocated_in id shelf ≡ true
    → rectangle_of (state_of frame (front ++ shelf ∷ back)) id ≡ allocated_rectangle frame (column_height shelf.column front) id shelf
found_after frame id front shelf back fails passes =
    let before = allocations_after frame [] front in
    let along = allocations_along frame (column_height shelf.column front) shelf.height (column_place frame shelf) shelf.items in
    let later = allocations_after frame (front ++ shelf ∷ []) back in
    let none : find (is_of id) before ≡ None = find-none (is_of id) before (sym (is_allocated-any (state_of frame front) id) ∙ is_allocated-shelves (state_of frame front) id ∙ fails) in
    let here : option_map area (find (is_of id) along) ≡ allocated_rectangle frame (column_height shelf.column front) id shelf =
    found_along frame (column_height shelf.column front) shelf.height id (column_place frame shelf) shelf.items in
    let some : is_some (option_map area (find (is_of id) along)) ≡ true =
    ap is_some here ∙ is_some-map _ (number_of id shelf.items) ∙ passes in
    let whole : find (is_of id) (before ++ (along ++ later)) ≡ option_or (find (is_of id) along) (find (is_of id) later) =
    find-append (is_of id) before (along ++ later) ∙ rw none (find-append (is_of id) along later) in
    ap (λ (l : List Allocation). option_map area (find (is_of id) l)) (allocations_after-append frame [] front (shelf ∷ back))
    ∙ ap (option_map area) whole ∙ found_first area (find (is_of id) along) (find (is_of id) later) some ∙ here

-- an id that holds an item has the rectangle of that item in the shelf of its number
pub rectangle_of-allocated : (frame : Frame) (id n : ℕ) (shelves : List Shelf) (shelf : Shelf) → position (is_allocated_in id) shelves ≡ Some n → slice_get shelves n ≡ Some shelf
    → rectangle_of (state_of frame shelves) id ≡ allocated_rectangle frame (column_height shelf.column (take n shelves)) id shelf
rectangle_of-allocated frame id n shelves shelf found get =
    let s = first-at (is_allocated_in id) shelves n found in
    let same : s.first ≡ shelf = cc (s.at.get, get) in
    ap (λ (l : List Shelf). rectangle_of (state_of frame l) id) s.at.whole
    ∙ found_after frame id s.at.front s.first s.at.back s.fails s.passes
    ∙ ap (λ (x : Shelf). allocated_rectangle frame (column_height x.column s.at.front) id x) same
    ∙ ap (λ (l : List Shelf). allocated_rectangle frame (column_height shelf.column l) id shelf) (sym s.at.before)
