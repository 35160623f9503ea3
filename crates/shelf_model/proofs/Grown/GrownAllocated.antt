-- A grow changes no allocated rectangle and no allocated space.
use Rattle.std.proofs.Common.{◌≡◌, ℕ, suc, ◌+◌, ◌≤◌, Bool, true, false, cond, ◌==◌, List, [], ◌∷◌, ◌++◌, map, refl, ap, ◌∙◌, arith}
use Rattle.std.proofs.lemmas.List.{append-nil}
use Rattle.etagere_base.specs.declared.frames.Frame.{Frame}
use Rattle.etagere_base.specs.declared.geometry.Size.{Size}
use Rattle.etagere_base.specs.declared.ids.Allocation.{Allocation}
use Rattle.std.specs.List.{AllByRecursion}
use Rattle.etagere_base.specs.Lists.{NoNeighbours}
use Rattle.etagere_base.proofs.NoNeighboursLemmas.{NoNeighbours-tail}
use Rattle.shelf_model.specs.Fresh.{empty_columns}
use Rattle.shelf_model.specs.Growing.{ends_column, grown_frame, heightened, widened, widened_shelf, with_ends}
use Rattle.shelf_model.specs.Merging.{merged_shelf}
use Rattle.shelf_model.specs.Places.{allocations_after, allocations_along, column_height, column_place}
use Rattle.shelf_model.specs.Space.{allocated_width, space_in}
use Rattle.shelf_model.specs.State.{Item, Shelf}
use Rattle.shelf_model.specs.Valid.{is_out_of_order}
use Rattle.shelf_model.proofs.Allocations.AllocatedLists.{allocations_after-append, allocations_along-append}
use Rattle.shelf_model.proofs.Grown.GrownShelf.{free_item}
use Rattle.shelf_model.proofs.Grown.GrownShelves.{columns-after, columns-from, end_shelf}
use Rattle.shelf_model.proofs.Places.FreshLemmas.{allocations_after-empty_columns}
use Rattle.shelf_model.proofs.Places.Heights.{column_height-append}
use Rattle.shelf_model.proofs.Spaces.SpaceLemmas.{allocated_width-append, allocated_width-merged, space_of}

-- a free item at the end allocates nothing
free_end-allocated : (frame : Frame) (across height here width : ℕ) (items : List Item)
    → allocations_along frame across height here (items ++ free_item width ∷ []) ≡ allocations_along frame across height here items
free_end-allocated frame across height here width items =
    allocations_along-append frame across height here items (free_item width ∷ []) ∙ append-nil (allocations_along frame across height here items)

module _ (frame : Frame) (before : List Shelf) (shelf : Shelf) where
  -- heights before that are the same stay so behind a shelf
  heights-behind : (from : ℕ) (other : List Shelf) → ((column : ℕ) → from ≤ column → column_height column before ≡ column_height column other)
      → (column : ℕ) → from ≤ column → column_height column (before ++ shelf ∷ []) ≡ column_height column (other ++ shelf ∷ [])
  heights-behind from other same column h =
      omega (arith, same column h, column_height-append column before (shelf ∷ []), column_height-append column other (shelf ∷ []))

-- empty shelves at the ends of columns allocate nothing, and no shelf comes after one in its column
ends-allocated : (frame : Frame) (height from : ℕ) (before other shelves : List Shelf)
    → ((column : ℕ) → from ≤ column → column_height column before ≡ column_height column other)
    → AllByRecursion (λ (s : Shelf). from ≤ s.column) shelves → NoNeighbours is_out_of_order shelves
    → allocations_after frame before (with_ends frame height shelves) ≡ allocations_after frame other shelves
ends-allocated frame height from before other [] same columns ordered = refl
ends-allocated frame height from before other (shelf ∷ shelves) same columns ordered =
    ap (λ (across : ℕ). allocations_along frame across shelf.height (column_place frame shelf) shelf.items
    ++ allocations_after frame (before ++ shelf ∷ []) (cond (ends_column shelf shelves) (end_shelf frame height shelf ∷ []) [] ++ with_ends frame height shelves))
    (same shelf.column columns.0)
    ∙ ap (λ (l : List Allocation). allocations_along frame (column_height shelf.column other) shelf.height (column_place frame shelf) shelf.items ++ l)
    (by_test (ends_column shelf shelves) refl
    (λ from before other same columns. ends-allocated frame height from before other shelves same columns (NoNeighbours-tail is_out_of_order shelf shelves ordered)))
  where
    further : (column : ℕ) → suc shelf.column ≤ column
        → column_height column ((before ++ shelf ∷ []) ++ end_shelf frame height shelf ∷ []) ≡ column_height column (other ++ shelf ∷ [])
    further column h =
        omega (
          arith,
          heights-behind frame before shelf from other same column (omega (arith, h, columns.0)),
          column_height-append column (before ++ shelf ∷ []) (end_shelf frame height shelf ∷ []),
          elsewhere shelf.column column height h,
        )
      where
        elsewhere : (a b n : ℕ) → suc a ≤ b → cond (a == b) n 0 ≡ 0
        elsewhere a b n h = grind arith

    by_test : (b : Bool) → ends_column shelf shelves ≡ b
        → ((from : ℕ) (before other : List Shelf) → ((column : ℕ) → from ≤ column → column_height column before ≡ column_height column other)
        → AllByRecursion (λ (s : Shelf). from ≤ s.column) shelves
        → allocations_after frame before (with_ends frame height shelves) ≡ allocations_after frame other shelves)
        → allocations_after frame (before ++ shelf ∷ []) (cond b (end_shelf frame height shelf ∷ []) [] ++ with_ends frame height shelves)
        ≡ allocations_after frame (other ++ shelf ∷ []) shelves
    by_test true e rest =
        rest (suc shelf.column) ((before ++ shelf ∷ []) ++ end_shelf frame height shelf ∷ []) (other ++ shelf ∷ []) further (columns-after shelf shelves e ordered)
    by_test false e rest =
        rest from (before ++ shelf ∷ []) (other ++ shelf ∷ []) (heights-behind frame before shelf from other same) (columns-from from shelf shelves columns.0 ordered)

-- widths at the ends of shelves allocate nothing
widths-allocated : (frame grown : Frame) (width : ℕ) (before other shelves : List Shelf)
    → ((column : ℕ) → column_height column before ≡ column_height column other)
    → allocations_after grown before (map (widened_shelf frame width) shelves) ≡ allocations_after grown other shelves
widths-allocated frame grown width before other [] same = refl
widths-allocated frame grown width before other (shelf ∷ shelves) same =
    let later = widths-allocated frame grown width (before ++ widened_shelf frame width shelf ∷ []) (other ++ shelf ∷ []) shelves
    (λ column. omega (
      arith,
      same column,
      column_height-append column before (widened_shelf frame width shelf ∷ []),
      column_height-append column other (shelf ∷ []),
    )) in
    rw (same shelf.column, later, free_end-allocated grown (column_height shelf.column other) shelf.height (column_place grown shelf) width shelf.items) refl

-- a frame of the same direction, in which columns begin where they did, changes no allocated rectangle
frames-allocated : (frame : Frame) (size : Size) (before shelves : List Shelf)
    → AllByRecursion (λ (s : Shelf). column_place (grown_frame frame size) s ≡ column_place frame s) shelves
    → allocations_after (grown_frame frame size) before shelves ≡ allocations_after frame before shelves
frames-allocated frame size before [] same = refl
frames-allocated frame size before (shelf ∷ shelves) same =
    let later = frames-allocated frame size (before ++ shelf ∷ []) shelves same.1 in
    rw (same.0, later) refl

-- what is allocated where a width and a height are added, in a grown frame
pub added-allocated : (frame : Frame) (size : Size) (width height columns : ℕ) (shelves : List Shelf)
    → AllByRecursion (λ (s : Shelf). column_place (grown_frame frame size) s ≡ column_place frame s) shelves → NoNeighbours is_out_of_order shelves
    → NoNeighbours is_out_of_order (widened frame width shelves)
    → allocations_after (grown_frame frame size) []
    (heightened (grown_frame frame size) height (widened frame width shelves) ++ empty_columns (grown_frame frame size) frame.columns columns)
    ≡ allocations_after frame [] shelves
added-allocated frame size width height columns shelves same ordered widened_ordered =
    let grown : Frame = grown_frame frame size in
    let ends : List Shelf = heightened grown height (widened frame width shelves) in
    allocations_after-append grown [] ends (empty_columns grown frame.columns columns)
    ∙ ap (λ (l : List Allocation). allocations_after grown [] ends ++ l) (allocations_after-empty_columns grown ends frame.columns columns)
    ∙ append-nil (allocations_after grown [] ends)
    ∙ by_height (height == 0)
    ∙ by_width (width == 0)
    ∙ frames-allocated frame size [] shelves same
  where
    all : (shelves : List Shelf) → AllByRecursion (λ (s : Shelf). 0 ≤ s.column) shelves
    all [] = tt
    all (s ∷ shelves) = (omega arith, all shelves)

    by_height : (b : Bool)
        → allocations_after (grown_frame frame size) [] (cond b (widened frame width shelves) (with_ends (grown_frame frame size) height (widened frame width shelves)))
        ≡ allocations_after (grown_frame frame size) [] (widened frame width shelves)
    by_height true = refl
    by_height false =
        ends-allocated (grown_frame frame size) height 0 [] [] (widened frame width shelves) (λ column h. refl) (all (widened frame width shelves)) widened_ordered

    by_width : (b : Bool)
        → allocations_after (grown_frame frame size) [] (cond b shelves (map (widened_shelf frame width) shelves)) ≡ allocations_after (grown_frame frame size) [] shelves
    by_width true = refl
    by_width false = widths-allocated frame (grown_frame frame size) width [] [] shelves (λ column. refl)

-- empty shelves at the ends of columns allocate no space
pub space-ends : (frame : Frame) (height : ℕ) (shelves : List Shelf) → space_in (with_ends frame height shelves) ≡ space_in shelves
space-ends frame height [] = refl
space-ends frame height (shelf ∷ shelves) = ap (λ (n : ℕ). space_of shelf + n) (by_test (ends_column shelf shelves) (space-ends frame height shelves))
  where
    by_test : (b : Bool) → space_in (with_ends frame height shelves) ≡ space_in shelves
        → space_in (cond b (end_shelf frame height shelf ∷ []) [] ++ with_ends frame height shelves) ≡ space_in shelves
    by_test true rest = omega (arith, rest)
    by_test false rest = rest

-- widths at the ends of shelves allocate no space
pub space-widths : (frame : Frame) (width : ℕ) (shelves : List Shelf) → space_in (map (widened_shelf frame width) shelves) ≡ space_in shelves
space-widths frame width [] = refl
space-widths frame width (shelf ∷ shelves) =
    let same : allocated_width (shelf.items ++ free_item width ∷ []) ≡ allocated_width shelf.items =
    omega (arith, allocated_width-append shelf.items (free_item width ∷ [])) in
    rw (same, space-widths frame width shelves) refl

-- merging the items of each shelf changes no allocated space
pub space-merged_shelves : (shelves : List Shelf) → space_in (map merged_shelf shelves) ≡ space_in shelves
space-merged_shelves [] = refl
space-merged_shelves (shelf ∷ shelves) = rw (allocated_width-merged shelf.items, space-merged_shelves shelves) refl
