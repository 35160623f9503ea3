-- A new atlas is as a state must be and holds nothing, and how the program comes to its columns.
use Rattle.std.proofs.Common.{◌≡◌, ℕ, zero, suc, ◌+◌, ◌<◌, ◌≤◌, true, ◌==◌, List, [], ◌∷◌, ◌++◌, refl, ap, ◌∙◌, ⊎_elim, arith, ◌≢◌, sym, map, subst}
use Rattle.std.proofs.lemmas.Bool.{ne_eqb, le-ltb, and_left, cases_lt}
use Rattle.etagere_base.specs.Frames.{HasAllColumns, IsFrame, across_side}
use Rattle.etagere_base.specs.declared.frames.Frame.{Frame}
use Rattle.etagere_base.specs.declared.ids.Allocation.{Allocation}
use Rattle.shelf_model.specs.Fresh.{empty_columns, fresh}
use Rattle.shelf_model.specs.Merging.{both_empty}
use Rattle.std.specs.List.{AllByRecursion}
use Rattle.etagere_base.specs.Lists.{times, NoNeighbours}
use Rattle.shelf_model.specs.Places.{column_height, allocations_after, allocations, record_number}
use Rattle.shelf_model.specs.Space.{space_in, allocated_space}
use Rattle.shelf_model.specs.State.{Shelf, empty_shelf, items_in_use}
use Rattle.shelf_model.specs.Valid.{IsShelf, IsValid, is_out_of_order}
use Rattle.etagere_base.proofs.FrameSides.{across-positive, columns-le}
use Rattle.shelf_model.proofs.Places.Heights.{column_height-alone, column_height-other}

-- empty columns hold nothing
pub allocations_after-empty_columns : (frame : Frame) (before : List Shelf) (column n : ℕ) → allocations_after frame before (empty_columns frame column n) ≡ []
allocations_after-empty_columns frame before column zero = refl
allocations_after-empty_columns frame before column (suc n) =
    allocations_after-empty_columns frame (before ++ empty_shelf frame column (across_side frame) ∷ []) (suc column) n

-- a new atlas holds nothing
pub fresh-allocated : (frame : Frame) → allocations (fresh frame) ≡ []
fresh-allocated frame = allocations_after-empty_columns frame [] 0 frame.columns

module _ (frame : Frame) (is_frame : IsFrame 65535 frame) where
  -- each shelf of empty columns is as a shelf must be
  pub shelves-empty_columns : (column n : ℕ) → column + n ≤ frame.columns → AllByRecursion (IsShelf frame) (empty_columns frame column n)
  shelves-empty_columns column zero h = tt
  shelves-empty_columns column (suc n) h = (
    record {
      column = omega arith;
      height = across-positive 65535 frame is_frame;
      items = (record { width = is_frame.column_width; aligned = is_frame.aligned }, tt);
      width = omega arith;
      apart = tt;
      free_list = λ place. refl;
    },
    shelves-empty_columns (suc column) n (omega arith),
  )

-- empty columns stand in order
pub ordered-empty_columns : (frame : Frame) (column n : ℕ) → NoNeighbours is_out_of_order (empty_columns frame column n)
ordered-empty_columns frame column zero = tt
ordered-empty_columns frame column (suc zero) = tt
ordered-empty_columns frame column (suc (suc n)) = (le-ltb (suc column) column (omega arith), ordered-empty_columns frame (suc column) (suc n))

-- empty columns have no two shelves in one column
pub apart-empty_columns : (frame : Frame) (column n : ℕ) → NoNeighbours both_empty (empty_columns frame column n)
apart-empty_columns frame column zero = tt
apart-empty_columns frame column (suc zero) = tt
apart-empty_columns frame column (suc (suc n)) =
    (and_left (column == suc column) true (ne_eqb column (suc column) (λ e. omega arith)), apart-empty_columns frame (suc column) (suc n))

-- empty columns have one item each
pub items_in_use-empty_columns : (frame : Frame) (column n : ℕ) → items_in_use (empty_columns frame column n) ≡ n
items_in_use-empty_columns frame column zero = refl
items_in_use-empty_columns frame column (suc n) = let rest = items_in_use-empty_columns frame (suc column) n in omega arith

-- empty columns after a place are others
pub others-empty_columns : (frame : Frame) (place column n : ℕ) → place < column → AllByRecursion (λ (s : Shelf). s.column ≢ place) (empty_columns frame column n)
others-empty_columns frame place column zero h = tt
others-empty_columns frame place column (suc n) h = ((λ e. omega arith), others-empty_columns frame place (suc column) n (omega arith))

-- each of the columns is filled
pub column_height-empty_columns : (frame : Frame) (place column n : ℕ) → column ≤ place → place < column + n
    → column_height place (empty_columns frame column n) ≡ across_side frame
column_height-empty_columns frame place column zero l h = absurd (omega arith)
column_height-empty_columns frame place column (suc n) l h =
    let shelf = empty_shelf frame column (across_side frame) in
    let others = empty_columns frame (suc column) n in
    ⊎_elim
    (λ (lt : column < place). column_height-other place shelf others (λ e. omega arith) ∙ column_height-empty_columns frame place (suc column) n lt (omega arith))
    (λ (le : place ≤ column). column_height-alone place shelf others (omega arith) (others-empty_columns frame place (suc column) n (omega arith)))
    (cases_lt column place)

-- a new atlas is as a state must be
pub fresh-valid : (frame : Frame) → IsFrame 65535 frame → HasAllColumns frame → IsValid (fresh frame)
fresh-valid frame h all = record {
  frame = h;
  columns = all;
  shelves = shelves-empty_columns frame h 0 frame.columns (omega arith);
  ordered = ordered-empty_columns frame 0 frame.columns;
  heights = λ column below. column_height-empty_columns frame column 0 frame.columns (omega arith) (omega arith);
  apart = apart-empty_columns frame 0 frame.columns;
  numbers = λ number. omega (arith, ap (λ (l : List Allocation). times number (map (λ (a : Allocation). record_number a.id) l)) (fresh-allocated frame));
  below = subst (AllByRecursion (λ (a : Allocation). record_number a.id < frame.columns)) (sym (fresh-allocated frame)) tt;
  peak_items = (omega (arith, items_in_use-empty_columns frame 0 frame.columns), columns-le frame h);
}

-- empty columns hold no space
pub space_in-empty_columns : (frame : Frame) (column n : ℕ) → space_in (empty_columns frame column n) ≡ 0
space_in-empty_columns frame column zero = refl
space_in-empty_columns frame column (suc n) = omega (arith, space_in-empty_columns frame (suc column) n)

-- a new atlas holds no space
pub space-fresh : (frame : Frame) → allocated_space (fresh frame) ≡ 0
space-fresh frame = space_in-empty_columns frame 0 frame.columns
