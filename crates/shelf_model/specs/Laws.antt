-- Laws of the model, proved of all its states: the choice in the words of its rule, merging as a
-- normal form, what a return restores, and what a grow keeps.
use Rattle.std.specs.Prelude.{◌≡◌, ℕ, ◌+◌, ◌<◌, ◌≤◌, Bool, true, false, ◌&&◌, ◌||◌, Some, None, Option, List, ◌∷◌, ◌++◌, slice_get, nat_lt, ◌==◌, if◌then◌else◌}
use Rattle.etagere_base.specs.declared.frames.Frame.{Frame}
use Rattle.etagere_base.specs.declared.geometry.Size.{Size}
use Rattle.etagere_base.specs.declared.sides.Sides.{Sides}
use Rattle.shelf_model.specs.Choice.{Placement, chosen, is_good_fit, placement_of, shelf_height, width_at}
use Rattle.shelf_model.specs.Growing.{atlas_grown, grow_fault, records_needed}
use Rattle.shelf_model.specs.Merging.{both_empty, both_free, merged, merged_items, merged_shelves}
use Rattle.shelf_model.specs.Layout.{layout}
use Rattle.etagere_base.specs.Least.{Found, IsFirstLeast, first_least}
use Rattle.std.specs.List.{AllByRecursion}
use Rattle.etagere_base.specs.Lists.{NoNeighbours}
use Rattle.shelf_model.specs.Places.{allocations, allocations_after, allocations_along, column_place, is_allocated}
use Rattle.shelf_model.specs.Returning.{returned}
use Rattle.shelf_model.specs.Space.{allocated_space}
use Rattle.shelf_model.specs.State.{Item, Shelf, AtlasState, is_free, items_in_use}
use Rattle.shelf_model.specs.Taking.{taken}
use Rattle.shelf_model.specs.Valid.{IsValid}

-- what is found among ranks is the first of least rank
abbrev pub FindsFirstLeast : Type 0
FindsFirstLeast =
    (ranks : List (Option ℕ)) (found : Found) → first_least ranks ≡ Some found
    → IsFirstLeast ranks found

-- nothing is found only where nothing has a rank
abbrev pub FindsAny : Type 0
FindsAny =
    (ranks : List (Option ℕ)) → first_least ranks ≡ None → (n r : ℕ)
    → slice_get ranks n ≡ Some (Some r) → ⊥

-- a shelf fits a width and a height: it is tall enough, and one of its items is free and wide
-- enough
pub record FitsShelf (width height : ℕ) (shelf : Shelf) : Type 0 where
  pub tall : height ≤ shelf.height
  pub number : ℕ
  pub item : Item
  pub at : slice_get shelf.items number ≡ Some item
  pub free : is_free item ≡ true
  pub wide : width ≤ item.width

-- a rank among the shelves: 0 for a good fit and 1 for a bad one, then the height of a good fit,
-- then the position
pub record Rank : Type 0 where
  pub fit : ℕ
  pub height : ℕ
  pub position : ℕ

-- the rank of the shelf of a number for items of a height
abbrev pub rank_by_rule : ℕ → ℕ → Shelf → Rank
rank_by_rule height number shelf =
    if is_good_fit height shelf
    then record { fit = 0; height = shelf.height; position = number }
    else record { fit = 1; height = 0; position = number }

-- of two ranks the first is lower where they first differ
abbrev pub is_before : Rank → Rank → Bool
is_before one other =
    nat_lt one.fit other.fit
    || (one.fit == other.fit
    && (nat_lt one.height other.height
    || (one.height == other.height && nat_lt one.position other.position)))

-- a place is the first of the free list whose item is wide enough
pub record IsFirstWide (frame : Frame) (width place : ℕ) (shelf : Shelf) : Type 0 where
  pub front : List ℕ
  pub back : List ℕ
  pub list : shelf.free_list ≡ front ++ place ∷ back
  pub narrow : AllByRecursion (λ (other : ℕ). width_at (column_place frame shelf) shelf.items other < width)
      front
  pub wide : width ≤ width_at (column_place frame shelf) shelf.items place

-- a place is chosen by the rule: its shelf fits, no shelf that fits ranks before it, and in it the
-- place is the first that is wide enough
pub record IsByRule (state : AtlasState) (sides : Sides) (placement : Placement) : Type 0 where
  pub shelf : Shelf
  pub at : slice_get state.shelves placement.shelf ≡ Some shelf
  pub fits : FitsShelf sides.along (shelf_height state.frame sides.across) shelf
  pub least :
      (number : ℕ) (other : Shelf) → slice_get state.shelves number ≡ Some other
      → FitsShelf sides.along (shelf_height state.frame sides.across) other
      → is_before (rank_by_rule (shelf_height state.frame sides.across) number other)
      (rank_by_rule (shelf_height state.frame sides.across) placement.shelf shelf) ≡ false
  pub first : IsFirstWide state.frame sides.along placement.along shelf

-- what is chosen in a valid state is chosen by the rule
abbrev pub ChoosesByRule : Type 0
ChoosesByRule =
    (state : AtlasState) (sides : Sides) (placement : Placement) → IsValid state
    → chosen state sides ≡ Some placement
    → IsByRule state sides placement

-- in a valid state none is chosen only where no shelf fits
abbrev pub ChoosesAny : Type 0
ChoosesAny =
    (state : AtlasState) (sides : Sides) → IsValid state → chosen state sides ≡ None
    → (number : ℕ) (shelf : Shelf) → slice_get state.shelves number ≡ Some shelf
    → FitsShelf sides.along (shelf_height state.frame sides.across) shelf → ⊥

-- taking a place and at once returning it gives back the layout
abbrev pub ReturnRestores : Type 0
ReturnRestores =
    (state : AtlasState) (size : Size) (placement : Placement) (id : ℕ) → IsValid state
    → placement_of state size ≡ Some placement
    → is_allocated state id ≡ false → layout (returned (taken state placement id) id) ≡ layout state

-- what is merged is merged
abbrev pub MergesOnce : Type 0
MergesOnce =
    ((items : List Item) → merged_items (merged_items items) ≡ merged_items items)
    × ((shelves : List Shelf) → merged_shelves (merged_shelves shelves) ≡ merged_shelves shelves)
    × ((state : AtlasState) → merged (merged state) ≡ merged state)

-- merging leaves nothing to merge: no free neighbours in a shelf, no empty ones in a column
abbrev pub MergesAll : Type 0
MergesAll =
    (state : AtlasState)
    → AllByRecursion (λ (shelf : Shelf). NoNeighbours both_free shelf.items) (merged state).shelves
    × NoNeighbours both_empty (merged state).shelves

-- merging changes no allocated rectangle
abbrev pub MergingKeepsAllocated : Type 0
MergingKeepsAllocated =
    ((frame : Frame) (across height here : ℕ) (items : List Item)
    → allocations_along frame across height here (merged_items items)
    ≡ allocations_along frame across height here items)
    × ((frame : Frame) (before shelves : List Shelf)
    → allocations_after frame before (merged_shelves shelves)
    ≡ allocations_after frame before shelves)
    × ((state : AtlasState) → allocations (merged state) ≡ allocations state)

-- a grow without a fault keeps the allocated space
abbrev pub GrowKeepsSpace : Type 0
GrowKeepsSpace =
    (state : AtlasState) (size : Size) → IsValid state → grow_fault state size ≡ None
    → allocated_space (atlas_grown state size) ≡ allocated_space state

-- a grow without a fault puts as many further items to use as it needs records
abbrev pub GrowUses : Type 0
GrowUses =
    (state : AtlasState) (size : Size) → IsValid state → grow_fault state size ≡ None
    → items_in_use (atlas_grown state size).shelves
    ≡ items_in_use state.shelves + records_needed state size
