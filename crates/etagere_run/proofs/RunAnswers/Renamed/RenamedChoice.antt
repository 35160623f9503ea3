-- The choice of a place sees no id, only which items are allocated.
use Rattle.std.proofs.Common.{◌≡◌, ℕ, suc, ◌+◌, Bool, cond, Option, None, Some, List, [], ◌∷◌, length, map, take, refl, ap, ◌∙◌}
use Rattle.std.proofs.lemmas.List.{take-map, length-map}
use Rattle.std.proofs.lemmas.Option.{slice_get-map}
use Rattle.std.specs.Prelude.{find, is_none, nat_le, option_and_then, option_map, slice_get, ◌==◌, if◌then◌else◌}
use Rattle.etagere_base.specs.declared.frames.Frame.{Frame}
use Rattle.etagere_base.specs.declared.geometry.Size.{Size}
use Rattle.etagere_base.specs.declared.sides.Sides.{Sides}
use Rattle.etagere_base.specs.Frames.{asked}
use Rattle.etagere_base.specs.Least.{Found, first_least}
use Rattle.shelf_model.specs.Choice.{chosen, fitting_place, most_items, number_at, placement_in, placement_of, rank, shelf_height, splits, width_at}
use Rattle.shelf_model.specs.Places.{column_height, column_place}
use Rattle.shelf_model.specs.State.{Item, Shelf, AtlasState, is_empty, is_free, is_one_free, items_in_use}
use Rattle.etagere_run.specs.Answers.Private.Renamed.{renamed, renamed_item, renamed_shelf}

-- two tests that agree find the same
find-agree : {X : Type 0} (test other : X → Bool) → ((x : X) → test x ≡ other x) → (xs : List X) → find test xs ≡ find other xs
find-agree test other same [] = refl
find-agree test other same (x ∷ xs) =
    ap (λ b. cond b (Some x) (find test xs)) (same x) ∙ ap (λ o. cond (other x) (Some x) o) (find-agree test other same xs)

-- two functions that agree give the same list
pub map-agree : {X Y Z : Type 0} (change : X → Y) (value : Y → Z) (other : X → Z) → ((x : X) → value (change x) ≡ other x) → (xs : List X)
    → map value (map change xs) ≡ map other xs
map-agree change value other same [] = refl
map-agree change value other same (x ∷ xs) = ap (λ z. z ∷ map value (map change xs)) (same x) ∙ ap (λ zs. other x ∷ zs) (map-agree change value other same xs)

module _ (name : ℕ → ℕ) where
  -- an item is free under other numbers too
  pub free-renamed : (item : Item) → is_free (renamed_item name item) ≡ is_free item
  free-renamed item = of_id item.id
    where
      of_id : (id : Option ℕ) → is_none (option_map name id) ≡ is_none id
      of_id None = refl
      of_id (Some id) = refl

  -- one free item is one under other numbers
  one_free-renamed : (items : List Item) → is_one_free (map (renamed_item name) items) ≡ is_one_free items
  one_free-renamed [] = refl
  one_free-renamed (item ∷ []) = free-renamed item
  one_free-renamed (item ∷ next ∷ items) = refl

  -- a shelf is empty under other numbers too
  pub empty-renamed : (shelf : Shelf) → is_empty (renamed_shelf name shelf) ≡ is_empty shelf
  empty-renamed shelf = one_free-renamed shelf.items

  -- the item at a place has the same width
  width_at-renamed : (here : ℕ) (items : List Item) (place : ℕ) → width_at here (map (renamed_item name) items) place ≡ width_at here items place
  width_at-renamed here [] place = refl
  width_at-renamed here (item ∷ items) place =
      ap (λ n. if here == place then item.width else n) (width_at-renamed (here + item.width) items place)

  -- it stands at the same number
  number_at-renamed : (here : ℕ) (items : List Item) (place : ℕ) → number_at here (map (renamed_item name) items) place ≡ number_at here items place
  number_at-renamed here [] place = refl
  number_at-renamed here (item ∷ items) place =
      ap (λ n. if here == place then 0 else suc n) (number_at-renamed (here + item.width) items place)

  -- a width fits at the same place
  fitting-renamed : (frame : Frame) (width : ℕ) (shelf : Shelf) → fitting_place frame width (renamed_shelf name shelf) ≡ fitting_place frame width shelf
  fitting-renamed frame width shelf =
      find-agree _ _ (λ place. ap (nat_le width) (width_at-renamed (column_place frame shelf) shelf.items place)) shelf.free_list

  -- a shelf ranks alike
  rank-renamed : (frame : Frame) (width height : ℕ) (shelf : Shelf) → rank frame width height (renamed_shelf name shelf) ≡ rank frame width height shelf
  rank-renamed frame width height shelf = rw (fitting-renamed frame width shelf, empty-renamed shelf) refl

  -- a place tells the same
  placement-renamed : (frame : Frame) (number across width height : ℕ) (shelf : Shelf) (place : ℕ)
      → placement_in frame number across width height (renamed_shelf name shelf) place ≡ placement_in frame number across width height shelf place
  placement-renamed frame number across width height shelf place =
      rw (width_at-renamed (column_place frame shelf) shelf.items place, number_at-renamed (column_place frame shelf) shelf.items place, empty-renamed shelf) refl

  -- columns are as tall
  pub column_height-renamed : (column : ℕ) (shelves : List Shelf) → column_height column (map (renamed_shelf name) shelves) ≡ column_height column shelves
  column_height-renamed column [] = refl
  column_height-renamed column (shelf ∷ shelves) =
      ap (λ n. (if shelf.column == column then shelf.height else 0) + n) (column_height-renamed column shelves)

  -- as many items are in use
  pub in_use-renamed : (shelves : List Shelf) → items_in_use (map (renamed_shelf name) shelves) ≡ items_in_use shelves
  in_use-renamed [] = refl
  in_use-renamed (shelf ∷ shelves) =
      ap (λ n. n + items_in_use (map (renamed_shelf name) shelves)) (length-map shelf.items (renamed_item name))
      ∙ ap (λ n. length shelf.items + n) (in_use-renamed shelves)

  -- what a shelf that was found offers
  offered-renamed : (frame : Frame) (number width height : ℕ) (before : List Shelf) (o : Option Shelf)
      → option_and_then
      (λ shelf. option_map (placement_in frame number (column_height shelf.column (map (renamed_shelf name) before)) width height shelf)
      (fitting_place frame width shelf))
      (option_map (renamed_shelf name) o)
      ≡ option_and_then
      (λ shelf. option_map (placement_in frame number (column_height shelf.column before) width height shelf) (fitting_place frame width shelf))
      o
  offered-renamed frame number width height before None = refl
  offered-renamed frame number width height before (Some shelf) =
      ap (option_map (placement_in frame number (column_height shelf.column (map (renamed_shelf name) before)) width height (renamed_shelf name shelf))) (fitting-renamed frame width shelf)
      ∙ rw (column_height-renamed shelf.column before) (of_place (fitting_place frame width shelf))
    where
      of_place : (o : Option ℕ) → option_map (placement_in frame number (column_height shelf.column before) width height (renamed_shelf name shelf)) o
          ≡ option_map (placement_in frame number (column_height shelf.column before) width height shelf) o
      of_place None = refl
      of_place (Some place) = ap Some (placement-renamed frame number (column_height shelf.column before) width height shelf place)

  -- the same place is chosen
  chosen-renamed : (state : AtlasState) (sides : Sides) → chosen (renamed name state) sides ≡ chosen state sides
  chosen-renamed state sides =
      rw (map-agree (renamed_shelf name) (rank state.frame sides.along (shelf_height state.frame sides.across)) (rank state.frame sides.along (shelf_height state.frame sides.across)) (rank-renamed state.frame sides.along (shelf_height state.frame sides.across)) state.shelves)
      (of_found (first_least (map (rank state.frame sides.along (shelf_height state.frame sides.across)) state.shelves)))
    where
      of_found : (o : Option Found) → option_and_then
          (λ found. option_and_then
          (λ shelf. option_map
          (placement_in state.frame found.number
          (column_height shelf.column (take found.number (map (renamed_shelf name) state.shelves)))
          sides.along (shelf_height state.frame sides.across) shelf)
          (fitting_place state.frame sides.along shelf))
          (slice_get (map (renamed_shelf name) state.shelves) found.number)) o
          ≡ option_and_then
          (λ found. option_and_then
          (λ shelf. option_map
          (placement_in state.frame found.number
          (column_height shelf.column (take found.number state.shelves))
          sides.along (shelf_height state.frame sides.across) shelf)
          (fitting_place state.frame sides.along shelf))
          (slice_get state.shelves found.number)) o
      of_found None = refl
      of_found (Some found) =
          rw (take-map (renamed_shelf name) found.number state.shelves, slice_get-map (renamed_shelf name) state.shelves found.number)
          (offered-renamed state.frame found.number sides.along (shelf_height state.frame sides.across) (take found.number state.shelves) (slice_get state.shelves found.number))

  -- a size has the same place
  pub placement_of-renamed : (state : AtlasState) (size : Size) → placement_of (renamed name state) size ≡ placement_of state size
  placement_of-renamed state size = of_sides (asked state.frame size)
    where
      of_sides : (o : Option Sides) → option_and_then
          (λ sides. option_and_then
          (λ placement.
          if nat_le (items_in_use (map (renamed_shelf name) state.shelves) + splits placement) most_items
          then Some placement else None)
          (chosen (renamed name state) sides)) o
          ≡ option_and_then
          (λ sides. option_and_then
          (λ placement.
          if nat_le (items_in_use state.shelves + splits placement) most_items
          then Some placement else None)
          (chosen state sides)) o
      of_sides None = refl
      of_sides (Some sides) = rw (chosen-renamed state sides, in_use-renamed state.shelves) refl
