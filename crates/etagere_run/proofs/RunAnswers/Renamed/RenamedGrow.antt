-- A grow and a new state under other numbers.
use Rattle.std.proofs.Common.{◌≡◌, ℕ, zero, suc, ◌+◌, Bool, true, false, ◌&&◌, cond, not, None, List, [], ◌∷◌, ◌++◌, map, refl, ap, sym, ◌∙◌}
use Rattle.std.proofs.lemmas.List.{map-append}
use Rattle.std.specs.Prelude.{max, ◌==◌, if◌then◌else◌}
use Rattle.etagere_base.specs.declared.frames.Frame.{Frame}
use Rattle.etagere_base.specs.declared.geometry.Size.{Size}
use Rattle.etagere_base.specs.Frames.{across_side}
use Rattle.etagere_base.specs.Lists.{total}
use Rattle.shelf_model.specs.Fresh.{empty_columns, fresh}
use Rattle.shelf_model.specs.Growing.{added_columns, added_height, added_width, atlas_grown, ends_column, ends_free, extended, filled_ends, grow_fault, grown_frame, heightened, needed_for_height, needed_for_width, or_records_fault, records_needed, size_fault, widened, widened_shelf, with_ends}
use Rattle.shelf_model.specs.Merging.{merged}
use Rattle.shelf_model.specs.State.{Item, Shelf, AtlasState, empty_shelf, is_empty, items_in_use}
use Rattle.etagere_run.specs.Answers.Private.Renamed.{renamed, renamed_item, renamed_shelf}
use Rattle.etagere_run.proofs.RunAnswers.Renamed.RenamedChoice.{empty-renamed, free-renamed, in_use-renamed}
use Rattle.etagere_run.proofs.RunAnswers.Renamed.RenamedReturns.{map-through, merged-renamed}

module _ (name : ℕ → ℕ) where
  -- what a new shelf and a new column have is free
  columns-renamed : (frame : Frame) (column n : ℕ) → map (renamed_shelf name) (empty_columns frame column n) ≡ empty_columns frame column n
  columns-renamed frame column zero = refl
  columns-renamed frame column (suc n) = ap (λ (ss : List Shelf). empty_shelf frame column (across_side frame) ∷ ss) (columns-renamed frame (suc column) n)

  -- a new state has no ids
  pub fresh-renamed : (frame : Frame) → renamed name (fresh frame) ≡ fresh frame
  fresh-renamed frame =
      ap (λ (shelves : List Shelf). record { frame = frame; shelves = shelves; peak_items = frame.columns }) (columns-renamed frame 0 frame.columns)

  -- the last item is free alike
  ends_free-renamed : (items : List Item) → ends_free (map (renamed_item name) items) ≡ ends_free items
  ends_free-renamed [] = refl
  ends_free-renamed (item ∷ []) = free-renamed name item
  ends_free-renamed (item ∷ next ∷ items) = ends_free-renamed (next ∷ items)

  -- a shelf ends its column alike
  ends_column-renamed : (shelf : Shelf) (shelves : List Shelf) → ends_column (renamed_shelf name shelf) (map (renamed_shelf name) shelves) ≡ ends_column shelf shelves
  ends_column-renamed shelf [] = refl
  ends_column-renamed shelf (next ∷ shelves) = refl

  -- as many shelves end with an allocated item
  ends-counted : (shelves : List Shelf) → total (λ (shelf : Shelf). if ends_free shelf.items then 0 else 1) (map (renamed_shelf name) shelves)
      ≡ total (λ (shelf : Shelf). if ends_free shelf.items then 0 else 1) shelves
  ends-counted [] = refl
  ends-counted (shelf ∷ shelves) =
      ap (λ b. (if b then 0 else 1) + total (λ (shelf : Shelf). if ends_free shelf.items then 0 else 1) (map (renamed_shelf name) shelves)) (ends_free-renamed shelf.items)
      ∙ ap (λ n. (if ends_free shelf.items then 0 else 1) + n) (ends-counted shelves)

  -- as many columns end with a shelf that is in use
  filled-renamed : (shelves : List Shelf) → filled_ends (map (renamed_shelf name) shelves) ≡ filled_ends shelves
  filled-renamed [] = refl
  filled-renamed (shelf ∷ shelves) =
      rw (ends_column-renamed shelf shelves, empty-renamed name shelf)
      (ap (λ n. (if ends_column shelf shelves && not (is_empty shelf) then 1 else 0) + n) (filled-renamed shelves))

  -- as many records are needed
  needed-renamed : (state : AtlasState) (size : Size) → records_needed (renamed name state) size ≡ records_needed state size
  needed-renamed state size =
      ap (λ n. (if added_width state.frame size == 0 then 0 else n) + needed_for_height (added_height state.frame size) (map (renamed_shelf name) state.shelves) + added_columns state.frame size) (ends-counted state.shelves)
      ∙ ap (λ n. needed_for_width (added_width state.frame size) state.shelves + (if added_height state.frame size == 0 then 0 else n) + added_columns state.frame size) (filled-renamed state.shelves)

  -- a grow has the same fault
  pub fault-renamed : (state : AtlasState) (size : Size) → grow_fault (renamed name state) size ≡ grow_fault state size
  fault-renamed state size =
      ap (λ n. or_records_fault (n + records_needed (renamed name state) size) (size_fault state.frame size)) (in_use-renamed name state.shelves)
      ∙ ap (λ n. or_records_fault (items_in_use state.shelves + n) (size_fault state.frame size)) (needed-renamed state size)

  -- a shelf becomes wider alike
  widened_shelf-renamed : (frame : Frame) (width : ℕ) (shelf : Shelf)
      → renamed_shelf name (widened_shelf frame width shelf) ≡ widened_shelf frame width (renamed_shelf name shelf)
  widened_shelf-renamed frame width shelf =
      rw (map-append (renamed_item name) shelf.items (record { width = width; id = None } ∷ []), ends_free-renamed shelf.items) refl

  -- so do all
  widened-renamed : (frame : Frame) (width : ℕ) (shelves : List Shelf)
      → map (renamed_shelf name) (widened frame width shelves) ≡ widened frame width (map (renamed_shelf name) shelves)
  widened-renamed frame width shelves = by_test (width == 0)
    where
      by_test : (b : Bool) → map (renamed_shelf name) (cond b shelves (map (widened_shelf frame width) shelves))
          ≡ cond b (map (renamed_shelf name) shelves) (map (widened_shelf frame width) (map (renamed_shelf name) shelves))
      by_test true = refl
      by_test false = map-through (renamed_shelf name) (widened_shelf frame width) (widened_shelf frame width) (widened_shelf-renamed frame width) shelves

  -- columns get the same ends
  with_ends-renamed : (frame : Frame) (height : ℕ) (shelves : List Shelf)
      → map (renamed_shelf name) (with_ends frame height shelves) ≡ with_ends frame height (map (renamed_shelf name) shelves)
  with_ends-renamed frame height [] = refl
  with_ends-renamed frame height (shelf ∷ shelves) =
      ap (λ (ss : List Shelf). renamed_shelf name shelf ∷ ss)
      (map-append (renamed_shelf name) (ends (ends_column shelf shelves)) (with_ends frame height shelves)
      ∙ ap (λ (ss : List Shelf). ss ++ map (renamed_shelf name) (with_ends frame height shelves)) (by_test (ends_column shelf shelves) ∙ ap ends (sym (ends_column-renamed shelf shelves)))
      ∙ ap (λ (ss : List Shelf). ends (ends_column (renamed_shelf name shelf) (map (renamed_shelf name) shelves)) ++ ss) (with_ends-renamed frame height shelves))
    where
      ends : Bool → List Shelf
      ends b = cond b (empty_shelf frame shelf.column height ∷ []) []

      by_test : (b : Bool) → map (renamed_shelf name) (ends b) ≡ ends b
      by_test true = refl
      by_test false = refl

  -- and become taller alike
  heightened-renamed : (frame : Frame) (height : ℕ) (shelves : List Shelf)
      → map (renamed_shelf name) (heightened frame height shelves) ≡ heightened frame height (map (renamed_shelf name) shelves)
  heightened-renamed frame height shelves = by_test (height == 0)
    where
      by_test : (b : Bool) → map (renamed_shelf name) (cond b shelves (with_ends frame height shelves))
          ≡ cond b (map (renamed_shelf name) shelves) (with_ends frame height (map (renamed_shelf name) shelves))
      by_test true = refl
      by_test false = with_ends-renamed frame height shelves

  -- the same is added
  extended-renamed : (state : AtlasState) (size : Size) → renamed name (extended state size) ≡ extended (renamed name state) size
  extended-renamed state size =
      let frame : Frame = grown_frame state.frame size in
      let wide : List Shelf = widened state.frame (added_width state.frame size) state.shelves in
      let tall : List Shelf = heightened frame (added_height state.frame size) wide in
      let more : List Shelf = empty_columns frame state.frame.columns (added_columns state.frame size) in
      ap (λ (shelves : List Shelf). record { frame = frame; shelves = shelves; peak_items = state.peak_items })
      (map-append (renamed_shelf name) tall more
      ∙ ap (λ (ss : List Shelf). map (renamed_shelf name) tall ++ ss) (columns-renamed frame state.frame.columns (added_columns state.frame size))
      ∙ ap (λ (ss : List Shelf). ss ++ more) (heightened-renamed frame (added_height state.frame size) wide)
      ∙ ap (λ (ss : List Shelf). heightened frame (added_height state.frame size) ss ++ more) (widened-renamed state.frame (added_width state.frame size) state.shelves))

  -- a grow changes no id
  pub grown-renamed : (state : AtlasState) (size : Size) → renamed name (atlas_grown state size) ≡ atlas_grown (renamed name state) size
  grown-renamed state size =
      let frame : Frame = grown_frame state.frame size in
      let old : List Shelf = (merged (extended state size)).shelves in
      let shelves : map (renamed_shelf name) old ≡ (merged (extended (renamed name state) size)).shelves =
      ap (λ (s : AtlasState). s.shelves) (merged-renamed name (extended state size))
      ∙ ap (λ (s : AtlasState). (merged s).shelves) (extended-renamed state size) in
      ap (λ (n : ℕ). record { frame = frame; shelves = map (renamed_shelf name) old; peak_items = max state.peak_items n }) (sym (in_use-renamed name old))
      ∙ ap (λ (ss : List Shelf). record { frame = frame; shelves = ss; peak_items = max state.peak_items (items_in_use ss) }) shelves
