-- Taking a place under other numbers.
use Rattle.std.proofs.Common.{◌≡◌, ℕ, zero, suc, ◌-◌, Bool, true, false, cond, None, Some, List, [], ◌∷◌, ◌++◌, map, refl, ap, sym, ◌∙◌}
use Rattle.std.proofs.lemmas.List.{map-append}
use Rattle.std.specs.Prelude.{max}
use Rattle.etagere_base.specs.declared.frames.Frame.{Frame}
use Rattle.etagere_base.specs.Lists.{replaced_at}
use Rattle.shelf_model.specs.Choice.{Placement}
use Rattle.shelf_model.specs.State.{Item, Shelf, AtlasState, empty_shelf, items_in_use}
use Rattle.shelf_model.specs.Taking.{item_pieces, shelf_pieces, taken, taken_shelf, taken_free_list}
use Rattle.etagere_run.specs.Answers.Private.Renamed.{renamed, renamed_item, renamed_shelf}
use Rattle.etagere_run.proofs.RunAnswers.Renamed.RenamedChoice.{in_use-renamed}

-- what is replaced and then changed is what is changed and then replaced
replaced-renamed : {X : Type 0} (change : X → X) (pieces others : X → List X) → ((x : X) → map change (pieces x) ≡ others (change x))
    → (n : ℕ) (xs : List X) → map change (replaced_at n pieces xs) ≡ replaced_at n others (map change xs)
replaced-renamed change pieces others same n [] = refl
replaced-renamed change pieces others same zero (x ∷ xs) = map-append change (pieces x) xs ∙ ap (λ ys. ys ++ map change xs) (same x)
replaced-renamed change pieces others same (suc n) (x ∷ xs) = ap (λ ys. change x ∷ ys) (replaced-renamed change pieces others same n xs)

module _ (name : ℕ → ℕ) where
  -- the pieces of an item
  item_pieces-renamed : (placement : Placement) (id : ℕ) (item : Item)
      → map (renamed_item name) (item_pieces placement id item) ≡ item_pieces placement (name id) (renamed_item name item)
  item_pieces-renamed placement id item = ap (λ items. record { width = placement.width; id = Some (name id) } ∷ items) (by_test placement.splits_item)
    where
      rest : Item
      rest = record { width = item.width - placement.width; id = None }

      by_test : (b : Bool) → map (renamed_item name) (cond b (rest ∷ []) []) ≡ cond b (rest ∷ []) []
      by_test true = refl
      by_test false = refl

  -- the shelf of a place that was taken
  taken_shelf-renamed : (placement : Placement) (id : ℕ) (shelf : Shelf)
      → renamed_shelf name (taken_shelf placement id shelf) ≡ taken_shelf placement (name id) (renamed_shelf name shelf)
  taken_shelf-renamed placement id shelf =
      ap (λ (items : List Item). record { column = shelf.column; height = placement.height; items = items; free_list = taken_free_list placement shelf.free_list })
      (replaced-renamed (renamed_item name) (item_pieces placement id) (item_pieces placement (name id)) (item_pieces-renamed placement id) placement.item shelf.items)

  -- the pieces of a shelf
  shelf_pieces-renamed : (frame : Frame) (placement : Placement) (id : ℕ) (shelf : Shelf)
      → map (renamed_shelf name) (shelf_pieces frame placement id shelf) ≡ shelf_pieces frame placement (name id) (renamed_shelf name shelf)
  shelf_pieces-renamed frame placement id shelf =
      ap (λ (s : Shelf). s ∷ map (renamed_shelf name) (rests placement.splits_shelf)) (taken_shelf-renamed placement id shelf)
      ∙ ap (λ (ss : List Shelf). taken_shelf placement (name id) (renamed_shelf name shelf) ∷ ss) (by_test placement.splits_shelf)
    where
      rests : Bool → List Shelf
      rests b = cond b (empty_shelf frame shelf.column (shelf.height - placement.height) ∷ []) []

      by_test : (b : Bool) → map (renamed_shelf name) (rests b) ≡ rests b
      by_test true = refl
      by_test false = refl

  -- a place taken by an id is taken by its other number
  pub taken-renamed : (state : AtlasState) (placement : Placement) (id : ℕ)
      → renamed name (taken state placement id) ≡ taken (renamed name state) placement (name id)
  taken-renamed state placement id =
      let old : List Shelf = (taken state placement id).shelves in
      let new : List Shelf = (taken (renamed name state) placement (name id)).shelves in
      let shelves : map (renamed_shelf name) old ≡ new =
      replaced-renamed (renamed_shelf name) (shelf_pieces state.frame placement id) (shelf_pieces state.frame placement (name id))
      (shelf_pieces-renamed state.frame placement id) placement.shelf state.shelves in
      ap (λ (n : ℕ). record { frame = state.frame; shelves = map (renamed_shelf name) old; peak_items = max state.peak_items n }) (sym (in_use-renamed name old))
      ∙ ap (λ (ss : List Shelf). record { frame = state.frame; shelves = ss; peak_items = max state.peak_items (items_in_use ss) }) shelves
