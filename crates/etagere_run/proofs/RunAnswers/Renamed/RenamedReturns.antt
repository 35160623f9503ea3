-- A return under other numbers, where no two ids get the same one.
use Rattle.std.proofs.Common.{◌≡◌, ℕ, zero, suc, ◌+◌, Bool, true, false, ◌&&◌, cond, Option, None, Some, List, [], ◌∷◌, map, take, refl, ap, sym, ◌∙◌}
use Rattle.std.proofs.lemmas.Bool.{eq-eqb, eqb-true}
use Rattle.std.proofs.lemmas.List.{take-map}
use Rattle.std.specs.Prelude.{option_map, ◌==◌}
use Rattle.etagere_base.specs.declared.frames.Frame.{Frame}
use Rattle.etagere_base.proofs.FirstPlace.{position-cons}
use Rattle.etagere_base.proofs.Merged.{merged-map}
use Rattle.shelf_model.specs.Merging.{both_empty, both_free, combined_items, combined_shelves, merged, merged_shelf, merged_shelves}
use Rattle.shelf_model.specs.Places.{column_place}
use Rattle.shelf_model.specs.Returning.{freed, freed_in, freed_shelf, has_id, is_free_at, is_free_before, number_of, place_at, returned, returned_free_list}
use Rattle.shelf_model.specs.State.{Item, Shelf, AtlasState, is_free, total_width}
use Rattle.etagere_run.specs.Answers.Private.Renamed.{renamed, renamed_item, renamed_shelf}
use Rattle.etagere_run.proofs.RunAnswers.Renamed.RenamedChoice.{empty-renamed, free-renamed}

-- a change that goes through a function goes through a list
pub map-through : {X : Type 0} (change one other : X → X) → ((x : X) → change (one x) ≡ other (change x)) → (xs : List X)
    → map change (map one xs) ≡ map other (map change xs)
map-through change one other same [] = refl
map-through change one other same (x ∷ xs) =
    ap (λ y. y ∷ map change (map one xs)) (same x) ∙ ap (λ ys. other (change x) ∷ ys) (map-through change one other same xs)

module _ (name : ℕ → ℕ) where
  -- merging sees no id
  merged_shelf-renamed : (shelf : Shelf) → renamed_shelf name (merged_shelf shelf) ≡ merged_shelf (renamed_shelf name shelf)
  merged_shelf-renamed shelf =
      ap (λ (items : List Item). record { column = shelf.column; height = shelf.height; items = items; free_list = shelf.free_list })
      (merged-map both_free combined_items (renamed_item name)
      (λ (x y : Item). ap (λ b. b && is_free (renamed_item name y)) (free-renamed name x) ∙ ap (λ b. is_free x && b) (free-renamed name y))
      (λ (x y : Item). refl) shelf.items)

  -- all is merged alike
  pub merged-renamed : (state : AtlasState) → renamed name (merged state) ≡ merged (renamed name state)
  merged-renamed state =
      ap (λ (shelves : List Shelf). record { frame = state.frame; shelves = shelves; peak_items = state.peak_items })
      (merged-map both_empty combined_shelves (renamed_shelf name)
      (λ (x y : Shelf). rw (empty-renamed name x, empty-renamed name y) refl)
      (λ (x y : Shelf). refl) (map merged_shelf state.shelves)
      ∙ ap merged_shelves (map-through (renamed_shelf name) merged_shelf merged_shelf merged_shelf-renamed state.shelves))

  -- where its item stands
  free_at-renamed : (n : ℕ) (items : List Item) → is_free_at n (map (renamed_item name) items) ≡ is_free_at n items
  free_at-renamed n [] = refl
  free_at-renamed zero (item ∷ items) = free-renamed name item
  free_at-renamed (suc n) (item ∷ items) = free_at-renamed n items

  -- whether the item before it is free
  free_before-renamed : (n : ℕ) (items : List Item) → is_free_before n (map (renamed_item name) items) ≡ is_free_before n items
  free_before-renamed zero items = refl
  free_before-renamed (suc n) items = free_at-renamed n items

  -- where an item begins
  place_at-renamed : (here : ℕ) (items : List Item) (n : ℕ) → place_at here (map (renamed_item name) items) n ≡ place_at here items n
  place_at-renamed here items n =
      ap (λ (xs : List Item). here + total_width xs) (take-map (renamed_item name) n items) ∙ ap (λ w. here + w) (width-renamed (take n items))
    where
      width-renamed : (items : List Item) → total_width (map (renamed_item name) items) ≡ total_width items
      width-renamed [] = refl
      width-renamed (item ∷ items) = ap (λ w. item.width + w) (width-renamed items)

  -- an item is freed
  freed-renamed : (n : ℕ) (items : List Item) → map (renamed_item name) (freed n items) ≡ freed n (map (renamed_item name) items)
  freed-renamed n [] = refl
  freed-renamed zero (item ∷ items) = refl
  freed-renamed (suc n) (item ∷ items) = ap (λ (xs : List Item). renamed_item name item ∷ xs) (freed-renamed n items)

  -- the free list after that
  free_list-renamed : (here : ℕ) (items : List Item) (n : ℕ) (free_list : List ℕ)
      → returned_free_list here (map (renamed_item name) items) n free_list ≡ returned_free_list here items n free_list
  free_list-renamed here items n free_list =
      rw (free_at-renamed (suc n) items, place_at-renamed here items (suc n), free_before-renamed n items, place_at-renamed here items n) refl

  -- its shelf after that
  freed_shelf-renamed : (frame : Frame) (n : ℕ) (shelf : Shelf)
      → renamed_shelf name (freed_shelf frame n shelf) ≡ freed_shelf frame n (renamed_shelf name shelf)
  freed_shelf-renamed frame n shelf =
      let here : ℕ = column_place frame shelf in
      ap (λ (items : List Item). record { column = shelf.column; height = shelf.height; items = items; free_list = returned_free_list here shelf.items n shelf.free_list }) (freed-renamed n shelf.items)
      ∙ ap (λ (places : List ℕ). record { column = shelf.column; height = shelf.height; items = freed n (map (renamed_item name) shelf.items); free_list = places }) (sym (free_list-renamed here shelf.items n shelf.free_list))

  module _ (apart : (one other : ℕ) → name one ≡ name other → one ≡ other) where
    -- an id is found where it was
    has_id-renamed : (id : ℕ) (owner : Option ℕ) → has_id (name id) (option_map name owner) ≡ has_id id owner
    has_id-renamed id None = refl
    has_id-renamed id (Some owner) = by_test (owner == id) refl
      where
        by_test : (b : Bool) → (owner == id) ≡ b → (name owner == name id) ≡ (owner == id)
        by_test true e = eq-eqb (name owner) (name id) (ap name (eqb-true owner id e)) ∙ sym e
        by_test false e = by_other (name owner == name id) refl
          where
            by_other : (b : Bool) → (name owner == name id) ≡ b → (name owner == name id) ≡ (owner == id)
            by_other true h = h ∙ sym (eq-eqb owner id (apart owner id (eqb-true (name owner) (name id) h)))
            by_other false h = h ∙ sym e

    -- the item of an id has the same number
    number_of-renamed : (id : ℕ) (items : List Item) → number_of (name id) (map (renamed_item name) items) ≡ number_of id items
    number_of-renamed id [] = refl
    number_of-renamed id (item ∷ items) =
        position-cons (λ (item : Item). has_id (name id) item.id) (renamed_item name item) (map (renamed_item name) items)
        ∙ ap (λ b. cond b (Some 0) (option_map suc (number_of (name id) (map (renamed_item name) items)))) (has_id-renamed id item.id)
        ∙ ap (λ o. cond (has_id id item.id) (Some 0) (option_map suc o)) (number_of-renamed id items)
        ∙ sym (position-cons (λ (item : Item). has_id id item.id) item items)

    -- the item of an id is freed
    freed_in-renamed : (frame : Frame) (id : ℕ) (shelf : Shelf)
        → renamed_shelf name (freed_in frame id shelf) ≡ freed_in frame (name id) (renamed_shelf name shelf)
    freed_in-renamed frame id shelf = rw (number_of-renamed id shelf.items) (of_number (number_of id shelf.items))
      where
        of_number : (o : Option ℕ)
            → renamed_shelf name (elim o as (λ _. Shelf) [ None ↦ shelf | Some n ↦ freed_shelf frame n shelf ])
            ≡ elim o as (λ _. Shelf) [ None ↦ renamed_shelf name shelf | Some n ↦ freed_shelf frame n (renamed_shelf name shelf) ]
        of_number None = refl
        of_number (Some n) = freed_shelf-renamed frame n shelf

    -- a return of an id is one of its other number
    pub returned-renamed : (state : AtlasState) (id : ℕ) → renamed name (returned state id) ≡ returned (renamed name state) (name id)
    returned-renamed state id =
        merged-renamed (record { frame = state.frame; shelves = map (freed_in state.frame id) state.shelves; peak_items = state.peak_items })
        ∙ ap (λ (shelves : List Shelf). merged (record { frame = state.frame; shelves = shelves; peak_items = state.peak_items }))
        (map-through (renamed_shelf name) (freed_in state.frame id) (freed_in state.frame (name id)) (freed_in-renamed state.frame id) state.shelves)
