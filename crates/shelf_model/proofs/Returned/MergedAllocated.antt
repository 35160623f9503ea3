-- Merging free items and empty shelves changes no allocated item's rectangle.
use Rattle.std.proofs.Common.{◌≡◌, ℕ, ◌+◌, true, ◌==◌, ◌&&◌, List, [], ◌∷◌, ◌++◌, refl, ap, ◌∙◌, sym, arith}
use Rattle.std.proofs.lemmas.Bool.{and_parts}
use Rattle.etagere_base.specs.declared.frames.Frame.{Frame}
use Rattle.etagere_base.specs.declared.ids.Allocation.{Allocation}
use Rattle.shelf_model.specs.Merging.{both_free, combined_items, merged_items, both_empty, combined_shelves, merged_shelves}
use Rattle.shelf_model.specs.Places.{column_place, column_height, allocations_along, allocations_after}
use Rattle.shelf_model.specs.State.{Item, Shelf, is_free, is_empty, is_one_free}
use Rattle.etagere_base.proofs.GatheredLemmas.{gathered-merged}
use Rattle.shelf_model.proofs.Places.Heights.{column_height-append, column_height-combined}
use Rattle.shelf_model.proofs.Allocations.AllocatedLists.{allocations_after-heights}
use Rattle.shelf_model.proofs.Allocations.AllocatedTotals.{no_id}

module _ (frame : Frame) (across height : ℕ) where
  -- merging free items changes no allocated item's rectangle
  allocations_along-combined : (here : ℕ) (x y : Item) (ys : List Item) → both_free x y ≡ true
      → allocations_along frame across height here (combined_items x y ∷ ys) ≡ allocations_along frame across height here (x ∷ y ∷ ys)
  allocations_along-combined here x y ys t =
      let free = and_parts (is_free x) (is_free y) t in
      let first = no_id x free.0 in
      let second = no_id y free.1 in
      let place : here + (x.width + y.width) ≡ here + x.width + y.width = omega arith in
      rw (first, second, place) refl

  -- merging items changes no allocated item's rectangle
  pub merged_items-allocations_along : (here : ℕ) (items : List Item)
      → allocations_along frame across height here (merged_items items) ≡ allocations_along frame across height here items
  merged_items-allocations_along here items = gathered-merged _ _ both_free combined_items allocations_along-combined here items

  -- an empty shelf allocates nothing
  allocations_along-empty : (here : ℕ) (items : List Item) → is_one_free items ≡ true → allocations_along frame across height here items ≡ []
  allocations_along-empty here [] h = refl
  allocations_along-empty here (item ∷ []) h = rw (no_id item h) refl
  allocations_along-empty here (item ∷ next ∷ items) h = absurd (cc)

module _ (frame : Frame) where
  -- merging empty shelves changes no allocated item's rectangle
  allocations_after-combined : (before : List Shelf) (x y : Shelf) (ys : List Shelf) → both_empty x y ≡ true
      → allocations_after frame before (combined_shelves x y ∷ ys) ≡ allocations_after frame before (x ∷ y ∷ ys)
  allocations_after-combined before x y ys t =
      let parts = and_parts (x.column == y.column) (is_empty x && is_empty y) t in
      let empty = and_parts (is_empty x) (is_empty y) parts.1 in
      ap (λ (l : List Allocation). l ++ allocations_after frame (before ++ combined_shelves x y ∷ []) ys)
      (allocations_along-empty frame (column_height x.column before) (x.height + y.height) (column_place frame x) x.items empty.0)
      ∙ allocations_after-heights frame (before ++ combined_shelves x y ∷ []) ((before ++ x ∷ []) ++ y ∷ []) ys
      (λ column. omega (
        arith,
        column_height-append column before (combined_shelves x y ∷ []),
        column_height-append column (before ++ x ∷ []) (y ∷ []),
        column_height-append column before (x ∷ []),
        column_height-combined column x y [] t,
      ))
      ∙ ap (λ (l : List Allocation). l ++ allocations_after frame ((before ++ x ∷ []) ++ y ∷ []) ys)
      (sym (allocations_along-empty frame (column_height y.column (before ++ x ∷ [])) y.height (column_place frame y) y.items empty.1))
      ∙ ap (λ (l : List Allocation). l ++ allocations_after frame (before ++ x ∷ []) (y ∷ ys))
      (sym (allocations_along-empty frame (column_height x.column before) x.height (column_place frame x) x.items empty.0))

  -- merging shelves changes no allocated item's rectangle
  pub merged_shelves-allocated : (before shelves : List Shelf) → allocations_after frame before (merged_shelves shelves) ≡ allocations_after frame before shelves
  merged_shelves-allocated before shelves = gathered-merged _ _ both_empty combined_shelves allocations_after-combined before shelves
