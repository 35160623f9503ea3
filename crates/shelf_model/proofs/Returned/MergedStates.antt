-- Merging a whole state: nothing is left to merge, and the same is allocated.
use Rattle.std.proofs.Common.{◌≡◌, ℕ, List, [], ◌∷◌, ◌++◌, map, refl, ap, ◌∙◌, arith}
use Rattle.etagere_base.specs.declared.frames.Frame.{Frame}
use Rattle.etagere_base.specs.declared.ids.Allocation.{Allocation}
use Rattle.std.specs.List.{AllByRecursion}
use Rattle.etagere_base.specs.Lists.{NoNeighbours}
use Rattle.shelf_model.specs.Merging.{both_empty, both_free, combined_items, combined_shelves, merged, merged_shelf, merged_shelves}
use Rattle.shelf_model.specs.Places.{allocations, allocations_after, allocations_along, column_height, column_place}
use Rattle.shelf_model.specs.State.{Shelf, AtlasState}
use Rattle.etagere_base.proofs.Merged.{apart-merged, merged-apart}
use Rattle.etagere_base.proofs.MergedKeeps.{Each-merged}
use Rattle.shelf_model.proofs.Allocations.AllocatedLists.{allocations_after-heights}
use Rattle.shelf_model.proofs.Places.Heights.{column_height-append}
use Rattle.shelf_model.proofs.Returned.MergedAllocated.{merged_items-allocations_along, merged_shelves-allocated}
use Rattle.shelf_model.proofs.Returned.MergedNear.{items-merge, shelves-merge}
use Rattle.shelf_model.proofs.Returned.ReturnedWhole.{IsApart, merged_shelf-apart}

-- no merged shelf has free neighbours
merged_shelf-all : (shelves : List Shelf) → AllByRecursion IsApart (map merged_shelf shelves)
merged_shelf-all [] = tt
merged_shelf-all (shelf ∷ shelves) = (apart-merged both_free combined_items items-merge shelf.items, merged_shelf-all shelves)

-- merging leaves no free neighbours in a shelf and no empty ones in a column
pub merged-all : (state : AtlasState) → AllByRecursion IsApart (merged state).shelves × NoNeighbours both_empty (merged state).shelves
merged-all state = (
  Each-merged both_empty combined_shelves IsApart (λ x y t h k. h) (map merged_shelf state.shelves) (merged_shelf-all state.shelves),
  apart-merged both_empty combined_shelves shelves-merge (map merged_shelf state.shelves),
)

-- shelves without free neighbours are merged already
merged_shelf-same : (shelves : List Shelf) → AllByRecursion IsApart shelves → map merged_shelf shelves ≡ shelves
merged_shelf-same [] apart = refl
merged_shelf-same (shelf ∷ shelves) apart =
    ap (λ (s : Shelf). s ∷ map merged_shelf shelves) (merged_shelf-apart shelf apart.0)
    ∙ ap (λ (l : List Shelf). shelf ∷ l) (merged_shelf-same shelves apart.1)

-- merging a state twice is merging it once
pub merged-once : (state : AtlasState) → merged (merged state) ≡ merged state
merged-once state =
    let all = merged-all state in
    ap (λ (l : List Shelf). record { frame = state.frame; shelves = l; peak_items = state.peak_items })
    (ap merged_shelves (merged_shelf-same (merged state).shelves all.0)
    ∙ merged-apart both_empty combined_shelves (merged state).shelves all.1)

-- merging the items of each shelf leaves what is allocated
merged_shelf-allocated : (frame : Frame) (before shelves : List Shelf)
    → allocations_after frame before (map merged_shelf shelves) ≡ allocations_after frame before shelves
merged_shelf-allocated frame before [] = refl
merged_shelf-allocated frame before (shelf ∷ shelves) =
    let across = column_height shelf.column before in
    let same : (column : ℕ) → column_height column (before ++ merged_shelf shelf ∷ []) ≡ column_height column (before ++ shelf ∷ []) =
    λ column. omega (arith, column_height-append column before (merged_shelf shelf ∷ []), column_height-append column before (shelf ∷ [])) in
    ap (λ (l : List Allocation). l ++ allocations_after frame (before ++ merged_shelf shelf ∷ []) (map merged_shelf shelves))
    (merged_items-allocations_along frame across shelf.height (column_place frame shelf) shelf.items)
    ∙ ap (λ (l : List Allocation). allocations_along frame across shelf.height (column_place frame shelf) shelf.items ++ l)
    (allocations_after-heights frame (before ++ merged_shelf shelf ∷ []) (before ++ shelf ∷ []) (map merged_shelf shelves) same
    ∙ merged_shelf-allocated frame (before ++ shelf ∷ []) shelves)

-- merging a state leaves what is allocated
pub merged-allocated : (state : AtlasState) → allocations (merged state) ≡ allocations state
merged-allocated state =
    merged_shelves-allocated state.frame [] (map merged_shelf state.shelves) ∙ merged_shelf-allocated state.frame [] state.shelves
