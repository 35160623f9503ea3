-- Atlases of the same layout have the same allocated.
use Rattle.std.proofs.Common.{◌≡◌, ℕ, cond, List, [], ◌∷◌, ◌++◌, map, refl, ap, sym, ◌∙◌, ◌==◌, ◌+◌}
use Rattle.std.proofs.lemmas.List.{map-append}
use Rattle.etagere_base.specs.declared.frames.Frame.{Frame}
use Rattle.etagere_base.specs.declared.ids.Allocation.{Allocation}
use Rattle.shelf_model.specs.Layout.{layout, without_free_list}
use Rattle.shelf_model.specs.Places.{allocations, allocations_after, allocations_along, column_height, column_place}
use Rattle.shelf_model.specs.State.{AtlasState, Shelf}

heights-same : (column : ℕ) (shelves : List Shelf) → column_height column (map without_free_list shelves) ≡ column_height column shelves
heights-same column [] = refl
heights-same column (shelf ∷ shelves) =
    ap (λ (n : ℕ). cond (shelf.column == column) shelf.height 0 + n) (heights-same column shelves)

allocated-after : (frame : Frame) (before shelves : List Shelf)
    → allocations_after frame (map without_free_list before) (map without_free_list shelves) ≡ allocations_after frame before shelves
allocated-after frame before [] = refl
allocated-after frame before (shelf ∷ shelves) =
    let across : ℕ = column_height shelf.column before in
    let here : ℕ → List Allocation = λ n. allocations_along frame n shelf.height (column_place frame shelf) shelf.items in
    let later = allocations_after frame (map without_free_list before ++ without_free_list shelf ∷ []) (map without_free_list shelves) in
    ap (λ (n : ℕ). here n ++ later) (heights-same shelf.column before)
    ∙ ap (λ (l : List Shelf). here across ++ allocations_after frame l (map without_free_list shelves)) (sym (map-append without_free_list before (shelf ∷ [])))
    ∙ ap (λ (l : List Allocation). here across ++ l) (allocated-after frame (before ++ shelf ∷ []) shelves)

layout-allocations : (atlas : AtlasState) → allocations (layout atlas) ≡ allocations atlas
layout-allocations atlas = allocated-after atlas.frame [] atlas.shelves

pub layout-same : (old new : AtlasState) → layout new ≡ layout old → allocations new ≡ allocations old
layout-same old new same = sym (layout-allocations new) ∙ ap allocations same ∙ layout-allocations old
