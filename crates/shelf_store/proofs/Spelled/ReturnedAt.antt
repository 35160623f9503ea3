-- A return in a valid state, by where its item stands.
use Rattle.std.proofs.Common.{◌≡◌, ℕ, ◌+◌, ◌≤◌, Bool, true, false, Option, Some, List, [], ◌∷◌, ◌++◌, length, refl, ap, subst, arith, sym, ◌∙◌}
use Rattle.std.proofs.lemmas.Bool.{eq-eqb}
use Rattle.std.proofs.lemmas.List.{set_at}
use Rattle.std.specs.List.{list_any}
use Rattle.std.specs.Prelude.{is_some, slice_set}
use Rattle.etagere_base.proofs.FirstPlace.{at_first-split, is_some-position, position-behind}
use Rattle.etagere_base.proofs.TimesLemmas.{times-append}
use Rattle.etagere_base.specs.Lists.{at_first, times}
use Rattle.etagere_base.specs.MergingAt.{merged_at, merged_before}
use Rattle.etagere_links.proofs.ListEnds.{times-here}
use Rattle.shelf_model.specs.Merging.{both_empty, combined_shelves, merged_shelf, merged_shelves}
use Rattle.shelf_model.proofs.Allocations.InShelves.{is_allocated_in, returned_shelf}
use Rattle.shelf_model.specs.Returning.{freed_shelf, has_id, number_of, returned}
use Rattle.shelf_model.specs.State.{Item, Shelf, AtlasState}
use Rattle.shelf_model.specs.Valid.{IsValid}
use Rattle.shelf_model.proofs.Allocations.AllocatedIds.{is_allocated_in-none, not_allocated_in-times}
use Rattle.shelf_model.proofs.Allocations.AllocatedItems.{returned_shelf-allocated}
use Rattle.shelf_model.proofs.Allocations.IdLists.{ids, item_ids}
use Rattle.shelf_model.proofs.Allocations.ItemIds.{times-ids, times-item_ids}
use Rattle.shelf_model.proofs.Allocations.RecordNumbers.{item_ids-once}
use Rattle.shelf_model.proofs.Returned.MergedNear.{merged_shelves-near}
use Rattle.shelf_model.proofs.Returned.ReturnedWhole.{returned-near}

-- an item with an id has it among its ids
own-id : (id : ℕ) (item : Item) (others : List Item) → item.id ≡ Some id → times id (item_ids (item ∷ others)) ≡ 1 + times id (item_ids others)
own-id id item others e =
    subst (λ (o : Option ℕ). times id (item_ids (record { width = item.width; id = o } ∷ others)) ≡ 1 + times id (item_ids others)) (sym e) (times-here id (item_ids others))

-- the first of some items with an id is the one behind those without it
number-behind : (id : ℕ) (front : List Item) (item : Item) (back : List Item) → times id (item_ids front) ≡ 0 → item.id ≡ Some id → number_of id (front ++ item ∷ back) ≡ Some (length front)
number-behind id front item back none e =
    let fails : list_any (λ (x : Item). has_id id x.id) front ≡ false =
    sym (is_some-position (λ (x : Item). has_id id x.id) front) ∙ is_allocated_in-none id (record { column = 0; height = 0; items = front; free_list = [] }) none in
    let passes : has_id id item.id ≡ true = ap (has_id id) e ∙ eq-eqb id id refl in
    position-behind (λ (x : Item). has_id id x.id) front item back fails passes

-- the state after a return, by its shelves
returned-is : (state : AtlasState) (id : ℕ) (shelves : List Shelf) → IsValid state → merged_shelves (at_first (is_allocated_in id) (returned_shelf state.frame id) state.shelves) ≡ shelves → returned state id ≡ record { frame = state.frame; shelves = shelves; peak_items = state.peak_items }
returned-is state id shelves valid e =
    returned-near state id valid ∙ ap (λ (ss : List Shelf). record { frame = state.frame; shelves = ss; peak_items = state.peak_items }) e

-- a return frees the item that stands there, and merges around it
at-lengths : (state : AtlasState) (id : ℕ) (before after : List Shelf) (shelf : Shelf) (front back : List Item) (item : Item) → IsValid state → state.shelves ≡ before ++ shelf ∷ after → shelf.items ≡ front ++ item ∷ back → item.id ≡ Some id → returned state id ≡ record { frame = state.frame; shelves = merged_before both_empty combined_shelves (length before) (merged_at both_empty combined_shelves (length before) (before ++ merged_shelf (freed_shelf state.frame (length front) shelf) ∷ after)); peak_items = state.peak_items }
at-lengths state id before after shelf front back item valid whole items owner =
    let test : Shelf → Bool = is_allocated_in id in
    let new : Shelf = merged_shelf (freed_shelf state.frame (length front) shelf) in
    let shelves_count : times id (ids state.shelves) ≡ times id (ids before) + times id (ids (shelf ∷ after)) = ap (λ (ss : List Shelf). times id (ids ss)) whole ∙ times-ids id before (shelf ∷ after) in
    let own_count : times id (ids (shelf ∷ after)) ≡ times id (item_ids shelf.items) + times id (ids after) = times-append id (item_ids shelf.items) (ids after) in
    let items_count : times id (item_ids shelf.items) ≡ times id (item_ids front) + times id (item_ids (item ∷ back)) = ap (λ (is : List Item). times id (item_ids is)) items ∙ times-item_ids id front (item ∷ back) in
    let once : times id (ids state.shelves) ≤ 1 = item_ids-once state valid id in
    let own : times id (item_ids (item ∷ back)) ≡ 1 + times id (item_ids back) = own-id id item back owner in
    let found : number_of id shelf.items ≡ Some (length front) =
    ap (number_of id) items ∙ number-behind id front item back (omega (arith, once, shelves_count, own_count, items_count, own)) owner in
    let fails : list_any test before ≡ false = not_allocated_in-times id before (omega (arith, once, shelves_count, own_count, items_count, own)) in
    let passes : test shelf ≡ true = ap is_some found in
    let changed : at_first test (returned_shelf state.frame id) state.shelves ≡ before ++ new ∷ after =
    ap (at_first test (returned_shelf state.frame id)) whole
    ∙ at_first-split test (returned_shelf state.frame id) before shelf after fails passes
    ∙ ap (λ (s : Shelf). before ++ s ∷ after) (returned_shelf-allocated state.frame id (length front) shelf found) in
    let written : slice_set state.shelves (length before) new ≡ before ++ new ∷ after =
    ap (λ (ss : List Shelf). slice_set ss (length before) new) whole ∙ set_at before shelf after new (length before) refl in
    let merged : merged_shelves (before ++ new ∷ after) ≡ merged_before both_empty combined_shelves (length before) (merged_at both_empty combined_shelves (length before) (before ++ new ∷ after)) =
    subst (λ (ss : List Shelf). merged_shelves ss ≡ merged_before both_empty combined_shelves (length before) (merged_at both_empty combined_shelves (length before) ss)) written
    (merged_shelves-near (length before) state.shelves new valid.apart) in
    returned-is state id (merged_before both_empty combined_shelves (length before) (merged_at both_empty combined_shelves (length before) (before ++ new ∷ after))) valid (ap merged_shelves changed ∙ merged)

-- the same, by the numbers of its shelf and of the item in it
pub returned-at : (state : AtlasState) (id n m : ℕ) (before after : List Shelf) (shelf : Shelf) (front back : List Item) (item : Item) → length before ≡ n → length front ≡ m → IsValid state → state.shelves ≡ before ++ shelf ∷ after → shelf.items ≡ front ++ item ∷ back → item.id ≡ Some id → returned state id ≡ record { frame = state.frame; shelves = merged_before both_empty combined_shelves n (merged_at both_empty combined_shelves n (before ++ merged_shelf (freed_shelf state.frame m shelf) ∷ after)); peak_items = state.peak_items }
returned-at state id n m before after shelf front back item number item_number valid whole items owner =
    rw (← number, ← item_number) (at-lengths state id before after shelf front back item valid whole items owner)
