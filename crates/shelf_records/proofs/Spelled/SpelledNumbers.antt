-- The record numbers of what records spell as allocated are those of the items that are marked so.
use Rattle.std.proofs.Common.{◌≡◌, ℕ, ◌+◌, ◌*◌, ◌<◌, ◌≤◌, Bool, true, false, cond, Option, None, Some, List, [], ◌∷◌, ◌++◌, length, map, filter, refl, ap, sym, ◌∙◌, arith, ◌≢◌}
use Rattle.std.specs.Prelude.{slice_get, if◌then◌else◌}
use Rattle.std.specs.Option.{option_map_or}
use Rattle.std.proofs.lemmas.List.{length-append, length-map, map-append}
use Rattle.std.proofs.lemmas.List.Elements.{filter-append}
use Rattle.std.proofs.lemmas.Nat.{mod-mul-add}
use Rattle.std.proofs.lemmas.Option.{slice_get_within}
use Rattle.etagere_base.specs.declared.ids.Allocation.{Allocation}
use Rattle.std.specs.List.{AllByRecursion}
use Rattle.etagere_base.specs.Lists.{times}
use Rattle.etagere_links.specs.Links.{no_link}
use Rattle.shelf_records.specs.declared.records.LinkedItem.{LinkedItem}
use Rattle.etagere_links.proofs.ListEnds.{times-other}
use Rattle.shelf_records.specs.RecordLists.{Entry, item_numbers}
use Rattle.shelf_records.specs.AtlasRecords.{AtlasRecords, is_allocated_at, item_at, spelled_item, spelled_shelf, spelled_state}
use Rattle.shelf_model.specs.Places.{allocated_numbers, allocations, record_number}
use Rattle.shelf_model.specs.State.{AtlasState, items_in_use}
use Rattle.shelf_model.proofs.Allocations.AllocatedIds.{id_of, ids-allocations_after}
use Rattle.shelf_model.proofs.Allocations.IdLists.{id_list, item_ids, ids}

-- the record numbers of allocations are those of their ids
numbers-ids : (all : List Allocation)
    → map (λ (a : Allocation). record_number a.id) all ≡ map record_number (map id_of all)
numbers-ids [] = refl
numbers-ids (a ∷ all) = ap (λ ns. record_number a.id ∷ ns) (numbers-ids all)

-- the record numbers of what is allocated are those of the ids that hold items
pub allocated_numbers-ids : (state : AtlasState) → allocated_numbers state ≡ map record_number (ids state.shelves)
allocated_numbers-ids state =
    numbers-ids (allocations state) ∙ ap (map record_number) (ids-allocations_after state.frame [] state.shelves)

-- the number in the id of a record is that of the record
pub number-of_record : (number generation : ℕ) → number < 65536 → record_number (number + 65536 * generation) ≡ number
number-of_record number generation small =
    ap record_number (omega arith) ∙ mod-mul-add generation 65536 number small

-- an item that is marked allocated is among the records
marked-within : (items : List LinkedItem) (number : ℕ) → is_allocated_at items number ≡ true → number < length items
marked-within items number marked = by_record (slice_get items number) refl marked
  where
    by_record : (o : Option LinkedItem) → slice_get items number ≡ o
        → option_map_or (λ (item : LinkedItem). item.allocated) o false ≡ true → number < length items
    by_record None e marked = absurd (cc)
    by_record (Some item) e marked = slice_get_within items number item e

-- the record number that an item spells is its own, where it is marked allocated
item-number : (items : List LinkedItem) (number : ℕ) → length items ≤ no_link
    → map record_number (id_list (item_at items number).id) ≡ cond (is_allocated_at items number) (number ∷ []) []
item-number items number few = by_record (slice_get items number) refl
  where
    of_record : (b : Bool) (generation : ℕ) → number < 65536
        → map record_number (id_list (if b then Some (number + 65536 * generation) else None)) ≡ cond b (number ∷ []) []
    of_record true generation small = ap (λ n. n ∷ []) (number-of_record number generation small)
    of_record false generation small = refl

    by_record : (o : Option LinkedItem) → slice_get items number ≡ o
        → map record_number (id_list (option_map_or (spelled_item number) o (record { width = 0; id = None })).id)
        ≡ cond (option_map_or (λ (item : LinkedItem). item.allocated) o false) (number ∷ []) []
    by_record None e = refl
    by_record (Some item) e =
        of_record item.allocated item.generation (omega (arith, few, slice_get_within items number item e))

-- an element that passes stands before those that do
filter-cons : (b : Bool) (n : ℕ) (ns : List ℕ) → cond b (n ∷ []) [] ++ ns ≡ cond b (n ∷ ns) ns
filter-cons true n ns = refl
filter-cons false n ns = refl

-- the record numbers that items spell are those of the ones that are marked allocated
items-numbers : (items : List LinkedItem) (xs : List ℕ) → length items ≤ no_link
    → map record_number (item_ids (map (item_at items) xs)) ≡ filter (is_allocated_at items) xs
items-numbers items [] few = refl
items-numbers items (x ∷ xs) few =
    map-append record_number (id_list (item_at items x).id) (item_ids (map (item_at items) xs))
    ∙ ap (λ ns. ns ++ map record_number (item_ids (map (item_at items) xs))) (item-number items x few)
    ∙ ap (λ ns. cond (is_allocated_at items x) (x ∷ []) [] ++ ns) (items-numbers items xs few)
    ∙ filter-cons (is_allocated_at items x) x (filter (is_allocated_at items) xs)

-- the same of the items of shelves
shelves-numbers : (atlas : AtlasRecords) (entries : List Entry) → length atlas.records.items ≤ no_link
    → map record_number (ids (map (spelled_shelf atlas) entries)) ≡ filter (is_allocated_at atlas.records.items) (item_numbers entries)
shelves-numbers atlas [] few = refl
shelves-numbers atlas (entry ∷ entries) few =
    let items = atlas.records.items in
    map-append record_number (item_ids (map (item_at items) entry.items)) (ids (map (spelled_shelf atlas) entries))
    ∙ ap (λ ns. ns ++ map record_number (ids (map (spelled_shelf atlas) entries))) (items-numbers items entry.items few)
    ∙ ap (λ ns. filter (is_allocated_at items) entry.items ++ ns) (shelves-numbers atlas entries few)
    ∙ sym (filter-append (is_allocated_at items) entry.items (item_numbers entries))

-- the record numbers of what records spell as allocated are those of the items that are marked so
pub spelled-numbers : (atlas : AtlasRecords) (entries : List Entry) → length atlas.records.items ≤ no_link
    → allocated_numbers (spelled_state atlas entries) ≡ filter (is_allocated_at atlas.records.items) (item_numbers entries)
spelled-numbers atlas entries few =
    allocated_numbers-ids (spelled_state atlas entries) ∙ shelves-numbers atlas entries few

-- the marked ones are among the records
pub marked-below : (items : List LinkedItem) (xs : List ℕ)
    → AllByRecursion (λ (number : ℕ). number < length items) (filter (is_allocated_at items) xs)
marked-below items [] = tt
marked-below items (x ∷ xs) = by_test (is_allocated_at items x) refl (marked-below items xs)
  where
    by_test : (b : Bool) → is_allocated_at items x ≡ b → AllByRecursion (λ (number : ℕ). number < length items) (filter (is_allocated_at items) xs)
        → AllByRecursion (λ (number : ℕ). number < length items) (cond b (x ∷ filter (is_allocated_at items) xs) (filter (is_allocated_at items) xs))
    by_test true e later = (marked-within items x e, later)
    by_test false e later = later

-- a number that is not marked is none of theirs
unmarked-new : (items : List LinkedItem) (number : ℕ) (xs : List ℕ) → is_allocated_at items number ≡ false
    → times number (filter (is_allocated_at items) xs) ≡ 0
unmarked-new items number [] free = refl
unmarked-new items number (x ∷ xs) free = by_test (is_allocated_at items x) refl (unmarked-new items number xs free)
  where
    by_test : (b : Bool) → is_allocated_at items x ≡ b → times number (filter (is_allocated_at items) xs) ≡ 0
        → times number (cond b (x ∷ filter (is_allocated_at items) xs) (filter (is_allocated_at items) xs)) ≡ 0
    by_test true e later =
        let other : x ≢ number = λ same. let contrary : is_allocated_at items x ≡ false = rw same free in cc in
        times-other number x (filter (is_allocated_at items) xs) other ∙ later
    by_test false e later = later

-- the number in an id of a record that isn't marked allocated is new among what the records spell as allocated
pub new-number : (atlas : AtlasRecords) (entries : List Entry) (number generation : ℕ) → length atlas.records.items ≤ no_link
    → number < 65536 → is_allocated_at atlas.records.items number ≡ false
    → times (record_number (number + 65536 * generation)) (allocated_numbers (spelled_state atlas entries)) ≡ 0
new-number atlas entries number generation few small free =
    rw (number-of_record number generation small, spelled-numbers atlas entries few)
    (unmarked-new atlas.records.items number (item_numbers entries) free)

-- shelves have as many items as they have records of items
pub items_in_use-spelled : (atlas : AtlasRecords) (entries : List Entry) → items_in_use (map (spelled_shelf atlas) entries) ≡ length (item_numbers entries)
items_in_use-spelled atlas [] = refl
items_in_use-spelled atlas (entry ∷ entries) =
    omega (
      arith,
      length-map entry.items (item_at atlas.records.items),
      items_in_use-spelled atlas entries,
      length-append entry.items (item_numbers entries),
    )
