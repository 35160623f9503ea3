-- An atlas has few items for what it has allocated, since free neighbours are one item and empty ones one shelf.
use Rattle.std.proofs.Common.{◌≡◌, ℕ, ◌+◌, ◌-◌, ◌*◌, ◌<◌, ◌≤◌, Bool, true, false, cond, ◌==◌, ◌&&◌, Option, None, Some, List, [], ◌∷◌, length, refl, ap, sym, ◌∙◌, arith}
use Rattle.std.specs.Prelude.{is_none}
use Rattle.std.proofs.lemmas.List.{length-append, length-map}
use Rattle.etagere_base.specs.declared.frames.Frame.{Frame}
use Rattle.std.specs.List.{AllByRecursion}
use Rattle.etagere_base.specs.Lists.{NoNeighbours, total}
use Rattle.etagere_base.proofs.EachLemmas.{Each-weaken}
use Rattle.shelf_model.specs.Bounds.{record_bound}
use Rattle.shelf_model.specs.Merging.{both_empty, both_free}
use Rattle.shelf_model.specs.Places.{allocations}
use Rattle.shelf_model.specs.State.{AtlasState, Item, Shelf, is_empty, is_free, is_one_free, items_in_use, total_width}
use Rattle.shelf_model.specs.Valid.{IsShelf, IsValid, is_out_of_order}
use Rattle.shelf_model.proofs.Allocations.AllocatedIds.{id_of, ids-allocations_after}
use Rattle.shelf_model.proofs.Allocations.IdLists.{id_list, item_ids, ids}

-- how many ids hold an item: one or none
item_count : (item : Item) → length (id_list item.id) ≡ cond (is_free item) 0 1
item_count item = of_owner item.id
  where
    of_owner : (owner : Option ℕ) → length (id_list owner) ≡ cond (is_none owner) 0 1
    of_owner None = refl
    of_owner (Some id) = refl

-- how many ids hold an item and those after it
items_count : (item : Item) (items : List Item)
    → length (item_ids (item ∷ items)) ≡ cond (is_free item) 0 1 + length (item_ids items)
items_count item items = omega (arith, length-append (id_list item.id) (item_ids items), item_count item)

-- a free item stands first
abbrev free_first : List Item → ℕ
free_first [] = 0
free_first (item ∷ items) = cond (is_free item) 1 0

-- of items without free neighbours at most every other one is free
items-few : (items : List Item) → NoNeighbours both_free items → length items ≤ 2 * length (item_ids items) + free_first items
items-few [] apart = omega arith
items-few (item ∷ []) apart = by_test (is_free item) (items_count item [])
  where
    by_test : (b : Bool) → length (item_ids (item ∷ [])) ≡ cond b 0 1 + 0 → 1 ≤ 2 * length (item_ids (item ∷ [])) + cond b 1 0
    by_test true count = omega arith
    by_test false count = omega (arith, count)
items-few (item ∷ next ∷ items) apart =
    by_tests (is_free item) (is_free next) apart.0 (items_count item (next ∷ items)) (items-few (next ∷ items) apart.1)
  where
    rest : List Item
    rest = next ∷ items

    by_tests : (b c : Bool) → (b && c) ≡ false → length (item_ids (item ∷ rest)) ≡ cond b 0 1 + length (item_ids rest)
        → length rest ≤ 2 * length (item_ids rest) + cond c 1 0
        → length (item ∷ rest) ≤ 2 * length (item_ids (item ∷ rest)) + cond b 1 0
    by_tests true true apart count later = absurd (cc)
    by_tests true false apart count later = omega (arith, count, later)
    by_tests false true apart count later = omega (arith, count, later)
    by_tests false false apart count later = omega (arith, count, later)

-- a shelf counts where it is empty, and where it is not
abbrev empty_count : Shelf → ℕ
empty_count shelf = cond (is_empty shelf) 1 0

abbrev full_count : Shelf → ℕ
full_count shelf = cond (is_empty shelf) 0 1

-- the allocated items of a shelf
abbrev allocated_count : Shelf → ℕ
allocated_count shelf = length (item_ids shelf.items)

-- items that are wide are not none
some_allocated : (items : List Item) → 1 ≤ total_width items → NoNeighbours both_free items → is_one_free items ≡ false
    → 1 ≤ length (item_ids items)
some_allocated [] wide apart full = absurd (omega (arith, wide))
some_allocated (item ∷ []) wide apart full = omega (arith, items_count item [], ap {B = ℕ} (λ (b : Bool). cond b 0 1) full)
some_allocated (item ∷ next ∷ items) wide apart full =
    omega (arith, items-few (item ∷ next ∷ items) apart, first (is_free item))
  where
    first : (b : Bool) → cond b 1 0 ≤ 1
    first true = omega arith
    first false = omega arith

-- a shelf that isn't empty has an allocated item
full-allocated : (frame : Frame) → 1 ≤ frame.column_width → (shelf : Shelf) → IsShelf frame shelf → full_count shelf ≤ allocated_count shelf
full-allocated frame wide shelf valid = by_test (is_empty shelf) (some_allocated shelf.items (omega (arith, wide, valid.width)) valid.apart)
  where
    by_test : (b : Bool) → (b ≡ false → 1 ≤ allocated_count shelf) → cond b 0 1 ≤ allocated_count shelf
    by_test true allocated = omega arith
    by_test false allocated = allocated refl

-- a shelf has at most twice as many items as it has allocated, and one
shelf-few : (frame : Frame) (shelf : Shelf) → IsShelf frame shelf
    → length shelf.items ≤ 2 * allocated_count shelf + (empty_count shelf + full_count shelf)
shelf-few frame shelf valid = omega (arith, items-few shelf.items valid.apart, first shelf.items, one (is_empty shelf))
  where
    first : (items : List Item) → free_first items ≤ 1
    first [] = omega arith
    first (item ∷ items) = of_test (is_free item)
      where
        of_test : (b : Bool) → cond b 1 0 ≤ 1
        of_test true = omega arith
        of_test false = omega arith

    one : (b : Bool) → cond b 1 0 + cond b 0 1 ≡ 1
    one true = refl
    one false = refl

-- shelves have at most twice as many items as they have allocated, and one each; those that aren't empty have
-- an allocated one
shelves-few : (frame : Frame) → 1 ≤ frame.column_width → (shelves : List Shelf) → AllByRecursion (IsShelf frame) shelves
    → (items_in_use shelves ≤ 2 * total allocated_count shelves + (total empty_count shelves + total full_count shelves))
    × (total full_count shelves ≤ total allocated_count shelves)
shelves-few frame wide [] each = (omega arith, omega arith)
shelves-few frame wide (shelf ∷ shelves) each =
    let later = shelves-few frame wide shelves each.1 in
    (omega (arith, later.0, shelf-few frame shelf each.0), omega (arith, later.1, full-allocated frame wide shelf each.0))

-- each column has at most one empty shelf more than full ones
empty-few : (columns : ℕ) (shelves : List Shelf) (shelf : Shelf) → AllByRecursion (λ (s : Shelf). s.column < columns) (shelf ∷ shelves)
    → NoNeighbours is_out_of_order (shelf ∷ shelves) → NoNeighbours both_empty (shelf ∷ shelves)
    → total empty_count (shelf ∷ shelves) + full_count shelf ≤ total full_count (shelf ∷ shelves) + (columns - shelf.column)
empty-few columns [] shelf within ordered apart = by_test (is_empty shelf)
  where
    by_test : (b : Bool) → (cond b 1 0 + 0) + cond b 0 1 ≤ (cond b 0 1 + 0) + (columns - shelf.column)
    by_test true = omega (arith, within.0)
    by_test false = omega arith
empty-few columns (next ∷ shelves) shelf within ordered apart =
    by_tests (is_empty shelf) (is_empty next) (shelf.column == next.column) refl apart.0
    (empty-few columns shelves next within.1 ordered.1 apart.1)
  where
    e : ℕ
    e = total empty_count shelves

    k : ℕ
    k = total full_count shelves

    not_before : shelf.column ≤ next.column
    not_before = grind (arith, ordered.0)

    by_tests : (b c same : Bool) → (shelf.column == next.column) ≡ same → (same && (b && c)) ≡ false
        → (cond c 1 0 + e) + cond c 0 1 ≤ (cond c 0 1 + k) + (columns - next.column)
        → (cond b 1 0 + (cond c 1 0 + e)) + cond b 0 1 ≤ (cond b 0 1 + (cond c 0 1 + k)) + (columns - shelf.column)
    by_tests true true true is apart later = absurd (cc)
    by_tests true true false is apart later =
        let after : shelf.column < next.column = grind (arith, not_before, is) in
        omega (arith, later, after, within.0, within.1.0)
    by_tests true false same is apart later = omega (arith, later, not_before, within.0)
    by_tests false c same is apart later = omega (arith, later, not_before, within.0)

-- all columns have at most one empty shelf each more than full ones
empties-few : (columns : ℕ) (shelves : List Shelf) → AllByRecursion (λ (s : Shelf). s.column < columns) shelves
    → NoNeighbours is_out_of_order shelves → NoNeighbours both_empty shelves
    → total empty_count shelves ≤ total full_count shelves + columns
empties-few columns [] within ordered apart = omega arith
empties-few columns (shelf ∷ shelves) within ordered apart = omega (arith, empty-few columns shelves shelf within ordered apart)

-- shelves hold as many ids as their items do
length-ids : (shelves : List Shelf) → length (ids shelves) ≡ total allocated_count shelves
length-ids [] = refl
length-ids (shelf ∷ shelves) = omega (arith, length-append (item_ids shelf.items) (ids shelves), length-ids shelves)

-- as much is allocated as ids hold items
length-allocations : (state : AtlasState) → length (allocations state) ≡ total allocated_count state.shelves
length-allocations state =
    sym (length-map (allocations state) id_of)
    ∙ ap length (ids-allocations_after state.frame [] state.shelves)
    ∙ length-ids state.shelves

-- a valid state has few items for what it has allocated
pub items-bounded : (state : AtlasState) → IsValid state
    → items_in_use state.shelves ≤ record_bound (length (allocations state)) state.frame.columns
items-bounded state valid =
    let few = shelves-few state.frame valid.frame.column_width state.shelves valid.shelves in
    let within = Each-weaken (IsShelf state.frame) (λ (s : Shelf). s.column < state.frame.columns) state.shelves
    (λ (s : Shelf) (is : IsShelf state.frame s). is.column) valid.shelves in
    omega (
      arith,
      few.0,
      few.1,
      empties-few state.frame.columns state.shelves within valid.ordered valid.apart,
      length-allocations state,
    )
