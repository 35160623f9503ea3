-- Taking a place and at once returning it gives back the layout.
use Rattle.std.proofs.Common.{◌≡◌, ℕ, ◌+◌, ◌-◌, ◌<◌, ◌≤◌, Bool, true, false, cond, ◌&&◌, is_some, ◌==◌, None, Some, List, [], ◌∷◌, ◌++◌, map, length, refl, ap, sym, ◌∙◌, subst₂, arith, eq-eqb}
use Rattle.std.proofs.lemmas.Bool.{and_from}
use Rattle.std.proofs.lemmas.List.{map-append}
use Rattle.std.specs.List.{list_any}
use Rattle.etagere_base.specs.declared.frames.Frame.{Frame}
use Rattle.etagere_base.specs.declared.geometry.Size.{Size}
use Rattle.etagere_base.specs.declared.ids.Allocation.{Allocation}
use Rattle.shelf_model.specs.Atlas.{Restores}
use Rattle.shelf_model.specs.Choice.{Placement, placement_of, rectangle_of_placement}
use Rattle.shelf_model.specs.Merging.{both_free, combined_items, merged_items, both_empty, combined_shelves, merged_shelves}
use Rattle.shelf_model.specs.Layout.{without_free_list, layout}
use Rattle.etagere_base.specs.Lists.{at_first, NoNeighbours, replaced_at, times}
use Rattle.shelf_model.specs.Places.{is_allocated}
use Rattle.shelf_model.specs.Returning.{has_id, number_of, freed, returned}
use Rattle.shelf_model.specs.State.{Item, Shelf, AtlasState, is_empty, empty_shelf}
use Rattle.shelf_model.proofs.Allocations.InShelves.{is_allocated_in, returned_shelf}
use Rattle.shelf_model.specs.Taking.{item_pieces, shelf_pieces, taken}
use Rattle.shelf_model.specs.Valid.{IsValid}
use Rattle.etagere_base.proofs.ReplacedLists.{split-at}
use Rattle.etagere_base.proofs.FirstPlace.{at_first-split, is_some-position, list_any-parts, position-behind}
use Rattle.shelf_model.proofs.Allocations.AllocatedIds.{id_of, not_allocated_in-times, times-not_allocated, times-ids_of}
use Rattle.shelf_model.proofs.Allocations.AllocatedItems.{returned_shelf-allocated}
use Rattle.etagere_base.proofs.Merged.{merged-apart, merged-map, merged-pieces}
use Rattle.etagere_base.proofs.NoNeighboursLemmas.{NoNeighbours-map}
use Rattle.shelf_model.proofs.Chosen.Placed.{placement_of-placed}
use Rattle.shelf_model.proofs.Returned.ReturnedWhole.{once-near}
use Rattle.etagere_base.proofs.TimesLemmas.{hit}
use Rattle.shelf_model.proofs.Allocations.RecordNumbers.{ids-inserted}
use Rattle.shelf_model.proofs.Allocations.IdLists.{ids}
use Rattle.shelf_model.proofs.Taken.TakenAllocated.{taken-allocations}
use Rattle.shelf_model.proofs.Taken.TakenPieces.{IsRoom, allocated_item, free_item, pieces-cases}
use Rattle.shelf_model.proofs.Taken.TakenShelves.{IsTaking, shelf_pieces-cases, taken-items, taken_to, taking}
use Rattle.shelf_model.proofs.Taken.TakenTiling.{taken-shelves}

-- a free item is its width alone
free_item-is : (item : Item) → item.id ≡ None → free_item item.width ≡ item
free_item-is item free = λ i. record { width = item.width; id = sym free i }

-- the item behind a front is the one that is freed
freed-behind : (front : List Item) (item : Item) (back : List Item) → freed (length front) (front ++ item ∷ back) ≡ front ++ free_item item.width ∷ back
freed-behind [] item back = refl
freed-behind (first ∷ front) item back = ap (λ (l : List Item). first ∷ l) (freed-behind front item back)

-- items of which an id holds one, and which merged are the items before once that one is free
record IsRestored (id : ℕ) (items taken : List Item) : Type 0 where
  number : ℕ
  allocations : number_of id taken ≡ Some number
  merged : merged_items (freed number taken) ≡ items

-- an id holds one of the items
abbrev holds_one : ℕ → List Item → Bool
holds_one id items = list_any (λ (item : Item). has_id id item.id) items

-- the allocated item stands behind a front that the id doesn't hold
restored-behind : (id width : ℕ) (front back items : List Item) → holds_one id front ≡ false
    → merged_items (front ++ free_item width ∷ back) ≡ items → IsRestored id items (front ++ allocated_item width id ∷ back)
restored-behind id width front back items none merged =
    record {
      number = length front;
      allocations = position-behind (λ (item : Item). has_id id item.id) front (allocated_item width id) back none (eq-eqb id id refl);
      merged = ap merged_items (freed-behind front (allocated_item width id) back) ∙ merged;
    }

-- the front of an item and its rest merge to the item again
merged_items-pieces : (width : ℕ) (front : List Item) (item : Item) (back : List Item) → item.id ≡ None → width ≤ item.width
    → NoNeighbours both_free (front ++ item ∷ back)
    → merged_items (front ++ free_item width ∷ free_item (item.width - width) ∷ back) ≡ front ++ item ∷ back
merged_items-pieces width front item back free fits apart =
    let sum : width + (item.width - width) ≡ item.width = omega arith in
    merged-pieces both_free combined_items front (free_item width) (free_item (item.width - width)) item back refl
    (ap free_item sum ∙ free_item-is item free) (λ (next : Item). rw free refl) apart

-- a whole item that is free again is as it was
merged_items-whole : (front : List Item) (item : Item) (back : List Item) → item.id ≡ None → NoNeighbours both_free (front ++ item ∷ back)
    → merged_items (front ++ free_item item.width ∷ back) ≡ front ++ item ∷ back
merged_items-whole front item back free apart =
    ap (λ (same : Item). merged_items (front ++ same ∷ back)) (free_item-is item free) ∙ merged-apart both_free combined_items (front ++ item ∷ back) apart

-- an item that is taken and freed again is as it was
restored-pieces : (frame : Frame) (placement : Placement) (id : ℕ) (front : List Item) (item : Item) (back : List Item) → IsRoom frame item placement
    → NoNeighbours both_free (front ++ item ∷ back) → holds_one id front ≡ false
    → IsRestored id (front ++ item ∷ back) (front ++ (item_pieces placement id item ++ back))
restored-pieces frame placement id front item back room apart none =
    pieces-cases (λ _ pieces. IsRestored id (front ++ item ∷ back) (front ++ (pieces ++ back))) frame placement id item room
    (λ split. restored-behind id placement.width front (free_item (item.width - placement.width) ∷ back) (front ++ item ∷ back) none (merged_items-pieces placement.width front item back room.free (omega arith) apart))
    (λ _. restored-behind id item.width front back (front ++ item ∷ back) none (merged_items-whole front item back room.free apart))

-- the items of a shelf are as they were where a placement is taken and freed again
restored-items : (frame : Frame) (placement : Placement) (id : ℕ) (shelf : Shelf) → IsTaking frame placement shelf → is_allocated_in id shelf ≡ false
    → IsRestored id shelf.items (replaced_at placement.item (item_pieces placement id) shelf.items)
restored-items frame placement id shelf t none =
    let at = t.found.at in
    let test : Item → Bool = λ item. has_id id item.id in
    let holds_none : holds_one id shelf.items ≡ false = sym (is_some-position test shelf.items) ∙ none in
    let front = list_any-parts test at.front t.found.item at.back (rw at.whole at holds_none) in
    subst₂ (λ (l taken : List Item). IsRestored id l taken) (sym at.whole) (sym (taken-items frame placement id shelf t))
    (restored-pieces frame placement id at.front t.found.item at.back t.room (rw at.whole at t.valid.apart) front.0)

-- the shelf of this column and height with these items, but for its free list
abbrev shelf_of : ℕ → ℕ → List Item → Shelf
shelf_of column height items = record { column = column; height = height; items = items; free_list = [] }

-- a shelf whose items are restored is as it was but for its height
restored-shelf : (frame : Frame) (placement : Placement) (id height : ℕ) (shelf : Shelf)
    → IsRestored id shelf.items (taken_to placement id height shelf).items
    → without_free_list (returned_shelf frame id (taken_to placement id height shelf)) ≡ shelf_of shelf.column height shelf.items
restored-shelf frame placement id height shelf restored =
    ap without_free_list (returned_shelf-allocated frame id restored.number (taken_to placement id height shelf) restored.allocations)
    ∙ ap (λ (items : List Item). shelf_of shelf.column height items) restored.merged

-- shelves but for their free lists, where the item of an id in one of them was returned
returned-layout :
    (frame : Frame) (placement : Placement) (id height : ℕ) (front : List Shelf) (shelf : Shelf) (back : List Shelf)
    → list_any (is_allocated_in id) front ≡ false
    → IsRestored id shelf.items (taken_to placement id height shelf).items
    → map without_free_list (merged_shelves (at_first (is_allocated_in id) (returned_shelf frame id) (front ++ taken_to placement id height shelf ∷ back)))
    ≡ merged_shelves (map without_free_list front ++ shelf_of shelf.column height shelf.items ∷ map without_free_list back)
returned-layout frame placement id height front shelf back none restored =
    let taken : Shelf = taken_to placement id height shelf in
    ap (λ (shelves : List Shelf). map without_free_list (merged_shelves shelves))
    (at_first-split (is_allocated_in id) (returned_shelf frame id) front taken back none (ap is_some restored.allocations))
    ∙ (merged-map both_empty combined_shelves without_free_list (λ x y. refl) (λ x y. refl) (front ++ returned_shelf frame id taken ∷ back)
    ∙ (ap merged_shelves (map-append without_free_list front (returned_shelf frame id taken ∷ back))
    ∙ ap (λ (one : Shelf). merged_shelves (map without_free_list front ++ one ∷ map without_free_list back)) (restored-shelf frame placement id height shelf restored)))

-- the two parts of an empty shelf merge to it again
merged_shelves-pieces : (frame : Frame) (height : ℕ) (front : List Shelf) (shelf : Shelf) (back : List Shelf)
    → is_empty shelf ≡ true → height < shelf.height → NoNeighbours both_empty (front ++ without_free_list shelf ∷ back)
    → merged_shelves (front ++ shelf_of shelf.column height shelf.items ∷ without_free_list (empty_shelf frame shelf.column (shelf.height - height)) ∷ back)
    ≡ front ++ without_free_list shelf ∷ back
merged_shelves-pieces frame height front shelf back empty taller apart =
    let sum : height + (shelf.height - height) ≡ shelf.height = omega arith in
    merged-pieces both_empty combined_shelves front
    (shelf_of shelf.column height shelf.items) (without_free_list (empty_shelf frame shelf.column (shelf.height - height))) (without_free_list shelf) back
    (and_from (shelf.column == shelf.column) (is_empty shelf && true) (eq-eqb shelf.column shelf.column refl) (and_from (is_empty shelf) true empty refl))
    (ap (λ (h : ℕ). shelf_of shelf.column h shelf.items) sum)
    (λ (next : Shelf). rw empty) apart

-- shelves are as they were, but for their free lists, where a place in one of them is taken and returned
restored-shelves :
    (frame : Frame) (placement : Placement) (id : ℕ) (front : List Shelf) (shelf : Shelf) (back : List Shelf) → IsTaking frame placement shelf
    → NoNeighbours both_empty (front ++ shelf ∷ back) → list_any (is_allocated_in id) front ≡ false
    → IsRestored id shelf.items (replaced_at placement.item (item_pieces placement id) shelf.items)
    → map without_free_list (merged_shelves (at_first (is_allocated_in id) (returned_shelf frame id) (front ++ (shelf_pieces frame placement id shelf ++ back))))
    ≡ map without_free_list (front ++ shelf ∷ back)
restored-shelves frame placement id front shelf back t apart none restored =
    let split = map-append without_free_list front (shelf ∷ back) in
    let plain = NoNeighbours-map both_empty without_free_list (λ x y. refl) (front ++ shelf ∷ back) apart in
    let apart_plain : NoNeighbours both_empty (map without_free_list front ++ without_free_list shelf ∷ map without_free_list back) = rw split at plain in
    let rest = empty_shelf frame shelf.column (shelf.height - placement.height) in
    shelf_pieces-cases
    (λ _ pieces. map without_free_list (merged_shelves (at_first (is_allocated_in id) (returned_shelf frame id) (front ++ (pieces ++ back))))
    ≡ map without_free_list (front ++ shelf ∷ back)) frame placement id shelf t
    (λ empty shorter. returned-layout frame placement id placement.height front shelf (rest ∷ back) none restored
    ∙ (merged_shelves-pieces frame placement.height (map without_free_list front) shelf (map without_free_list back) empty shorter apart_plain ∙ sym split))
    (λ full. returned-layout frame placement id shelf.height front shelf back none restored
    ∙ (merged-apart both_empty combined_shelves (map without_free_list front ++ without_free_list shelf ∷ map without_free_list back) apart_plain ∙ sym split))

-- a number is itself at most once
hit-le : (n : ℕ) → hit n n ≤ 1
hit-le n = by_test (n == n)
  where
    by_test : (b : Bool) → cond b 1 0 ≤ 1
    by_test true = omega arith
    by_test false = omega arith

-- an id that was not allocated holds one item after it took a placement
taken-ids_once : (state : AtlasState) (size : Size) (placement : Placement) (id : ℕ) → IsValid state
    → placement_of state size ≡ Some placement → times id (ids state.shelves) ≡ 0
    → times id (ids (taken state placement id).shelves) ≤ 1
taken-ids_once state size placement id valid h none =
    let takes = taken-allocations state size placement id valid h in
    let new : Allocation = record { id = id; rectangle = rectangle_of_placement state.frame placement } in
    omega (
      arith,
      times-ids_of (taken state placement id) id,
      ap (λ all. times id (map id_of all)) takes.after,
      ids-inserted id takes.front new takes.back,
      ap (λ all. times id (map id_of all)) takes.before,
      times-ids_of state id,
      hit-le id,
    )

-- what was taken and at once returned leaves the layout as it was
pub taken_returned : (state : AtlasState) (size : Size) (placement : Placement) (id : ℕ) → IsValid state
    → placement_of state size ≡ Some placement → is_allocated state id ≡ false
    → layout (returned (taken state placement id) id) ≡ layout state
taken_returned state size placement id valid h not_allocated =
    let none = times-not_allocated state id not_allocated in
    let placed = placement_of-placed state size placement h in
    let shelf = placed.chosen.shelf in
    let frame = state.frame in
    let split = split-at state.shelves placement.shelf shelf placed.chosen.at in
    let allocated_in_none = list_any-parts (is_allocated_in id) split.front shelf split.back (rw split.whole at (not_allocated_in-times id state.shelves none)) in
    let t = taking state size placement valid placed in
    let restored = restored-items frame placement id shelf t allocated_in_none.1 in
    ap layout (once-near (taken state placement id) id (taken-shelves state size placement id valid h) (taken-ids_once state size placement id valid h none))
    ∙ ap (λ (shelves : List Shelf). record { frame = frame; shelves = shelves; peak_items = 0 })
    (ap (λ (shelves : List Shelf). map without_free_list (merged_shelves (at_first (is_allocated_in id) (returned_shelf frame id) shelves)))
    (split.split (shelf_pieces frame placement id))
    ∙ (restored-shelves frame placement id split.front shelf split.back t (rw split.whole at valid.apart) allocated_in_none.0 restored
    ∙ ap (map without_free_list) (sym split.whole)))

-- returning an id gives back the layout before it took a placement
pub returned-restores : (old : AtlasState) (id : ℕ) (new : AtlasState) → new ≡ returned old id → Restores old id new
returned-restores old id new is before size placement valid h not_allocated just_taken =
    ap layout (is ∙ ap (λ (state : AtlasState). returned state id) just_taken)
    ∙ taken_returned before size placement id valid h not_allocated
