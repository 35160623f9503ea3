-- Records that spell lists, after an item took the place of the one after it.
use Rattle.std.proofs.Common.{◌≡◌, ◌≢◌, ℕ, ◌+◌, ◌<◌, ◌≤◌, Bool, true, false, Option, None, Some, List, [], ◌∷◌, ◌++◌, length, map, refl, ap, arith, ◌∙◌, ◌*◌}
use Rattle.std.specs.Prelude.{◌%◌}
use Rattle.etagere_base.proofs.EachLemmas.{Each-append, Each-front, Each-back, Each-middle}
use Rattle.etagere_base.proofs.TimesLemmas.{times-append}
use Rattle.std.specs.List.{AllByRecursion}
use Rattle.etagere_base.specs.Lists.{times}
use Rattle.shelf_records.proofs.AllLists.LinkedItems.{entry_of}
use Rattle.shelf_records.proofs.AllLists.LinkedEdits.{linked-apart, Around, with_entry}
use Rattle.shelf_records.specs.declared.records.LinkedItem.{LinkedItem}
use Rattle.shelf_records.specs.declared.records.LinkedShelf.{LinkedShelf}
use Rattle.etagere_links.specs.Edits.{changed_by, link_at, field_at}
use Rattle.shelf_records.specs.ListEdits.{first_without, linked_between, unlinked}
use Rattle.shelf_records.specs.RecordEdits.{free_unlinked, with_first_item, with_first_free}
use Rattle.shelf_records.specs.RecordLists.{IsLinkedExcept, Records, Entry, first_item_of, first_free_of}
use Rattle.shelf_records.specs.RecordMerges.{free_absorbed, allocated_absorbed, item_freed, item_given}
use Rattle.shelf_records.specs.Records.{item_chain, free_list}
use Rattle.shelf_records.proofs.AllLists.LinkedMerges.{unused_too, free_absorbed-linked, allocated_absorbed-linked, item_freed-linked, item_given-linked}
use Rattle.etagere_links.proofs.ListEnds.{times-here}
use Rattle.etagere_links.proofs.RecordChanges.{map-changed_by}
use Rattle.shelf_records.proofs.RecordFrames.{length-unlinked, map-linked_between, map-unlinked}
use Rattle.shelf_records.specs.AtlasRecords.{AtlasRecords, is_allocated_at, shelf_of, along_of, item_at}
use Rattle.shelf_model.specs.State.{Item}
use Rattle.shelf_store.proofs.Spelled.AbsorbedItems.{Absorbs, IsRest, rest-of, absorbed-places, absorbed-owners, absorbed-free, free-widens, widened-absorbs, allocated-absorbs, allocated-unmarked, frees-keep_values}
use Rattle.shelf_records.proofs.Spelled.EntryValues.{SaysNow, IsWidened, IsFreed, IsGiven, id_at, marked, unmarked, remarked-places, free_count, free_count-append, free_count-free, free_count-allocated, free_count-none, free_count-same}
use Rattle.shelf_records.proofs.Spelled.RecordValues.{ItemValues, item_values, shelf_values, values-same, SameItem, SameShelf, SameItem-then, items-same, shelves-same, owners-same}
use Rattle.shelf_store.proofs.Spelled.SpelledLists.{IsSpelled, EditsItems}
use Rattle.shelf_records.proofs.Spelled.Witnessed.{IsPlaced}

-- what a shelf says where another item begins it
item-first : (shelf : ℕ) (link : Option ℕ) (shelves : List LinkedShelf) → map shelf_values (with_first_item shelf link shelves) ≡ map shelf_values shelves
item-first shelf link shelves = map-changed_by shelf_values (λ (x : LinkedShelf). record x { first_item = link }) shelves (Some shelf) (λ x. refl)

-- what a shelf says where another item begins its free list
pub free-first : (shelf : ℕ) (link : Option ℕ) (shelves : List LinkedShelf) → map shelf_values (with_first_free shelf link shelves) ≡ map shelf_values shelves
free-first shelf link shelves = map-changed_by shelf_values (λ (x : LinkedShelf). record x { first_unallocated = link }) shelves (Some shelf) (λ x. refl)

-- items that are not marked allocated stay so where they say the same
pub unmarked-same : (items new : List LinkedItem) (xs : List ℕ) → ((k : ℕ) → 1 ≤ times k xs → SameItem items new k) → AllByRecursion (λ item. is_allocated_at items item ≡ false) xs → AllByRecursion (λ item. is_allocated_at new item ≡ false) xs
unmarked-same items new [] same each = tt
unmarked-same items new (x ∷ xs) same each =
    ((same x (omega (arith, times-here x xs))).allocated ∙ each.0, unmarked-same items new xs (λ k stands. same k (omega (arith, stands))) each.1)

-- a number that does not stand in the items of a shelf is neither of two of them
neither : (front back : List ℕ) (number next k : ℕ) → times k (front ++ number ∷ next ∷ back) ≡ 0 → (number ≢ k) × (next ≢ k)
neither front back number next k absent =
    let count : times k (front ++ number ∷ next ∷ back) ≡ times k front + times k (number ∷ next ∷ back) = times-append k front (number ∷ next ∷ back) in (
      λ e. let here : times k (number ∷ next ∷ back) ≡ 1 + times k (next ∷ back) = rw e (times-here k (next ∷ back)) in omega (arith, absent, count, here),
      λ e. let here : times k (next ∷ back) ≡ 1 + times k back = rw e (times-here k back) in omega (arith, absent, count, here),
    )

-- an item and the next are two, and both are there
record ArePair (items : List LinkedItem) (number next : ℕ) : Type 0 where
  apart : number ≢ next
  within : number < length items
  next_within : next < length items

are-pair : {atlas : AtlasRecords} (around : Around) (shelf number next : ℕ) (front back free : List ℕ) → IsSpelled atlas (with_entry around (entry_of shelf (front ++ number ∷ next ∷ back) free)) → ArePair atlas.records.items number next
are-pair around shelf number next front back free spelled =
    let here = linked-apart around (entry_of shelf (front ++ number ∷ next ∷ back) free) spelled.linked in
    let count : (k : ℕ) → times k (front ++ number ∷ next ∷ back) ≡ times k front + times k (number ∷ next ∷ back) = λ k. times-append k front (number ∷ next ∷ back) in
    record {
      apart = λ e.
          let again : times next (number ∷ next ∷ back) ≡ 1 + times next (next ∷ back) = rw e (times-here next (next ∷ back)) in
          omega (arith, here.once next, count next, again, times-here next back);
      within = here.within number (omega (arith, count number, times-here number (next ∷ back)));
      next_within = here.within next (omega (arith, count next, times-here next back));
    }

-- an item took the place of the next one, which became unused
absorbed-spelled : {atlas : AtlasRecords} (around : Around) (shelf number next : ℕ) (front back free free' : List ℕ) (records : Records) → IsSpelled atlas (with_entry around (entry_of shelf (front ++ number ∷ next ∷ back) free)) → Absorbs atlas.records.items records.items number next → is_allocated_at records.items next ≡ false → ((k : ℕ) → SameShelf atlas.records.shelves records.shelves k) → IsLinkedExcept records (with_entry (unused_too next around) (entry_of shelf (front ++ number ∷ back) free')) [] [] → ((k : ℕ) → times k free' + free_count atlas.records.items k (next ∷ []) ≡ times k free) → EditsItems atlas records around (next ∷ around.unused_items) (entry_of shelf (front ++ number ∷ next ∷ back) free) (entry_of shelf (front ++ number ∷ back) free')
absorbed-spelled {atlas} around shelf number next front back free free' records spelled absorbs unmarked same linked listed =
    let items : List LinkedItem = atlas.records.items in
    let entry : Entry = entry_of shelf (front ++ number ∷ next ∷ back) free in
    let apart = linked-apart around entry spelled.linked in
    let placed : IsPlaced atlas entry = Each-middle (IsPlaced atlas) around.before entry around.after spelled.placed in
    let rest : IsRest front back number next = rest-of front back number next apart.once in
    let others : (k : ℕ) → times k entry.items ≡ 0 → SameItem items records.items k = λ k absent.
    absorbs.others k (neither front back number next k absent).0 (neither front back number next k absent).1 in
    record {
      number = refl;
      linked = linked;
      placed = record {
        owners = absorbed-owners items records.items shelf front back number next rest absorbs placed.owners;
        along = ap (λ a. a % atlas.frame.column_width) (same shelf).along ∙ placed.along;
        places = rw (same shelf).along (absorbed-places items records.items (along_of atlas.records.shelves shelf) front back number next rest absorbs placed.places);
        free_list = λ k. omega (arith, placed.free_list k, listed k, absorbed-free items records.items k front back number next rest absorbs);
      };
      items = others;
      shelf = same;
      left_unused = (unmarked, unmarked-same items records.items around.unused_items (λ k stands. others k (omega (arith, apart.others k (omega (arith, stands))))) spelled.unused);
    }

-- the records after an item took the place of the free one after it
pub free_absorbed-spelled : {atlas : AtlasRecords} (around : Around) (shelf number next : ℕ) (front back free_front free_back : List ℕ) → is_allocated_at atlas.records.items next ≡ false → IsSpelled atlas (with_entry around (entry_of shelf (front ++ number ∷ next ∷ back) (free_front ++ next ∷ free_back))) → EditsItems atlas (free_absorbed shelf number next ((item_at atlas.records.items number).width + (item_at atlas.records.items next).width) atlas.records) around (next ∷ around.unused_items) (entry_of shelf (front ++ number ∷ next ∷ back) (free_front ++ next ∷ free_back)) (entry_of shelf (front ++ number ∷ back) (free_front ++ free_back))
free_absorbed-spelled {atlas} around shelf number next front back free_front free_back is_free spelled =
    let items : List LinkedItem = atlas.records.items in
    let width : ℕ = (item_at items number).width + (item_at items next).width in
    let records : Records = free_absorbed shelf number next width atlas.records in
    let free : List ℕ = free_front ++ next ∷ free_back in
    let pair : ArePair items number next = are-pair around shelf number next front back free spelled in
    let wide : IsWidened items records.items number width = free-widens atlas.records shelf number next pair.within in
    let one : Records = free_unlinked shelf next atlas.records in
    absorbed-spelled around shelf number next front back free (free_front ++ free_back) records spelled (widened-absorbs items records.items number next wide)
    ((wide.others next pair.apart).allocated ∙ is_free)
    (λ k. shelves-same atlas.records.shelves records.shelves k
    (item-first shelf (first_without (link_at item_chain.previous one.items next) (link_at item_chain.next one.items next) (first_item_of one.shelves shelf)) one.shelves
    ∙ free-first shelf (first_without (link_at free_list.previous items next) (link_at free_list.next items next) (first_free_of atlas.records.shelves shelf)) atlas.records.shelves))
    (free_absorbed-linked around shelf number next width front back free_front free_back spelled.linked)
    (λ k. omega (arith, times-append k free_front (next ∷ free_back), times-append k free_front free_back, free_count-free items k next [] is_free))

-- the records after a free item took the place of the allocated one after it
pub allocated_absorbed-spelled : {atlas : AtlasRecords} (around : Around) (shelf number next : ℕ) (front back free : List ℕ) → is_allocated_at atlas.records.items next ≡ true → IsSpelled atlas (with_entry around (entry_of shelf (front ++ number ∷ next ∷ back) free)) → EditsItems atlas (allocated_absorbed shelf number next ((item_at atlas.records.items number).width + (item_at atlas.records.items next).width) atlas.records) around (next ∷ around.unused_items) (entry_of shelf (front ++ number ∷ next ∷ back) free) (entry_of shelf (front ++ number ∷ back) free)
allocated_absorbed-spelled {atlas} around shelf number next front back free is_allocated spelled =
    let items : List LinkedItem = atlas.records.items in
    let width : ℕ = (item_at items number).width + (item_at items next).width in
    let records : Records = allocated_absorbed shelf number next width atlas.records in
    let numbers : List ℕ = front ++ number ∷ next ∷ back in
    let placed : IsPlaced atlas (entry_of shelf numbers free) = Each-middle (IsPlaced atlas) around.before (entry_of shelf numbers free) around.after spelled.placed in
    let pair : ArePair items number next = are-pair around shelf number next front back free spelled in
    absorbed-spelled around shelf number next front back free free records spelled (allocated-absorbs atlas.records shelf number next pair.apart pair.within)
    (allocated-unmarked atlas.records shelf number next width pair.apart pair.next_within)
    (λ k. shelves-same atlas.records.shelves records.shelves k
    (item-first shelf (first_without (link_at item_chain.previous items next) (link_at item_chain.next items next) (first_item_of atlas.records.shelves shelf)) atlas.records.shelves))
    (allocated_absorbed-linked around shelf number next width front back free (placed.free_list next ∙ free_count-none items next numbers is_allocated) spelled.linked)
    (λ k. omega (arith, free_count-allocated items k next [] is_allocated))

-- what an item says after it became free
pub freed-values : (records : Records) (shelf number : ℕ) → number < length records.items → IsFreed records.items (item_freed shelf number records).items number
freed-values records shelf number within =
    let items : List LinkedItem = records.items in
    let one : List LinkedItem = changed_by (Some number) (λ (x : LinkedItem). record x { allocated = false }) items in
    let first : Option ℕ = first_free_of records.shelves shelf in
    let new : List LinkedItem = linked_between free_list None first number one in
    let freed : IsFreed items one number = unmarked items number within in
    let same : (k : ℕ) → SameItem one new k = λ k. items-same one new k (map-linked_between free_list item_values frees-keep_values one None first number) in
    record {
      item = (same number).item ∙ freed.item;
      place = (same number).place ∙ freed.place;
      shelf = (same number).shelf ∙ freed.shelf;
      allocated = (same number).allocated ∙ freed.allocated;
      others = λ k other. SameItem-then items one new k (freed.others k other) (same k);
    }

-- a number that does not stand in the items of a shelf is none of them
pub not-member : (front back : List ℕ) (number k : ℕ) → times k (front ++ number ∷ back) ≡ 0 → number ≢ k
not-member front back number k absent e =
    let here : times k (number ∷ back) ≡ 1 + times k back = rw e (times-here k back) in
    omega (arith, absent, times-append k front (number ∷ back), here)

-- the members of a shelf before and after one of them are others
pub before-other : (front back : List ℕ) (number k : ℕ) → times k (front ++ number ∷ back) ≤ 1 → 1 ≤ times k front → number ≢ k
before-other front back number k once stands e =
    let here : times k (number ∷ back) ≡ 1 + times k back = rw e (times-here k back) in
    omega (arith, once, stands, times-append k front (number ∷ back), here)

pub after-other : (front back : List ℕ) (number k : ℕ) → times k (front ++ number ∷ back) ≤ 1 → 1 ≤ times k back → number ≢ k
after-other front back number k once stands e =
    let here : times k (number ∷ back) ≡ 1 + times k back = rw e (times-here k back) in
    omega (arith, once, stands, times-append k front (number ∷ back), here)

-- an item of a shelf became free or allocated, and its free list was changed for that
item_marked-spelled : {atlas : AtlasRecords} (around : Around) (shelf number : ℕ) (front back free free' : List ℕ) (records : Records) {item : Item} {allocated : Bool} → IsSpelled atlas (with_entry around (entry_of shelf (front ++ number ∷ back) free)) → SaysNow atlas.records.items records.items number item allocated → item.width ≡ (item_at atlas.records.items number).width → ((k : ℕ) → SameShelf atlas.records.shelves records.shelves k) → IsLinkedExcept records (with_entry around (entry_of shelf (front ++ number ∷ back) free')) [] [] → ((k : ℕ) → times k free' + free_count atlas.records.items k (number ∷ []) ≡ times k free + free_count records.items k (number ∷ [])) → EditsItems atlas records around around.unused_items (entry_of shelf (front ++ number ∷ back) free) (entry_of shelf (front ++ number ∷ back) free')
item_marked-spelled {atlas} around shelf number front back free free' records spelled says width same linked counts =
    let items : List LinkedItem = atlas.records.items in
    let entry : Entry = entry_of shelf (front ++ number ∷ back) free in
    let apart = linked-apart around entry spelled.linked in
    let placed : IsPlaced atlas entry = Each-middle (IsPlaced atlas) around.before entry around.after spelled.placed in
    let same_front : (k : ℕ) → 1 ≤ times k front → SameItem items records.items k = λ k stands. says.others k (before-other front back number k (apart.once k) stands) in
    let same_back : (k : ℕ) → 1 ≤ times k back → SameItem items records.items k = λ k stands. says.others k (after-other front back number k (apart.once k) stands) in
    let own_width : (item_at records.items number).width ≡ (item_at items number).width = ap (λ (i : Item). i.width) says.item ∙ width in
    let owned = Each-back (λ item. shelf_of items item ≡ shelf) front (number ∷ back) placed.owners in
    let kept_front : (k : ℕ) → free_count records.items k front ≡ free_count items k front = λ k. free_count-same items records.items k front (λ n stands. (same_front n stands).allocated) in
    let kept_back : (k : ℕ) → free_count records.items k back ≡ free_count items k back = λ k. free_count-same items records.items k back (λ n stands. (same_back n stands).allocated) in
    let split : (is : List LinkedItem) (k : ℕ) → free_count is k (number ∷ back) ≡ free_count is k (number ∷ []) + free_count is k back = λ is k. free_count-append is k (number ∷ []) back in
    record {
      number = refl;
      linked = linked;
      placed =
          record {
            owners = Each-append (λ item. shelf_of records.items item ≡ shelf) front (number ∷ back)
                (owners-same items records.items shelf front same_front (Each-front (λ item. shelf_of items item ≡ shelf) front (number ∷ back) placed.owners))
                (says.shelf ∙ owned.0, owners-same items records.items shelf back same_back owned.1);
            along = ap (λ a. a % atlas.frame.column_width) (same shelf).along ∙ placed.along;
            places = rw (same shelf).along (remarked-places items records.items (along_of atlas.records.shelves shelf) front back number same_front same_back says.place own_width placed.places);
            free_list = λ k. omega (arith, placed.free_list k, counts k, kept_front k, kept_back k, split items k, split records.items k, free_count-append records.items k front (number ∷ back), free_count-append items k front (number ∷ back));
          };
      items = λ k gone. says.others k (not-member front back number k gone);
      shelf = same;
      left_unused = unmarked-same items records.items around.unused_items
          (λ k stands. says.others k (not-member front back number k (omega (arith, apart.others k (omega (arith, stands)))))) spelled.unused;
    }

-- the records after an allocated item became free
pub item_freed-spelled : {atlas : AtlasRecords} (around : Around) (shelf number : ℕ) (front back free : List ℕ) → is_allocated_at atlas.records.items number ≡ true → IsSpelled atlas (with_entry around (entry_of shelf (front ++ number ∷ back) free)) → EditsItems atlas (item_freed shelf number atlas.records) around around.unused_items (entry_of shelf (front ++ number ∷ back) free) (entry_of shelf (front ++ number ∷ back) (number ∷ free))
item_freed-spelled {atlas} around shelf number front back free is_allocated spelled =
    let items : List LinkedItem = atlas.records.items in
    let entry : Entry = entry_of shelf (front ++ number ∷ back) free in
    let within : number < length items = (linked-apart around entry spelled.linked).within number (omega (arith, times-append number front (number ∷ back), times-here number back)) in
    let placed : IsPlaced atlas entry = Each-middle (IsPlaced atlas) around.before entry around.after spelled.placed in
    let absent : times number free ≡ 0 = placed.free_list number ∙ free_count-none items number (front ++ number ∷ back) is_allocated in
    let records : Records = item_freed shelf number atlas.records in
    let freed : IsFreed items records.items number = freed-values atlas.records shelf number within in
    item_marked-spelled around shelf number front back free (number ∷ free) records spelled freed refl
    (λ k. shelves-same atlas.records.shelves records.shelves k (free-first shelf (Some number) atlas.records.shelves))
    (item_freed-linked around shelf number front back free absent spelled.linked)
    (λ k. omega (arith, free_count-free records.items k number [] freed.allocated, free_count-allocated items k number [] is_allocated))

-- what an item says after it was given whole
pub given-values : (records : Records) (shelf number : ℕ) → number < length records.items → IsGiven records.items (item_given shelf number records).items number
given-values records shelf number within =
    let items : List LinkedItem = records.items in
    let one : List LinkedItem = unlinked free_list number items in
    let new : List LinkedItem = changed_by (Some number) (λ (x : LinkedItem). record x { allocated = true }) one in
    let values : map item_values one ≡ map item_values items = map-unlinked free_list item_values frees-keep_values items number in
    let same : (k : ℕ) → SameItem items one k = λ k. items-same items one k values in
    let generation : field_at (λ (x : LinkedItem). x.generation) 0 one number ≡ field_at (λ (x : LinkedItem). x.generation) 0 items number =
    values-same item_values (λ (v : ItemValues). v.generation) 0 items one number values in
    let given : IsGiven one new number = marked one number (rw (length-unlinked free_list items number) within) in
    record {
      item = given.item
          ∙ ap (λ (i : Item). record { width = i.width; id = Some (id_at one number) }) (same number).item
          ∙ ap (λ g. record { width = (item_at items number).width; id = Some (number + 65536 * g) }) generation;
      place = given.place ∙ (same number).place;
      shelf = given.shelf ∙ (same number).shelf;
      allocated = given.allocated;
      others = λ k other. SameItem-then items one new k (same k) (given.others k other);
    }

-- the records after a free item was given whole
pub item_given-spelled : {atlas : AtlasRecords} (around : Around) (shelf number : ℕ) (front back free_front free_back : List ℕ) → is_allocated_at atlas.records.items number ≡ false → IsSpelled atlas (with_entry around (entry_of shelf (front ++ number ∷ back) (free_front ++ number ∷ free_back))) → EditsItems atlas (item_given shelf number atlas.records) around around.unused_items (entry_of shelf (front ++ number ∷ back) (free_front ++ number ∷ free_back)) (entry_of shelf (front ++ number ∷ back) (free_front ++ free_back))
item_given-spelled {atlas} around shelf number front back free_front free_back is_free spelled =
    let items : List LinkedItem = atlas.records.items in
    let numbers : List ℕ = front ++ number ∷ back in
    let free : List ℕ = free_front ++ number ∷ free_back in
    let within : number < length items = (linked-apart around (entry_of shelf numbers free) spelled.linked).within number (omega (arith, times-append number front (number ∷ back), times-here number back)) in
    let records : Records = item_given shelf number atlas.records in
    let given : IsGiven items records.items number = given-values atlas.records shelf number within in
    item_marked-spelled around shelf number front back free (free_front ++ free_back) records spelled given refl
    (λ k. shelves-same atlas.records.shelves records.shelves k
    (free-first shelf (first_without (link_at free_list.previous items number) (link_at free_list.next items number) (first_free_of atlas.records.shelves shelf)) atlas.records.shelves))
    (item_given-linked around shelf number numbers free_front free_back spelled.linked)
    (λ k. omega (arith, times-append k free_front (number ∷ free_back), times-append k free_front free_back, free_count-allocated records.items k number [] given.allocated, free_count-free items k number [] is_free))
