-- Records that spell lists, after the front of a free item was given: the rest takes its place in the free list.
use Rattle.std.proofs.Common.{◌≡◌, ◌≢◌, ℕ, zero, suc, ◌+◌, ◌*◌, ◌<◌, ◌≤◌, true, false, None, Some, List, [], ◌∷◌, ◌++◌, length, map, refl, ap, arith, ◌∙◌}
use Rattle.std.specs.Prelude.{◌%◌}
use Rattle.etagere_base.proofs.EachLemmas.{Each-append, Each-front, Each-back, Each-middle}
use Rattle.etagere_base.proofs.TimesLemmas.{times-append}
use Rattle.etagere_base.specs.Lists.{times}
use Rattle.shelf_records.proofs.AllLists.LinkedItems.{entry_of}
use Rattle.shelf_records.proofs.AllLists.LinkedEdits.{linked-apart, Around, with_entry}
use Rattle.shelf_records.specs.declared.records.LinkedItem.{LinkedItem}
use Rattle.etagere_links.specs.Edits.{changed_by, link_at, field_at}
use Rattle.shelf_records.specs.ListEdits.{first_without, linked_between, unlinked}
use Rattle.shelf_records.specs.RecordLists.{Records, Entry, first_free_of}
use Rattle.shelf_records.specs.RecordMerges.{front_given}
use Rattle.shelf_records.specs.Records.{item_chain, free_list}
use Rattle.etagere_links.proofs.FieldChanges.{field_at-changed, field_at-kept}
use Rattle.shelf_records.proofs.AllLists.LinkedMerges.{front_given-linked}
use Rattle.etagere_links.proofs.ListEnds.{times-here}
use Rattle.etagere_links.proofs.RecordChanges.{get-changed_by-other}
use Rattle.shelf_records.proofs.RecordFrames.{length-unlinked, length-linked_between, map-linked_between, map-unlinked}
use Rattle.shelf_records.specs.AtlasRecords.{AtlasRecords, is_allocated_at, item_place_of, shelf_of, along_of, item_at, spelled_item}
use Rattle.shelf_records.proofs.Spelled.Witnessed.{IsPlaced}
use Rattle.shelf_records.specs.StandsFor.{LieFrom}
use Rattle.shelf_model.specs.State.{Item}
use Rattle.shelf_store.proofs.Spelled.AbsorbedItems.{frees-keep_values, items-keep_values}
use Rattle.shelf_records.proofs.Spelled.EntryValues.{id_at, widths, widths-same, LieFrom-front, LieFrom-back, LieFrom-append, free_count, free_count-append, free_count-free, free_count-allocated, free_count-same}
use Rattle.shelf_records.proofs.Spelled.RecordValues.{ItemValues, item_values, shelf_values, values-same, SameItem, SameShelf, SameItem-then, item-same, items-same, shelves-same, owners-same, LieFrom-same}
use Rattle.shelf_store.proofs.Spelled.SpelledLists.{IsSpelledExcept, EditsItems}
use Rattle.shelf_store.proofs.Spelled.SpelledMerges.{unmarked-same, free-first, not-member, before-other, after-other}

-- an item with its width changed and marked allocated
front-changed : (items : List LinkedItem) (label number width : ℕ) → number < length items → field_at (spelled_item label) (record { width = 0; id = None }) (changed_by (Some number) (λ (x : LinkedItem). record x { width = width; allocated = true }) items) number ≡ record { width = width; id = Some (label + 65536 * field_at (λ (x : LinkedItem). x.generation) 0 items number) }
front-changed [] label number width within = absurd (omega arith)
front-changed (x ∷ xs) label zero width within = refl
front-changed (x ∷ xs) label (suc number) width within = front-changed xs label number width (omega arith)

-- what an item says after its front was given
pub record IsFront (items new : List LinkedItem) (number width : ℕ) : Type 0 where
  pub item : item_at new number ≡ record { width = width; id = Some (id_at items number) }
  pub place : item_place_of new number ≡ item_place_of items number
  pub shelf : shelf_of new number ≡ shelf_of items number
  pub allocated : is_allocated_at new number ≡ true
  pub others : (k : ℕ) → number ≢ k → SameItem items new k

pub front-values : (records : Records) (shelf number rest width : ℕ) → number < length records.items → IsFront records.items (front_given shelf number rest width records).items number width
front-values records shelf number rest width within =
    let items : List LinkedItem = records.items in
    let change : LinkedItem → LinkedItem = λ x. record x { width = width; allocated = true } in
    let one : List LinkedItem = linked_between item_chain (Some number) (link_at item_chain.next items number) rest items in
    let two : List LinkedItem = linked_between free_list (Some number) (link_at free_list.next one number) rest one in
    let three : List LinkedItem = unlinked free_list number two in
    let new : List LinkedItem = changed_by (Some number) change three in
    let values : map item_values three ≡ map item_values items =
    map-unlinked free_list item_values frees-keep_values two number
    ∙ map-linked_between free_list item_values frees-keep_values one (Some number) (link_at free_list.next one number) rest
    ∙ map-linked_between item_chain item_values items-keep_values items (Some number) (link_at item_chain.next items number) rest in
    let same : (k : ℕ) → SameItem items three k = λ k. items-same items three k values in
    let long : length three ≡ length items =
    length-unlinked free_list two number ∙ length-linked_between free_list one (Some number) (link_at free_list.next one number) rest ∙ length-linked_between item_chain items (Some number) (link_at item_chain.next items number) rest in
    let inside : number < length three = rw long within in
    let generation : field_at (λ (x : LinkedItem). x.generation) 0 three number ≡ field_at (λ (x : LinkedItem). x.generation) 0 items number =
    values-same item_values (λ (v : ItemValues). v.generation) 0 items three number values in
    record {
      item = front-changed three number number width inside ∙ ap (λ g. record { width = width; id = Some (number + 65536 * g) }) generation;
      place = field_at-kept (λ (x : LinkedItem). x.x) 0 change three number number (λ x. refl) ∙ (same number).place;
      shelf = field_at-kept (λ (x : LinkedItem). x.shelf) 0 change three number number (λ x. refl) ∙ (same number).shelf;
      allocated = field_at-changed (λ (x : LinkedItem). x.allocated) false change three number true inside (λ x. refl);
      others = λ k other. SameItem-then items three new k (same k)
          (item-same three new k (get-changed_by-other change three (Some number) k (λ e. let eq : number ≡ k = cc in other eq)));
    }

-- what the record of the rest of an item says before the front is given
pub record IsRestItem (items : List LinkedItem) (owner number rest given : ℕ) : Type 0 where
  pub width : (item_at items number).width ≡ given + (item_at items rest).width
  pub place : item_place_of items rest ≡ item_place_of items number + given
  pub shelf : shelf_of items rest ≡ owner
  pub free : is_allocated_at items rest ≡ false

-- the items lie side by side where one gave its front
front-places : (items new : List LinkedItem) (here : ℕ) (front back : List ℕ) (shelf number rest width : ℕ) → number ≢ rest → ((k : ℕ) → 1 ≤ times k front → SameItem items new k) → ((k : ℕ) → 1 ≤ times k back → SameItem items new k) → IsRestItem items shelf number rest width → IsFront items new number width → LieFrom items here (front ++ number ∷ back) → LieFrom new here (front ++ number ∷ rest ∷ back)
front-places items new here front back shelf number rest width apart same_front same_back is_rest is_front lies =
    let lie_back : LieFrom items (here + widths items front) (number ∷ back) = LieFrom-back items here front (number ∷ back) lies in
    let middle : ℕ = here + widths items front in
    let same_middle : here + widths new front ≡ middle = ap (λ w. here + w) (widths-same items new front same_front) in
    let rest_same : SameItem items new rest = is_front.others rest apart in
    let own_width : (item_at new number).width ≡ width = ap (λ (i : Item). i.width) is_front.item in
    let rest_width : (item_at new rest).width ≡ (item_at items rest).width = ap (λ (i : Item). i.width) rest_same.item in
    let ends : middle + (item_at items number).width ≡ middle + (item_at new number).width + (item_at new rest).width =
    omega (arith, own_width, rest_width, is_rest.width) in
    let moved : LieFrom items (middle + (item_at new number).width + (item_at new rest).width) back = rw (← ends) lie_back.1 in
    let rest_place : item_place_of new rest ≡ middle + (item_at new number).width =
    omega (arith, rest_same.place, is_rest.place, lie_back.0, own_width) in
    let tail : LieFrom new (here + widths new front) (number ∷ rest ∷ back) =
    rw same_middle (is_front.place ∙ lie_back.0, (rest_place, LieFrom-same items new (middle + (item_at new number).width + (item_at new rest).width) back same_back moved)) in
    LieFrom-append new here front (number ∷ rest ∷ back) (LieFrom-same items new here front same_front (LieFrom-front items here front (number ∷ back) lies)) tail

-- the records after the front of a free item was given
pub front_given-spelled : {atlas : AtlasRecords} (around : Around) (shelf number rest width : ℕ) (front back free_front free_back : List ℕ) → is_allocated_at atlas.records.items number ≡ false → IsRestItem atlas.records.items shelf number rest width → IsSpelledExcept atlas (with_entry around (entry_of shelf (front ++ number ∷ back) (free_front ++ number ∷ free_back))) (rest ∷ []) [] → EditsItems atlas (front_given shelf number rest width atlas.records) around around.unused_items (entry_of shelf (front ++ number ∷ back) (free_front ++ number ∷ free_back)) (entry_of shelf (front ++ number ∷ rest ∷ back) (free_front ++ rest ∷ free_back))
front_given-spelled {atlas} around shelf number rest width front back free_front free_back is_free is_rest spelled =
    let items : List LinkedItem = atlas.records.items in
    let records : Records = front_given shelf number rest width atlas.records in
    let numbers : List ℕ = front ++ number ∷ back in
    let free : List ℕ = free_front ++ number ∷ free_back in
    let entry : Entry = entry_of shelf numbers free in
    let apart = linked-apart around entry spelled.linked in
    let placed : IsPlaced atlas entry = Each-middle (IsPlaced atlas) around.before entry around.after spelled.placed in
    let own_stands : 1 ≤ times number numbers = omega (arith, times-append number front (number ∷ back), times-here number back) in
    let within : number < length items = apart.within number own_stands in
    let rest_absent : times rest numbers ≡ 0 = apart.loose_items rest (omega (arith, times-here rest [])) in
    let differ : number ≢ rest = λ e. let again : 1 ≤ times rest numbers = rw (← e) own_stands in omega (arith, again, rest_absent) in
    let given : IsFront items records.items number width = front-values atlas.records shelf number rest width within in
    let same : (k : ℕ) → SameShelf atlas.records.shelves records.shelves k = λ k.
    shelves-same atlas.records.shelves records.shelves k (first-kept) in
    let same_front : (k : ℕ) → 1 ≤ times k front → SameItem items records.items k = λ k stands. given.others k (before-other front back number k (apart.once k) stands) in
    let same_back : (k : ℕ) → 1 ≤ times k back → SameItem items records.items k = λ k stands. given.others k (after-other front back number k (apart.once k) stands) in
    let rest_same : SameItem items records.items rest = given.others rest differ in
    let owned = Each-back (λ item. shelf_of items item ≡ shelf) front (number ∷ back) placed.owners in
    let kept_front : (k : ℕ) → free_count records.items k front ≡ free_count items k front = λ k. free_count-same items records.items k front (λ n stands. (same_front n stands).allocated) in
    let kept_back : (k : ℕ) → free_count records.items k back ≡ free_count items k back = λ k. free_count-same items records.items k back (λ n stands. (same_back n stands).allocated) in
    record {
      number = refl;
      linked = front_given-linked around shelf number rest width front back free_front free_back spelled.linked;
      placed =
          record {
            owners = Each-append (λ item. shelf_of records.items item ≡ shelf) front (number ∷ rest ∷ back)
                (owners-same items records.items shelf front same_front (Each-front (λ item. shelf_of items item ≡ shelf) front (number ∷ back) placed.owners))
                (given.shelf ∙ owned.0, (rest_same.shelf ∙ is_rest.shelf, owners-same items records.items shelf back same_back owned.1));
            along = ap (λ a. a % atlas.frame.column_width) (same shelf).along ∙ placed.along;
            places = rw (same shelf).along (front-places items records.items (along_of atlas.records.shelves shelf) front back shelf number rest width differ same_front same_back is_rest given placed.places);
            free_list = λ k. omega (
              arith,
              placed.free_list k,
              kept_front k,
              kept_back k,
              times-append k free_front (number ∷ free_back),
              times-append k free_front (rest ∷ free_back),
              free_count-append records.items k front (number ∷ rest ∷ back),
              free_count-append items k front (number ∷ back),
              free_count-allocated records.items k number (rest ∷ back) given.allocated,
              free_count-free records.items k rest back (rest_same.allocated ∙ is_rest.free),
              free_count-free items k number back is_free,
            );
          };
      items = λ k gone. given.others k (not-member front back number k gone);
      shelf = same;
      left_unused = unmarked-same items records.items around.unused_items
          (λ k stands. given.others k (not-member front back number k (omega (arith, apart.others k (omega (arith, stands)))))) spelled.unused;
    }
  where
    first-kept : map shelf_values (front_given shelf number rest width atlas.records).shelves ≡ map shelf_values atlas.records.shelves
    first-kept =
        let one : List LinkedItem = linked_between item_chain (Some number) (link_at item_chain.next atlas.records.items number) rest atlas.records.items in
        let two : List LinkedItem = linked_between free_list (Some number) (link_at free_list.next one number) rest one in
        free-first shelf (first_without (link_at free_list.previous two number) (link_at free_list.next two number) (first_free_of atlas.records.shelves shelf)) atlas.records.shelves
