-- Records that spell lists, after those for the rests of a placement were put to use and its shelf was split.
use Rattle.shelf_records.proofs.AllLists.LinkedEdits.{Around, with_entry}
use Rattle.std.proofs.Common.{◌≡◌, ℕ, ◌+◌, ◌-◌, ◌≤◌, Bool, true, false, Option, None, Some, List, [], ◌∷◌, ◌++◌, length, refl, arith, subst, sym}
use Rattle.std.specs.Prelude.{◌/◌, if◌then◌else◌}
use Rattle.etagere_links.specs.Links.{no_link}
use Rattle.shelf_records.proofs.AllLists.LinkedItems.{entry_of}
use Rattle.shelf_records.specs.RecordLists.{Records, Entry, Lists}
use Rattle.shelf_records.specs.RecordUses.{number_used, item_used, rests_used}
use Rattle.shelf_records.proofs.AllLists.LinkedUnused.{lists_of}
use Rattle.shelf_records.proofs.AllLists.LinkedUses.{but_first}
use Rattle.shelf_records.specs.AtlasRecords.{AtlasRecords, along_of, height_of}
use Rattle.shelf_model.specs.Choice.{Placement}
use Rattle.shelf_store.specs.Private.PlacementTaken.{with_shelf_rest}
use Rattle.shelf_model.specs.State.{empty_shelf}
use Rattle.shelf_store.proofs.Grown.MadeLinked.{loose-counted}
use Rattle.shelf_store.proofs.Spelled.SpelledLists.{IsSpelled}
use Rattle.shelf_store.proofs.Spelled.SpelledSplits.{HasShelfSplit, split-none, split-shelf}
use Rattle.shelf_store.proofs.Spelled.SpelledUses.{IsUsed, used-item, used-shelf, same-shelf}

-- a number where it is wanted, as a link
abbrev pub link_where : Bool → ℕ → Option ℕ
link_where false number = None
link_where true number = Some number

-- a number where it is wanted, as a list
abbrev pub list_where : Bool → ℕ → List ℕ
list_where false number = []
list_where true number = number ∷ []

-- records of which none was put to use
used-none : {atlas : AtlasRecords} {lists : Lists} → IsSpelled atlas lists → length atlas.records.shelves ≤ no_link → IsUsed atlas atlas.records lists [] []
used-none {atlas} spelled few =
    record {
      spelled = spelled;
      items = λ k stands. refl;
      shelves = λ k. same-shelf atlas.records.shelves k;
      more = omega arith;
      made = λ some. refl;
      few = few;
    }

-- the order of two records in no list doesn't matter
loose-swapped : {atlas : AtlasRecords} {new : Records} {lists : Lists} {one two : ℕ} {loose_shelves : List ℕ} → IsUsed atlas new lists (one ∷ two ∷ []) loose_shelves → IsUsed atlas new lists (two ∷ one ∷ []) loose_shelves
loose-swapped {atlas} {new} {lists} {one} {two} used =
    record {
      spelled = record {
        linked = loose-counted used.spelled.linked (λ k. omega arith) (λ k. refl);
        placed = used.spelled.placed;
        stacked = used.spelled.stacked;
        unused = used.spelled.unused;
      };
      items = used.items;
      shelves = used.shelves;
      more = used.more;
      made = used.made;
      few = used.few;
    }

-- the records for the rests: their numbers, and that they stand in no list
pub record AreRests (of_shelf of_item : Bool) (atlas : AtlasRecords) (entries : List Entry) : Type 0 where
  pub shelf : ℕ
  pub shelf_item : ℕ
  pub item : ℕ
  pub unused_items : List ℕ
  pub unused_shelves : List ℕ
  pub shelf_is : number_used of_shelf atlas.records.unused_shelves atlas.records.shelves ≡ link_where of_shelf shelf
  pub shelf_item_is : number_used of_shelf atlas.records.unused_items atlas.records.items ≡ link_where of_shelf shelf_item
  pub item_is : number_used of_item (item_used of_shelf atlas.records).unused_items (item_used of_shelf atlas.records).items ≡ link_where of_item item
  pub used : IsUsed atlas (rests_used of_shelf of_item atlas.records) (lists_of entries unused_items unused_shelves) (list_where of_shelf shelf_item ++ list_where of_item item) (list_where of_shelf shelf)

-- those that a placement needs are there
pub are-rests : (of_shelf of_item : Bool) (atlas : AtlasRecords) (lists : Lists) → length atlas.records.shelves ≤ no_link → (of_shelf ≡ true → lists.unused_shelves ≡ [] → length atlas.records.shelves + 1 ≤ no_link) → IsSpelled atlas lists → AreRests of_shelf of_item atlas lists.entries
are-rests false false atlas lists few room spelled =
    record {
      shelf = 0;
      shelf_item = 0;
      item = 0;
      unused_items = lists.unused_items;
      unused_shelves = lists.unused_shelves;
      shelf_is = refl;
      shelf_item_is = refl;
      item_is = refl;
      used = used-none spelled few;
    }
are-rests false true atlas lists few room spelled =
    let one = used-item (used-none spelled few) in
    record {
      shelf = 0;
      shelf_item = 0;
      item = one.number;
      unused_items = but_first lists.unused_items;
      unused_shelves = lists.unused_shelves;
      shelf_is = refl;
      shelf_item_is = refl;
      item_is = one.is;
      used = one.used;
    }
are-rests true false atlas lists few room spelled =
    let one = used-item (used-none spelled few) in
    let two = used-shelf one.used (room refl) in
    record {
      shelf = two.number;
      shelf_item = one.number;
      item = 0;
      unused_items = but_first lists.unused_items;
      unused_shelves = but_first lists.unused_shelves;
      shelf_is = two.is;
      shelf_item_is = one.is;
      item_is = refl;
      used = two.used;
    }
are-rests true true atlas lists few room spelled =
    let one = used-item (used-none spelled few) in
    let two = used-shelf one.used (room refl) in
    let three = used-item two.used in
    record {
      shelf = two.number;
      shelf_item = one.number;
      item = three.number;
      unused_items = but_first (but_first lists.unused_items);
      unused_shelves = but_first lists.unused_shelves;
      shelf_is = two.is;
      shelf_item_is = one.is;
      item_is = three.is;
      used = loose-swapped three.used;
    }

-- the shelf that stands after one that is split
abbrev pub added_where : Bool → ℕ → ℕ → List Entry
added_where false shelf item = []
added_where true shelf item = entry_of shelf (item ∷ []) (item ∷ []) ∷ []

-- the shelf of a placement was split where that is due
pub split-where : (of_shelf : Bool) (atlas : AtlasRecords) (used : Records) (around : Around) (entry : Entry) (placement : Placement) (item rest rest_item : ℕ) (loose : List ℕ) → (of_shelf ≡ true → placement.height ≤ height_of atlas.records.shelves entry.number) → (of_shelf ≡ false → placement.height ≡ height_of atlas.records.shelves entry.number) → IsUsed atlas used (with_entry around entry) (list_where of_shelf rest_item ++ loose) (list_where of_shelf rest) → HasShelfSplit atlas (with_shelf_rest atlas.frame.column_width (record placement { shelf = entry.number; item = item }) (link_where of_shelf rest) (link_where of_shelf rest_item) used) around (added_where of_shelf rest rest_item) entry loose placement.height (if of_shelf then empty_shelf atlas.frame (along_of atlas.records.shelves entry.number / atlas.frame.column_width) (height_of atlas.records.shelves entry.number - placement.height) ∷ [] else [])
split-where false atlas used around entry placement item rest rest_item loose tall full is_used =
    subst (λ (tall : ℕ). HasShelfSplit atlas used around [] entry loose tall []) (sym (full refl))
    (split-none used around entry loose is_used)
split-where true atlas used around entry placement item rest rest_item loose tall full is_used =
    split-shelf used around entry rest rest_item placement.height loose (tall refl) is_used
