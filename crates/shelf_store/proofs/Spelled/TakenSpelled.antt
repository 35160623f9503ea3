-- Records that spell lists, after a placement was taken: they spell the shelves of the model.
use Rattle.shelf_records.proofs.AllLists.LinkedEdits.{Around, around_of, with_entry}
use Rattle.std.proofs.Common.{◌≡◌, ℕ, ◌+◌, ◌-◌, ◌<◌, ◌≤◌, Bool, true, false, Option, Some, List, [], ◌∷◌, ◌++◌, length, map, refl, ap, arith, ◌∙◌, sym, subst}
use Rattle.std.specs.Prelude.{if◌then◌else◌}
use Rattle.etagere_base.proofs.EachLemmas.{Each-middle}
use Rattle.std.specs.List.{AllByRecursion}
use Rattle.shelf_records.specs.declared.records.LinkedShelf.{LinkedShelf}
use Rattle.etagere_links.specs.Links.{no_link}
use Rattle.shelf_records.specs.RecordEdits.{shelf_changed}
use Rattle.shelf_records.specs.RecordLists.{Records, Entry, Lists, first_item_of, shelf_numbers, IsEntry}
use Rattle.shelf_records.specs.RecordUses.{number_used, item_used, rests_used}
use Rattle.shelf_records.proofs.AllLists.LinkedFrames.{shelf_numbers-append}
use Rattle.shelf_records.proofs.AllLists.LinkedUnused.{lists_of}
use Rattle.etagere_links.proofs.RecordChanges.{length-changed_by}
use Rattle.shelf_records.specs.AtlasRecords.{AtlasRecords, height_of, spelled_shelf}
use Rattle.shelf_model.specs.Choice.{Placement}
use Rattle.shelf_store.specs.Private.ItemReturned.{names_one_free}
use Rattle.shelf_records.proofs.Spelled.Witnessed.{HasFlag}
use Rattle.shelf_store.specs.Private.PlacementTaken.{id_of, item_record, placement_taken, with_item_given, with_shelf_rest}
use Rattle.shelf_model.specs.State.{Shelf, empty_shelf, is_empty}
use Rattle.shelf_model.specs.Taking.{shelf_pieces}
use Rattle.shelf_store.proofs.Spelled.EmptinessSaid.{IsFlagged, emptiness_said-flagged, one-free}
use Rattle.shelf_store.proofs.Spelled.GivenItems.{IsItemGiven, item-whole, item-front}
use Rattle.shelf_store.proofs.Spelled.SpelledLists.{with_records, IsSpelled}
use Rattle.shelf_store.proofs.Spelled.SpelledSplits.{HasShelfSplit}
use Rattle.shelf_store.proofs.Spelled.TakenItemSpelled.{IsPlacedAt, taken_from, FreeSpot, spot_entry}
use Rattle.shelf_store.proofs.Spelled.TakenRests.{AreRests, added_where, are-rests, split-where, link_where, list_where}

-- the item of a placement was given: its front or all of it
given-where : (of_item : Bool) (atlas : AtlasRecords) (split_records : Records) (around : Around) (added : List Entry) (spot : FreeSpot) (rest : ℕ) (placement : Placement) (rests : List Shelf) → placement.splits_item ≡ of_item → spot.number < length atlas.records.items → IsPlacedAt atlas.records.items placement spot → AllByRecursion (IsEntry atlas.records) (around.before ++ spot_entry spot ∷ around.after) → HasShelfSplit atlas split_records around added (spot_entry spot) (list_where of_item rest) placement.height rests → IsItemGiven atlas (with_item_given (record placement { shelf = spot.shelf; item = spot.number }) (link_where of_item rest) split_records) around added (spot_entry spot) (taken_from of_item placement (id_of atlas.records.items spot.number) (spelled_shelf atlas (spot_entry spot))) rests
given-where false atlas split_records around added spot rest placement rests whole within is are split_is =
    item-whole split_records around added spot placement rests within is whole are split_is
given-where true atlas split_records around added spot rest placement rests split within is are split_is =
    item-front split_records around added spot rest (item_record split_records.items rest).generation placement rests within is split are split_is

-- a shelf is marked as one that is not empty
abbrev cleared : ℕ → Bool → Records → Records
cleared shelf value records = shelf_changed shelf (λ (here : LinkedShelf). record here { is_empty = value }) records

-- a shelf that is not empty was marked so
flag-cleared : (atlas : AtlasRecords) (given : Records) (around : Around) (edited : Entry) (shelf : ℕ) → edited.number ≡ shelf → AllByRecursion (HasFlag (with_records atlas given)) around.before → AllByRecursion (HasFlag (with_records atlas given)) around.after → IsSpelled (with_records atlas given) (with_entry around edited) → is_empty (spelled_shelf (with_records atlas given) edited) ≡ false → IsFlagged (with_records atlas (cleared shelf false given)) (with_entry around edited) × (map (spelled_shelf (with_records atlas (cleared shelf false given))) (around.before ++ edited ∷ around.after) ≡ map (spelled_shelf (with_records atlas given)) (around.before ++ edited ∷ around.after))
flag-cleared atlas given around edited shelf number flags_before flags_after spelled full =
    let is : IsEntry given edited = Each-middle (IsEntry given) around.before edited around.after spelled.linked.entries in
    let value : names_one_free given.items (first_item_of given.shelves edited.number) ≡ false =
    one-free given.items (first_item_of given.shelves edited.number) edited.items is.items ∙ full in
    let P : ℕ → Bool → Type 0 = λ n v.
    IsFlagged (with_records atlas (cleared n v given)) (with_entry around edited)
    × (map (spelled_shelf (with_records atlas (cleared n v given))) (around.before ++ edited ∷ around.after) ≡ map (spelled_shelf (with_records atlas given)) (around.before ++ edited ∷ around.after)) in
    subst (λ (n : ℕ). P n false) number
    (subst (P edited.number) value (emptiness_said-flagged around edited flags_before flags_after spelled))

-- the numbers of the shelf that stands after one that is split, and of those after it
added-numbers : (of_shelf : Bool) (rest item : ℕ) (after : List Entry) → shelf_numbers (added_where of_shelf rest item ++ after) ≡ list_where of_shelf rest ++ shelf_numbers after
added-numbers false rest item after = refl
added-numbers true rest item after = refl

-- records after a placement was taken: the lists that they spell, their numbers, and these the shelves of the model
pub record IsTakenBy (atlas : AtlasRecords) (new : Records) (before after : List Entry) (number : ℕ) (shelf : Shelf) (placement : Placement) (id : ℕ) : Type 0 where
  pub lists : Lists
  pub rest : ℕ
  pub item : ℕ
  pub rest_is : number_used placement.splits_shelf atlas.records.unused_shelves atlas.records.shelves ≡ link_where placement.splits_shelf rest
  pub item_is : number_used placement.splits_shelf atlas.records.unused_items atlas.records.items ≡ link_where placement.splits_shelf item
  pub numbers : shelf_numbers lists.entries ≡ shelf_numbers before ++ number ∷ (list_where placement.splits_shelf rest ++ shelf_numbers after)
  pub flagged : IsFlagged (with_records atlas new) lists
  pub shelves : map (spelled_shelf (with_records atlas new)) lists.entries ≡ map (spelled_shelf atlas) before ++ (shelf_pieces atlas.frame placement id shelf ++ map (spelled_shelf atlas) after)
  pub more : length atlas.records.items ≤ length new.items
  pub made : 1 ≤ length lists.unused_items → length new.items ≡ length atlas.records.items
  pub few : length new.shelves ≤ no_link

-- a placement was taken in records that spell lists, of which one names its shelf, and that its item
pub taken-spelled : {atlas : AtlasRecords} (around : Around) (spot : FreeSpot) (placement : Placement) → spot.number < length atlas.records.items → IsPlacedAt atlas.records.items placement spot → (placement.splits_shelf ≡ true → placement.height ≤ height_of atlas.records.shelves spot.shelf) → (placement.splits_shelf ≡ false → placement.height ≡ height_of atlas.records.shelves spot.shelf) → length atlas.records.shelves ≤ no_link → (placement.splits_shelf ≡ true → around.unused_shelves ≡ [] → length atlas.records.shelves + 1 ≤ no_link) → is_empty (taken_from placement.splits_item placement (id_of atlas.records.items spot.number) (spelled_shelf atlas (spot_entry spot))) ≡ false → AllByRecursion (HasFlag atlas) around.before → AllByRecursion (HasFlag atlas) around.after → IsSpelled atlas (with_entry around (spot_entry spot)) → IsTakenBy atlas (placement_taken atlas.frame.column_width (record placement { shelf = spot.shelf; item = spot.number }) atlas.records) around.before around.after spot.shelf (spelled_shelf atlas (spot_entry spot)) placement (id_of atlas.records.items spot.number)
taken-spelled {atlas} around spot placement within is tall full few room not_empty flags_before flags_after spelled =
    let of_shelf : Bool = placement.splits_shelf in
    let of_item : Bool = placement.splits_item in
    let records : Records = atlas.records in
    let found : Placement = record placement { shelf = spot.shelf; item = spot.number } in
    let entry : Entry = spot_entry spot in
    let cw : ℕ = atlas.frame.column_width in
    let id : ℕ = id_of records.items spot.number in
    let used : Records = rests_used of_shelf of_item records in
    let rests : AreRests of_shelf of_item atlas (around.before ++ entry ∷ around.after) = are-rests of_shelf of_item atlas (with_entry around entry) few room spelled in
    let added : List Entry = added_where of_shelf rests.shelf rests.shelf_item in
    let pieces : List Shelf = rests_pieces of_shelf (spelled_shelf atlas entry) in
    let taken : Shelf = taken_from of_item placement id (spelled_shelf atlas entry) in
    let is_split : HasShelfSplit atlas (with_shelf_rest cw found (link_where of_shelf rests.shelf) (link_where of_shelf rests.shelf_item) used) (around_of around.before around.after rests.unused_items rests.unused_shelves) added entry (list_where of_item rests.item) placement.height pieces =
    split-where of_shelf atlas used (around_of around.before around.after rests.unused_items rests.unused_shelves) entry placement spot.number rests.shelf rests.shelf_item (list_where of_item rests.item) tall full rests.used in
    let Given : Option ℕ → Option ℕ → Option ℕ → Type 0 = λ a b c.
    IsItemGiven atlas (with_item_given found c (with_shelf_rest cw found a b used)) (around_of around.before around.after rests.unused_items rests.unused_shelves) added entry taken pieces in
    let one : Given (link_where of_shelf rests.shelf) (link_where of_shelf rests.shelf_item) (link_where of_item rests.item) =
    given-where of_item atlas (with_shelf_rest cw found (link_where of_shelf rests.shelf) (link_where of_shelf rests.shelf_item) used) (around_of around.before around.after rests.unused_items rests.unused_shelves) added spot rests.item placement pieces refl within is spelled.linked.entries is_split in
    let two : Given (number_used of_shelf records.unused_shelves records.shelves) (link_where of_shelf rests.shelf_item) (link_where of_item rests.item) =
    subst (λ (o : Option ℕ). Given o (link_where of_shelf rests.shelf_item) (link_where of_item rests.item)) (sym rests.shelf_is) one in
    let three : Given (number_used of_shelf records.unused_shelves records.shelves) (number_used of_shelf records.unused_items records.items) (link_where of_item rests.item) =
    subst (λ (o : Option ℕ). Given (number_used of_shelf records.unused_shelves records.shelves) o (link_where of_item rests.item)) (sym rests.shelf_item_is) two in
    let given : Given (number_used of_shelf records.unused_shelves records.shelves) (number_used of_shelf records.unused_items records.items) (number_used of_item (item_used of_shelf records).unused_items (item_used of_shelf records).items) =
    subst (λ (o : Option ℕ). Given (number_used of_shelf records.unused_shelves records.shelves) (number_used of_shelf records.unused_items records.items) o) (sym rests.item_is) three in
    let last : Records = with_item_given found (number_used of_item (item_used of_shelf records).unused_items (item_used of_shelf records).items) (with_shelf_rest cw found (number_used of_shelf records.unused_shelves records.shelves) (number_used of_shelf records.unused_items records.items) used) in
    let done = flag-cleared atlas last (around_of around.before (added ++ around.after) rests.unused_items rests.unused_shelves) given.edited spot.shelf given.number (given.flags_before flags_before) (given.flags_after flags_after) given.spelled (ap is_empty given.own ∙ not_empty) in
    record {
      lists = lists_of (around.before ++ given.edited ∷ (added ++ around.after)) rests.unused_items rests.unused_shelves;
      rest = rests.shelf;
      item = rests.shelf_item;
      rest_is = rests.shelf_is;
      item_is = rests.shelf_item_is;
      numbers = shelf_numbers-append around.before (given.edited ∷ (added ++ around.after))
          ∙ ap (λ (n : ℕ). shelf_numbers around.before ++ n ∷ shelf_numbers (added ++ around.after)) given.number
          ∙ ap (λ (ns : List ℕ). shelf_numbers around.before ++ spot.shelf ∷ ns) (added-numbers of_shelf rests.shelf rests.shelf_item around.after);
      flagged = done.0;
      shelves = done.1 ∙ given.shelves;
      more = given.more;
      made = given.made;
      few = omega (arith, given.few, length-changed_by (λ (here : LinkedShelf). record here { is_empty = false }) last.shelves (Some spot.shelf));
    }
  where
    rests_pieces : Bool → Shelf → List Shelf
    rests_pieces of_shelf whole = if of_shelf then empty_shelf atlas.frame whole.column (whole.height - placement.height) ∷ [] else []
