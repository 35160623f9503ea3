-- Kept records in which a placement was located: the lists that they spell, with its shelf and item in view, and that there
-- is room for what it splits.
use Rattle.std.proofs.Common.{◌≡◌, ℕ, ◌+◌, ◌<◌, ◌≤◌, ℤ, Bool, true, false, Some, List, [], ◌∷◌, ◌++◌, length, map, refl, ap, arith, subst}
use Rattle.std.proofs.lemmas.List.{length-append}
use Rattle.std.specs.Prelude.{nat_lt, if◌then◌else◌}
use Rattle.etagere_base.proofs.EachLemmas.{Each-weaken}
use Rattle.etagere_base.proofs.TimesLemmas.{times-append}
use Rattle.std.specs.List.{AllByRecursion}
use Rattle.etagere_base.specs.Lists.{times}
use Rattle.etagere_base.specs.declared.frames.Frame.{Frame}
use Rattle.etagere_base.specs.declared.geometry.Size.{Size}
use Rattle.etagere_links.specs.Links.{no_link}
use Rattle.shelf_records.proofs.AllLists.LinkedItems.{entry_of}
use Rattle.shelf_records.proofs.AllLists.LinkedEdits.{linked-apart, around_of}
use Rattle.shelf_records.specs.RecordLists.{Records, Entry, Lists, IsLinkedExcept, shelf_numbers, walked_lists}
use Rattle.etagere_links.specs.Lists.{HasEachOnce}
use Rattle.shelf_records.proofs.AllLists.LinkedUnused.{lists_of}
use Rattle.etagere_links.proofs.WalkedLists.{once-part}
use Rattle.etagere_links.proofs.ListEnds.{times-here}
use Rattle.etagere_links.proofs.Tallies.{length-each}
use Rattle.shelf_records.specs.AtlasRecords.{AtlasRecords, spelled_shelf}
use Rattle.shelf_model.specs.Choice.{Placement, placement_of}
use Rattle.shelf_records.specs.Private.Kept.{AreKept, Locates, atlas_of, state_of}
use Rattle.shelf_records.proofs.Spelled.Witnessed.{IsPlaced}
use Rattle.shelf_records.specs.StandsFor.{AreStacked}
use Rattle.shelf_model.specs.State.{Item, items_in_use, total_width}
use Rattle.shelf_model.specs.Valid.{IsShelf}
use Rattle.shelf_model.proofs.Chosen.Placed.{placement_of-placed}
use Rattle.shelf_store.proofs.Spelled.LocatedPlacements.{IsLocated, located}
use Rattle.shelf_store.proofs.Spelled.SpelledLists.{IsSpelled}
use Rattle.shelf_records.proofs.Spelled.StandsKept.{witnesses}

-- numbers of which each below the count stands once, and no other, are so many
pub each-length : (count : ℕ) (xs : List ℕ) → HasEachOnce count xs → length xs ≡ count
each-length count xs once =
    length-each count xs (λ k below. at_test k (nat_lt k count) refl below) (λ k stands. (once-part count xs k (times k xs) once (omega arith)).1 stands)
  where
    at_test : (k : ℕ) (b : Bool) → nat_lt k count ≡ b → k < count → times k xs ≡ 1
    at_test k true e below = grind (arith, once k)
    at_test k false e below = absurd (grind arith)

-- shelves are no more than their items
pub shelves-few : (atlas : AtlasRecords) (entries : List Entry) → 1 ≤ atlas.frame.column_width → AllByRecursion (IsShelf atlas.frame) (map (spelled_shelf atlas) entries) → length (shelf_numbers entries) ≤ items_in_use (map (spelled_shelf atlas) entries)
shelves-few atlas [] wide each = omega arith
shelves-few atlas (entry ∷ entries) wide each =
    omega (arith, some (spelled_shelf atlas entry).items each.0.width, shelves-few atlas entries wide each.1)
  where
    some : (items : List Item) → total_width items ≡ atlas.frame.column_width → 1 ≤ length items
    some [] width = absurd (omega (arith, width, wide))
    some (item ∷ items) width = omega arith

-- an atlas that says that another space is allocated has its shelves placed alike
pub other-space : (one two : AtlasRecords) (entries : List Entry) → one.frame ≡ two.frame → one.records ≡ two.records → AllByRecursion (IsPlaced one) entries → AllByRecursion (IsPlaced two) entries
other-space one two entries frame lists each =
    Each-weaken (IsPlaced one) (IsPlaced two) entries
    (λ entry placed. record {
      owners = rw (← lists) placed.owners;
      along = rw (← lists, ← frame) placed.along;
      places = rw (← lists) placed.places;
      free_list = rw (← lists) placed.free_list;
    }) each

-- records in which a placement was located
pub record IsReady (frame : Frame) (records : Records) (placement : Placement) (shelf number : ℕ) : Type 0 where
  pub is : IsLocated frame records placement shelf number
  pub spelled :
      (space : ℤ) → IsSpelled (record { frame = frame; records = records; allocated_space = space })
      (lists_of (is.before ++ entry_of shelf (is.front ++ number ∷ is.back) (is.free_front ++ number ∷ is.free_back) ∷ is.after) (walked_lists records).unused_items (walked_lists records).unused_shelves)
  pub within : number < length records.items
  pub shelf_within : shelf < length records.shelves
  pub room : placement.splits_shelf ≡ true → (walked_lists records).unused_shelves ≡ [] → length records.shelves + 1 ≤ no_link

-- where a shelf is split there is a split
some-split : (of_shelf of_item : Bool) → of_shelf ≡ true → 1 ≤ (if of_shelf then 1 else 0) + (if of_item then 1 else 0)
some-split true true e = omega arith
some-split true false e = omega arith
some-split false of_item e = cc

-- a placement of a size that was located
pub ready : (frame : Frame) (records : Records) (size : Size) (placement found : Placement) → AreKept frame records → placement_of (state_of frame records) size ≡ Some placement → (locates : Locates records found placement) → IsReady frame records placement locates.entry.number found.item
ready frame records size placement found kept h locates =
    let number : ℕ = found.item in
    let shelf : ℕ = locates.entry.number in
    let lists : Lists = walked_lists records in
    let is : IsLocated frame records placement shelf number = located frame records size placement found kept h locates in
    let entry : Entry = entry_of shelf (is.front ++ number ∷ is.back) (is.free_front ++ number ∷ is.free_back) in
    let linked : IsLinkedExcept records (lists_of (is.before ++ entry ∷ is.after) lists.unused_items lists.unused_shelves) [] [] =
    subst (λ (es : List Entry). IsLinkedExcept records (lists_of es lists.unused_items lists.unused_shelves) [] []) is.entries (witnesses kept).linked in
    let apart = linked-apart (around_of is.before is.after lists.unused_items lists.unused_shelves) entry linked in
    let shelves : length (shelf_numbers lists.entries) + length lists.unused_shelves ≡ length records.shelves =
    omega (
      arith,
      each-length (length records.shelves) (shelf_numbers lists.entries ++ lists.unused_shelves ++ []) (witnesses kept).linked.shelves_once,
      length-append (shelf_numbers lists.entries ++ lists.unused_shelves) [],
      length-append (shelf_numbers lists.entries) lists.unused_shelves,
    ) in
    record {
      is = is;
      spelled = λ space.
          record {
            linked = linked;
            placed = subst (AllByRecursion (IsPlaced (record { frame = frame; records = records; allocated_space = space }))) is.entries
                (other-space (atlas_of frame records) (record { frame = frame; records = records; allocated_space = space }) lists.entries refl refl (witnesses kept).placed);
            stacked = subst (λ (es : List Entry). AreStacked records.shelves frame.column_width [] (shelf_numbers es)) is.entries (witnesses kept).stacked;
            unused = (witnesses kept).unused;
          };
      within = apart.within number (omega (arith, times-append number is.front (number ∷ is.back), times-here number is.back));
      shelf_within = apart.number;
      room = λ split none.
          omega (
            arith,
            shelves,
            ap length none,
            some-split placement.splits_shelf placement.splits_item split,
            (placement_of-placed (state_of frame records) size placement h).room,
            shelves-few (atlas_of frame records) lists.entries (witnesses kept).valid.frame.column_width (witnesses kept).valid.shelves,
          );
    }
