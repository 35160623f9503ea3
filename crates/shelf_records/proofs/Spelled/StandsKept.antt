-- The converse of `Witnesses`: records that stand for a state, and whose links fit their bits, are kept records. The
-- state that they spell is valid.
use Rattle.std.proofs.Common.{◌≡◌, pos, ℕ, ◌*◌, ◌<◌, ◌≤◌, List, [], ◌∷◌, ◌++◌, length, map, filter, not, ap, sym, subst, ◌∙◌, arith}
use Rattle.std.specs.Prelude.{◌/◌, ◌%◌}
use Rattle.std.proofs.lemmas.Nat.{div-add-mod'}
use Rattle.etagere_base.specs.declared.frames.Frame.{Frame}
use Rattle.etagere_base.specs.declared.faults.RestoreFault.TheVariants as faults
use Rattle.etagere_base.specs.declared.ids.Allocation.{Allocation}
use Rattle.std.specs.List.{AllByRecursion}
use Rattle.etagere_base.specs.Lists.{NoNeighbours, times}
use Rattle.etagere_base.proofs.EachLemmas.{Each-weaken}
use Rattle.etagere_base.proofs.TimesLemmas.{times-append}
use Rattle.etagere_links.proofs.WalkedLists.{IsPart, part-of}
use Rattle.etagere_links.proofs.Tallies.{length-once}
use Rattle.shelf_records.specs.RecordLists.{Records, Entry, item_numbers, unused_item_walk, walked_lists}
use Rattle.shelf_records.specs.AtlasRecords.{AtlasRecords, along_of, is_allocated_at, item_at, item_place_of, spelled_shelf, state_spelled, walked_entries}
use Rattle.shelf_model.specs.Merging.{both_free}
use Rattle.shelf_model.specs.Places.{allocations, column_place, free_places, record_number}
use Rattle.shelf_records.specs.Private.Kept.{AreFit, AreKept, atlas_of, state_of}
use Rattle.shelf_records.proofs.Spelled.Witnessed.{HasFlag, IsPlaced, Witnessed}
use Rattle.shelf_records.specs.StandsFor.{HasCounts, HasFreeList, HasItemLinks, HasItems, HasLinks, HasNeighbours, HasShelves, IsShared, StandsFor}
use Rattle.shelf_model.specs.Space.{space_in}
use Rattle.shelf_model.specs.State.{AtlasState, Shelf}
use Rattle.shelf_model.specs.Valid.{IsShelf, IsValid}
use Rattle.shelf_model.proofs.Allocations.EqualCounts.{times-map}
use Rattle.shelf_records.proofs.Spelled.SpelledNumbers.{items_in_use-spelled, marked-below, spelled-numbers}
use Rattle.shelf_records.proofs.Spelled.SpelledPlaces.{free_places-spelled}
use Rattle.shelf_records.proofs.Spelled.StandsLinked.{filter-times, stands-linked}
use Rattle.shelf_records.proofs.Spelled.Witnesses.{Each-unmap}

-- the shelf that a record spells begins along where the record says
along-spelled : (along width : ℕ) → along % width ≡ 0 → along / width * width ≡ along
along-spelled along width aligned = omega (arith, div-add-mod' along width, aligned)

module _ (atlas : AtlasRecords) where
  -- the items of a shelf fill its column
  abbrev HasRow : Entry → Type 0
  HasRow = HasItems atlas.frame atlas.records.shelves atlas.records.items

  -- the free list that a shelf's record spells has the place of each free item once
  free_list-spelled : (entry : Entry) → along_of atlas.records.shelves entry.number % atlas.frame.column_width ≡ 0
      → HasRow entry → HasFreeList atlas entry → (place : ℕ)
      → times place (spelled_shelf atlas entry).free_list
      ≡ times place (free_places (column_place atlas.frame (spelled_shelf atlas entry)) (spelled_shelf atlas entry).items)
  free_list-spelled entry aligned has free place =
      let items = atlas.records.items in
      let along = along_of atlas.records.shelves entry.number in
      times-map (item_place_of items) entry.free_list (filter (λ member. not (is_allocated_at items member)) entry.items) free.list.items place
      ∙ ap (times place) (sym (free_places-spelled items along entry.items has.places))
      ∙ ap (λ (n : ℕ). times place (free_places n (map (item_at items) entry.items))) (sym (along-spelled along atlas.frame.column_width aligned))

  -- the shelves that records spell are as shelves must be
  shelves-spelled : (entries : List Entry)
      → AllByRecursion (λ (shelf : Shelf). shelf.column < atlas.frame.columns) (map (spelled_shelf atlas) entries)
      → AllByRecursion (λ (shelf : Shelf). 1 ≤ shelf.height) (map (spelled_shelf atlas) entries)
      → AllByRecursion HasRow entries
      → AllByRecursion (λ (shelf : Shelf). NoNeighbours both_free shelf.items) (map (spelled_shelf atlas) entries)
      → AllByRecursion (HasFreeList atlas) entries
      → AllByRecursion (λ (entry : Entry). along_of atlas.records.shelves entry.number % atlas.frame.column_width ≡ 0) entries
      → AllByRecursion (IsShelf atlas.frame) (map (spelled_shelf atlas) entries)
  shelves-spelled [] columns heights has apart free along = tt
  shelves-spelled (entry ∷ entries) columns heights has apart free along = (
    record {
      column = columns.0;
      height = heights.0;
      items = has.0.items;
      width = has.0.width;
      apart = apart.0;
      free_list = free_list-spelled entry along.0 has.0 free.0;
    },
    shelves-spelled entries columns.1 heights.1 has.1 apart.1 free.1 along.1,
  )

  -- what a shelf's record and those of its items say, from the rules
  entries-placed : (entries : List Entry) → AllByRecursion (HasItemLinks atlas) entries
      → AllByRecursion (λ (entry : Entry). along_of atlas.records.shelves entry.number % atlas.frame.column_width ≡ 0) entries
      → AllByRecursion HasRow entries → AllByRecursion (HasFreeList atlas) entries → AllByRecursion (IsPlaced atlas) entries
  entries-placed [] links along has free = tt
  entries-placed (entry ∷ entries) links along has free = (
    record { owners = links.0.links.owners; along = along.0; places = has.0.places; free_list = free.0.list.items },
    entries-placed entries links.1 along.1 has.1 free.1,
  )

  module _ (state : AtlasState) (stands : StandsFor atlas state) where
    -- the numbers of the items in use
    abbrev numbers : List ℕ
    numbers = item_numbers (walked_entries atlas)

    -- the rules that are records
    counts : HasCounts atlas
    counts = stands.keeps faults.Counts

    shelves : HasShelves atlas.records.shelves (walked_entries atlas) (state_spelled atlas)
    shelves = stands.keeps faults.Shelves

    sharing : IsShared atlas
    sharing = stands.keeps faults.Sharing

    -- each is that of a record, and stands in one place
    numbers-part : IsPart (length atlas.records.items) numbers
    numbers-part =
        part-of (length atlas.records.items) (numbers ++ (unused_item_walk atlas.records).met) numbers sharing.items
        (λ k. omega (arith, times-append k numbers (unused_item_walk atlas.records).met))

    -- records that stand for a state spell a valid one
    spelled-valid : IsValid (state_spelled atlas)
    spelled-valid =
        let neighbours : HasNeighbours (state_spelled atlas) = stands.keeps faults.Neighbours in
        let marked = spelled-numbers atlas (walked_entries atlas) counts.items.1 in
        record {
          frame = stands.keeps faults.Frame;
          columns = stands.columns;
          shelves = shelves-spelled (walked_entries atlas) shelves.columns shelves.heights (stands.keeps faults.Runs) neighbours.items (stands.keeps faults.FreeList) shelves.along;
          ordered = shelves.ordered;
          heights = shelves.filled;
          apart = neighbours.shelves;
          numbers = λ k. omega (arith, ap (times k) marked, filter-times (is_allocated_at atlas.records.items) numbers k, numbers-part.once k);
          below = Each-unmap (λ (n : ℕ). n < length atlas.records.items) (λ (a : Allocation). record_number a.id) (allocations (state_spelled atlas))
              (subst (AllByRecursion (λ (n : ℕ). n < length atlas.records.items)) (sym marked) (marked-below atlas.records.items numbers));
          peak_items = (
            omega (arith, items_in_use-spelled atlas (walked_entries atlas), length-once (length atlas.records.items) numbers numbers-part.once numbers-part.within),
            counts.items.1,
          );
        }

    -- and the state that they stand for is valid
    pub stands-valid : IsValid state
    stands-valid = subst IsValid (sym stands.spelled) spelled-valid

    -- the lists that walks meet are spelled by the links, and spell the state
    stands-witnessed : AreFit atlas.records → Witnessed atlas (walked_lists atlas.records) state
    stands-witnessed fit =
        record {
          spelled = stands.spelled;
          counts = counts;
          linked = stands-linked atlas state fit stands;
          placed = let links : HasLinks atlas = stands.keeps faults.Link in
              entries-placed (walked_entries atlas) links.each_shelf shelves.along (stands.keeps faults.Runs) (stands.keeps faults.FreeList);
          flags = Each-weaken HasRow (HasFlag atlas) (walked_entries atlas) (λ entry has. has.is_empty) (stands.keeps faults.Runs);
          stacked = shelves.across;
          valid = stands-valid;
          unused = stands.keeps faults.Unused;
          space = subst (λ (s : AtlasState). atlas.allocated_space ≡ pos (space_in s.shelves)) (sym stands.spelled) (stands.keeps faults.Space);
        }

-- what the links of kept records spell, and what these say beside their links
pub witnesses : {frame : Frame} {records : Records} → AreKept frame records
    → Witnessed (atlas_of frame records) (walked_lists records) (state_of frame records)
witnesses {frame} {records} kept = stands-witnessed (atlas_of frame records) (state_of frame records) kept.stands kept.fit
