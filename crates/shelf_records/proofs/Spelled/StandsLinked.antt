-- Records that stand for a state are linked: the lists that walks meet are spelled by links.
use Rattle.std.proofs.Common.{◌≡◌, ℕ, ◌≤◌, Bool, true, false, List, [], ◌∷◌, ◌++◌, length, map, refl, arith}
use Rattle.std.specs.Prelude.{filter, not}
use Rattle.etagere_base.proofs.TimesLemmas.{times-append}
use Rattle.std.specs.List.{AllByRecursion}
use Rattle.etagere_base.specs.declared.faults.RestoreFault.TheVariants.{Counts, Link, FreeList, Sharing}
use Rattle.etagere_base.specs.Lists.{times}
use Rattle.etagere_links.specs.Links.{no_link}
use Rattle.shelf_records.specs.RecordLists.{Records, Entry, first_item_of, first_free_of, shelf_walk, unused_shelf_walk, unused_item_walk, item_walk, walked_entry, walked_lists, shelf_numbers, item_numbers, IsEntry, IsLinked}
use Rattle.etagere_links.specs.Lists.{HasEachOnce}
use Rattle.shelf_records.specs.Records.{item_chain, free_list, shelf_chain}
use Rattle.shelf_records.proofs.AllLists.LinkedUnused.{three-count}
use Rattle.etagere_links.proofs.WalkedLists.{walk_by-leads}
use Rattle.shelf_records.proofs.AllLists.LinkedWalks.{walked-numbers}
use Rattle.shelf_records.specs.AtlasRecords.{AtlasRecords, is_allocated_at, walked_entries}
use Rattle.shelf_records.specs.Private.Kept.{AreFit, FollowsFit}
use Rattle.shelf_records.specs.StandsFor.{HasCounts, HasItemLinks, HasFreeList, HasLinks, IsShared, StandsFor}
use Rattle.shelf_model.specs.State.{AtlasState}

-- what is left of a list has each member as often at most
pub filter-times : (test : ℕ → Bool) (xs : List ℕ) (k : ℕ) → times k (filter test xs) ≤ times k xs
filter-times test [] k = omega arith
filter-times test (x ∷ xs) k = by_test (test x) refl (filter-times test xs k)
  where
    by_test : (b : Bool) → test x ≡ b → times k (filter test xs) ≤ times k xs → times k (filter test (x ∷ xs)) ≤ times k (x ∷ xs)
    by_test true e later = simp e (omega (arith, later))
    by_test false e later = simp e (omega (arith, later))

-- the lists of each shelf are spelled by links
entries-linked : (atlas : AtlasRecords) → length atlas.records.items ≤ no_link → (numbers : List ℕ)
    → AllByRecursion (λ number. FollowsFit item_chain.next atlas.records.items (first_item_of atlas.records.shelves number)) numbers
    → AllByRecursion (λ number. FollowsFit free_list.next atlas.records.items (first_free_of atlas.records.shelves number)) numbers
    → AllByRecursion (HasItemLinks atlas) (map (walked_entry atlas.records) numbers)
    → AllByRecursion (HasFreeList atlas) (map (walked_entry atlas.records) numbers)
    → AllByRecursion (λ (entry : Entry). (item_walk atlas.records entry.number).end ≡ no_link) (map (walked_entry atlas.records) numbers)
    → AllByRecursion (IsEntry atlas.records) (map (walked_entry atlas.records) numbers)
entries-linked atlas few [] items free_lists links frees ends = tt
entries-linked atlas few (n ∷ ns) items free_lists links frees ends = (
  record {
    items = record {
      forward = walk_by-leads item_chain.next atlas.records.items (first_item_of atlas.records.shelves n) items.0.1 items.0.0 few ends.0;
      backward = links.0.links.back;
    };
    free_list = record {
      forward = walk_by-leads free_list.next atlas.records.items (first_free_of atlas.records.shelves n) free_lists.0.1 free_lists.0.0 few frees.0.ends;
      backward = frees.0.list.back;
    };
    members = λ k. omega (arith, frees.0.list.items k, filter-times (λ member. not (is_allocated_at atlas.records.items member)) (item_walk atlas.records n).met k);
  },
  entries-linked atlas few ns items.1 free_lists.1 links.1 frees.1 ends.1,
)

-- what stands once in two lists stands once in them and an empty one
three-of : (count : ℕ) (used unused : List ℕ) → HasEachOnce count (used ++ unused) → HasEachOnce count (used ++ unused ++ [])
three-of count used unused once k = omega (arith, once k, three-count used unused [] k, times-append k used unused)

-- records that stand for a state are linked, by the lists that walks meet
pub stands-linked : (atlas : AtlasRecords) (state : AtlasState) → AreFit atlas.records → StandsFor atlas state → IsLinked atlas.records (walked_lists atlas.records)
stands-linked atlas state fit stands =
    let records : Records = atlas.records in
    let counts : HasCounts atlas = stands.keeps Counts in
    let links : HasLinks atlas = stands.keeps Link in
    let sharing : IsShared atlas = stands.keeps Sharing in
    let numbers : shelf_numbers (walked_entries atlas) ≡ (shelf_walk records).met = walked-numbers records (shelf_walk records).met in
    record {
      shelves = record {
        forward = rw numbers (walk_by-leads shelf_chain.next records.shelves records.first_shelf fit.shelves.1 fit.shelves.0 counts.shelves.1 sharing.shelf_end);
        backward = rw numbers links.back;
      };
      entries = entries-linked atlas counts.items.1 (shelf_walk records).met fit.items fit.free_lists links.each_shelf (stands.keeps FreeList) sharing.item_ends;
      unused_items = walk_by-leads item_chain.next records.items records.unused_items fit.unused_items.1 fit.unused_items.0 counts.items.1 sharing.unused_item_end;
      unused_shelves = walk_by-leads shelf_chain.next records.shelves records.unused_shelves fit.unused_shelves.1 fit.unused_shelves.0 counts.shelves.1 sharing.unused_shelf_end;
      shelves_once = rw numbers (three-of (length records.shelves) (shelf_walk records).met (unused_shelf_walk records).met sharing.shelves);
      items_once = three-of (length records.items) (item_numbers (walked_entries atlas)) (unused_item_walk records).met sharing.items;
    }
