-- What walks have met: the links that they read fit their bits, and what the rules are judged over has each record
-- once at most.
use Rattle.std.proofs.Common.{ℕ, ◌≤◌, List, [], ◌∷◌, ◌++◌, length, map, sym, subst, arith}
use Rattle.std.proofs.lemmas.List.{length-map}
use Rattle.std.specs.List.{AllByRecursion}
use Rattle.etagere_base.specs.Lists.{times}
use Rattle.etagere_base.proofs.EachLemmas.{Each-weaken}
use Rattle.shelf_records.proofs.AllLists.LinkedWalks.{walked-numbers}
use Rattle.etagere_links.proofs.WalkChains.{walk-leads}
use Rattle.shelf_records.specs.declared.records.LinkedItem.{LinkedItem}
use Rattle.etagere_links.specs.Links.{bits_of, no_link}
use Rattle.shelf_records.specs.RecordLists.{Records, Entry, first_free_of, first_item_of, item_numbers, shelf_numbers, shelf_walk, unused_item_walk, unused_shelf_walk, walked_entry}
use Rattle.etagere_links.specs.Lists.{HasEachOnce}
use Rattle.shelf_records.specs.Records.{free_list, item_chain}
use Rattle.shelf_records.specs.AtlasRecords.{AtlasRecords, walked_entries}
use Rattle.shelf_records.specs.Private.Restoring.{HasChain, HasFree, IsWalked}
use Rattle.shelf_restoring.proofs.Loaded.ChainsWalked.{once-walked}
use Rattle.shelf_restoring.proofs.Judged.ShortLists.{few-shelves, once-shelves, short-items}
use Rattle.shelf_records.specs.Private.Kept.{AreFit, FollowsFit}

-- a free list that a walk meets has a number once at most
frees-once : (records : Records) → length records.items ≤ no_link → (numbers : List ℕ)
    → AllByRecursion (λ (entry : Entry). (item : ℕ) → times item entry.free_list ≤ 1) (map (walked_entry records) numbers)
frees-once records few [] = tt
frees-once records few (n ∷ ns) =
    let bits : LinkedItem → ℕ = λ here. bits_of (free_list.next here) in
    let short : length (map bits records.items) ≤ no_link = rw (length-map records.items bits) few in (
      (walk-leads (map bits records.items) (bits_of (first_free_of records.shelves n)) short).once,
      frees-once records few ns,
    )

module _ (atlas : AtlasRecords) (walked : IsWalked atlas) where
  -- the links that walks follow fit their bits
  pub walked-fit : AreFit atlas.records
  walked-fit =
      record {
        shelves = (walked.shelves.first_fits, λ k stands. walked.shelves.next_fits k);
        unused_shelves = (walked.shelves.unused_fits, λ k stands. walked.shelves.next_fits k);
        unused_items = (walked.items.unused_fits, λ k stands. walked.items.next_fits k);
        items = Each-weaken (HasChain atlas.records) (λ number. FollowsFit item_chain.next atlas.records.items (first_item_of atlas.records.shelves number))
            (shelf_walk atlas.records).met (λ number has. (has.first_fits, λ k stands. walked.items.next_fits k)) walked.items.chains;
        free_lists = Each-weaken (HasFree atlas.records) (λ number. FollowsFit free_list.next atlas.records.items (first_free_of atlas.records.shelves number))
            (shelf_walk atlas.records).met (λ number has. (has.first_fits, λ k stands. walked.free_fits k)) walked.free;
      }

  -- each item record is an item of a shelf or unused, once
  pub walked-items : HasEachOnce (length atlas.records.items) (item_numbers (walked_entries atlas) ++ (unused_item_walk atlas.records).met)
  walked-items = once-walked atlas walked.items

  -- each shelf record is in use or unused, once
  walked-shelves : HasEachOnce (length atlas.records.shelves) (shelf_numbers (walked_entries atlas) ++ (unused_shelf_walk atlas.records).met)
  walked-shelves =
      subst (λ (ns : List ℕ). HasEachOnce (length atlas.records.shelves) (ns ++ (unused_shelf_walk atlas.records).met))
      (sym (walked-numbers atlas.records (shelf_walk atlas.records).met)) walked.shelves.once

  -- a shelf has no more items than links can name
  pub walked-short : length atlas.records.items ≤ no_link → AllByRecursion (λ (entry : Entry). length entry.items ≤ no_link) (walked_entries atlas)
  walked-short few =
      Each-weaken (λ (entry : Entry). length entry.items ≤ length atlas.records.items) (λ (entry : Entry). length entry.items ≤ no_link)
      (walked_entries atlas) (λ entry short. omega (arith, few, short)) (short-items (length atlas.records.items) (walked_entries atlas) (unused_item_walk atlas.records).met walked-items)

  -- there are no more shelves than links can name
  pub walked-few : length atlas.records.shelves ≤ no_link → length (walked_entries atlas) ≤ no_link
  walked-few few =
      omega (arith, few, few-shelves (length atlas.records.shelves) (walked_entries atlas) (unused_shelf_walk atlas.records).met walked-shelves)

  -- each shelf was met once at most
  pub walked-once : (number : ℕ) → times number (shelf_numbers (walked_entries atlas)) ≤ 1
  walked-once = once-shelves (length atlas.records.shelves) (walked_entries atlas) (unused_shelf_walk atlas.records).met walked-shelves

  -- a free list has an item once at most
  pub walked-frees : length atlas.records.items ≤ no_link
      → AllByRecursion (λ (entry : Entry). (item : ℕ) → times item entry.free_list ≤ 1) (walked_entries atlas)
  walked-frees few = frees-once atlas.records few (shelf_walk atlas.records).met
