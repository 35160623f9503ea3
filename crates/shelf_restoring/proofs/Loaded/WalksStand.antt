-- Records that walks have followed keep each rule where the lists that were met do; so they are kept records.
use Rattle.std.proofs.Common.{◌≡◌, ℕ, ℤ, List, [], ◌∷◌, length, map, refl, subst}
use Rattle.std.specs.List.{AllByRecursion}
use Rattle.etagere_base.specs.declared.faults.RestoreFault.TheVariants.{Space}
use Rattle.etagere_links.specs.Links.{no_link}
use Rattle.shelf_records.specs.RecordLists.{Entry, free_walk, item_walk, shelf_walk, unused_item_walk, unused_shelf_walk, walked_entry}
use Rattle.etagere_links.specs.Walks.{Walked}
use Rattle.shelf_records.specs.AtlasRecords.{AtlasRecords, state_spelled, walked_entries}
use Rattle.shelf_records.specs.Private.Kept.{AreKept}
use Rattle.shelf_records.specs.Private.Restoring.{HasChain, HasFree, IsWalked}
use Rattle.shelf_records.specs.StandsFor.{FreeBack, HasFreeList, HasItemLinks, HasLinks, IsShared, LinkBack, StandsFor, StopsInRange}
use Rattle.shelf_restoring.proofs.Loaded.ChainsWalked.{once-walked}
use Rattle.shelf_restoring.proofs.Loaded.WalksFit.{walked-fit}

-- a walk that ends at none stops in range
stops : (count : ℕ) (walked : Walked) → walked.end ≡ no_link → StopsInRange count walked
stops count walked ends = rw ends refl

module _ (atlas : AtlasRecords) where
  -- the links of each shelf's items
  links-of : (numbers : List ℕ) → AllByRecursion (HasChain atlas.records) numbers → AllByRecursion (HasFree atlas.records) numbers
      → AllByRecursion (LinkBack atlas.records.items) (map (walked_entry atlas.records) numbers)
      → AllByRecursion (HasItemLinks atlas) (map (walked_entry atlas.records) numbers)
  links-of [] chains frees links = tt
  links-of (n ∷ ns) chains frees links = (
    record {
      items = stops (length atlas.records.items) (item_walk atlas.records n) chains.0.end;
      free_list = stops (length atlas.records.items) (free_walk atlas.records n) frees.0.end;
      links = links.0;
    },
    links-of ns chains.1 frees.1 links.1,
  )

  -- the free list of each shelf
  frees-of : (numbers : List ℕ) → AllByRecursion (HasFree atlas.records) numbers
      → AllByRecursion (FreeBack atlas.records.items) (map (walked_entry atlas.records) numbers)
      → AllByRecursion (HasFreeList atlas) (map (walked_entry atlas.records) numbers)
  frees-of [] frees back = tt
  frees-of (n ∷ ns) frees back = (
    record { list = back.0; ends = frees.0.end },
    frees-of ns frees.1 back.1,
  )

  -- the chain of each shelf ends at none
  ends-of : (numbers : List ℕ) → AllByRecursion (HasChain atlas.records) numbers
      → AllByRecursion (λ (entry : Entry). (item_walk atlas.records entry.number).end ≡ no_link) (map (walked_entry atlas.records) numbers)
  ends-of [] chains = tt
  ends-of (n ∷ ns) chains = (chains.0.end, ends-of ns chains.1)

  -- the links of all records
  pub walked-links : IsWalked atlas → AllByRecursion (LinkBack atlas.records.items) (walked_entries atlas) → HasLinks atlas
  walked-links walked links =
      record {
        shelves = stops (length atlas.records.shelves) (shelf_walk atlas.records) walked.shelves.end;
        unused_shelves = stops (length atlas.records.shelves) (unused_shelf_walk atlas.records) walked.shelves.unused_end;
        unused_items = stops (length atlas.records.items) (unused_item_walk atlas.records) walked.items.unused_end;
        back = walked.back;
        each_shelf = links-of (shelf_walk atlas.records).met walked.items.chains walked.free links;
      }

  -- all free lists
  pub walked-free : IsWalked atlas → AllByRecursion (FreeBack atlas.records.items) (walked_entries atlas)
      → AllByRecursion (HasFreeList atlas) (walked_entries atlas)
  walked-free walked back = frees-of (shelf_walk atlas.records).met walked.free back

  -- each record is in one list
  pub walked-shared : IsWalked atlas → IsShared atlas
  walked-shared walked =
      record {
        shelves = walked.shelves.once;
        items = once-walked atlas walked.items;
        shelf_end = walked.shelves.end;
        unused_shelf_end = walked.shelves.unused_end;
        item_ends = ends-of (shelf_walk atlas.records).met walked.items.chains;
        unused_item_end = walked.items.unused_end;
      }

  -- records that walks have followed, and that keep each rule, are kept
  pub walked-kept : IsWalked atlas → StandsFor atlas (state_spelled atlas) → AreKept atlas.frame atlas.records
  walked-kept walked stands =
      record {
        stands = subst (λ (space : ℤ). StandsFor (record { frame = atlas.frame; records = atlas.records; allocated_space = space }) (state_spelled atlas)) (stands.keeps Space) stands;
        fit = walked-fit atlas walked;
      }
