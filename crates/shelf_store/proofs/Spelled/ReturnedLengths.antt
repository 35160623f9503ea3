-- A return changes the number of no records.
use Rattle.std.proofs.Common.{◌≡◌, ℕ, Option, None, Some, length, refl, ◌∙◌}
use Rattle.etagere_links.specs.Edits.{link_at}
use Rattle.shelf_records.specs.RecordLists.{Records, first_item_of}
use Rattle.shelf_records.specs.Records.{shelf_chain}
use Rattle.etagere_links.proofs.RecordChanges.{length-changed_by}
use Rattle.shelf_records.specs.AtlasRecords.{shelf_of, AtlasRecords}
use Rattle.shelf_store.specs.Private.ItemReturned.{empty_next, emptiness_said, free_next, free_previous, freed_after, item_merged, item_returned, named_shelf_merged, next_absorbed, shelf_merged, shelf_next_absorbed, shelf_of_item_absorbed}
use Rattle.shelf_records.specs.StandsFor.{HasCounts}

-- there are as many records as before
pub record SameLengths (old new : Records) : Type 0 where
  pub items : length new.items ≡ length old.items
  pub shelves : length new.shelves ≡ length old.shelves

-- so that there are neither fewer nor more than there can be
pub counts-same : (old new : AtlasRecords) → SameLengths old.records new.records → HasCounts old → HasCounts new
counts-same old new same counts = record { shelves = rw same.shelves counts.shelves; items = rw same.items counts.items }

-- one change after another
then : (old middle new : Records) → SameLengths old middle → SameLengths middle new → SameLengths old new
then old middle new one two = record { items = two.items ∙ one.items; shelves = two.shelves ∙ one.shelves }

-- an item absorbs the next one
next-lengths : (shelf number : ℕ) (next : Option ℕ) (records : Records) → SameLengths records (next_absorbed shelf number next records).records
next-lengths shelf number None records = record { items = refl; shelves = refl }
next-lengths shelf number (Some next) records = record { items = simp length-changed_by refl; shelves = simp length-changed_by refl }

-- an item becomes free, or the previous one absorbs it
freed-lengths : (shelf number : ℕ) (previous : Option ℕ) (records : Records) → SameLengths records (freed_after shelf number previous records).records
freed-lengths shelf number None records = record { items = simp length-changed_by refl; shelves = simp length-changed_by refl }
freed-lengths shelf number (Some previous) records = record { items = simp length-changed_by refl; shelves = simp length-changed_by refl }

-- a shelf absorbs the next one
pub shelf-next-lengths : (shelf : ℕ) (next : Option ℕ) (records : Records) → SameLengths records (shelf_next_absorbed shelf next records).records
shelf-next-lengths shelf None records = record { items = refl; shelves = refl }
shelf-next-lengths shelf (Some next) records = of-item (first_item_of records.shelves next)
  where
    of-item : (item : Option ℕ) → SameLengths records (shelf_of_item_absorbed shelf next item records).records
    of-item None = record { items = refl; shelves = refl }
    of-item (Some item) = record { items = simp length-changed_by refl; shelves = simp length-changed_by refl }

-- a shelf that is named is merged with the next one
named-lengths : (link : Option ℕ) (records : Records) → SameLengths records (named_shelf_merged link records).records
named-lengths None records = record { items = refl; shelves = refl }
named-lengths (Some shelf) records = shelf-next-lengths shelf (empty_next records.shelves shelf) records

-- an item becomes free
pub merged-lengths : (shelf number : ℕ) (records : Records) → SameLengths records (item_merged shelf number records).records
merged-lengths shelf number records =
    let one : Records = (next_absorbed shelf number (free_next records.items number) records).records in
    then records one (item_merged shelf number records).records
    (next-lengths shelf number (free_next records.items number) records) (freed-lengths shelf number (free_previous one.items number) one)

-- and its shelf says whether it is empty
pub emptied-lengths : (shelf number : ℕ) (records : Records) → SameLengths records (emptiness_said shelf (item_merged shelf number records).records)
emptied-lengths shelf number records =
    let two : Records = (item_merged shelf number records).records in
    then records two (emptiness_said shelf two) (merged-lengths shelf number records)
    (record { items = refl; shelves = length-changed_by _ two.shelves (Some shelf) })

-- a return keeps the number of records
pub returned-lengths : (number : ℕ) (records : Records) → SameLengths records (item_returned number records)
returned-lengths number records =
    let shelf : ℕ = shelf_of records.items number in
    let one : Records = emptiness_said shelf (item_merged shelf number records).records in
    let two : Records = (shelf_merged shelf one).records in
    then records two (item_returned number records)
    (then records one two (emptied-lengths shelf number records) (shelf-next-lengths shelf (empty_next one.shelves shelf) one))
    (named-lengths (link_at shelf_chain.previous two.shelves shelf) two)
