-- What passes over the shelves find by records: the widest free item, and counts.
use Rattle.std.specs.Prelude.{ℕ, ◌+◌, ◌&&◌, max, Bool, List, filter, length, nat_le, nat_lt, ◌==◌, if◌then◌else◌}
use Rattle.etagere_base.specs.Lists.{total}
use Rattle.shelf_records.specs.declared.records.LinkedItem.{LinkedItem}
use Rattle.shelf_records.specs.RecordLists.{Records, free_walk, shelf_walk}
use Rattle.shelf_records.specs.AtlasRecords.{height_of, is_empty_at}
use Rattle.shelf_model.specs.Widest.{greatest}
use Rattle.shelf_search.specs.Private.Opening.{widest_of}
use Rattle.shelf_search.specs.declared.free_items.FreeItems.{FreeItems}
use Rattle.shelf_search.specs.declared.tallying.Tally.{Tally}

-- the free items of these numbers: how many, and how wide the widest is
abbrev pub free_items_at : List LinkedItem → List ℕ → FreeItems
free_items_at items numbers = record { count = length numbers; widest = widest_of items numbers }

-- those of a shelf
abbrev pub free_of : Records → ℕ → FreeItems
free_of records shelf = free_items_at records.items (free_walk records shelf).met

-- the width of the widest free item of a shelf, where it is at least this tall; else 0
abbrev pub widest_at : Records → ℕ → ℕ → ℕ
widest_at records height shelf =
    if nat_le height (height_of records.shelves shelf) then (free_of records shelf).widest else 0

-- the widest of all shelves that are at least this tall
abbrev pub widest_by : Records → ℕ → ℕ
widest_by records height = greatest (widest_at records height) (shelf_walk records).met

-- the widest free item of a shelf has this width
abbrev pub is_as_wide_at : Records → ℕ → ℕ → Bool
is_as_wide_at records width shelf = nat_lt 0 width && (free_of records shelf).widest == width

-- what is counted of these shelves
abbrev pub tally_of : Records → List ℕ → Tally
tally_of records shelves =
    let width = greatest (λ shelf. (free_of records shelf).widest) shelves in
    record {
      shelves = length shelves;
      empty_shelves = length (filter (is_empty_at records.shelves) shelves);
      free_items = total (λ shelf. (free_of records shelf).count) shelves;
      width = width;
      height = greatest (height_of records.shelves) (filter (is_as_wide_at records width) shelves);
    }

-- the height of the tallest of the widest items, where one more comes
abbrev pub tallest : Tally → ℕ → ℕ → ℕ
tallest tally width height =
    if nat_lt tally.width width then height
    else (if nat_lt 0 width && width == tally.width then max tally.height height else tally.height)

-- the counts with one more shelf
abbrev pub tally_with : Records → Tally → ℕ → Tally
tally_with records tally shelf =
    record {
      shelves = tally.shelves + 1;
      empty_shelves = tally.empty_shelves + (if is_empty_at records.shelves shelf then 1 else 0);
      free_items = tally.free_items + (free_of records shelf).count;
      width = max tally.width (free_of records shelf).widest;
      height = tallest tally (free_of records shelf).widest (height_of records.shelves shelf);
    }
