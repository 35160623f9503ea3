-- How many links a restoring follows: a step of a walk follows the link of the record that it meets.
use Rattle.std.specs.Prelude.{◌≡◌, ℕ, ◌+◌, ◌≤◌, List, [], ◌∷◌, length, map}
use Rattle.etagere_base.specs.declared.faults.RestoreFault.{RestoreFault}
use Rattle.etagere_base.specs.declared.faults.RestoreFault.TheVariants.{Frame, Counts, Memory}
use Rattle.etagere_links.specs.LinksRead.{links_in, links_until}
use Rattle.shelf_records.specs.RecordLists.{Records, free_walk, item_walk, shelf_walk, unused_item_walk, unused_shelf_walk}
use Rattle.etagere_links.specs.Walks.{Walked}

-- the walks along shelves: those in use, then the unused ones
abbrev pub shelf_walks : Records → List Walked
shelf_walks records = shelf_walk records ∷ unused_shelf_walk records ∷ []

-- the walks along items: the unused ones, then those of each shelf in use
abbrev pub item_walks : Records → List Walked
item_walks records = unused_item_walk records ∷ map (item_walk records) (shelf_walk records).met

-- the walks along the free list of each shelf in use
abbrev pub free_walks : Records → List Walked
free_walks records = map (free_walk records) (shelf_walk records).met

-- the links of all walks
abbrev pub links_of_all : Records → ℕ
links_of_all records =
    links_in (shelf_walks records) + links_in (item_walks records) + links_in (free_walks records)

-- the links of the walks up to the first that is refused; items are walked only where the walks along shelves met each
-- shelf record, and free lists only where those along items met each item record
abbrev pub links_followed : Records → ℕ
links_followed records =
    links_until (length records.shelves)
    (links_until (length records.items) (links_until 0 0 [] (free_walks records)) []
    (item_walks records))
    [] (shelf_walks records)

-- so many links were followed before a refusal for this, of so many: fewer only where memory ran out
abbrev pub StopsAfter : ℕ → ℕ → RestoreFault → Type 0
StopsAfter all steps Memory = steps ≤ all
StopsAfter all steps fault = steps ≡ all

-- so many links of these records were followed before a refusal for this; none where no walk begins
abbrev pub IsFollowed : Records → ℕ → RestoreFault → Type 0
IsFollowed records steps Frame = steps ≡ 0
IsFollowed records steps Counts = steps ≡ 0
IsFollowed records steps fault = StopsAfter (links_followed records) steps fault
