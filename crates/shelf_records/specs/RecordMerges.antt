-- What merging, freeing and splitting do to the records of a shelf atlas.
use Rattle.std.specs.Prelude.{ℕ, true, false}
use Rattle.shelf_records.specs.declared.records.LinkedItem.{LinkedItem}
use Rattle.shelf_records.specs.declared.records.LinkedShelf.{LinkedShelf}
use Rattle.shelf_records.specs.RecordEdits.{item_unlinked, item_inserted_after, free_unlinked, free_inserted_front, free_inserted_after, item_made_unused, shelf_unlinked, shelf_inserted_after, shelf_made_unused, item_changed, shelf_changed}
use Rattle.shelf_records.specs.RecordLists.{Records}

-- an item takes the place of the free one after it, which becomes unused
abbrev pub free_absorbed : ℕ → ℕ → ℕ → ℕ → Records → Records
free_absorbed shelf number next width records =
    item_changed number (λ (item : LinkedItem). record item { width = width })
    (item_made_unused next (item_unlinked shelf next (free_unlinked shelf next records)))

-- a free item takes the place of the allocated one after it, which becomes unused
abbrev pub allocated_absorbed : ℕ → ℕ → ℕ → ℕ → Records → Records
allocated_absorbed shelf number next width records =
    item_changed number (λ (item : LinkedItem). record item { width = width })
    (item_made_unused next
    (item_changed next (λ (item : LinkedItem). record item { allocated = false })
    (item_unlinked shelf next records)))

-- an allocated item becomes free, in front of the free list
abbrev pub item_freed : ℕ → ℕ → Records → Records
item_freed shelf number records =
    free_inserted_front shelf number
    (item_changed number (λ (item : LinkedItem). record item { allocated = false }) records)

-- an empty shelf takes the place of the empty one after it, which becomes unused with its item
abbrev pub shelf_absorbed : ℕ → ℕ → ℕ → ℕ → Records → Records
shelf_absorbed shelf next item height records =
    shelf_changed shelf (λ (here : LinkedShelf). record here { height = height })
    (shelf_made_unused next (item_made_unused item (shelf_unlinked next records)))

-- a free item is given whole
abbrev pub item_given : ℕ → ℕ → Records → Records
item_given shelf number records =
    item_changed number (λ (item : LinkedItem). record item { allocated = true })
    (free_unlinked shelf number records)

-- the front of a free item is given; the rest, another record, takes its place in the free list
abbrev pub front_given : ℕ → ℕ → ℕ → ℕ → Records → Records
front_given shelf number rest width records =
    item_changed number (λ (item : LinkedItem). record item { width = width; allocated = true })
    (free_unlinked shelf number
    (free_inserted_after number rest (item_inserted_after number rest records)))

-- the lower part of an empty shelf stays, and the rest, other records, stands after it
abbrev pub shelf_split : ℕ → ℕ → ℕ → ℕ → LinkedShelf → LinkedItem → Records → Records
shelf_split shelf rest rest_item height rest_shelf item records =
    shelf_changed shelf (λ (here : LinkedShelf). record here { height = height })
    (shelf_inserted_after shelf rest
    (shelf_changed rest (λ _. rest_shelf) (item_changed rest_item (λ _. item) records)))
