-- What a grow does to records: shelves get further buckets.
use Rattle.std.specs.Prelude.{◌≡◌, ℕ, zero, suc, ◌-◌, ◌/◌, min, max, Option, Some, List, [], ◌∷◌, length, ◌==◌, if◌then◌else◌}
use Rattle.etagere_links.specs.Edits.{changed_by}
use Rattle.bucketed_model.specs.State.{most_buckets}
use Rattle.bucketed_records.specs.declared.records.LinkedBucket.{LinkedBucket}
use Rattle.bucketed_records.specs.declared.records.KeptShelf.{KeptShelf}
use Rattle.bucketed_records.specs.Private.Store.{Stored}
use Rattle.bucketed_store.specs.Private.Returns.{width_of}
use Rattle.bucketed_store.specs.Private.StoreEdits.{Made, first_bucket_of, made_many}

-- how many buckets this wide a shelf gets for a width that is added, where so many are left
abbrev pub share : ℕ → ℕ → ℕ → ℕ
share added width left = min (added / width) left

-- how many buckets are left after shelves got theirs
abbrev pub left_after : ℕ → ℕ → List KeptShelf → ℕ
left_after added left [] = left
left_after added left (kept ∷ shelves) =
    left_after added (left - share added kept.shelf.bucket_width left) shelves

-- what is kept of a shelf that got so many buckets, of which this is the first
abbrev pub widened_kept : ℕ → Option ℕ → KeptShelf → KeptShelf
widened_kept count first kept =
    record {
      shelf = record kept.shelf { first_bucket = first };
      live_items = kept.live_items;
      widest_room = if count == 0 then kept.widest_room else kept.shelf.bucket_width;
    }

abbrev pub stored_of : List KeptShelf → List LinkedBucket → Option ℕ → Stored
stored_of shelves buckets unused = record { shelves = shelves; buckets = buckets; unused = unused }

-- so many buckets made from a place on in front of those of the shelf of a number
abbrev pub shelf_made : ℕ → ℕ → ℕ → Stored → Made
shelf_made number place count stored =
    made_many count (record { shelf = number; width = width_of stored.shelves number; x = place })
    (record {
      buckets = stored.buckets;
      unused = stored.unused;
      first = first_bucket_of stored.shelves number;
    })

-- the shelf of a number got so many buckets from a place on
abbrev pub shelf_widened : ℕ → ℕ → ℕ → Stored → Stored
shelf_widened number place count stored =
    let made = shelf_made number place count stored in
    record {
      shelves = changed_by (Some number) (widened_kept count made.first) stored.shelves;
      buckets = made.buckets;
      unused = made.unused;
    }

-- so many shelves from that of a number on got what they get for a width that is added at a place
abbrev pub shelves_widened : ℕ → ℕ → ℕ → ℕ → ℕ → Stored → Stored
shelves_widened zero number place added left stored = stored
shelves_widened (suc count) number place added left stored =
    let share_ = share added (width_of stored.shelves number) left in
    shelves_widened count (suc number) place added (left - share_)
    (shelf_widened number place share_ stored)

-- unused records are used before new ones are made, where so many buckets are left before
-- shelves get theirs
abbrev pub UsesUnused : ℕ → ℕ → ℕ → Stored → Type 0
UsesUnused place added left stored =
    length (shelves_widened (length stored.shelves) 0 place added left stored).buckets
    ≡ max (length stored.buckets) (most_buckets - left_after added left stored.shelves)
