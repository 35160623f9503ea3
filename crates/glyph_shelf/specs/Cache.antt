-- The model of a cache, as callers see it: its entries in the order of use, and the atlas in which they lie; and what
-- becomes of it when entries go.
use Rattle.std.specs.Prelude.{ℕ, zero, suc, ◌-◌, Option, None, Some, option_map, nat_eq, List, [], length, map, reverse, take}
use Rattle.std.specs.Map.{keys_of, lookup, remove_entry, values_of}
use Rattle.std.specs.Option.{option_map_or}
use Rattle.lru.specs.LruCache.{last_entry, promoted}
use Rattle.glyph_shelf.specs.UsedKeys.Keys.{uses_in, uses_left, uses_with, uses_without}
use Rattle.shelf_model.specs.Fresh.{fresh}
use Rattle.shelf_model.specs.Returning.{returned}
use Rattle.shelf_model.specs.State.{AtlasState}
use Rattle.etagere_base.specs.declared.frames.Frame.{Frame}
use Rattle.etagere_base.specs.declared.geometry.Rectangle.{Rectangle}
use Rattle.etagere_base.specs.declared.ids.Allocation.{Allocation}

-- a cache: keys with what is allocated for them, the most recently used first; how many there may
-- be; the atlas in which they lie; and how many were used in this frame, none where no frame has
-- begun. These stand first.
pub record CacheState : Type 0 where
  pub entries : List (ℕ × Allocation)
  pub capacity : ℕ
  pub atlas : AtlasState
  pub used_in_frame : Option ℕ

-- a new cache: no frame has begun
abbrev pub empty_cache : Frame → ℕ → CacheState
empty_cache frame capacity =
    record { entries = []; capacity = capacity; atlas = fresh frame; used_in_frame = None }

-- how many keys were used in this frame
abbrev pub frame_uses : CacheState → ℕ
frame_uses state = uses_in state.used_in_frame

-- how many keys may be evicted in this frame: the last ones
abbrev pub evictable : CacheState → ℕ
evictable state = length state.entries - frame_uses state

-- the cache when a frame begins
abbrev pub in_new_frame : CacheState → CacheState
in_new_frame state =
    record {
      entries = state.entries;
      capacity = state.capacity;
      atlas = state.atlas;
      used_in_frame = Some 0;
    }

-- the rectangle of a key; none where the key isn't there
abbrev pub rectangle_at : CacheState → ℕ → Option Rectangle
rectangle_at state key =
    option_map (λ (allocation : Allocation). allocation.rectangle)
    (lookup (nat_eq key) state.entries)

-- the keys of entries with their rectangles
abbrev pub with_rectangles : List (ℕ × Allocation) → List (ℕ × Rectangle)
with_rectangles entries =
    map (λ (entry : ℕ × Allocation). (entry.0, entry.1.rectangle)) entries

-- the keys of a cache with their rectangles, the most recently used first
abbrev pub listed : CacheState → List (ℕ × Rectangle)
listed state = with_rectangles state.entries

-- what is allocated for the keys
abbrev pub kept_allocations : CacheState → List Allocation
kept_allocations state = values_of state.entries

-- the cache with a key at the front, if it is there: it was used in this frame
abbrev pub used : CacheState → ℕ → CacheState
used state key =
    record {
      entries = promoted (nat_eq key) state.entries;
      capacity = state.capacity;
      atlas = state.atlas;
      used_in_frame = option_map (uses_with key state.entries) state.used_in_frame;
    }

-- the cache without a key, whose rectangle is given back
abbrev pub without_key : CacheState → ℕ → CacheState
without_key state key =
    option_map_or
    (λ (allocation : Allocation).
    record {
      entries = remove_entry (nat_eq key) state.entries;
      capacity = state.capacity;
      atlas = returned state.atlas allocation.id;
      used_in_frame = option_map (uses_without key state.entries) state.used_in_frame;
    })
    (lookup (nat_eq key) state.entries) state

-- the cache without its least recently used entry, whose rectangle is given back
abbrev pub without_last : CacheState → CacheState
without_last state =
    option_map_or
    (λ entry.
    record {
      entries = take (length state.entries - 1) state.entries;
      capacity = state.capacity;
      atlas = returned state.atlas entry.1.id;
      used_in_frame = uses_left (length state.entries - 1) state.used_in_frame;
    })
    (last_entry state.entries) state

-- the cache after dropping so many entries, the least recently used first
abbrev pub after_dropping : CacheState → ℕ → CacheState
after_dropping state zero = state
after_dropping state (suc n) = without_last (after_dropping state n)

-- the keys of so many entries, the least recently used first
abbrev pub dropped_keys : CacheState → ℕ → List ℕ
dropped_keys state n = take n (reverse (keys_of state.entries))
