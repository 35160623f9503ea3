-- What becomes of a cache when its atlas grows, and when it may hold more keys or fewer.
use Rattle.std.specs.Prelude.{ℕ, ◌-◌, List, length}
use Rattle.shelf_model.specs.Growing.{atlas_grown}
use Rattle.etagere_base.specs.declared.geometry.Size.{Size}
use Rattle.glyph_shelf.specs.Cache.{CacheState, after_dropping, dropped_keys}

-- the cache in an atlas that has grown to this size: each key keeps its place
abbrev pub cache_grown : CacheState → Size → CacheState
cache_grown state size =
    record {
      entries = state.entries;
      capacity = state.capacity;
      atlas = atlas_grown state.atlas size;
      used_in_frame = state.used_in_frame;
    }

-- how many entries are more than so many
abbrev pub surplus : CacheState → ℕ → ℕ
surplus state most = length state.entries - most

-- the same entries, of which there may be so many
abbrev pub of_capacity : CacheState → ℕ → CacheState
of_capacity state capacity =
    record {
      entries = state.entries;
      capacity = capacity;
      atlas = state.atlas;
      used_in_frame = state.used_in_frame;
    }

-- the cache of another capacity: the entries that are too many go, the least recently used first
abbrev pub with_capacity : CacheState → ℕ → CacheState
with_capacity state capacity =
    of_capacity (after_dropping state (surplus state capacity)) capacity

-- the keys that go for another capacity
abbrev pub surplus_keys : CacheState → ℕ → List ℕ
surplus_keys state capacity = dropped_keys state (surplus state capacity)
