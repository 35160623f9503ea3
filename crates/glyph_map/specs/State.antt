-- The model of a map, as callers see it: its entries in the order of use, and the atlas in which they lie; and the cache
-- of glyphs that it is, beside its keys and values.
use Rattle.std.specs.Prelude.{ℕ, Option, List, map}
use Rattle.shelf_model.specs.State.{AtlasState}
use Rattle.etagere_base.specs.declared.ids.Allocation.{Allocation}
use Rattle.glyph_shelf.specs.Cache.{CacheState}

-- what is kept under a key: the value of the caller, and what the atlas has allocated
pub record Held (V : Type 0) : Type 0 where
  pub value : V
  pub allocation : Allocation

-- a map: keys with what is kept under them, the most recently used first; how many there may be; the
-- atlas in which they lie; and how many were used in this frame, none where no frame has begun. These
-- stand first.
pub record MapState (K V : Type 0) : Type 0 where
  pub entries : List (K × Held V)
  pub capacity : ℕ
  pub atlas : AtlasState
  pub used_in_frame : Option ℕ

module _ {K V : Type 0} where
  -- the keys with their values, the most recently used first
  abbrev pub pairs_of : List (K × Held V) → List (K × V)
  pairs_of entries = map (λ (entry : K × Held V). (entry.0, entry.1.value)) entries

  -- the cache that a map is, in which each key goes by a number
  abbrev pub cache_by : (K → ℕ) → MapState K V → CacheState
  cache_by number state =
      record {
        entries = map (λ (entry : K × Held V). (number entry.0, entry.1.allocation)) state.entries;
        capacity = state.capacity;
        atlas = state.atlas;
        used_in_frame = state.used_in_frame;
      }

  -- the same where no key is told from another: what becomes of the atlas doesn't depend on them
  abbrev pub cache_of : MapState K V → CacheState
  cache_of state = cache_by (λ (key : K). 0) state

  -- the map of these entries, whose cache this is
  abbrev pub of_cache : List (K × Held V) → CacheState → MapState K V
  of_cache entries cache =
      record {
        entries = entries;
        capacity = cache.capacity;
        atlas = cache.atlas;
        used_in_frame = cache.used_in_frame;
      }
