-- What every map keeps, whatever was called before.
use Rattle.std.specs.Prelude.{◌≡◌, ℕ, Bool, map}
use Rattle.std.specs.List.{IsDistinct}
use Rattle.std.specs.Map.{keys_of}
use Rattle.etagere_base.specs.declared.ids.Allocation.{Allocation}
use Rattle.glyph_shelf.specs.Cache.{CacheState}
use Rattle.glyph_shelf.specs.Promises.{KeepsCachePromises}
use Rattle.glyph_map.specs.State.{MapState, cache_of}

-- a cache without its keys
abbrev pub unkeyed : CacheState → CacheState
unkeyed state =
    record {
      entries = map (λ (entry : ℕ × Allocation). (0, entry.1)) state.entries;
      capacity = state.capacity;
      atlas = state.atlas;
      used_in_frame = state.used_in_frame;
    }

-- no key stands twice, and with a number for each key a map is a cache that keeps its promises
pub record KeepsMapPromises {K V : Type 0} (eq : K → K → Bool) (state : MapState K V) : Type 0 where
  pub keys : IsDistinct eq (keys_of state.entries)
  pub cache : CacheState
  pub is_cache : unkeyed cache ≡ cache_of state
  pub promises : KeepsCachePromises cache
