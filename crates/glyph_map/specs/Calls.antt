-- What becomes of a map when it is made, when a key is used or goes, and when it is made larger or smaller.
use Rattle.std.specs.Prelude.{ℕ, ◌-◌, Bool, cond, Option, option_map, List, [], ◌∷◌, length, map, reverse, take}
use Rattle.std.specs.Map.{lookup, remove_entry}
use Rattle.lru.specs.LruCache.{promoted}
use Rattle.etagere_base.specs.declared.frames.Frame.{Frame}
use Rattle.etagere_base.specs.declared.geometry.Rectangle.{Rectangle}
use Rattle.etagere_base.specs.declared.geometry.Size.{Size}
use Rattle.glyph_shelf.specs.Cache as cache
use Rattle.glyph_shelf.specs.Sizing as sizing
use Rattle.glyph_map.specs.State.{Held, MapState, cache_by, cache_of, of_cache, pairs_of}

-- the rectangle and the value that are kept under a key
abbrev pub seen : {V : Type 0} → Held V → Rectangle × V
seen held = (held.allocation.rectangle, held.value)

-- numbers by which a cache goes over keys: that of each key for which a test says yes, and of the others
abbrev pub asked : {K : Type 0} → (K → Bool) → K → ℕ
asked test key = cond (test key) 0 1

module _ {K V : Type 0} where
  -- a new map: no frame has begun
  abbrev pub empty_map : Frame → ℕ → MapState K V
  empty_map frame capacity = of_cache [] (cache.empty_cache frame capacity)

  -- the map when a frame begins
  abbrev pub in_new_frame : MapState K V → MapState K V
  in_new_frame state = of_cache state.entries (cache.in_new_frame (cache_of state))

  -- the map in an atlas that has grown to this size: each key keeps its place
  abbrev pub map_grown : MapState K V → Size → MapState K V
  map_grown state size = of_cache state.entries (sizing.cache_grown (cache_of state) size)

  -- how many entries are more than so many
  abbrev pub surplus : MapState K V → ℕ → ℕ
  surplus state most = sizing.surplus (cache_of state) most

  -- so many keys with their values, the least recently used first
  abbrev pub dropped_pairs : MapState K V → ℕ → List (K × V)
  dropped_pairs state count = take count (reverse (pairs_of state.entries))

  -- the map of another capacity: the entries that are too many go, the least recently used first
  abbrev pub with_capacity : MapState K V → ℕ → MapState K V
  with_capacity state capacity =
      of_cache (take (length state.entries - surplus state capacity) state.entries)
      (sizing.with_capacity (cache_of state) capacity)

  -- the keys with their rectangles and values, the most recently used first
  abbrev pub listed : MapState K V → List (K × Rectangle × V)
  listed state =
      map (λ (entry : K × Held V). (entry.0, entry.1.allocation.rectangle, entry.1.value)) state.entries

  -- of the key for which a test says yes
  module _ (test : K → Bool) where
    -- its rectangle and its value; none where the key isn't there
    abbrev pub seen_at : MapState K V → Option (Rectangle × V)
    seen_at state = option_map seen (lookup test state.entries)

    -- the map with it at the front, if it is there: it was used in this frame
    abbrev pub used : MapState K V → MapState K V
    used state =
        of_cache (promoted test state.entries) (cache.used (cache_by (asked test) state) 0)

    -- the map without it, whose rectangle is given back
    abbrev pub without_key : MapState K V → MapState K V
    without_key state =
        of_cache (remove_entry test state.entries) (cache.without_key (cache_by (asked test) state) 0)

    -- entries among which it has another value
    abbrev pub revalued : V → List (K × Held V) → List (K × Held V)
    revalued value [] = []
    revalued value (entry ∷ entries) =
        cond (test entry.0)
        ((entry.0, record { value = value; allocation = entry.1.allocation }) ∷ entries)
        (entry ∷ revalued value entries)

    -- the map in which it has another value
    abbrev pub with_value : V → MapState K V → MapState K V
    with_value value state = of_cache (revalued value state.entries) (cache_of state)
