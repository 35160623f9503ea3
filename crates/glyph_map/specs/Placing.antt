-- What becomes of a map when a new key is placed: what is evicted, and what stands after it.
use Rattle.std.specs.Prelude.{◌≡◌, ℕ, ◌-◌, ◌<◌, ◌≤◌, Bool, false, None, List, ◌∷◌, length, map, take}
use Rattle.std.specs.Map.{lookup}
use Rattle.etagere_base.specs.declared.geometry.Rectangle.{Rectangle}
use Rattle.etagere_base.specs.declared.geometry.Size.{Size}
use Rattle.glyph_shelf.specs.Cache as cache
use Rattle.glyph_shelf.specs.Placing as placing
use Rattle.glyph_map.specs.State.{MapState, cache_of, pairs_of}
use Rattle.glyph_map.specs.Calls.{dropped_pairs}
use Rattle.glyph_map.specs.declared.faults.MapFault.{MapFault}
use Rattle.glyph_map.specs.declared.faults.MapFault.TheVariants.{TooLarge, Memory, FrameFull}

module _ {K V : Type 0} where
  -- the key isn't there
  abbrev pub IsNew : (K → Bool) → MapState K V → Type 0
  IsNew test state = lookup test state.entries ≡ None

  -- the size is too large for a new atlas
  abbrev pub IsTooLarge : MapState K V → Size → Type 0
  IsTooLarge state size = placing.IsTooLarge (cache_of state) size

  -- there is no room though all went that weren't used in this frame, nor before
  abbrev pub IsFrameFull : MapState K V → Size → Type 0
  IsFrameFull state size = placing.IsFrameFull (cache_of state) size

  -- how many keys may be evicted in this frame: the last ones
  abbrev pub evictable : MapState K V → ℕ
  evictable state = cache.evictable (cache_of state)

  -- these keys went with their values, the least recently used first, and these are left
  pub record Evicts (old : MapState K V) (evicted left : List (K × V)) : Type 0 where
    pub listed : evicted ≡ dropped_pairs old (length evicted)
    pub kept : left ≡ take (length old.entries - length evicted) (pairs_of old.entries)

  -- a new key was placed with its value: the cache placed it, with just the evictions that its size
  -- needs, and it stands first
  pub record Places (old : MapState K V) (key : K) (value : V) (size : Size) (rectangle : Rectangle)
      (evicted : List (K × V)) (new : MapState K V) : Type 0 where
    pub placed : placing.Places (cache_of old) 0 size rectangle
        (map (λ (pair : K × V). 0) evicted) (cache_of new)
    pub kept : List (K × V)
    pub evicts : Evicts old evicted kept
    pub pairs : pairs_of new.entries ≡ (key, value) ∷ kept

  -- memory ran out when these had gone, each of which the size needed; none went where those that may
  -- go make no room; the layout of the atlas is as after that
  pub record RanOut (old : MapState K V) (size : Size) (evicted : List (K × V))
      (new : MapState K V) : Type 0 where
    pub needed : (fewer : ℕ) → fewer < length evicted
        → placing.has_room (cache.after_dropping (cache_of old) fewer) size ≡ false
    pub helps : 1 ≤ length evicted → placing.MakesRoom (cache_of old) size (evictable old)
    pub evicts : Evicts old evicted (pairs_of new.entries)
    pub rest : placing.SameLayout (cache.after_dropping (cache_of old) (length evicted)) (cache_of new)

  -- what a fault of a new key left: all, or what memory running out did
  abbrev pub IsLeft : MapState K V → Size → MapFault K V → MapState K V → Type 0
  IsLeft old size TooLarge new = new ≡ old
  IsLeft old size (Memory evicted) new = RanOut old size evicted.items new
  IsLeft old size FrameFull new = new ≡ old

  -- what a fault names as evicted wasn't used in this frame
  abbrev pub Spares : MapState K V → MapFault K V → Type 0
  Spares old (Memory evicted) = length evicted.items ≤ evictable old
  Spares old fault = Unit {0}
