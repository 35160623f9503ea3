-- What a map is saved as, and the rules that a snapshot has to keep with its keys and values.
use Rattle.std.specs.Prelude.{◌≡◌, ◌≢◌, ℕ, ◌+◌, Bool, true, Some, is_some, List, drop, length}
use Rattle.std.specs.List.{IsDistinct, slice_get}
use Rattle.std.specs.Map.{keys_of, lookup}
use Rattle.glyph_shelf.specs.Cache.{CacheState}
use Rattle.glyph_shelf.specs.Saved as cache
use Rattle.glyph_shelf.specs.Saved.{CacheStandsFor, IsCacheBroken}
use Rattle.glyph_shelf.specs.declared.faults.CacheRestoreFault.TheVariants as cache_faults
use Rattle.glyph_shelf.specs.declared.saving.CacheSnapshot.{CacheSnapshot}
use Rattle.glyph_map.specs.Promises.{unkeyed}
use Rattle.glyph_map.specs.State.{MapState, cache_of, of_cache, pairs_of}
use Rattle.glyph_map.specs.declared.faults.MapRestoreFault.{MapRestoreFault}
use Rattle.glyph_map.specs.declared.faults.MapRestoreFault.TheVariants.{Cache, Memory, WrongCount, SameKey}

module _ {K V : Type 0} where
  -- a map in which no frame has begun
  abbrev pub without_frame : MapState K V → MapState K V
  without_frame state = of_cache state.entries (cache.without_frame (cache_of state))

  -- a snapshot with keys and values stands for a map: the snapshot for the cache that the map is, with a
  -- number for each key, and the keys with their values are these, in the order of use
  pub record MapStandsFor (snapshot : CacheSnapshot) (pairs : List (K × V)) (state : MapState K V)
      : Type 0 where
    pub cache : CacheState
    pub stands : CacheStandsFor snapshot cache
    pub is_cache : unkeyed cache ≡ cache_of state
    pub pairs_are : pairs_of state.entries ≡ pairs

  -- the key that stands at this position stands behind it too
  pub record StandsTwice (eq : K → K → Bool) (pairs : List (K × V)) (index : ℕ) : Type 0 where
    pub pair : K × V
    pub found : slice_get pairs index ≡ Some pair
    pub again : is_some (lookup (eq pair.0) (drop (index + 1) pairs)) ≡ true

  -- the rule whose breach is this fault is broken; that memory ran out breaks none
  abbrev pub IsMapBroken : (K → K → Bool) → CacheSnapshot → List (K × V) → MapRestoreFault → Type 0
  IsMapBroken eq snapshot pairs (Cache fault) =
      IsCacheBroken snapshot fault × (fault ≢ cache_faults.Memory)
  IsMapBroken eq snapshot pairs Memory = Unit {0}
  IsMapBroken eq snapshot pairs WrongCount = length pairs ≢ length snapshot.keys.items
  IsMapBroken eq snapshot pairs (SameKey index) = StandsTwice eq pairs index

-- a snapshot with keys and values stands for one map at most, and where these break a rule for none
abbrev pub MapStandsForOne : (K V : Type 0) → Type 0
MapStandsForOne K V =
    (snapshot : CacheSnapshot) (pairs : List (K × V)) (state other : MapState K V)
    → MapStandsFor snapshot pairs state → MapStandsFor snapshot pairs other → state ≡ other

abbrev pub BrokenMapStandsForNone : {K : Type 0} (V : Type 0) → (K → K → Bool) → Type 0
BrokenMapStandsForNone {K} V eq =
    (snapshot : CacheSnapshot) (pairs : List (K × V)) (state : MapState K V) (fault : MapRestoreFault)
    → IsMapBroken eq snapshot pairs fault → MapStandsFor snapshot pairs state
    → IsDistinct eq (keys_of state.entries) → fault ≡ Memory
