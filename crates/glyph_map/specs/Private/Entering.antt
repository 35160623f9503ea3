-- How keys and values come under the numbers of a cache that was restored, the least recently used first.
use Rattle.std.specs.Prelude.{◌≡◌, ℕ, ◌-◌, ◌^◌, Bool, true, Some, is_some, List, [], ◌∷◌, ◌++◌, length}
use Rattle.std.specs.List.{IsDistinct, slice_get}
use Rattle.std.specs.Map.{keys_of, lookup}
use Rattle.lru.specs.LruCache.{LruCache, lru_cache}
use Rattle.glyph_shelf.specs.Cache.{CacheState}
use Rattle.glyph_shelf.specs.declared.faults.CacheRestoreFault.{CacheRestoreFault}
use Rattle.glyph_shelf.specs.declared.faults.CacheRestoreFault.TheVariants as cache_faults
use Rattle.glyph_map.specs.Saved.{StandsTwice}
use Rattle.glyph_map.specs.Private.Evicting.{unticketed}
use Rattle.glyph_map.specs.Private.Lockstep.{tickets_of}
use Rattle.glyph_map.specs.declared.faults.MapRestoreFault.{MapRestoreFault}
use Rattle.glyph_map.specs.declared.faults.MapRestoreFault.TheVariants.{Cache, Memory, SameKey}
use Rattle.glyph_map.specs.declared.ticketed.Ticketed.{Ticketed}

-- the fault of a map of whose cache this is the fault
abbrev pub cache_fault : CacheRestoreFault → MapRestoreFault
cache_fault cache_faults.Memory = Memory
cache_fault fault = Cache fault

module _ {K V : Type 0} where
  -- these pairs stand under the numbers of a cache, in its order
  pub record StandUnder (eq : K → K → Bool) (cache : CacheState) (pairs : List (K × V))
      (entries : LruCache K (Ticketed V)) : Type 0 where
    pub pairs_are : unticketed entries.entries ≡ pairs
    pub tickets : keys_of cache.entries ≡ tickets_of entries.entries
    pub keys : IsDistinct eq (keys_of entries.entries)
    pub unbounded : entries.cap ≡ 2 ^ 64 - 1

  -- the last pair came under a number
  pub record EntersLast (ticket : ℕ) (pairs : List (K × V)) (old : LruCache K (Ticketed V))
      (left : List (K × V)) (new : LruCache K (Ticketed V)) : Type 0 where
    pub pair : K × V
    pub split : pairs ≡ left ++ pair ∷ []
    pub entered : new
        ≡ lru_cache ((pair.0, record { ticket = ticket; value = pair.1 }) ∷ old.entries) old.cap

  -- pairs are refused for this fault
  abbrev pub ArePairsRefused : (K → K → Bool) → List (K × V) → MapRestoreFault → Type 0
  ArePairsRefused eq pairs (SameKey index) = StandsTwice eq pairs index
  ArePairsRefused eq pairs Memory = Unit {0}
  -- no other fault is one of pairs
  ArePairsRefused eq pairs fault = ⊥

  -- the last pair is refused for this fault beside entries
  abbrev pub IsLastRefused : (K → K → Bool) → List (K × V) → List (K × Ticketed V) → MapRestoreFault → Type 0
  IsLastRefused eq pairs entries (SameKey index) =
      (pair : K × V) × (index ≡ length pairs - 1) × (slice_get pairs index ≡ Some pair)
      × (is_some (lookup (eq pair.0) entries) ≡ true)
  IsLastRefused eq pairs entries Memory = Unit {0}
  -- no other fault is one of a pair
  IsLastRefused eq pairs entries fault = ⊥
