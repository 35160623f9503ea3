-- What a cache is saved as, and the rules that a snapshot of a cache has to keep.
use Rattle.std.specs.Prelude.{◌≡◌, ◌≢◌, ℕ, ◌<◌, ◌≤◌, true, None, List, length, map}
use Rattle.etagere_base.specs.declared.faults.RestoreFault.TheVariants as rules
use Rattle.etagere_base.specs.declared.ids.Allocation.{Allocation}
use Rattle.etagere_base.specs.Lists.{times}
use Rattle.shelf_model.specs.Places.{is_allocated}
use Rattle.shelf_model.specs.State.{AtlasState}
use Rattle.shelf_records.specs.Snapshots.{IsBroken, snapshot_records}
use Rattle.shelf_records.specs.StandsFor.{StandsFor}
use Rattle.glyph_shelf.specs.Cache.{CacheState}
use Rattle.glyph_shelf.specs.Promises.{KeepsCachePromises}
use Rattle.glyph_shelf.specs.declared.faults.CacheRestoreFault.{CacheRestoreFault}
use Rattle.glyph_shelf.specs.declared.faults.CacheRestoreFault.TheVariants.{Atlas, Memory, NoCapacity, TooManyKeys, KeyTwice, WrongId, NoKey}
use Rattle.glyph_shelf.specs.declared.saving.CacheSnapshot.{CacheSnapshot}
use Rattle.glyph_shelf.specs.declared.saving.SavedKey.{SavedKey}

-- a key as it is saved
abbrev pub saved_key : ℕ × Allocation → SavedKey
saved_key entry = record { key = entry.0; id = entry.1.id }

-- the keys of a snapshot, and their ids
abbrev pub keys_saved : CacheSnapshot → List ℕ
keys_saved snapshot = map (λ (saved : SavedKey). saved.key) snapshot.keys.items

abbrev pub ids_saved : CacheSnapshot → List ℕ
ids_saved snapshot = map (λ (saved : SavedKey). saved.id) snapshot.keys.items

-- a cache in which no frame has begun
abbrev pub without_frame : CacheState → CacheState
without_frame state =
    record {
      entries = state.entries;
      capacity = state.capacity;
      atlas = state.atlas;
      used_in_frame = None;
    }

-- a snapshot of a cache stands for it: it says the capacity, the atlas, and the keys in the order of
-- use with the ids that are theirs; no frame has begun
pub record CacheStandsFor (snapshot : CacheSnapshot) (state : CacheState) : Type 0 where
  pub capacity : state.capacity ≡ snapshot.capacity
  pub atlas : StandsFor (snapshot_records snapshot.atlas) state.atlas
  pub keys : snapshot.keys.items ≡ map saved_key state.entries
  pub unframed : state.used_in_frame ≡ None
  pub promises : KeepsCachePromises state

-- a key has an id under which nothing is allocated in the atlas, or which several keys have
pub record HasWrongId (snapshot : CacheSnapshot) (id : ℕ) : Type 0 where
  pub atlas : AtlasState
  pub stands : StandsFor (snapshot_records snapshot.atlas) atlas
  pub saved : 1 ≤ times id (ids_saved snapshot)
  pub several : is_allocated atlas id ≡ true → 2 ≤ times id (ids_saved snapshot)

-- something is allocated in the atlas under an id that no key has
pub record LacksKey (snapshot : CacheSnapshot) : Type 0 where
  pub atlas : AtlasState
  pub stands : StandsFor (snapshot_records snapshot.atlas) atlas
  pub id : ℕ
  pub allocated : is_allocated atlas id ≡ true
  pub unsaved : times id (ids_saved snapshot) ≡ 0

-- the rule whose breach is this fault is broken; that memory ran out breaks none
abbrev pub IsCacheBroken : CacheSnapshot → CacheRestoreFault → Type 0
IsCacheBroken snapshot (Atlas fault) = IsBroken (snapshot_records snapshot.atlas) fault × (fault ≢ rules.Memory)
IsCacheBroken snapshot Memory = Unit {0}
IsCacheBroken snapshot NoCapacity = snapshot.capacity ≡ 0
IsCacheBroken snapshot TooManyKeys = snapshot.capacity < length snapshot.keys.items
IsCacheBroken snapshot (KeyTwice key) = 2 ≤ times key (keys_saved snapshot)
IsCacheBroken snapshot (WrongId id) = HasWrongId snapshot id
IsCacheBroken snapshot NoKey = LacksKey snapshot

-- a snapshot stands for one cache at most, and one that breaks a rule for none
abbrev pub CacheStandsForOne : Type 0
CacheStandsForOne =
    (snapshot : CacheSnapshot) (state other : CacheState) → CacheStandsFor snapshot state
    → CacheStandsFor snapshot other → state ≡ other

abbrev pub BrokenCacheStandsForNone : Type 0
BrokenCacheStandsForNone =
    (snapshot : CacheSnapshot) (state : CacheState) (fault : CacheRestoreFault)
    → IsCacheBroken snapshot fault → CacheStandsFor snapshot state → fault ≡ Memory
