-- How a cache is restored: its atlas, and then its keys one after another, the least recently used first.
use Rattle.std.specs.Prelude.{◌≡◌, ◌≢◌, ℕ, ◌≤◌, true, false, None, Some, is_some, nat_eq, List, map}
use Rattle.std.specs.Map.{keys_of, lookup, values_of}
use Rattle.etagere_base.specs.declared.faults.RestoreFault.{RestoreFault}
use Rattle.etagere_base.specs.declared.faults.RestoreFault.TheVariants as rules
use Rattle.etagere_base.specs.declared.geometry.Rectangle.{Rectangle}
use Rattle.etagere_base.specs.Lists.{times}
use Rattle.shelf_model.specs.Atlas.{KeepsPromises, without_id}
use Rattle.shelf_model.specs.Callers.{AreTied}
use Rattle.shelf_model.specs.Places.{allocations, is_allocated, rectangle_of}
use Rattle.shelf_model.specs.State.{AtlasState}
use Rattle.snapshot_records.specs.declared.shelves.AtlasSnapshot.{AtlasSnapshot}
use Rattle.shelf_records.specs.Snapshots.{IsBroken, snapshot_records}
use Rattle.glyph_shelf.specs.UsedKeys.Keys.{KeysState, entered}
use Rattle.glyph_shelf.specs.declared.faults.CacheRestoreFault.{CacheRestoreFault}
use Rattle.glyph_shelf.specs.declared.faults.CacheRestoreFault.TheVariants.{Atlas, Memory, KeyTwice, WrongId, NoKey}
use Rattle.glyph_shelf.specs.declared.saving.SavedKey.{SavedKey}
use Rattle.glyph_shelf.specs.Saved.{saved_key}

-- the keys that are saved, and their ids
abbrev pub keys_in : List SavedKey → List ℕ
keys_in saved = map (λ (one : SavedKey). one.key) saved

abbrev pub ids_in : List SavedKey → List ℕ
ids_in saved = map (λ (one : SavedKey). one.id) saved

-- the fault of a cache of whose atlas this is the fault
abbrev pub atlas_fault : RestoreFault → CacheRestoreFault
atlas_fault rules.Memory = Memory
atlas_fault fault = Atlas fault

-- the snapshot of an atlas is refused for this fault
abbrev pub IsAtlasRefused : AtlasSnapshot → CacheRestoreFault → Type 0
IsAtlasRefused saved (Atlas fault) = IsBroken (snapshot_records saved) fault × (fault ≢ rules.Memory)
IsAtlasRefused saved Memory = Unit {0}
-- no other fault is one of an atlas
IsAtlasRefused saved fault = ⊥

-- these are the keys that were saved, and all that an atlas has allocated is theirs
pub record AreRestored (saved : List SavedKey) (capacity : ℕ) (atlas : AtlasState) (keys : KeysState)
    : Type 0 where
  pub keys_are : saved ≡ map saved_key keys.entries
  pub capacity_is : keys.cap ≡ capacity
  pub unframed : keys.uses ≡ None
  pub once : (key : ℕ) → times key (keys_of keys.entries) ≤ 1
  pub tied : AreTied (values_of keys.entries) (allocations atlas)

-- keys that were saved are refused beside an atlas for this fault
abbrev pub AreKeysRefused : List SavedKey → AtlasState → CacheRestoreFault → Type 0
AreKeysRefused saved atlas (KeyTwice key) = 2 ≤ times key (keys_in saved)
AreKeysRefused saved atlas (WrongId id) =
    (1 ≤ times id (ids_in saved)) × (is_allocated atlas id ≡ true → 2 ≤ times id (ids_in saved))
AreKeysRefused saved atlas NoKey =
    (id : ℕ) × (is_allocated atlas id ≡ true) × (times id (ids_in saved) ≡ 0)
AreKeysRefused saved atlas Memory = Unit {0}
-- no other fault is one of keys
AreKeysRefused saved atlas fault = ⊥

-- a key that was saved stands before others, with what an atlas has allocated under its id, which is taken from what is
-- left
pub record EntersSaved (atlas : AtlasState) (saved : SavedKey) (old : KeysState) (left : AtlasState) (new : KeysState)
    (after : AtlasState) : Type 0 where
  pub rectangle : Rectangle
  pub found : rectangle_of atlas saved.id ≡ Some rectangle
  pub is_new : lookup (nat_eq saved.key) old.entries ≡ None
  pub there : is_allocated left saved.id ≡ true
  pub entered_is : new ≡ entered old saved.key (record { id = saved.id; rectangle = rectangle })
  pub taken : allocations after ≡ without_id saved.id (allocations left)
  pub promises : KeepsPromises after

-- a key that was saved is refused for this fault
abbrev pub IsKeyRefused : AtlasState → SavedKey → KeysState → AtlasState → CacheRestoreFault → Type 0
IsKeyRefused atlas saved keys left (KeyTwice key) =
    (key ≡ saved.key) × (is_some (lookup (nat_eq key) keys.entries) ≡ true)
IsKeyRefused atlas saved keys left (WrongId id) =
    (id ≡ saved.id) × (is_allocated atlas id ≡ true → is_allocated left id ≡ false)
IsKeyRefused atlas saved keys left Memory = Unit {0}
-- no other fault is one of a key
IsKeyRefused atlas saved keys left fault = ⊥
