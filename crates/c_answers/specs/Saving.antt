-- What a text that an atlas or a cache is saved as says of it, and what a refusal says of a text.
use Rattle.std.specs.Prelude.{◌≡◌, ◌⊎◌, ◌<◌, ◌≤◌, ◌≢◌, ℕ, List, length}
use Rattle.etagere_base.specs.declared.faults.RestoreFault.{RestoreFault}
use Rattle.etagere_base.specs.declared.faults.RestoreFault.TheVariants.{Memory}
use Rattle.bucketed_records.specs.Restoring as buckets
use Rattle.bucketed_records.specs.StandsFor as bucket_rules
use Rattle.bucketed_model.specs.State.{BucketedState}
use Rattle.snapshot_records.specs.declared.buckets.BucketedSnapshot.{BucketedSnapshot}
use Rattle.glyph_shelf.specs.Cache.{CacheState}
use Rattle.glyph_shelf.specs.Saved.{CacheStandsFor, IsCacheBroken, without_frame}
use Rattle.glyph_shelf.specs.declared.faults.CacheRestoreFault.{CacheRestoreFault}
use Rattle.glyph_shelf.specs.declared.faults.CacheRestoreFault.TheVariants as caches
use Rattle.glyph_shelf.specs.declared.saving.CacheSnapshot.{CacheSnapshot}
use Rattle.saved_collections.specs.Caches.Values.{SpellsCache}
use Rattle.saved_json.specs.Snapshots.{Spells}
use Rattle.saved_json.specs.declared.saved.Saved.TheVariants.{Atlas, Bucketed}
use Rattle.shelf_model.specs.State.{AtlasState}
use Rattle.shelf_records.specs.Snapshots as shelves
use Rattle.shelf_records.specs.StandsFor as shelf_rules
use Rattle.snapshot_records.specs.declared.shelves.AtlasSnapshot.{AtlasSnapshot}
use Rattle.c_answers.specs.Calls.{IsWritten}
use Rattle.c_answers.specs.Statuses.{cache_restore_refused, restore_refused, restore_memory, unreadable}

-- the text spells a snapshot that stands for the atlas
pub record Saves (text : List ℕ) (state : AtlasState) : Type 0 where
  pub snapshot : AtlasSnapshot
  pub spells : Spells text (Atlas snapshot)
  pub stands : shelf_rules.StandsFor (shelves.snapshot_records snapshot) state

pub record SavesBucketed (text : List ℕ) (state : BucketedState) : Type 0 where
  pub snapshot : BucketedSnapshot
  pub spells : Spells text (Bucketed snapshot)
  pub stands : bucket_rules.StandsFor (buckets.snapshot_records snapshot) state

-- the text spells a snapshot that stands for the cache, or for it without its frame
pub record SavesCache (text : List ℕ) (state : CacheState) : Type 0 where
  pub snapshot : CacheSnapshot
  pub spells : SpellsCache text snapshot
  pub stands : CacheStandsFor snapshot state

abbrev pub SavesUnframed : List ℕ → CacheState → Type 0
SavesUnframed text state = SavesCache text (without_frame state)

-- a text that saves the atlas was written to the front of a buffer, and its length told; what is behind stayed
pub record IsSavedIn {S : Type 0} (SavesIt : List ℕ → S → Type 0) (state : S) (old new : List ℕ) (count : ℕ) : Type 0 where
  pub text : List ℕ
  pub saves : SavesIt text state
  pub written : IsWritten text old new count

-- a text that saves the atlas is longer than a buffer, and its length was told
pub record IsSavedBeyond {S : Type 0} (SavesIt : List ℕ → S → Type 0) (state : S) (room count : ℕ) : Type 0 where
  pub text : List ℕ
  pub saves : SavesIt text state
  pub longer : room < length text
  pub counted : count ≡ length text

-- the text spells a snapshot that breaks the rule whose number the status is
pub record Breaks (text : List ℕ) (status : ℕ) : Type 0 where
  pub snapshot : AtlasSnapshot
  pub spells : Spells text (Atlas snapshot)
  pub fault : RestoreFault
  pub rule : fault ≢ Memory
  pub number : status ≡ restore_refused fault
  pub broken : shelves.IsBroken (shelves.snapshot_records snapshot) fault

pub record BreaksBucketed (text : List ℕ) (status : ℕ) : Type 0 where
  pub snapshot : BucketedSnapshot
  pub spells : Spells text (Bucketed snapshot)
  pub fault : RestoreFault
  pub rule : fault ≢ Memory
  pub number : status ≡ restore_refused fault
  pub broken : buckets.Breaks (buckets.snapshot_records snapshot) fault

-- the text spells a snapshot of a cache that breaks the rule whose number the status is
pub record BreaksCache (text : List ℕ) (status : ℕ) : Type 0 where
  pub snapshot : CacheSnapshot
  pub spells : SpellsCache text snapshot
  pub fault : CacheRestoreFault
  pub rule : fault ≢ caches.Memory
  pub number : status ≡ cache_restore_refused fault
  pub broken : IsCacheBroken snapshot fault

-- the status of a text that isn't restored: it is none, breaks a rule, or there was no memory
abbrev pub IsRestoreStatus : ℕ → Type 0
IsRestoreStatus status = (status ≡ unreadable) ⊎ ((401 ≤ status) × (status ≤ restore_memory))

-- the same of a text of a cache
abbrev pub IsCacheRestoreStatus : ℕ → Type 0
IsCacheRestoreStatus status = (status ≡ unreadable) ⊎ ((401 ≤ status) × (status ≤ 416))
