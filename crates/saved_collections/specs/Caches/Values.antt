-- How a JSON value spells a snapshot of a cache, and a text one.
use Rattle.std.specs.Prelude.{◌≡◌, ℕ, List, Option, Some, IsUtf8, codes}
use Rattle.json.specs.Json.{Json, document}
use Rattle.snapshot_records.specs.declared.shelves.AtlasSnapshot.{AtlasSnapshot}
use Rattle.glyph_shelf.specs.declared.saving.CacheSnapshot.{CacheSnapshot}
use Rattle.glyph_shelf.specs.declared.saving.SavedKey.{SavedKey}
use Rattle.saved_json.specs.JsonFields.{field, natural}
use Rattle.saved_json.specs.Snapshots.{IsArrayOf, IsAtlas}

pub record IsSavedKey (json : Json) (saved : SavedKey) : Type 0 where
  pub key : field 2 0 (codes "key") json ≡ Some (natural saved.key)
  pub id : field 2 1 (codes "id") json ≡ Some (natural saved.id)

-- a field is the snapshot of this atlas
abbrev pub IsSavedAtlas : Option Json → AtlasSnapshot → Type 0
IsSavedAtlas found atlas = (value : Json) × (found ≡ Some value) × IsAtlas value atlas

pub record IsCache (json : Json) (snapshot : CacheSnapshot) : Type 0 where
  pub capacity : field 3 0 (codes "capacity") json ≡ Some (natural snapshot.capacity)
  pub atlas : IsSavedAtlas (field 3 1 (codes "atlas") json) snapshot.atlas
  pub keys : IsArrayOf IsSavedKey (field 3 2 (codes "keys") json) snapshot.keys.items

-- the bytes are UTF-8, and the JSON value that they are is this saved cache
pub record SpellsCache (bytes : List ℕ) (snapshot : CacheSnapshot) : Type 0 where
  pub utf8 : IsUtf8 bytes
  pub json : Json
  pub document_is : document bytes ≡ Some json
  pub cache_is : IsCache json snapshot
