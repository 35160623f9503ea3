-- How a JSON value spells a snapshot, and a text a saved atlas.
use Rattle.std.specs.Prelude.{◌≡◌, ℕ, Bool, List, Option, Some, IsUtf8, codes}
use Rattle.json.specs.Json.{Json, array, boolean, document, member, no_members, object, Items}
use Rattle.etagere_base.specs.declared.geometry.Size.{Size}
use Rattle.snapshot_records.specs.declared.buckets.BucketedSnapshot.{BucketedSnapshot}
use Rattle.snapshot_records.specs.declared.shelves.AtlasSnapshot.{AtlasSnapshot}
use Rattle.saved_json.specs.declared.saved.Saved.{Saved}
use Rattle.saved_json.specs.declared.saved.Saved.TheVariants.{Atlas, Bucketed}
use Rattle.saved_json.specs.JsonFields.{field, natural, whole}
use Rattle.saved_json.specs.Records.{AreRecords, IsBucket, IsBucketShelf, IsItem, IsShelf}

-- a field is an array of these records
abbrev pub IsArrayOf : {R : Type 0} → (Json → R → Type 0) → Option Json → List R → Type 0
IsArrayOf Is found records = (items : Items) × (found ≡ Some (array items)) × AreRecords Is items records

-- the fields with which the snapshots of both atlases begin, of so many
pub record HasSides (count : ℕ) (json : Json) (size alignment : Size) (vertical : Bool) : Type 0 where
  pub width : field count 0 (codes "width") json ≡ Some (whole size.width)
  pub height : field count 1 (codes "height") json ≡ Some (whole size.height)
  pub alignment_width : field count 2 (codes "alignment_width") json ≡ Some (whole alignment.width)
  pub alignment_height : field count 3 (codes "alignment_height") json ≡ Some (whole alignment.height)
  pub vertical_shelves : field count 4 (codes "vertical_shelves") json ≡ Some (boolean vertical)

-- the other fields of a snapshot that are no arrays
pub record HasStarts (json : Json) (snapshot : AtlasSnapshot) : Type 0 where
  pub shelf_width : field 12 5 (codes "shelf_width") json ≡ Some (natural snapshot.shelf_width)
  pub first_shelf : field 12 6 (codes "first_shelf") json ≡ Some (natural snapshot.first_shelf)
  pub free_items : field 12 7 (codes "free_items") json ≡ Some (natural snapshot.free_items)
  pub free_shelves : field 12 8 (codes "free_shelves") json ≡ Some (natural snapshot.free_shelves)
  pub allocated_space : field 12 9 (codes "allocated_space") json ≡ Some (whole snapshot.allocated_space)

pub record HasColumns (json : Json) (snapshot : BucketedSnapshot) : Type 0 where
  pub column_width : field 13 5 (codes "column_width") json ≡ Some (natural snapshot.column_width)
  pub num_columns : field 13 6 (codes "num_columns") json ≡ Some (natural snapshot.num_columns)
  pub current_column : field 13 7 (codes "current_column") json ≡ Some (natural snapshot.current_column)
  pub available_height : field 13 8 (codes "available_height") json ≡ Some (natural snapshot.available_height)
  pub first_unallocated_bucket :
      field 13 9 (codes "first_unallocated_bucket") json ≡ Some (natural snapshot.first_unallocated_bucket)
  pub allocated_space : field 13 10 (codes "allocated_space") json ≡ Some (whole snapshot.allocated_space)

-- all fields of a snapshot that are no arrays
pub record HasAtlasFields (json : Json) (snapshot : AtlasSnapshot) : Type 0 where
  pub sides : HasSides 12 json (record { width = snapshot.width; height = snapshot.height })
      (record { width = snapshot.alignment_width; height = snapshot.alignment_height }) snapshot.vertical_shelves
  pub starts : HasStarts json snapshot

pub record HasBucketedFields (json : Json) (snapshot : BucketedSnapshot) : Type 0 where
  pub sides : HasSides 13 json (record { width = snapshot.width; height = snapshot.height })
      (record { width = snapshot.alignment_width; height = snapshot.alignment_height }) snapshot.vertical_shelves
  pub columns : HasColumns json snapshot

pub record IsAtlas (json : Json) (snapshot : AtlasSnapshot) : Type 0 where
  pub fields : HasAtlasFields json snapshot
  pub shelves : IsArrayOf IsShelf (field 12 10 (codes "shelves") json) snapshot.shelves.items
  pub items : IsArrayOf IsItem (field 12 11 (codes "items") json) snapshot.items.items

pub record IsBucketed (json : Json) (snapshot : BucketedSnapshot) : Type 0 where
  pub fields : HasBucketedFields json snapshot
  pub shelves : IsArrayOf IsBucketShelf (field 13 11 (codes "shelves") json) snapshot.shelves.items
  pub buckets : IsArrayOf IsBucket (field 13 12 (codes "buckets") json) snapshot.buckets.items

-- the value is an object with one member, whose name tells the kind of atlas and whose value is the snapshot
abbrev pub IsSaved : Json → Saved → Type 0
IsSaved json (Atlas snapshot) =
    (value : Json) × (json ≡ object (member (codes "atlas") value no_members)) × IsAtlas value snapshot
IsSaved json (Bucketed snapshot) =
    (value : Json) × (json ≡ object (member (codes "bucketed") value no_members)) × IsBucketed value snapshot

-- the bytes are UTF-8, and the JSON value that they are is this saved atlas
pub record Spells (bytes : List ℕ) (saved : Saved) : Type 0 where
  pub utf8 : IsUtf8 bytes
  pub json : Json
  pub document_is : document bytes ≡ Some json
  pub saved_is : IsSaved json saved
