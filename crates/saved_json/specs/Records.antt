-- How a JSON value spells each record of a snapshot.
use Rattle.std.specs.Prelude.{◌≡◌, List, [], ◌∷◌, Some, codes}
use Rattle.json.specs.Json.{Json, boolean, Items, no_items, item}
use Rattle.snapshot_records.specs.declared.buckets.BucketRecord.{BucketRecord}
use Rattle.snapshot_records.specs.declared.buckets.BucketShelfRecord.{BucketShelfRecord}
use Rattle.snapshot_records.specs.declared.shelves.ItemRecord.{ItemRecord}
use Rattle.snapshot_records.specs.declared.shelves.ShelfRecord.{ShelfRecord}
use Rattle.saved_json.specs.JsonFields.{field, natural}

pub record IsItem (json : Json) (item : ItemRecord) : Type 0 where
  pub x : field 9 0 (codes "x") json ≡ Some (natural item.x)
  pub width : field 9 1 (codes "width") json ≡ Some (natural item.width)
  pub prev : field 9 2 (codes "prev") json ≡ Some (natural item.prev)
  pub next : field 9 3 (codes "next") json ≡ Some (natural item.next)
  pub prev_unallocated : field 9 4 (codes "prev_unallocated") json ≡ Some (natural item.prev_unallocated)
  pub next_unallocated : field 9 5 (codes "next_unallocated") json ≡ Some (natural item.next_unallocated)
  pub shelf : field 9 6 (codes "shelf") json ≡ Some (natural item.shelf)
  pub allocated : field 9 7 (codes "allocated") json ≡ Some (boolean item.allocated)
  pub generation : field 9 8 (codes "generation") json ≡ Some (natural item.generation)

pub record IsShelf (json : Json) (shelf : ShelfRecord) : Type 0 where
  pub x : field 8 0 (codes "x") json ≡ Some (natural shelf.x)
  pub y : field 8 1 (codes "y") json ≡ Some (natural shelf.y)
  pub height : field 8 2 (codes "height") json ≡ Some (natural shelf.height)
  pub prev : field 8 3 (codes "prev") json ≡ Some (natural shelf.prev)
  pub next : field 8 4 (codes "next") json ≡ Some (natural shelf.next)
  pub first_item : field 8 5 (codes "first_item") json ≡ Some (natural shelf.first_item)
  pub first_unallocated : field 8 6 (codes "first_unallocated") json ≡ Some (natural shelf.first_unallocated)
  pub is_empty : field 8 7 (codes "is_empty") json ≡ Some (boolean shelf.is_empty)

pub record IsBucketShelf (json : Json) (shelf : BucketShelfRecord) : Type 0 where
  pub x : field 5 0 (codes "x") json ≡ Some (natural shelf.x)
  pub y : field 5 1 (codes "y") json ≡ Some (natural shelf.y)
  pub height : field 5 2 (codes "height") json ≡ Some (natural shelf.height)
  pub bucket_width : field 5 3 (codes "bucket_width") json ≡ Some (natural shelf.bucket_width)
  pub first_bucket : field 5 4 (codes "first_bucket") json ≡ Some (natural shelf.first_bucket)

pub record IsBucket (json : Json) (bucket : BucketRecord) : Type 0 where
  pub x : field 7 0 (codes "x") json ≡ Some (natural bucket.x)
  pub free_space : field 7 1 (codes "free_space") json ≡ Some (natural bucket.free_space)
  pub next : field 7 2 (codes "next") json ≡ Some (natural bucket.next)
  pub refcount : field 7 3 (codes "refcount") json ≡ Some (natural bucket.refcount)
  pub item_count : field 7 4 (codes "item_count") json ≡ Some (natural bucket.item_count)
  pub shelf : field 7 5 (codes "shelf") json ≡ Some (natural bucket.shelf)
  pub generation : field 7 6 (codes "generation") json ≡ Some (natural bucket.generation)

-- the items of an array are these records, one by one
abbrev pub AreRecords : {R : Type 0} → (Json → R → Type 0) → Items → List R → Type 0
AreRecords Is no_items [] = Unit {0}
AreRecords Is no_items (first ∷ records) = ⊥
AreRecords Is (item json items) [] = ⊥
AreRecords Is (item json items) (first ∷ records) = Is json first × AreRecords Is items records
