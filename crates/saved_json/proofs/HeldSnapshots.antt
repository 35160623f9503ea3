-- What was kept of the members of a snapshot, and its two arrays, make the whole.
use Rattle.std.proofs.Common.{◌≡◌, ◌∙◌, ◌∷◌, ◌-◌, ℕ, List, length, Some, None, Result, Ok, Err, Vec, OnOk, ap, arith, refl, subst, sym, false}
use Rattle.std.specs.Prelude.{codes}
use Rattle.std.specs.Str.{bytes_eq}
use Rattle.std.specs.Borrow.{Bor}
use Rattle.json.specs.Json.{Json, object, Members, no_members, member, members, value, parse_map, read_key}
use Rattle.json.specs.Token.{Token, begin_object}
use Rattle.json.specs.Value.{members_view, value_view}
use Rattle.json.specs.declared.value.Value.{Value, Object}
use Rattle.json.proofs.Grammar.{members_end, members_more, read_key-shorter, value-begin_object}
use Rattle.json.proofs.Trees.{view-Object}
use Rattle.snapshot_records.specs.declared.buckets.BucketedSnapshot.{BucketedSnapshot}
use Rattle.snapshot_records.specs.declared.buckets.BucketRecord.{BucketRecord}
use Rattle.snapshot_records.specs.declared.buckets.BucketShelfRecord.{BucketShelfRecord}
use Rattle.snapshot_records.specs.declared.shelves.AtlasSnapshot.{AtlasSnapshot}
use Rattle.snapshot_records.specs.declared.shelves.ItemRecord.{ItemRecord}
use Rattle.snapshot_records.specs.declared.shelves.ShelfRecord.{ShelfRecord}
use Rattle.saved_json.specs.JsonFields.{field, the_only}
use Rattle.saved_json.specs.Records.{IsBucket, IsBucketShelf, IsItem, IsShelf}
use Rattle.saved_json.specs.Private.Held.{AreMembers, Arrays, Opens, Passes, PassesMembers, arrays_of}
use Rattle.saved_json.specs.Snapshots.{HasAtlasFields, HasBucketedFields, IsAtlas, IsBucketed, IsSaved}
use Rattle.saved_json.specs.declared.saved.Saved.{Saved}
use Rattle.saved_json.specs.declared.saved.Saved.TheVariants.{Atlas, Bucketed}
use Rattle.saved_json.proofs.PassedItems.{value-shorter}
use Rattle.saved_json.proofs.KeptMembers.{first-array, kept-values, second-array}

abbrev atlas_arrays : AtlasSnapshot → Arrays ShelfRecord ItemRecord
atlas_arrays snapshot = arrays_of IsShelf snapshot.shelves.items (codes "items") IsItem snapshot.items.items

abbrev bucketed_arrays : BucketedSnapshot → Arrays BucketShelfRecord BucketRecord
bucketed_arrays snapshot =
    arrays_of IsBucketShelf snapshot.shelves.items (codes "buckets") IsBucket snapshot.buckets.items

pub atlas-held : (snapshot : AtlasSnapshot) (all kept : Members) (shelves items : Json)
    → AreMembers (atlas_arrays snapshot) all kept
    → field 12 10 (codes "shelves") (object kept) ≡ Some shelves
    → field 12 11 (codes "items") (object kept) ≡ Some items
    → HasAtlasFields (object kept) snapshot → IsAtlas (object all) snapshot
atlas-held snapshot all kept shelves items are first second has =
    let arrays = atlas_arrays snapshot in
    let same = λ (name : List ℕ) (no : bytes_eq name (codes "shelves") ≡ false)
    (nor : bytes_eq name (codes "items") ≡ false). ap the_only (kept-values arrays name no nor all kept are) in
    record {
      fields = record {
        sides = record {
          width = same (codes "width") refl refl ∙ has.sides.width;
          height = same (codes "height") refl refl ∙ has.sides.height;
          alignment_width = same (codes "alignment_width") refl refl ∙ has.sides.alignment_width;
          alignment_height = same (codes "alignment_height") refl refl ∙ has.sides.alignment_height;
          vertical_shelves = same (codes "vertical_shelves") refl refl ∙ has.sides.vertical_shelves;
        };
        starts = record {
          shelf_width = same (codes "shelf_width") refl refl ∙ has.starts.shelf_width;
          first_shelf = same (codes "first_shelf") refl refl ∙ has.starts.first_shelf;
          free_items = same (codes "free_items") refl refl ∙ has.starts.free_items;
          free_shelves = same (codes "free_shelves") refl refl ∙ has.starts.free_shelves;
          allocated_space = same (codes "allocated_space") refl refl ∙ has.starts.allocated_space;
        };
      };
      shelves = first-array arrays all kept shelves are first;
      items = second-array arrays all kept items refl are second;
    }

pub bucketed-held : (snapshot : BucketedSnapshot) (all kept : Members) (shelves buckets : Json)
    → AreMembers (bucketed_arrays snapshot) all kept
    → field 13 11 (codes "shelves") (object kept) ≡ Some shelves
    → field 13 12 (codes "buckets") (object kept) ≡ Some buckets
    → HasBucketedFields (object kept) snapshot → IsBucketed (object all) snapshot
bucketed-held snapshot all kept shelves buckets are first second has =
    let arrays = bucketed_arrays snapshot in
    let same = λ (name : List ℕ) (no : bytes_eq name (codes "shelves") ≡ false)
    (nor : bytes_eq name (codes "buckets") ≡ false). ap the_only (kept-values arrays name no nor all kept are) in
    record {
      fields = record {
        sides = record {
          width = same (codes "width") refl refl ∙ has.sides.width;
          height = same (codes "height") refl refl ∙ has.sides.height;
          alignment_width = same (codes "alignment_width") refl refl ∙ has.sides.alignment_width;
          alignment_height = same (codes "alignment_height") refl refl ∙ has.sides.alignment_height;
          vertical_shelves = same (codes "vertical_shelves") refl refl ∙ has.sides.vertical_shelves;
        };
        columns = record {
          column_width = same (codes "column_width") refl refl ∙ has.columns.column_width;
          num_columns = same (codes "num_columns") refl refl ∙ has.columns.num_columns;
          current_column = same (codes "current_column") refl refl ∙ has.columns.current_column;
          available_height = same (codes "available_height") refl refl ∙ has.columns.available_height;
          first_unallocated_bucket =
              same (codes "first_unallocated_bucket") refl refl ∙ has.columns.first_unallocated_bucket;
          allocated_space = same (codes "allocated_space") refl refl ∙ has.columns.allocated_space;
        };
      };
      shelves = first-array arrays all kept shelves are first;
      buckets = second-array arrays all kept buckets refl are second;
    }

-- an object after its opening brace
object-passed : (old start new : List Token) (all : Members) → old ≡ begin_object ∷ start
    → members (value 126) (length start) start ≡ Some (all, new) → value 127 old ≡ Some (object all, new)
object-passed old start new all first are =
    ap (value 127) first ∙ value-begin_object 127 start (omega arith) ∙ ap (parse_map object) are

pub atlas-passed : {A : Type 0} (snapshot : AtlasSnapshot) (old start new : List Token)
    (kept : Vec (Bor (List ℕ) × Value A) A) (first : List ShelfRecord) (second : List ItemRecord) (shelves items : Json)
    → old ≡ begin_object ∷ start → first ≡ snapshot.shelves.items → second ≡ snapshot.items.items
    → PassesMembers (arrays_of IsShelf first (codes "items") IsItem second) 126 start (members_view kept.items) new
    → field 12 10 (codes "shelves") (value_view (Object kept)) ≡ Some shelves
    → field 12 11 (codes "items") (value_view (Object kept)) ≡ Some items
    → HasAtlasFields (value_view (Object kept)) snapshot → Passes 127 old (λ json. IsAtlas json snapshot) new
atlas-passed snapshot old start new kept first second shelves items opened first_is second_is passed one other has =
    let view = view-Object kept in
    let with_first = subst (λ (f : List ShelfRecord).
    PassesMembers (arrays_of IsShelf f (codes "items") IsItem second) 126 start (members_view kept.items) new)
    first_is passed in
    let whole = subst (λ (s : List ItemRecord).
    PassesMembers (arrays_of IsShelf snapshot.shelves.items (codes "items") IsItem s) 126 start
    (members_view kept.items) new) second_is with_first in
    record {
      json = object whole.all;
      value_is = object-passed old start new whole.all opened whole.members_are;
      holds = atlas-held snapshot whole.all (members_view kept.items) shelves items whole.kept_are
          (ap (field 12 10 (codes "shelves")) (sym view) ∙ one) (ap (field 12 11 (codes "items")) (sym view) ∙ other)
          (subst (λ (json : Json). HasAtlasFields json snapshot) view has);
    }

pub bucketed-passed : {A : Type 0} (snapshot : BucketedSnapshot) (old start new : List Token)
    (kept : Vec (Bor (List ℕ) × Value A) A) (first : List BucketShelfRecord) (second : List BucketRecord)
    (shelves buckets : Json)
    → old ≡ begin_object ∷ start → first ≡ snapshot.shelves.items → second ≡ snapshot.buckets.items
    → PassesMembers (arrays_of IsBucketShelf first (codes "buckets") IsBucket second) 126 start
    (members_view kept.items) new
    → field 13 11 (codes "shelves") (value_view (Object kept)) ≡ Some shelves
    → field 13 12 (codes "buckets") (value_view (Object kept)) ≡ Some buckets
    → HasBucketedFields (value_view (Object kept)) snapshot → Passes 127 old (λ json. IsBucketed json snapshot) new
bucketed-passed snapshot old start new kept first second shelves buckets opened first_is second_is passed one other has =
    let view = view-Object kept in
    let with_first = subst (λ (f : List BucketShelfRecord).
    PassesMembers (arrays_of IsBucketShelf f (codes "buckets") IsBucket second) 126 start
    (members_view kept.items) new) first_is passed in
    let whole = subst (λ (s : List BucketRecord).
    PassesMembers (arrays_of IsBucketShelf snapshot.shelves.items (codes "buckets") IsBucket s) 126 start
    (members_view kept.items) new) second_is with_first in
    record {
      json = object whole.all;
      value_is = object-passed old start new whole.all opened whole.members_are;
      holds = bucketed-held snapshot whole.all (members_view kept.items) shelves buckets whole.kept_are
          (ap (field 13 11 (codes "shelves")) (sym view) ∙ one) (ap (field 13 12 (codes "buckets")) (sym view) ∙ other)
          (subst (λ (json : Json). HasBucketedFields json snapshot) view has);
    }

-- an object with one member
one-member : (name : List ℕ) (old between after new : List Token) (json : Json) → Opens old name between
    → value 127 between ≡ Some (json, after) → read_key after ≡ Some (None, new)
    → value 128 old ≡ Some (object (member name json no_members), new)
one-member name old between after new json opens is closed =
    let start = opens.between in
    let after_key = read_key-shorter start (Some name) between opens.key_is in
    let after_value = value-shorter 127 between after json is in
    ap (value 128) opens.old_is ∙ value-begin_object 128 start (omega arith)
    ∙ ap (parse_map object)
    (members_more (value 127) (length start) name start between after json (omega (arith, after_key)) opens.key_is is
    ∙ ap (parse_map (member name json))
    (members_end (value 127) (length start - 1) after new (omega (arith, after_key, after_value)) closed))

pub atlas-saved : {X Y : Type 0} (end : Result X Y) (saved : Saved) (snapshot : AtlasSnapshot)
    (old between after new : List Token) → saved ≡ Atlas snapshot → Opens old (codes "atlas") between
    → Passes 127 between (λ json. IsAtlas json snapshot) after → OnOk end (read_key after ≡ Some (None, new))
    → OnOk end (Passes 128 old (λ json. IsSaved json saved) new)
atlas-saved (Ok done) saved snapshot old between after new is opens passed closed =
    subst (λ (s : Saved). Passes 128 old (λ json. IsSaved json s) new) (sym is)
    (record {
      json = object (member (codes "atlas") passed.json no_members);
      value_is = one-member (codes "atlas") old between after new passed.json opens passed.value_is closed;
      holds = (passed.json, refl, passed.holds);
    })
atlas-saved (Err fault) saved snapshot old between after new is opens passed closed = tt

pub bucketed-saved : {X Y : Type 0} (end : Result X Y) (saved : Saved) (snapshot : BucketedSnapshot)
    (old between after new : List Token) → saved ≡ Bucketed snapshot → Opens old (codes "bucketed") between
    → Passes 127 between (λ json. IsBucketed json snapshot) after → OnOk end (read_key after ≡ Some (None, new))
    → OnOk end (Passes 128 old (λ json. IsSaved json saved) new)
bucketed-saved (Ok done) saved snapshot old between after new is opens passed closed =
    subst (λ (s : Saved). Passes 128 old (λ json. IsSaved json s) new) (sym is)
    (record {
      json = object (member (codes "bucketed") passed.json no_members);
      value_is = one-member (codes "bucketed") old between after new passed.json opens passed.value_is closed;
      holds = (passed.json, refl, passed.holds);
    })
bucketed-saved (Err fault) saved snapshot old between after new is opens passed closed = tt
