-- The rules of a snapshot over lists that walks have met: what contracts of the private passes cite
-- that judge them.
use Rattle.std.specs.Prelude.{◌≡◌, ℕ, ◌+◌, ◌/◌, true, ◌&&◌, ◌||◌, ◌==◌, Bool, false, not, nat_le, nat_lt, pos, None, List, [], ◌∷◌, slice_index_or, if◌then◌else◌}
use Rattle.etagere_base.specs.declared.frames.Frame.{Frame}
use Rattle.etagere_base.specs.Frames.{across_side}
use Rattle.etagere_base.specs.Lists.{times}
use Rattle.shelf_records.specs.declared.records.LinkedItem.{LinkedItem}
use Rattle.shelf_records.specs.declared.records.LinkedShelf.{LinkedShelf}
use Rattle.shelf_records.specs.RecordLists.{Entry}
use Rattle.shelf_records.specs.AtlasRecords.{AtlasRecords, along_of, across_of, height_of, is_allocated_at, shelf_of}

-- an atlas with these records; its links to first records and its space are looked at by no rule
-- that a pass judges
abbrev pub atlas_of_records : Frame → List LinkedShelf → List LinkedItem → AtlasRecords
atlas_of_records frame shelves items =
    record {
      frame = frame;
      records =
          record {
            shelves = shelves;
            items = items;
            first_shelf = None;
            unused_items = None;
            unused_shelves = None;
          };
      allocated_space = pos 0;
    }

-- the column in which a shelf stands
abbrev pub column_at : Frame → List LinkedShelf → Entry → ℕ
column_at frame shelves entry = along_of shelves entry.number / frame.column_width

-- the first of two shelves stands in a later column
abbrev pub is_later : Frame → List LinkedShelf → Entry → Entry → Bool
is_later frame shelves entry next =
    nat_lt (column_at frame shelves next) (column_at frame shelves entry)

-- how much stands before a shelf in its column, where so much stands in this column
abbrev pub height_below : Frame → List LinkedShelf → ℕ → ℕ → Entry → ℕ
height_below frame shelves column height entry =
    if column_at frame shelves entry == column then height else 0

-- shelves follow where so much of this column is filled: each begins where the one before it in its
-- column ends
abbrev pub StackFrom : Frame → List LinkedShelf → ℕ → ℕ → List Entry → Type 0
StackFrom frame shelves column height [] = Unit {0}
StackFrom frame shelves column height (entry ∷ entries) =
    (across_of shelves entry.number ≡ height_below frame shelves column height entry)
    × StackFrom frame shelves (column_at frame shelves entry)
    (height_below frame shelves column height entry + height_of shelves entry.number) entries

-- shelves follow where so much of this column is filled: each is of this column, or the first of
-- the next one after this one was filled; and they fill all columns that are left
abbrev pub FillFrom : Frame → List LinkedShelf → ℕ → ℕ → List Entry → Type 0
FillFrom frame shelves column height [] =
    (height ≡ across_side frame) × (column + 1 ≡ frame.columns)
FillFrom frame shelves column height (entry ∷ entries) =
    ((column_at frame shelves entry == column
    || (height == across_side frame && column_at frame shelves entry == column + 1)) ≡ true)
    × FillFrom frame shelves (column_at frame shelves entry)
    (height_below frame shelves column height entry + height_of shelves entry.number) entries

-- a record is marked as one in use, and names this shelf
abbrev pub is_own : List LinkedItem → List Bool → ℕ → ℕ → Bool
is_own items marks shelf item = slice_index_or marks item false && shelf_of items item == shelf

-- of so many records those are marked that are not unused
abbrev pub AreUsed : ℕ → List ℕ → List Bool → Type 0
AreUsed count unused marks =
    (item : ℕ)
    → slice_index_or marks item false ≡ (nat_lt item count && nat_le (times item unused) 0)

-- the items of a shelf are those marked that name it, each once
abbrev pub AreOwn : List LinkedItem → List Bool → Entry → Type 0
AreOwn items marks entry =
    (item : ℕ) → times item entry.items ≡ (if is_own items marks entry.number item then 1 else 0)

-- an item of a shelf that is free
abbrev pub is_own_free : List LinkedItem → List Bool → ℕ → ℕ → Bool
is_own_free items marks shelf item =
    is_own items marks shelf item && not (is_allocated_at items item)
