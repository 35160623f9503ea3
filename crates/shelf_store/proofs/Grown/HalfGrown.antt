-- Records half way through a grow: what they spell in the grown frame, and which of them wait to be put to use.
use Rattle.std.proofs.Common.{◌≡◌, ℕ, suc, ◌+◌, ◌-◌, ◌*◌, ◌/◌, ◌<◌, ◌≤◌, ◌≢◌, cond, None, Some, List, [], ◌∷◌, ◌++◌, length, map}
use Rattle.std.specs.List.{AllByRecursion}
use Rattle.etagere_base.specs.Lists.{NoNeighbours, times, total}
use Rattle.etagere_base.specs.declared.frames.Frame.{Frame}
use Rattle.etagere_base.specs.declared.geometry.Size.{Size}
use Rattle.shelf_records.proofs.AllLists.LinkedItems.{entry_of}
use Rattle.shelf_records.specs.RecordLists.{Entry, Records, shelf_numbers}
use Rattle.shelf_records.proofs.AllLists.LinkedUnused.{lists_of}
use Rattle.shelf_records.proofs.AllLists.LinkedUses.{but_first}
use Rattle.shelf_records.specs.AtlasRecords.{along_of, spelled_shelf}
use Rattle.shelf_model.specs.Fresh.{empty_columns}
use Rattle.shelf_model.specs.Growing.{atlas_grown, ends_free, filled_ends, grow_fault, grown_frame}
use Rattle.shelf_model.specs.Places.{column_height}
use Rattle.shelf_records.specs.Private.Kept.{AreKept, bare, state_of}
use Rattle.shelf_records.proofs.Spelled.Witnessed.{HasFlag}
use Rattle.shelf_store.specs.Private.RecordsGrown.{CanAppend, CanGrow, CanHeightenAll, CanInsert, CanWidenAll, Growing, after_item, columns_added, columns_heightened, last_shelf, needed_of, next_shelf, records_grown, shelf_inserted, shelves_widened}
use Rattle.shelf_records.specs.StandsFor.{HasCounts, height_before}
use Rattle.shelf_model.specs.State.{Shelf, empty_shelf, total_width}
use Rattle.shelf_model.specs.Valid.{is_out_of_order}
use Rattle.shelf_model.proofs.Grown.GrownShelf.{wider_shelf}
use Rattle.shelf_model.proofs.Grown.GrownShelves.{taller_ends}
use Rattle.shelf_store.proofs.Grown.MadeLinked.{numbers_from}
use Rattle.shelf_records.proofs.Spelled.RecordValues.{SameShelf}
use Rattle.shelf_store.proofs.Spelled.SpelledLists.{IsSpelledExcept}

-- records that spell these lists, while so many of each kind are still to be put to use: those that became unused, and
-- then those that were made for it; before the grow there were so many items
pub record IsGrowing (frame : Frame) (old : ℕ) (growing : Growing) (entries : List Entry) (unused_items unused_shelves : List ℕ) (items shelves : ℕ) : Type 0 where
  pub spelled : IsSpelledExcept (bare frame growing.records) (lists_of entries unused_items unused_shelves)
      (numbers_from growing.made.item (items - length unused_items) ++ [])
      (numbers_from growing.made.shelf (shelves - length unused_shelves) ++ [])
  pub flags : AllByRecursion (HasFlag (bare frame growing.records)) entries
  pub counts : HasCounts (bare frame growing.records)
  pub more : old ≤ length growing.records.items
  pub used_up : old < length growing.records.items → length unused_items ≤ items

-- the shelves that these entries spell
abbrev pub shelves_spelled : Frame → Records → List Entry → List Shelf
shelves_spelled frame records entries = map (spelled_shelf (bare frame records)) entries

-- records that spell these shelves, while so many of each kind are still to be put to use
pub record HasGrown (frame : Frame) (old : ℕ) (growing : Growing) (grown : List Shelf) (items shelves : ℕ) : Type 0 where
  pub entries : List Entry
  pub unused_items : List ℕ
  pub unused_shelves : List ℕ
  pub is : IsGrowing frame old growing entries unused_items unused_shelves items shelves
  pub spelled : shelves_spelled frame growing.records entries ≡ grown

-- the same entries and numbers, said otherwise
pub growing-as : {frame : Frame} {old : ℕ} {growing : Growing} {entries same : List Entry} {unused_items unused_shelves : List ℕ} {items items' shelves shelves' : ℕ}
    → IsGrowing frame old growing entries unused_items unused_shelves items shelves → entries ≡ same → items ≡ items' → shelves ≡ shelves'
    → IsGrowing frame old growing same unused_items unused_shelves items' shelves'
growing-as is e f g = rw (← e, ← f, ← g) is

-- and the same shelves
pub grown-as : {frame : Frame} {old : ℕ} {growing : Growing} {shelves same : List Shelf} {items items' more more' : ℕ}
    → HasGrown frame old growing shelves items more → shelves ≡ same → items ≡ items' → more ≡ more' → HasGrown frame old growing same items' more'
grown-as has e f g = rw (← e, ← f, ← g) has

-- an empty shelf of a column that begins there was put after another one
pub record HasInserted (frame : Frame) (old : ℕ) (growing : Growing) (before after : List Entry) (entry : Entry) (unused_items unused_shelves : List ℕ) (items shelves column along across height : ℕ) : Type 0 where
  pub item : ℕ
  pub is : IsGrowing frame old (shelf_inserted frame.column_width entry.number along across height growing)
      (before ++ entry ∷ entry_of (next_shelf (after_item growing)) (item ∷ []) (item ∷ []) ∷ after)
      (but_first unused_items) (but_first unused_shelves) items shelves
  pub spelled : shelves_spelled frame (shelf_inserted frame.column_width entry.number along across height growing).records
      (before ++ entry ∷ entry_of (next_shelf (after_item growing)) (item ∷ []) (item ∷ []) ∷ after)
      ≡ shelves_spelled frame growing.records (before ++ entry ∷ []) ++ empty_shelf frame column height ∷ shelves_spelled frame growing.records after
  pub same : (k : ℕ) → 1 ≤ times k (shelf_numbers (before ++ entry ∷ after))
      → SameShelf growing.records.shelves (shelf_inserted frame.column_width entry.number along across height growing).records.shelves k

-- what putting an empty shelf after another one comes to: the column is that of none after it, and the shelf begins
-- where those before it in its column end
abbrev pub Inserts : Type 0
Inserts =
    (frame : Frame) (old : ℕ) (growing : Growing) (before after : List Entry) (entry : Entry) (unused_items unused_shelves : List ℕ) (items shelves column along across height : ℕ)
    → IsGrowing frame old growing (before ++ entry ∷ after) unused_items unused_shelves (suc items) (suc shelves)
    → 1 ≤ frame.column_width → along ≡ column * frame.column_width
    → across ≡ height_before growing.records.shelves frame.column_width column (shelf_numbers (before ++ entry ∷ []))
    → AllByRecursion (λ (other : Entry). along_of growing.records.shelves other.number / frame.column_width ≢ column) after
    → CanInsert entry.number growing × HasInserted frame old growing before after entry unused_items unused_shelves items shelves column along across height

-- what widening all shelves comes to, where all stand in the first column and fill it
abbrev pub Widens : Type 0
Widens =
    (frame grown : Frame) (old : ℕ) (growing : Growing) (shelves : List Shelf) (width items more : ℕ)
    → 1 ≤ width → 1 ≤ frame.column_width → grown.column_width ≡ frame.column_width + width → grown.column_width ≤ 65535
    → AllByRecursion (λ (shelf : Shelf). shelf.column ≡ 0) shelves → AllByRecursion (λ (shelf : Shelf). total_width shelf.items ≡ frame.column_width) shelves
    → HasGrown grown old growing shelves (total (λ shelf. cond (ends_free shelf.items) 0 1) shelves + items) more
    → CanWidenAll frame.column_width width (length growing.records.shelves) growing.records.first_shelf growing
    × HasGrown grown old (shelves_widened frame.column_width width (length growing.records.shelves) growing.records.first_shelf growing)
    (map (wider_shelf frame width) shelves) items more

-- what adding a height at the end of each column comes to, where no column becomes too tall
abbrev pub Heightens : Type 0
Heightens =
    (grown : Frame) (old : ℕ) (growing : Growing) (shelves : List Shelf) (height items more : ℕ)
    → 1 ≤ height → 1 ≤ grown.column_width → ((column : ℕ) → column_height column shelves + height ≤ 65535) → NoNeighbours is_out_of_order shelves
    → HasGrown grown old growing shelves (filled_ends shelves + items) (filled_ends shelves + more)
    → CanHeightenAll grown.column_width height (length growing.records.shelves) growing.records.first_shelf growing
    × HasGrown grown old (columns_heightened grown.column_width height (length growing.records.shelves) growing.records.first_shelf growing)
    (taller_ends grown height shelves) items more

-- what appending the columns from one on comes to, where all shelves stand before it
abbrev pub Appends : Type 0
Appends =
    (grown : Frame) (old : ℕ) (growing : Growing) (shelves : List Shelf) (first items more : ℕ)
    → 1 ≤ grown.column_width → first ≤ grown.columns → 1 ≤ length shelves → AllByRecursion (λ (shelf : Shelf). shelf.column < first) shelves
    → HasGrown grown old growing shelves (grown.columns - first + items) (grown.columns - first + more)
    → ((last : ℕ) → last_shelf growing.records ≡ Some last → CanAppend grown (grown.columns - first) last first growing)
    × HasGrown grown old (columns_added grown first (last_shelf growing.records) growing) (shelves ++ empty_columns grown first (grown.columns - first)) items more

-- what a grow comes to: the records are kept in the grown frame, and spell the grown state
pub record GrowsRecords (frame : Frame) (size : Size) (records : Records) : Type 0 where
  pub can : CanGrow frame (grown_frame frame size) (needed_of frame (grown_frame frame size) records) records
  pub kept : AreKept (grown_frame frame size)
      (records_grown frame (grown_frame frame size) (needed_of frame (grown_frame frame size) records) records).records
  pub state : state_of (grown_frame frame size)
      (records_grown frame (grown_frame frame size) (needed_of frame (grown_frame frame size) records) records).records
      ≡ atlas_grown (state_of frame records) size

-- of kept records where it has no fault
abbrev pub GrowsKept : Type 0
GrowsKept =
    (frame : Frame) (size : Size) (records : Records) → AreKept frame records → grow_fault (state_of frame records) size ≡ None
    → GrowsRecords frame size records
