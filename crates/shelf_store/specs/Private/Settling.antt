-- What holds of the notes beside the list of shelves by height while the list follows them, and once it has.
use Rattle.std.specs.Prelude.{◌≡◌, ℕ, ◌-◌, ◌<◌, ◌≤◌, Bool, ◌&&◌, nat_lt, Option, None, Some, List, false, true, length, [], ◌∷◌}
use Rattle.std.specs.Option.{option_map_or}
use Rattle.std.specs.List.{AllByRecursion}
use Rattle.etagere_base.specs.Lists.{times}
use Rattle.etagere_base.specs.declared.frames.Frame.{Frame}
use Rattle.shelf_records.specs.declared.records.LinkedItem.{LinkedItem}
use Rattle.shelf_records.specs.declared.records.LinkedShelf.{LinkedShelf}
use Rattle.shelf_records.specs.Private.Kept.{AreKept, bare}
use Rattle.shelf_records.specs.RecordLists.{Entry, Records, free_walk, shelf_numbers, walked_lists}
use Rattle.shelf_heights.specs.Private.ByHeight.{AreByHeight, AreInOrder, IsBound, chain_order, numbers_by_height}
use Rattle.shelf_heights.specs.declared.by_height.BoundedShelf.{BoundedShelf}
use Rattle.etagere_links.specs.Links.{no_link}
use Rattle.shelf_records.specs.AtlasRecords.{AtlasRecords, height_of, item_at, spelled_shelf}
use Rattle.shelf_notes.specs.Private.Pending.{Notes, is_in_use, is_listed, is_noted, is_parked, once_where}

-- a list has the shelves in use of kept records by height, whatever their frame
pub record IsListOf (records : Records) (list : List BoundedShelf) : Type 0 where
  pub frame : Frame
  pub kept : AreKept frame records
  pub by_height : AreByHeight frame records list

-- nothing has changed since the list followed these records
pub record Follows (shelves : List LinkedShelf) (by_height : List BoundedShelf) (notes : Notes) : Type 0 where
  pub kept : notes.kept ≡ shelves
  pub known : length notes.standing ≡ length shelves
  pub noted : notes.noted ≡ []
  pub unchanged : (k : ℕ) → is_noted notes k ≡ false
  pub listed : (k : ℕ) → times k (numbers_by_height by_height) ≡ once_where (is_listed notes k)
  pub in_use : (k : ℕ) → is_in_use notes k ≡ is_listed notes k
  pub unparked : (k : ℕ) → is_parked notes k ≡ false
  pub parked_below : notes.parked_below ≡ 0

-- a shelf is listed if it is in use, and then where its record puts it
pub record IsSettled (shelves : List LinkedShelf) (notes : Notes) (shelf : ℕ) : Type 0 where
  pub listed : is_listed notes shelf ≡ is_in_use notes shelf
  pub in_chain : is_listed notes shelf ≡ true → chain_order notes.kept shelf ≡ chain_order shelves shelf
  pub height : is_listed notes shelf ≡ true → height_of notes.kept shelf ≡ height_of shelves shelf

-- a width that none of the free items of a shelf passes, whichever of the entries it is
abbrev pub IsBoundIn : AtlasRecords → List Entry → BoundedShelf → Type 0
IsBoundIn atlas entries one =
    AllByRecursion (λ (entry : Entry). entry.number ≡ one.shelf → IsBound one.widest (spelled_shelf atlas entry)) entries

-- a parked shelf isn't listed, and its free items are narrower than what is kept for all parked ones
pub record IsParked (atlas : AtlasRecords) (entries : List Entry) (notes : Notes) (shelf : ℕ) : Type 0 where
  pub unlisted : is_listed notes shelf ≡ false
  pub some : 1 ≤ notes.parked_below
  pub narrow : IsBoundIn atlas entries (record { widest = notes.parked_below - 1; shelf = shelf })

-- the width of the only item of a list, 0 where it has none; none where it has more
abbrev pub width_of_only : List LinkedItem → List ℕ → Option ℕ
width_of_only items [] = Some 0
width_of_only items (item ∷ []) = Some (item_at items item).width
width_of_only items (item ∷ other ∷ others) = None

-- a shelf that has changed, bounded by the width of its only free item, or by that of its column
abbrev pub bounded_anew : Frame → Records → ℕ → BoundedShelf
bounded_anew frame records shelf =
    record {
      widest =
          option_map_or (λ (width : ℕ). width) (width_of_only records.items (free_walk records shelf).met)
          frame.column_width;
      shelf = shelf;
    }

-- whether a shelf that has changed may be parked: it is in use, and its bound is below the width of those to be parked
abbrev pub is_narrow : Frame → Records → Notes → ℕ → Bool
is_narrow frame records notes shelf =
    is_in_use notes shelf && nat_lt (bounded_anew frame records shelf).widest notes.narrow_below

-- a shelf may be parked: its free items are narrower than those to be parked may be
pub record IsToPark (frame : Frame) (records : Records) (notes : Notes) (shelf : ℕ) : Type 0 where
  pub some : 1 ≤ notes.narrow_below
  pub narrow : IsBoundIn (bare frame records) (walked_lists records).entries (record { widest = notes.narrow_below - 1; shelf = shelf })

-- the list has the shelves in use in the order of their heights and of the chain, each with a bound, but for those that
-- have changed since it followed them, of which some are parked
pub record HoldsExceptNoted (atlas : AtlasRecords) (entries : List Entry) (notes : Notes) (by_height : List BoundedShelf)
    : Type 0 where
  pub listed : (k : ℕ) → times k (numbers_by_height by_height) ≡ once_where (is_listed notes k)
  pub in_use : (k : ℕ) → times k (shelf_numbers entries) ≡ once_where (is_in_use notes k)
  pub order : AreInOrder notes.kept by_height
  pub settled : (k : ℕ) → is_noted notes k ≡ false → IsSettled atlas.records.shelves notes k
  pub bounds : AllByRecursion (λ one. is_noted notes one.shelf ≡ false → IsBoundIn atlas entries one) by_height
  pub parked : (k : ℕ) → is_parked notes k ≡ true → IsParked atlas entries notes k
  pub known : length atlas.records.shelves ≤ length notes.standing
  pub few : length atlas.records.shelves ≤ no_link

-- the same of the shelves in use of these records
abbrev pub AreByHeightExceptNoted : Frame → Records → Notes → List BoundedShelf → Type 0
AreByHeightExceptNoted frame records notes by_height =
    HoldsExceptNoted (bare frame records) (walked_lists records).entries notes by_height

-- a list has the shelves in use of kept records by height, but for those that have changed, whatever their frame
pub record IsListExceptNoted (records : Records) (notes : Notes) (list : List BoundedShelf) : Type 0 where
  pub frame : Frame
  pub kept : AreKept frame records
  pub by_height : AreByHeightExceptNoted frame records notes list

-- none has changed since the list followed the records: the shelves in use are listed, where their records put them
pub record AreSettled (records : Records) (notes : Notes) : Type 0 where
  pub unchanged : (k : ℕ) → is_noted notes k ≡ false
  pub in_use : (k : ℕ) → times k (shelf_numbers (walked_lists records).entries) ≡ once_where (is_in_use notes k)
  pub settled : (k : ℕ) → IsSettled records.shelves notes k
  pub unparked : (k : ℕ) → is_parked notes k ≡ false
  pub parked_below : notes.parked_below ≡ 0
  pub known : length records.shelves ≤ length notes.standing
  pub within : (k : ℕ) → is_listed notes k ≡ true → k < length notes.kept

-- a listed shelf is in use, and begins where it began when the list followed it
pub record BeginsAsListed (shelves : List LinkedShelf) (notes : Notes) (shelf : ℕ) : Type 0 where
  pub in_use : is_listed notes shelf ≡ true → is_in_use notes shelf ≡ true
  pub in_chain : is_listed notes shelf ≡ true → chain_order notes.kept shelf ≡ chain_order shelves shelf

-- each is
abbrev pub BeginAsListed : List LinkedShelf → Notes → Type 0
BeginAsListed shelves notes = (k : ℕ) → BeginsAsListed shelves notes k

-- a shelf of this number, if it stands there, has a bound that none of its free items passes
abbrev pub IsBounded : Frame → Records → ℕ → List BoundedShelf → Type 0
IsBounded frame records shelf by_height =
    AllByRecursion
    (λ (one : BoundedShelf). one.shelf ≡ shelf → IsBoundIn (bare frame records) (walked_lists records).entries one)
    by_height
