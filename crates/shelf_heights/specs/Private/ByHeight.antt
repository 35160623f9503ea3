-- The shelves in use in the order in which a search looks at them, each with a bound on the widths of
-- its free items.
use Rattle.std.specs.Prelude.{◌≡◌, ℕ, ◌+◌, ◌-◌, ◌*◌, ◌<◌, ◌≤◌, ◌^◌, true, Option, None, Some, List, [], ◌∷◌, filter, drop, get_or, length, map, not, nat_lt, take, ◌==◌, if◌then◌else◌}
use Rattle.std.specs.List.{AllByRecursion}
use Rattle.etagere_base.specs.Lists.{times}
use Rattle.shelf_records.specs.declared.records.LinkedShelf.{LinkedShelf}
use Rattle.shelf_records.specs.RecordLists.{Entry, Records, shelf_numbers, walked_lists}
use Rattle.etagere_base.specs.declared.frames.Frame.{Frame}
use Rattle.shelf_records.specs.AtlasRecords.{AtlasRecords, across_of, along_of, height_of, spelled_shelf}
use Rattle.shelf_model.specs.Listing.{RiseFrom}
use Rattle.shelf_records.specs.Private.Kept.{bare}
use Rattle.shelf_model.specs.State.{Shelf, is_free}
use Rattle.shelf_heights.specs.declared.by_height.BoundedShelf.{BoundedShelf}

-- where a shelf begins, as one number: by column, and then across
abbrev pub chain_order : List LinkedShelf → ℕ → ℕ
chain_order shelves shelf = along_of shelves shelf * 65536 + across_of shelves shelf

-- where a shelf of this height and order in the chain stands: by height, and then by the chain
abbrev pub order_at : ℕ → ℕ → ℕ
order_at height in_chain = height * (65536 * 65536) + in_chain

-- where a shelf stands in the order
abbrev pub order_of : List LinkedShelf → ℕ → ℕ
order_of shelves shelf = order_at (height_of shelves shelf) (chain_order shelves shelf)

-- the key of a shelf: where it stands in the order, and then its number
abbrev pub key_of : List LinkedShelf → ℕ → ℕ
key_of shelves shelf = order_of shelves shelf * 65536 + shelf

-- the numbers of the shelves, in their order
abbrev pub numbers_by_height : List BoundedShelf → List ℕ
numbers_by_height by_height = map (λ (one : BoundedShelf). one.shelf) by_height

-- these are numbers of records, and they stand in their order
pub record AreInOrder (shelves : List LinkedShelf) (by_height : List BoundedShelf) : Type 0 where
  pub within : AllByRecursion (λ shelf. shelf < length shelves) (numbers_by_height by_height)
  pub rising : RiseFrom 0 (map (order_of shelves) (numbers_by_height by_height))

-- the shelf at a position
abbrev pub bounded_at : List BoundedShelf → ℕ → BoundedShelf
bounded_at by_height index = get_or by_height index (record { widest = 0; shelf = 0 })

-- no free item of a shelf is wider
abbrev pub IsBound : ℕ → Shelf → Type 0
IsBound widest shelf = AllByRecursion (λ item. is_free item ≡ true → item.width ≤ widest) shelf.items

-- each bound is one
abbrev pub AreBounds : AtlasRecords → List Entry → List BoundedShelf → Type 0
AreBounds atlas entries by_height =
    AllByRecursion
    (λ (one : BoundedShelf). AllByRecursion
    (λ (entry : Entry). entry.number ≡ one.shelf → IsBound one.widest (spelled_shelf atlas entry))
    entries)
    by_height

-- the number of each shelf in use once, in the order of heights and of the chain, each with a bound
pub record IsByHeight (atlas : AtlasRecords) (entries : List Entry) (by_height : List BoundedShelf)
    : Type 0 where
  pub once : (shelf : ℕ) → times shelf (numbers_by_height by_height)
      ≡ times shelf (shelf_numbers entries)
  pub rising : RiseFrom 0 (map (order_of atlas.records.shelves) (numbers_by_height by_height))
  pub bounds : AreBounds atlas entries by_height

-- the shelves in use of these records, by height
abbrev pub AreByHeight : Frame → Records → List BoundedShelf → Type 0
AreByHeight frame records by_height =
    IsByHeight (bare frame records) (walked_lists records).entries by_height

-- the numbers of shelves in use, each once, in the order of heights and of the chain, each with a bound; of a shelf that is
-- left out no free item is as wide as this
pub record IsByHeightFor (atlas : AtlasRecords) (entries : List Entry) (width : ℕ) (by_height : List BoundedShelf)
    : Type 0 where
  pub once : (shelf : ℕ) → times shelf (numbers_by_height by_height) ≤ times shelf (shelf_numbers entries)
  pub left_out : (shelf : ℕ) → 1 ≤ times shelf (shelf_numbers entries) → times shelf (numbers_by_height by_height) ≡ 0
      → AllByRecursion
      (λ (entry : Entry). entry.number ≡ shelf → IsBound (width - 1) (spelled_shelf atlas entry))
      entries
  pub rising : RiseFrom 0 (map (order_of atlas.records.shelves) (numbers_by_height by_height))
  pub bounds : AreBounds atlas entries by_height

-- the shelves of these records by height, but for some that have no room for what is so wide along
abbrev pub AreByHeightFor : Frame → Records → ℕ → List BoundedShelf → Type 0
AreByHeightFor frame records width by_height =
    IsByHeightFor (bare frame records) (walked_lists records).entries width by_height

-- the list without the shelf of this number
abbrev pub taken_out : ℕ → List BoundedShelf → List BoundedShelf
taken_out shelf by_height = filter (λ (one : BoundedShelf). not (one.shelf == shelf)) by_height

-- the list with a shelf put in where it stands in the order
abbrev pub put_in : List LinkedShelf → BoundedShelf → List BoundedShelf → List BoundedShelf
put_in shelves one [] = one ∷ []
put_in shelves one (other ∷ others) =
    if nat_lt (order_of shelves other.shelf) (order_of shelves one.shelf)
    then other ∷ put_in shelves one others
    else one ∷ other ∷ others

-- the list with the bound of a shelf raised to this width, where it was less
abbrev pub raised : ℕ → ℕ → List BoundedShelf → List BoundedShelf
raised shelf width by_height =
    map
    (λ (one : BoundedShelf).
    if one.shelf == shelf
    then (if nat_lt one.widest width then record one { widest = width } else one)
    else one)
    by_height

-- the list with another bound of a shelf
abbrev pub rebounded : ℕ → ℕ → List BoundedShelf → List BoundedShelf
rebounded shelf width by_height =
    map (λ (one : BoundedShelf). if one.shelf == shelf then record one { widest = width } else one) by_height

-- the bound of a shelf; 0 where it doesn't stand there
abbrev pub bound_of : ℕ → List BoundedShelf → ℕ
bound_of shelf [] = 0
bound_of shelf (one ∷ others) = if one.shelf == shelf then one.widest else bound_of shelf others

-- the first position from this one on whose bound is not below a width, or that there is none
abbrev pub IsFirstAsWide : ℕ → ℕ → List BoundedShelf → Option ℕ → Type 0
IsFirstAsWide from width by_height None =
    AllByRecursion (λ (one : BoundedShelf). one.widest < width) (drop from by_height)
IsFirstAsWide from width by_height (Some index) =
    (from ≤ index)
    × (index < length by_height)
    × AllByRecursion (λ (one : BoundedShelf). one.widest < width) (drop from (take index by_height))
    × AllByRecursion (λ (one : BoundedShelf). width ≤ one.widest) (take 1 (drop index by_height))

-- where the shelves begin that don't come before an order; each probe reads one shelf, and they are
-- no more than the count of shelves has binary digits
pub record IsStart (shelves : List LinkedShelf) (by_height : List BoundedShelf) (order : ℕ)
    (index probes : ℕ) : Type 0 where
  pub within : index ≤ length by_height
  pub before : AllByRecursion (λ (one : BoundedShelf). order_of shelves one.shelf < order) (take index by_height)
  pub after : AllByRecursion (λ (one : BoundedShelf). order ≤ order_of shelves one.shelf) (drop index by_height)
  pub few : (digits : ℕ) → length by_height < 2 ^ digits → probes ≤ digits

-- a shelf of this number, with the width of its column for a bound
abbrev pub newly_bounded : Frame → ℕ → BoundedShelf
newly_bounded frame shelf = record { widest = frame.column_width; shelf = shelf }
