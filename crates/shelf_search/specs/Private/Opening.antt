-- What is known of a shelf before its free list is searched, and what the search comes to.
use Rattle.std.specs.Prelude.{◌≡◌, ℕ, ◌*◌, ◌<◌, ◌≤◌, max, true, false, Option, None, Some, List, [], ◌∷◌, length, nat_lt, if◌then◌else◌}
use Rattle.std.specs.Option.{option_map_or}
use Rattle.std.specs.List.{AllByRecursion}
use Rattle.etagere_base.specs.Lists.{times}
use Rattle.shelf_records.specs.declared.records.LinkedItem.{LinkedItem}
use Rattle.shelf_records.specs.declared.records.LinkedShelf.{LinkedShelf}
use Rattle.shelf_records.specs.RecordLists.{Records, free_walk, shelf_walk}
use Rattle.shelf_records.specs.AtlasRecords.{height_of, is_empty_at, item_at}
use Rattle.shelf_model.specs.Choice.{bad_fit_rank}
use Rattle.shelf_heights.specs.Private.ByHeight.{chain_order, bounded_at}
use Rattle.shelf_search.specs.Private.Searching.{first_wide}
use Rattle.shelf_search.specs.declared.choosing.Searched.{Searched}
use Rattle.shelf_search.specs.declared.choosing.Searched.TheVariants.{Found, Widest}
use Rattle.shelf_heights.specs.declared.by_height.BoundedShelf.{BoundedShelf}

-- the width of the widest of these items; 0 where there are none
abbrev pub widest_of : List LinkedItem → List ℕ → ℕ
widest_of items [] = 0
widest_of items (number ∷ numbers) = max (item_at items number).width (widest_of items numbers)

-- the first item of a shelf's free list that is wide enough; where there is none, how wide the widest is
abbrev pub searched : Records → ℕ → ℕ → Searched
searched records width shelf =
    option_map_or Found (first_wide records width shelf)
    (Widest (widest_of records.items (free_walk records shelf).met))

-- a shelf in use, whose height is below the rank of bad fits and whose order in the chain below the unit of heights, with
-- a bound on the items of its free list
pub record IsSearchable (records : Records) (one : BoundedShelf) : Type 0 where
  pub stands : 1 ≤ times one.shelf (shelf_walk records).met
  pub within : one.shelf < length records.shelves
  pub low : height_of records.shelves one.shelf < bad_fit_rank
  pub in_chain : chain_order records.shelves one.shelf < 65536 * 65536
  pub bound : AllByRecursion (λ item. (item_at records.items item).width ≤ one.widest)
      (free_walk records one.shelf).met

-- shelves in use, each with a bound
abbrev pub AreSearchable : Records → List BoundedShelf → Type 0
AreSearchable records by_height = AllByRecursion (IsSearchable records) by_height

-- each of these shelves is as tall
abbrev pub AreTall : List LinkedShelf → ℕ → List ℕ → Type 0
AreTall shelves height numbers = AllByRecursion (λ shelf. height ≤ height_of shelves shelf) numbers

-- the one item of an empty shelf is as wide as the column, and each free item of another is less wide
pub record IsWhole (records : Records) (column_width shelf : ℕ) : Type 0 where
  pub empty : is_empty_at records.shelves shelf ≡ true → (bound : ℕ)
      → AllByRecursion (λ item. (item_at records.items item).width ≤ bound) (free_walk records shelf).met
      → column_width ≤ bound
  pub other : is_empty_at records.shelves shelf ≡ false
      → AllByRecursion (λ item. (item_at records.items item).width < column_width)
      (free_walk records shelf).met

-- so it is with each shelf in use
abbrev pub AreWhole : Records → ℕ → Type 0
AreWhole records column_width =
    (shelf : ℕ) → 1 ≤ times shelf (shelf_walk records).met → IsWhole records column_width shelf

-- a shelf whose free list was searched: where no item is wide enough, its bound is the widest of them
abbrev pub looked_into : Records → ℕ → BoundedShelf → BoundedShelf
looked_into records width one =
    option_map_or (λ _. one) (first_wide records width one.shelf)
    (record one { widest = widest_of records.items (free_walk records one.shelf).met })

-- a full shelf, of which no item is free
abbrev pub bounded_full : BoundedShelf → BoundedShelf
bounded_full one = record one { widest = 0 }

-- no bound is above what it was
abbrev pub AreLowered : List BoundedShelf → List BoundedShelf → Type 0
AreLowered old new = (k : ℕ) → (bounded_at new k).widest ≤ (bounded_at old k).widest

-- the orders of these shelves in the chain are below the unit of heights
abbrev pub AreInChain : List LinkedShelf → List BoundedShelf → Type 0
AreInChain shelves by_height =
    AllByRecursion (λ (one : BoundedShelf). chain_order shelves one.shelf < 65536 * 65536) by_height

-- where the shelf at a position begins
abbrev pub chain_order_at : List LinkedShelf → List BoundedShelf → ℕ → ℕ
chain_order_at shelves by_height index = chain_order shelves (bounded_at by_height index).shelf

-- of two positions the one whose shelf is earlier in the chain
abbrev pub earlier_position : List LinkedShelf → List BoundedShelf → Option ℕ → ℕ → ℕ
earlier_position shelves by_height None other = other
earlier_position shelves by_height (Some one) other =
    if nat_lt (chain_order_at shelves by_height one) (chain_order_at shelves by_height other) then one else other

-- of the shelves between two positions whose bound is not below a width, the earliest in the chain
pub record IsEarliestWide (shelves : List LinkedShelf) (by_height : List BoundedShelf)
    (start end width index : ℕ) : Type 0 where
  pub after : start ≤ index
  pub within : index < end
  pub wide : width ≤ (bounded_at by_height index).widest
  pub before : (k : ℕ) → start ≤ k → k < index → width ≤ (bounded_at by_height k).widest
      → chain_order_at shelves by_height index ≤ chain_order_at shelves by_height k
  pub behind : (k : ℕ) → index < k → k < end → width ≤ (bounded_at by_height k).widest
      → chain_order_at shelves by_height index < chain_order_at shelves by_height k

-- where it stands, or that no bound there is as wide
abbrev pub IsEarliest : List LinkedShelf → List BoundedShelf → ℕ → ℕ → ℕ → Option ℕ → Type 0
IsEarliest shelves by_height start end width None =
    (k : ℕ) → start ≤ k → k < end → (bounded_at by_height k).widest < width
IsEarliest shelves by_height start end width (Some index) =
    IsEarliestWide shelves by_height start end width index

-- a later position, up to which each shelf is later in the chain than this one
pub record IsBehind (shelves : List LinkedShelf) (by_height : List BoundedShelf) (index next : ℕ)
    : Type 0 where
  pub after : index < next
  pub within : next ≤ length by_height
  pub later : (k : ℕ) → index < k → k < next
      → chain_order_at shelves by_height index < chain_order_at shelves by_height k
