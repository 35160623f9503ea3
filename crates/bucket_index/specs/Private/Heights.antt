-- How tall neighbouring shelves are at most and at least.
pub use Rattle.std.specs.Prelude.{ℕ}
use Rattle.std.specs.Prelude.{◌≡◌, ◌<◌, ◌≤◌, ◌+◌, ◌-◌, ◌^◌, ◌%◌, ◌==◌, max, min, Bool, true, Some, List, slice_get, if◌then◌else◌}
use Rattle.etagere_links.specs.Edits.{changed_by}
use Rattle.bucketed_records.specs.declared.records.KeptShelf.{KeptShelf}
pub use Rattle.bucket_index.specs.declared.heights.HeightRange.{HeightRange}
use Rattle.bucket_index.specs.declared.heights.Heights.{Heights}
pub use Rattle.bucket_index.specs.Private.Blocks.{Shelves, block_of, end_of}

-- a shelf is no taller than the tallest; if it has a height, it is no lower than the lowest
pub record IsWithin (range : HeightRange) (kept : KeptShelf) : Type 0 where
  pub lowest : 0 < kept.shelf.height → range.lowest ≤ kept.shelf.height
  pub tallest : kept.shelf.height ≤ range.tallest

-- each shelf is within what is known of its block of this size, if something is
abbrev pub AreWithin : ℕ → List HeightRange → List KeptShelf → Type 0
AreWithin size ranges shelves =
    (number : ℕ) (kept : KeptShelf) (range : HeightRange) → slice_get shelves number ≡ Some kept
    → slice_get ranges (block_of size number) ≡ Some range → IsWithin range kept

-- the same of blocks of each size
pub record AreAllWithin (heights : Heights) (shelves : List KeptShelf) : Type 0 where
  pub small : AreWithin 16 heights.small shelves
  pub large : AreWithin 256 heights.large shelves

-- the same where they are known
abbrev pub AreBelow : Heights → List KeptShelf → Type 0
AreBelow heights shelves = heights.are_known ≡ true → AreAllWithin heights shelves

-- no shelf has a height
abbrev pub no_heights : HeightRange
no_heights = record { lowest = 2 ^ 16 - 1; tallest = 0 }

-- what is known of a block with a shelf of this height beside the others
abbrev pub widened : ℕ → HeightRange → HeightRange
widened height range = record { lowest = min height range.lowest; tallest = max height range.tallest }

-- what is known with the shelf of a number that is so tall
abbrev pub with_height : ℕ → ℕ → Heights → Heights
with_height number height heights =
    record heights {
      small = changed_by (Some (block_of 16 number)) (widened height) heights.small;
      large = changed_by (Some (block_of 256 number)) (widened height) heights.large;
    }

-- a block of this size begins with the shelf of a number
abbrev pub is_first : ℕ → ℕ → Bool
is_first size number = number % size == 0

-- what is known where nothing is of the small block that begins with the shelf of a number, or of the large one
abbrev pub begun_at : ℕ → Heights → Heights
begun_at number heights =
    record heights {
      small = changed_by (Some (block_of 16 number)) (λ _. no_heights) heights.small;
      large = if is_first 256 number
          then changed_by (Some (block_of 256 number)) (λ _. no_heights) heights.large
          else heights.large;
    }

-- the same, if one begins with it
abbrev pub begun : ℕ → Heights → Heights
begun number heights = if is_first 16 number then begun_at number heights else heights

-- the shelves of a block are lower than one height, or those that have one are as tall as another, which a shelf can be
abbrev pub AreOutside : ℕ → ℕ → List HeightRange → ℕ → Type 0
AreOutside across too_tall ranges block =
    (range : HeightRange) → slice_get ranges block ≡ Some range → across ≤ range.tallest
    → (too_tall < 2 ^ 16) × (too_tall ≤ range.lowest)

-- a shelf is lower than this, or wastes as much, which isn't all that there can be
abbrev pub IsUnfit : ℕ → ℕ → KeptShelf → Type 0
IsUnfit across limit kept =
    across ≤ kept.shelf.height → (limit < 2 ^ 32 - 1) × (across + limit ≤ kept.shelf.height)

-- each of the shelves from one number up to another is so
abbrev pub AreUnfit : ℕ → ℕ → ℕ → ℕ → List KeptShelf → Type 0
AreUnfit across limit from behind shelves =
    (number : ℕ) (kept : KeptShelf) → from ≤ number → number < behind
    → slice_get shelves number ≡ Some kept → IsUnfit across limit kept
