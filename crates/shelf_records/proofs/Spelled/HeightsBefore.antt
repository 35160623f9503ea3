-- The heights of shelves, as they count for a column.
use Rattle.std.proofs.Common.{◌≡◌, ℕ, ◌+◌, List, [], ◌∷◌, ◌++◌, ap, arith, ◌∙◌}
use Rattle.std.specs.Prelude.{◌/◌, ◌==◌, if◌then◌else◌}
use Rattle.shelf_records.specs.declared.records.LinkedShelf.{LinkedShelf}
use Rattle.shelf_records.specs.AtlasRecords.{along_of, height_of}
use Rattle.shelf_records.specs.StandsFor.{height_before}
use Rattle.shelf_records.proofs.Spelled.RecordValues.{SameShelf}

-- the heights of two lists of shelves
pub height_before-append : (shelves : List LinkedShelf) (column_width column : ℕ) (xs ys : List ℕ) → height_before shelves column_width column (xs ++ ys) ≡ height_before shelves column_width column xs + height_before shelves column_width column ys
height_before-append shelves column_width column [] ys = omega arith
height_before-append shelves column_width column (x ∷ xs) ys = omega (arith, height_before-append shelves column_width column xs ys)

-- the height of one shelf, as it counts for a column
pub height-one : (shelves new : List LinkedShelf) (column_width column n : ℕ) → SameShelf shelves new n → height_before new column_width column (n ∷ []) ≡ height_before shelves column_width column (n ∷ [])
height-one shelves new column_width column n same =
    ap (λ a. (if a / column_width == column then height_of new n else 0) + 0) same.along
    ∙ ap (λ h. (if along_of shelves n / column_width == column then h else 0) + 0) same.height
