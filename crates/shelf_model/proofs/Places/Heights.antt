-- The heights of the shelves of a column, added up.
use Rattle.std.proofs.Common.{◌≡◌, ℕ, suc, ◌+◌, ◌≤◌, List, ◌∷◌, ◌++◌, Some, arith, refl, true, cond, ◌==◌, ◌&&◌, sym, take, ◌≢◌}
use Rattle.std.proofs.lemmas.Bool.{and_parts, eqb-true}
use Rattle.std.specs.Prelude.{slice_get}
use Rattle.shelf_model.specs.Merging.{both_empty, combined_shelves, merged_shelves}
use Rattle.std.specs.List.{AllByRecursion}
use Rattle.etagere_base.specs.MergingAt.{merged_at}
use Rattle.shelf_model.specs.Places.{column_height}
use Rattle.shelf_model.specs.State.{Shelf, is_empty}
use Rattle.etagere_base.proofs.ColumnTotals.{column_total-none, column_total-two, column_total-upto, part, part-other, part-own}
use Rattle.etagere_base.proofs.Totals.{total-append, total-merged, total-merged_at}

-- the column of a shelf
abbrev pub column_of : Shelf → ℕ
column_of shelf = shelf.column

-- the height of a shelf
abbrev pub height_of : Shelf → ℕ
height_of shelf = shelf.height

-- the heights of shelves end to end
pub column_height-append : (column : ℕ) (xs ys : List Shelf)
    → column_height column (xs ++ ys) ≡ column_height column xs + column_height column ys
column_height-append column xs ys = total-append (part column_of height_of column) xs ys

-- the height of a shelf counts in its own column
pub column_height-own : (shelf : Shelf) (shelves : List Shelf)
    → column_height shelf.column (shelf ∷ shelves) ≡ shelf.height + column_height shelf.column shelves
column_height-own shelf shelves = omega (arith, part-own column_of height_of shelf.column shelf refl)

-- a shelf of another column adds no height
pub column_height-other : (column : ℕ) (shelf : Shelf) (shelves : List Shelf) → shelf.column ≢ column
    → column_height column (shelf ∷ shelves) ≡ column_height column shelves
column_height-other column shelf shelves h = omega (arith, part-other column_of height_of column shelf h)

-- shelves of other columns have no height in this one
pub column_height-none : (column : ℕ) (shelves : List Shelf) → AllByRecursion (λ (s : Shelf). s.column ≢ column) shelves → column_height column shelves ≡ 0
column_height-none column shelves others = column_total-none column_of height_of column shelves others

-- the one shelf of a column fills it
pub column_height-alone : (column : ℕ) (shelf : Shelf) (shelves : List Shelf) → shelf.column ≡ column
    → AllByRecursion (λ (s : Shelf). s.column ≢ column) shelves → column_height column (shelf ∷ shelves) ≡ shelf.height
column_height-alone column shelf shelves here others =
    omega (arith, part-own column_of height_of column shelf here, column_height-none column shelves others)

-- a shelf and those before it in its column are no taller than the column
pub column_height-upto : (n : ℕ) (shelves : List Shelf) (shelf : Shelf) → slice_get shelves n ≡ Some shelf
    → column_height shelf.column (take n shelves) + shelf.height ≤ column_height shelf.column shelves
column_height-upto n shelves shelf h = column_total-upto column_of height_of n shelves shelf h

-- empty neighbours that are merged stand in one column
pub same_column : (x y : Shelf) → both_empty x y ≡ true → x.column ≡ y.column
same_column x y t = eqb-true x.column y.column (and_parts (x.column == y.column) (is_empty x && is_empty y) t).0

-- a merged shelf has the height of its parts
combined-height : (column : ℕ) (x y : Shelf) → both_empty x y ≡ true
    → part column_of height_of column (combined_shelves x y) ≡ part column_of height_of column x + part column_of height_of column y
combined-height column x y t = step x.column y.column x.height y.height (same_column x y t)
  where
    step : (a b v w : ℕ) → a ≡ b → cond (a == column) (v + w) 0 ≡ cond (a == column) v 0 + cond (b == column) w 0
    step a b v w e = grind arith

-- also in front of other shelves
pub column_height-combined : (column : ℕ) (x y : Shelf) (ys : List Shelf) → both_empty x y ≡ true
    → column_height column (combined_shelves x y ∷ ys) ≡ column_height column (x ∷ y ∷ ys)
column_height-combined column x y ys t = omega (arith, combined-height column x y t)

-- two neighbours of one column are no taller than it
pub heights-le : (n : ℕ) (shelves : List Shelf) (shelf next : Shelf) → slice_get shelves n ≡ Some shelf → slice_get shelves (suc n) ≡ Some next
    → both_empty shelf next ≡ true → shelf.height + next.height ≤ column_height shelf.column shelves
heights-le n shelves shelf next h k t = column_total-two column_of height_of n shelves shelf next h k (sym (same_column shelf next t))

-- merging two shelves changes the height of no column
pub column_height-merged_at : (column n : ℕ) (shelves : List Shelf) → column_height column (merged_at both_empty combined_shelves n shelves) ≡ column_height column shelves
column_height-merged_at column n shelves = total-merged_at (part column_of height_of column) both_empty combined_shelves (combined-height column) n shelves

-- merging shelves changes the height of no column
pub column_height-merged : (column : ℕ) (shelves : List Shelf) → column_height column (merged_shelves shelves) ≡ column_height column shelves
column_height-merged column shelves = total-merged (part column_of height_of column) both_empty combined_shelves (combined-height column) shelves
