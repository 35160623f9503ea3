-- Merging idle shelves for a size that no shelf serves: which ones, and what becomes of them.
use Rattle.std.specs.Prelude.{ℕ, zero, suc, ◌+◌, Bool, ◌&&◌, Option, None, Some, List, [], ◌∷◌, ◌++◌, length, map, take, drop, nat_le, ◌==◌, if◌then◌else◌}
use Rattle.std.specs.List.{list_all}
use Rattle.etagere_base.specs.declared.sides.Sides.{Sides}
use Rattle.bucketed_model.specs.State.{BucketShelf, is_idle, with_height}

-- neighbouring shelves that are merged: the number of the first, and how many stand with it
pub record Group : Type 0 where
  pub first : ℕ
  pub others : ℕ

-- the heights of shelves, added up
abbrev pub total_height : List BucketShelf → ℕ
total_height [] = 0
total_height (shelf ∷ shelves) = shelf.height + total_height shelves

-- a shelf of this column holds nothing live
abbrev pub is_idle_in : ℕ → BucketShelf → Bool
is_idle_in column shelf = shelf.column == column && is_idle shelf

-- a shelf and as many after it serve these sides: idle shelves of one column, tall enough together,
-- with wide buckets in the first
abbrev pub serves : Sides → ℕ → BucketShelf → List BucketShelf → Bool
serves sides others shelf shelves =
    let next = take others shelves in
    length next == others
    && (is_idle shelf && list_all (is_idle_in shelf.column) next)
    && (nat_le sides.along shelf.bucket_width
    && nat_le sides.across (shelf.height + total_height next))

-- the first shelf, of which the first one here has this number, that serves with the next or the
-- next two
abbrev pub mergeable_shelves : Sides → ℕ → List BucketShelf → Option Group
mergeable_shelves sides number [] = None
mergeable_shelves sides number (shelf ∷ shelves) =
    if serves sides 1 shelf shelves then Some (record { first = number; others = 1 })
    else (if serves sides 2 shelf shelves then Some (record { first = number; others = 2 })
    else mergeable_shelves sides (suc number) shelves)

-- the first shelf takes the heights of so many after it, which stay with none
abbrev pub merged_front : ℕ → BucketShelf → List BucketShelf → List BucketShelf
merged_front others shelf shelves =
    with_height (shelf.height + total_height (take others shelves)) shelf
    ∷ map (with_height 0) (take others shelves) ++ drop others shelves

-- the shelves with so many merged into the one of this number
abbrev pub merged_shelves : ℕ → ℕ → List BucketShelf → List BucketShelf
merged_shelves first others [] = []
merged_shelves zero others (shelf ∷ shelves) = merged_front others shelf shelves
merged_shelves (suc first) others (shelf ∷ shelves) = shelf ∷ merged_shelves first others shelves
