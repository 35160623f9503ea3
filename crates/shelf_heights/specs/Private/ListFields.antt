-- A list of shelves with bounds as its fields have it: their numbers, their bounds, and the widest bound of each block.
use Rattle.std.specs.Prelude.{◌≡◌, ℕ, ◌+◌, ◌*◌, ◌<◌, ◌≤◌, Option, None, Some, List, [], ◌∷◌, drop, get_or, length, min, take, vec_capacity}
use Rattle.std.specs.List.{AllByRecursion}
use Rattle.shelf_heights.specs.declared.by_height.BoundedShelf.{BoundedShelf}
use Rattle.shelf_heights.specs.declared.bounded_list.BoundedList.TheInside.{Inside}

-- what the list stands for: the shelves, and for how many there is room
pub record ListByHeight : Type 0 where
  pub items : List BoundedShelf
  pub capacity : ℕ

-- shelves of these numbers with these bounds
abbrev pub paired : List ℕ → List ℕ → List BoundedShelf
paired [] bounds = []
paired (number ∷ numbers) [] = []
paired (number ∷ numbers) (bound ∷ bounds) =
    record { widest = bound; shelf = number } ∷ paired numbers bounds

-- none of these has fallen
abbrev pub AreRaised : List ℕ → List ℕ → Type 0
AreRaised old new = (block : ℕ) → get_or old block 0 ≤ get_or new block 0

-- no bound passes the widest of its block, of which each has 64
abbrev pub AreCovered : List ℕ → List ℕ → Type 0
AreCovered widest bounds = (block offset : ℕ) → offset < 64
    → get_or bounds (block * 64 + offset) 0 ≤ get_or widest block 0

-- what the fields stand for
abbrev pub list_in : Inside → ListByHeight
list_in list =
    record {
      items = paired list.numbers.items list.bounds.items;
      capacity = min (min (vec_capacity list.numbers) (vec_capacity list.bounds))
          (64 * length list.widest.items);
    }

-- what they keep: a bound for each number, and for each block the widest
pub record IsCovered (list : Inside) : Type 0 where
  pub equal : length list.numbers.items ≡ length list.bounds.items
  pub blocks : length list.bounds.items ≤ 64 * length list.widest.items
  pub covered : AreCovered list.widest.items list.bounds.items

-- the first position from this one on whose bound is not below a width, or that there is none
abbrev pub IsFirstWide : ℕ → ℕ → List ℕ → Option ℕ → Type 0
IsFirstWide from width bounds None = AllByRecursion (λ bound. bound < width) (drop from bounds)
IsFirstWide from width bounds (Some index) =
    (from ≤ index)
    × (index < length bounds)
    × AllByRecursion (λ bound. bound < width) (drop from (take index bounds))
    × AllByRecursion (λ bound. width ≤ bound) (take 1 (drop index bounds))
