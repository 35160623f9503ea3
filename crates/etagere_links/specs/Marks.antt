-- Marks of the records that lists have: which of them stand in a list, each once.
use Rattle.std.specs.Prelude.{◌≡◌, ℕ, ◌≤◌, Bool, false, List, slice_index_or, if◌then◌else◌}
use Rattle.etagere_base.specs.Lists.{times}

-- a marked number stands in the list once, and no other does
abbrev pub IsMarkedBy : List Bool → List ℕ → Type 0
IsMarkedBy marks numbers =
    (number : ℕ) → times number numbers ≡ (if slice_index_or marks number false then 1 else 0)

-- some number stands in the list twice at least
abbrev pub HasTwice : List ℕ → Type 0
HasTwice numbers = (number : ℕ) × (2 ≤ times number numbers)
