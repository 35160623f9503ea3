-- Lists of record numbers that have each number once.
use Rattle.std.specs.Prelude.{ℕ, List, ◌≡◌, nat_lt, if◌then◌else◌}
use Rattle.etagere_base.specs.Lists.{times}

-- each number below the count stands in the list once, and no other
abbrev pub HasEachOnce : ℕ → List ℕ → Type 0
HasEachOnce count numbers =
    (number : ℕ) → times number numbers ≡ (if nat_lt number count then 1 else 0)
