-- What a caller knows who keeps a list of what it was given and has not given back.
use Rattle.std.specs.Prelude.{◌≡◌, ℕ, Some, List, find, map, ◌==◌}
use Rattle.etagere_base.specs.declared.ids.Allocation.{Allocation}
use Rattle.std.specs.List.{AllByRecursion}
use Rattle.etagere_base.specs.Lists.{times}

-- an allocation is the one that is found under its id
abbrev pub IsFound : List Allocation → Allocation → Type 0
IsFound allocations allocation =
    find (λ other. other.id == allocation.id) allocations ≡ Some allocation

-- what a caller keeps is all that is allocated: each is found under its id, and no other id is
-- there
pub record AreTied (kept allocations : List Allocation) : Type 0 where
  pub found : AllByRecursion (IsFound allocations) kept
  pub counted : (id : ℕ) → times id (map (λ allocation. allocation.id) allocations)
      ≡ times id (map (λ allocation. allocation.id) kept)
