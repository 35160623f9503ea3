-- The order in which an iteration gives what is allocated.
use Rattle.std.specs.List.{flat_map, range_with_len}
use Rattle.std.specs.Prelude.{ℕ, ◌+◌, ◌≤◌, List, [], ◌∷◌, filter, ◌==◌}
use Rattle.etagere_base.specs.declared.ids.Allocation.{Allocation}
use Rattle.shelf_model.specs.Places.{allocations, record_number}
use Rattle.shelf_model.specs.State.{AtlasState}

-- what is allocated by the record of this number
abbrev pub allocations_at : AtlasState → ℕ → List Allocation
allocations_at state number =
    filter (λ allocation. record_number allocation.id == number) (allocations state)

-- everything that is allocated, by rising record numbers
abbrev pub listed : AtlasState → List Allocation
listed state = flat_map (allocations_at state) (range_with_len 0 state.peak_items)

-- numbers rise, from this one on
abbrev pub RiseFrom : ℕ → List ℕ → Type 0
RiseFrom from [] = Unit {0}
RiseFrom from (number ∷ numbers) = (from ≤ number) × RiseFrom (number + 1) numbers
