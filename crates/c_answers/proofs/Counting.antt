-- Everything that is allocated is few enough to be counted.
use Rattle.std.proofs.Common.{ℕ, ◌+◌, ◌≤◌, List, [], ◌∷◌, length, map, arith}
use Rattle.etagere_base.specs.declared.ids.Allocation.{Allocation}
use Rattle.shelf_model.specs.Listing.{RiseFrom}
use Rattle.shelf_model.specs.Places.{record_number}

-- record numbers that rise, which are below 65536, are no more than these
pub rise_few : (from : ℕ) (listed : List Allocation) → from ≤ 65536
    → RiseFrom from (map (λ (allocation : Allocation). record_number allocation.id) listed) → from + length listed ≤ 65536
rise_few from [] below rises = omega arith
rise_few from (first ∷ listed) below rises =
    omega (arith, rises.0, rise_few (record_number first.id + 1) listed (omega arith) rises.1)
