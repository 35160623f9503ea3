-- The search for the fullest page: what it has found so far.
use Rattle.std.specs.Prelude.{ℕ, Bool, true, nat_lt, Option, None, Some, option_map}
use Rattle.etagere_base.specs.Least.{Found}
use Rattle.atlas_pages.specs.declared.choosing.Candidate.{Candidate}

-- a candidate, as what is found in ranks
abbrev pub found_of : Option Candidate → Option Found
found_of best =
    option_map (λ (candidate : Candidate). record { number = candidate.number; rank = candidate.free_space }) best

-- a page of this number with its rank, if it has one
abbrev pub found_at : ℕ → Option ℕ → Option Found
found_at number rank = option_map (λ r. record { number = number; rank = r }) rank

-- less is free than on the best so far, if there is one
abbrev pub is_fuller : ℕ → Option Found → Bool
is_fuller free None = true
is_fuller free (Some found) = nat_lt free found.rank
