-- The first of least rank among what shelves offer, as the model finds it.
use Rattle.std.proofs.Common.{◌≡◌, ℕ, Bool, true, false, cond, Option, None, Some, option_map, List, [], ◌∷◌, map, refl, arith}
use Rattle.std.specs.Prelude.{nat_le, nat_lt, slice_get}
use Rattle.etagere_base.specs.Least.{Found, first_least, first_or, one_later}
use Rattle.shelf_search.specs.Private.Searching.{lower, lowest}
use Rattle.shelf_search.specs.declared.choosing.Candidate.{Candidate}

-- the rank of a candidate
abbrev pub rank_in : Candidate → ℕ
rank_in candidate = candidate.rank

-- what was found is the candidate of that number in the list, by its rank
abbrev pub AreSame : List (Option Candidate) → Option Found → Option Candidate → Type 0
AreSame candidates None None = Unit {0}
AreSame candidates None (Some candidate) = ⊥
AreSame candidates (Some found) None = ⊥
AreSame candidates (Some found) (Some candidate) =
    (slice_get candidates found.number ≡ Some (Some candidate)) × (found.rank ≡ candidate.rank)

-- a candidate in front of others
same-first : (candidate : Candidate) (candidates : List (Option Candidate)) (o : Option Found) (p : Option Candidate) → AreSame candidates o p
    → AreSame (Some candidate ∷ candidates) (Some (first_or candidate.rank o)) (Some (lower candidate p))
same-first candidate candidates None None same = (refl, refl)
same-first candidate candidates None (Some later) same = absurd same
same-first candidate candidates (Some found) None same = absurd same
same-first candidate candidates (Some found) (Some later) same =
    by_test (nat_le candidate.rank found.rank) (nat_lt later.rank candidate.rank) refl refl
  where
    by_test : (b c : Bool) → nat_le candidate.rank found.rank ≡ b → nat_lt later.rank candidate.rank ≡ c
        → AreSame (Some candidate ∷ candidates) (Some (cond b (record { number = 0; rank = candidate.rank }) (one_later found))) (Some (cond c later candidate))
    by_test true true e f = absurd (grind (arith, same.1))
    by_test true false e f = (refl, refl)
    by_test false true e f = same
    by_test false false e f = absurd (grind (arith, same.1))

-- no candidate in front of others
same-later : (candidates : List (Option Candidate)) (o : Option Found) (p : Option Candidate) → AreSame candidates o p → AreSame (None ∷ candidates) (option_map one_later o) p
same-later candidates None None same = tt
same-later candidates None (Some later) same = absurd same
same-later candidates (Some found) None same = absurd same
same-later candidates (Some found) (Some later) same = same

-- the lowest candidate is what the model finds among the ranks
pub lowest-same : (candidates : List (Option Candidate)) → AreSame candidates (first_least (map (option_map rank_in) candidates)) (lowest candidates)
lowest-same [] = tt
lowest-same (None ∷ candidates) = same-later candidates (first_least (map (option_map rank_in) candidates)) (lowest candidates) (lowest-same candidates)
lowest-same (Some candidate ∷ candidates) = same-first candidate candidates (first_least (map (option_map rank_in) candidates)) (lowest candidates) (lowest-same candidates)
