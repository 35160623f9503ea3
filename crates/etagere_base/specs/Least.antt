-- The first of least rank in a list, and how a search in any order finds it.
use Rattle.std.specs.Prelude.{◌≡◌, ℕ, suc, ◌<◌, ◌≤◌, Option, None, Some, option_map, List, [], ◌∷◌, slice_get, nat_le, nat_lt, if◌then◌else◌}

-- what was found in a list of ranks: its number in the list, and its rank
pub record Found : Type 0 where
  pub number : ℕ
  pub rank : ℕ

-- what was found, seen from one position further to the left
abbrev pub one_later : Found → Found
one_later found = record { number = suc found.number; rank = found.rank }

-- a rank that stands first against what was found after it: the lower one, and the first among
-- equals
abbrev pub first_or : ℕ → Option Found → Found
first_or rank None = record { number = 0; rank = rank }
first_or rank (Some later) =
    if nat_le rank later.rank then record { number = 0; rank = rank } else one_later later

-- the first of least rank
abbrev pub first_least : List (Option ℕ) → Option Found
first_least [] = None
first_least (None ∷ ranks) = option_map one_later (first_least ranks)
first_least (Some rank ∷ ranks) = Some (first_or rank (first_least ranks))

-- what was found first, unless what was found after it has a lower rank
abbrev pub better : Option Found → Option Found → Option Found
better None later = later
better (Some found) None = Some found
better (Some found) (Some later) = if nat_lt later.rank found.rank then Some later else Some found

-- what was found stands in the list, nothing ranks lower, and nothing before it ranks as low
pub record IsFirstLeast (ranks : List (Option ℕ)) (found : Found) : Type 0 where
  pub at : slice_get ranks found.number ≡ Some (Some found.rank)
  pub least : (n r : ℕ) → slice_get ranks n ≡ Some (Some r) → found.rank ≤ r
  pub first : (n r : ℕ) → slice_get ranks n ≡ Some (Some r) → n < found.number → found.rank < r
