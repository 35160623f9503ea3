-- Where a walk has met its records.
use Rattle.std.specs.Prelude.{◌≡◌, ℕ, ◌-◌, ◌<◌, List, length, slice_index}
use Rattle.etagere_links.specs.Walks.{Walked, walked_from}

-- the position of each record among those met is noted for it
abbrev pub ArePositions : List ℕ → List ℕ → Type 0
ArePositions positions met =
    (position : ℕ) → position < length met → slice_index positions (slice_index met position) ≡ position

-- a walk that has met these and goes on from a link
abbrev pub rest_of : List ℕ → List ℕ → ℕ → Walked
rest_of links met at = walked_from (length links - length met) links met at
