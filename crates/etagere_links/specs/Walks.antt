-- Following links through records.
use Rattle.std.specs.Prelude.{ℕ, zero, suc, Bool, ◌||◌, List, [], ◌∷◌, ◌++◌, length, slice_index, nat_le, ◌==◌, if◌then◌else◌, Option, map}
use Rattle.std.specs.List.{list_any}
use Rattle.etagere_links.specs.Links.{no_link, bits_of}

-- a walk: the numbers of the records that it met, in order, and the link at which it stopped
pub record Walked : Type 0 where
  pub met : List ℕ
  pub end : ℕ

-- a walk stops at none, at a link that is no record's number, or at one that it has met
abbrev pub is_end : List ℕ → List ℕ → ℕ → Bool
is_end links met at =
    (at == no_link) || nat_le (length links) at || list_any (λ number. number == at) met

-- the rest of a walk of at most so many steps, from a link on
abbrev pub walked_from : ℕ → List ℕ → List ℕ → ℕ → Walked
walked_from zero links met at = record { met = met; end = at }
walked_from (suc steps) links met at =
    if is_end links met at
    then record { met = met; end = at }
    else walked_from steps links (met ++ at ∷ []) (slice_index links at)

-- the walk from a link on: at each record it follows that record's link
abbrev pub walk : List ℕ → ℕ → Walked
walk links start = walked_from (length links) links [] start

-- the walk through records by one of their links
abbrev pub walk_by : {T : Type 0} → (T → Option ℕ) → List T → Option ℕ → Walked
walk_by link records start = walk (map (λ here. bits_of (link here)) records) (bits_of start)
