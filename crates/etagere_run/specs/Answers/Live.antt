-- What is live in a run, of whatever kind: what earlier commands were given and what is not given
-- back.
use Rattle.std.specs.Prelude.{ℕ, ◌+◌, max, Option, option_map, List, [], ◌∷◌, ◌++◌, length, map, find, ◌==◌, if◌then◌else◌}
use Rattle.etagere_base.specs.declared.ids.Allocation.{Allocation}

-- an allocation, and the position of the command that was given it
pub record Entry : Type 0 where
  pub position : ℕ
  pub allocation : Allocation

-- what a command and its reply do to what is live: an allocation comes to it, what was given at a
-- position goes, all goes, or nothing changes
pub data Effect : Type 0 where
  Adds : Allocation → Effect
  TakesOut : ℕ → Effect
  Empties : Effect
  Keeps : Effect

-- the entries without the one of a position
abbrev pub without : ℕ → List Entry → List Entry
without position [] = []
without position (entry ∷ entries) =
    if entry.position == position then entries else entry ∷ without position entries

-- what the command at a position was given, if that is live
abbrev pub allocation_at : ℕ → List Entry → Option Allocation
allocation_at position entries =
    option_map (λ entry. entry.allocation) (find (λ entry. entry.position == position) entries)

-- what is live, without the positions
abbrev pub live_allocations : List Entry → List Allocation
live_allocations entries = map (λ entry. entry.allocation) entries

-- what is live after the command at a position had this effect: what is added comes last
abbrev pub live_after : ℕ → Effect → List Entry → List Entry
live_after position (Adds allocation) entries =
    entries ++ record { position = position; allocation = allocation } ∷ []
live_after position (TakesOut other) entries = without other entries
live_after position Empties entries = []
live_after position Keeps entries = entries

-- what is live after commands had these effects, the first of them at this position
abbrev pub live_from : ℕ → List Entry → List Effect → List Entry
live_from position entries [] = entries
live_from position entries (effect ∷ effects) =
    live_from (position + 1) (live_after position effect entries) effects

-- what is live after the first commands had these effects
abbrev pub live : List Effect → List Entry
live effects = live_from 0 [] effects

-- the most that was live so far: this much before, or that many now; where all is taken out it
-- begins anew
abbrev pub peak_after : Effect → ℕ → ℕ → ℕ
peak_after Empties before now = 0
peak_after effect before now = max before now

-- the most that is live after commands had these effects, the first of them at this position, where
-- this much was live before
abbrev pub peak_from : ℕ → ℕ → List Entry → List Effect → ℕ
peak_from most position entries [] = most
peak_from most position entries (effect ∷ effects) =
    let later = live_after position effect entries in
    peak_from (peak_after effect most (length later)) (position + 1) later effects

-- the most that was live at once since the beginning, or since all was last taken out
abbrev pub peak : List Effect → ℕ
peak effects = peak_from 0 0 [] effects
