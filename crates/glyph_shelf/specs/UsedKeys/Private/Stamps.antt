-- Stamped entries: what they are without their stamps, and that stamps fall along the order of use.
use Rattle.std.specs.Prelude.{ℕ, suc, ◌≤◌, ◌==◌, cond, nat_eq, List, [], ◌∷◌, ◌++◌, map}
use Rattle.std.specs.Map.{lookup_entry, remove_entry}
use Rattle.std.specs.Option.{option_map_or}
use Rattle.etagere_base.specs.declared.ids.Allocation.{Allocation}
use Rattle.glyph_shelf.specs.declared.used_keys.stamps.Entry.{Entry}

-- entries without their stamps
abbrev pub unstamped : List (ℕ × Entry) → List (ℕ × Allocation)
unstamped entries = map (λ (entry : ℕ × Entry). (entry.0, entry.1.allocation)) entries

-- an entry with another stamp
abbrev pub with_stamp : ℕ → ℕ × Entry → ℕ × Entry
with_stamp frame entry = (entry.0, record { allocation = entry.1.allocation; frame = frame })

-- how many of the first entries have this stamp
abbrev pub stamped_first : ℕ → List (ℕ × Entry) → ℕ
stamped_first frame [] = 0
stamped_first frame (entry ∷ entries) =
    cond (entry.1.frame == frame) (suc (stamped_first frame entries)) 0

-- no stamp is above this, nor above one that stands before it
abbrev pub AreFalling : ℕ → List (ℕ × Entry) → Type 0
AreFalling most [] = Unit {0}
AreFalling most (entry ∷ entries) = (entry.1.frame ≤ most) × AreFalling entry.1.frame entries

-- the first entry stands last, without its stamp
abbrev pub turned : List (ℕ × Entry) → List (ℕ × Entry)
turned [] = []
turned (entry ∷ entries) = entries ++ with_stamp 0 entry ∷ []

-- the entry of a key stands first, with this stamp
abbrev pub used_in : ℕ → ℕ → List (ℕ × Entry) → List (ℕ × Entry)
used_in frame key entries =
    option_map_or (λ entry. with_stamp frame entry ∷ remove_entry (nat_eq key) entries)
    (lookup_entry (nat_eq key) entries) entries
