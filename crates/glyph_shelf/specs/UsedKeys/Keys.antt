-- The model of keys in the order of use: what is allocated for them, how many there may be, and how many were used in
-- the present frame. These stand first.
use Rattle.std.specs.Prelude.{ℕ, suc, ◌-◌, min, Bool, cond, Option, None, Some, option_map, is_some, nat_eq, List, [], ◌∷◌, length, take}
use Rattle.std.specs.Map.{lookup, remove_entry}
use Rattle.std.specs.Option.{option_map_or}
use Rattle.lru.specs.LruCache.{promoted}
use Rattle.etagere_base.specs.declared.geometry.Rectangle.{Rectangle}
use Rattle.etagere_base.specs.declared.ids.Allocation.{Allocation}

-- keys with what is allocated for them, the most recently used first; how many there may be; and how
-- many were used in the frame, none where no frame has begun
pub record KeysState : Type 0 where
  pub entries : List (ℕ × Allocation)
  pub cap : ℕ
  pub uses : Option ℕ

-- the rectangle of a key among entries; none where it isn't there
abbrev pub rectangle_in : List (ℕ × Allocation) → ℕ → Option Rectangle
rectangle_in entries key =
    option_map (λ (allocation : Allocation). allocation.rectangle) (lookup (nat_eq key) entries)

-- how many were used in the frame
abbrev pub uses_in : Option ℕ → ℕ
uses_in uses = option_map_or (λ count. count) uses 0

abbrev pub frame_uses : KeysState → ℕ
frame_uses state = uses_in state.uses

-- a key stands among the first entries
abbrev pub stands_first : ℕ → List (ℕ × Allocation) → ℕ → Bool
stands_first key entries count = is_some (lookup (nat_eq key) (take count entries))

-- the uses when a key is used: it is one of them, or one more, or isn't there
abbrev pub uses_with : ℕ → List (ℕ × Allocation) → ℕ → ℕ
uses_with key entries uses =
    cond (stands_first key entries uses) uses
    (cond (is_some (lookup (nat_eq key) entries)) (suc uses) uses)

-- the uses when a key that is there goes
abbrev pub uses_without : ℕ → List (ℕ × Allocation) → ℕ → ℕ
uses_without key entries uses = cond (stands_first key entries uses) (uses - 1) uses

-- the uses when only so many entries are left
abbrev pub uses_left : ℕ → Option ℕ → Option ℕ
uses_left count uses = option_map (min count) uses

-- no keys; no frame has begun
abbrev pub no_keys : ℕ → KeysState
no_keys cap = record { entries = []; cap = cap; uses = None }

-- a frame in which none was used
abbrev pub framed : KeysState → KeysState
framed state = record { entries = state.entries; cap = state.cap; uses = Some 0 }

-- a key was used, if it is there
abbrev pub looked : KeysState → ℕ → KeysState
looked state key =
    record {
      entries = promoted (nat_eq key) state.entries;
      cap = state.cap;
      uses = option_map (uses_with key state.entries) state.uses;
    }

-- a new key was put in front
abbrev pub entered : KeysState → ℕ → Allocation → KeysState
entered state key allocation =
    record {
      entries = (key, allocation) ∷ state.entries;
      cap = state.cap;
      uses = option_map suc state.uses;
    }

-- a key that is there went
abbrev pub without : KeysState → ℕ → KeysState
without state key =
    option_map_or
    (λ (allocation : Allocation).
    record {
      entries = remove_entry (nat_eq key) state.entries;
      cap = state.cap;
      uses = option_map (uses_without key state.entries) state.uses;
    })
    (lookup (nat_eq key) state.entries) state

-- the last entry went
abbrev pub without_last : KeysState → KeysState
without_last state =
    let left = length state.entries - 1 in
    record {
      entries = take left state.entries;
      cap = state.cap;
      uses = uses_left left state.uses;
    }

-- the same, of which there may be so many
abbrev pub of_cap : KeysState → ℕ → KeysState
of_cap state cap = record { entries = state.entries; cap = cap; uses = state.uses }
