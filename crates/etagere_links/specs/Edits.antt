-- A record of a list changed, and a link or a field of one.
use Rattle.std.specs.Prelude.{ℕ, zero, suc, Option, None, Some, option_and_then, List, [], ◌∷◌, slice_get}
use Rattle.std.specs.Option.{option_map_or}

-- the list with the element of this number changed
abbrev pub changed_at : {T : Type 0} → ℕ → (T → T) → List T → List T
changed_at number change [] = []
changed_at zero change (x ∷ xs) = change x ∷ xs
changed_at (suc number) change (x ∷ xs) = x ∷ changed_at number change xs

-- the list with the element changed that a link names; the list itself where it names none
abbrev pub changed_by : {T : Type 0} → Option ℕ → (T → T) → List T → List T
changed_by None change xs = xs
changed_by (Some number) change xs = changed_at number change xs

-- a link of the record of this number; none where there is no such record
abbrev pub link_at : {T : Type 0} → (T → Option ℕ) → List T → ℕ → Option ℕ
link_at link records number = option_and_then link (slice_get records number)

-- a field of the record of this number; where there is none, the other value
abbrev pub field_at : {T X : Type 0} → (T → X) → X → List T → ℕ → X
field_at field other records number = option_map_or field (slice_get records number) other
