-- The numbers by which the keys of a map go where it is saved.
use Rattle.std.specs.Prelude.{ℕ, ◌+◌, List, [], ◌∷◌}
use Rattle.glyph_shelf.specs.declared.saving.SavedKey.{SavedKey}

-- saved keys with numbers from one on in place of the keys
abbrev pub numbered_from : ℕ → List SavedKey → List SavedKey
numbered_from number [] = []
numbered_from number (saved ∷ rest) =
    record { key = number; id = saved.id } ∷ numbered_from (number + 1) rest
