-- Two decimal digits that are written together.
use Rattle.std.specs.Prelude.{ℕ, ◌+◌, ◌/◌, ◌%◌, List, [], ◌∷◌}

-- the two digits of a number below 100, of which the first may be zero
abbrev pub pair_text : ℕ → List ℕ
pair_text pair = (48 + pair / 10) ∷ (48 + pair % 10) ∷ []
