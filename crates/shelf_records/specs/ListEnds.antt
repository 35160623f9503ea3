-- The ends of lists of record numbers, as links.
use Rattle.std.specs.Prelude.{ℕ, Option, Some, List, [], ◌∷◌}

-- the first of a list, or another link where the list is empty
abbrev pub first_or : Option ℕ → List ℕ → Option ℕ
first_or other [] = other
first_or other (x ∷ xs) = Some x

-- the last of a list, or another link where the list is empty
abbrev pub last_or : Option ℕ → List ℕ → Option ℕ
last_or other [] = other
last_or other (x ∷ xs) = last_or (Some x) xs
