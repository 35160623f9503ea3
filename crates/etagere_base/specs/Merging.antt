-- Merging in whole lists: each longest block of neighbours that touch becomes one.
use Rattle.std.specs.Prelude.{Bool, List, [], ◌∷◌, if◌then◌else◌}

-- an element in front of a merged list: one with the first where the two touch
abbrev pub merged_onto : {X : Type 0} → (X → X → Bool) → (X → X → X) → X → List X → List X
merged_onto touch combine x [] = x ∷ []
merged_onto touch combine x (y ∷ ys) = if touch x y then combine x y ∷ ys else x ∷ y ∷ ys

-- each longest block of neighbours that touch becomes one
abbrev pub merged_by : {X : Type 0} → (X → X → Bool) → (X → X → X) → List X → List X
merged_by touch combine [] = []
merged_by touch combine (x ∷ xs) = merged_onto touch combine x (merged_by touch combine xs)
