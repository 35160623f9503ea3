-- Merging at one position of a list, which is all that a return has to do.
use Rattle.std.specs.Prelude.{ℕ, zero, suc, Bool, List, [], ◌∷◌, if◌then◌else◌}

-- the element of this number and the one after it become one where the two touch
abbrev pub merged_at : {X : Type 0} → (X → X → Bool) → (X → X → X) → ℕ → List X → List X
merged_at touch combine n [] = []
merged_at touch combine zero (x ∷ []) = x ∷ []
merged_at touch combine zero (x ∷ y ∷ ys) = if touch x y then combine x y ∷ ys else x ∷ y ∷ ys
merged_at touch combine (suc n) (x ∷ xs) = x ∷ merged_at touch combine n xs

-- the element of this number and the one before it become one where the two touch
abbrev pub merged_before : {X : Type 0} → (X → X → Bool) → (X → X → X) → ℕ → List X → List X
merged_before touch combine zero xs = xs
merged_before touch combine (suc n) xs = merged_at touch combine n xs
