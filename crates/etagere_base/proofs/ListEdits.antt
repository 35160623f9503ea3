-- What merging at a number leaves as it is.
use Rattle.std.proofs.Common.{◌≡◌, ℕ, zero, suc, Bool, List, [], ◌∷◌, refl, ap, take}
use Rattle.etagere_base.specs.MergingAt.{merged_at}

-- what stands before an element that is merged with the next one stays
pub take-merged_at : {X : Type 0} (touch : X → X → Bool) (combine : X → X → X) (n : ℕ) (xs : List X) → take n (merged_at touch combine n xs) ≡ take n xs
take-merged_at touch combine zero xs = refl
take-merged_at touch combine (suc n) [] = refl
take-merged_at touch combine (suc n) (x ∷ xs) = ap (λ (l : List _). x ∷ l) (take-merged_at touch combine n xs)
