-- Facts of what a list spells are facts of its elements.
use Rattle.std.proofs.Common.{Bool, List, [], ◌∷◌, map}
use Rattle.std.specs.List.{AllByRecursion}
use Rattle.etagere_base.specs.Lists.{NoNeighbours}

-- a fact of each
pub each-map : {X Y : Type 0} (P : Y → Type 0) (f : X → Y) (xs : List X) → AllByRecursion (λ x. P (f x)) xs → AllByRecursion P (map f xs)
each-map P f [] each = tt
each-map P f (x ∷ xs) each = (each.0, each-map P f xs each.1)

-- and back
pub each-unmap : {X Y : Type 0} (P : Y → Type 0) (f : X → Y) (xs : List X) → AllByRecursion P (map f xs) → AllByRecursion (λ x. P (f x)) xs
each-unmap P f [] each = tt
each-unmap P f (x ∷ xs) each = (each.0, each-unmap P f xs each.1)

-- a fact of neighbours
pub neighbours-map : {X Y : Type 0} (touch : Y → Y → Bool) (f : X → Y) (xs : List X) → NoNeighbours (λ x y. touch (f x) (f y)) xs → NoNeighbours touch (map f xs)
neighbours-map touch f [] apart = tt
neighbours-map touch f (x ∷ []) apart = tt
neighbours-map touch f (x ∷ y ∷ ys) apart = (apart.0, neighbours-map touch f (y ∷ ys) apart.1)
