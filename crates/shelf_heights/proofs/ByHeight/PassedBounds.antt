-- Stretches that a search passed, joined.
use Rattle.std.proofs.Common.{ℕ, zero, suc, ◌≤◌, List, [], ◌∷◌, drop, take, arith}
use Rattle.std.specs.List.{AllByRecursion}

-- what holds of each up to a position, and from there up to another, holds of each up to that
pub joined : {X : Type 0} (P : X → Type 0) (xs : List X) (from middle end : ℕ) → from ≤ middle → middle ≤ end
    → AllByRecursion P (drop from (take middle xs)) → AllByRecursion P (drop middle (take end xs)) → AllByRecursion P (drop from (take end xs))
joined P xs zero zero end one other front back = back
joined P xs (suc from) zero end one other front back = absurd (omega arith)
joined P xs from (suc middle) zero one other front back = absurd (omega arith)
joined P [] zero (suc middle) (suc end) one other front back = tt
joined P [] (suc from) (suc middle) (suc end) one other front back = tt
joined P (x ∷ xs) zero (suc middle) (suc end) one other front back =
    (front.0, joined P xs zero middle end (omega arith) (omega arith) front.1 back)
joined P (x ∷ xs) (suc from) (suc middle) (suc end) one other front back =
    joined P xs from middle end (omega arith) (omega arith) front back
