-- The numbers that a walk met are below the records.
use Rattle.std.proofs.Common.{ℕ, ◌<◌, ◌≤◌, List, [], ◌∷◌, length, arith}
use Rattle.std.specs.List.{AllByRecursion}
use Rattle.etagere_base.specs.Lists.{times}
use Rattle.etagere_links.specs.Links.{no_link}
use Rattle.etagere_links.specs.Walks.{walk}
use Rattle.etagere_links.proofs.ListEnds.{times-here}
use Rattle.etagere_links.proofs.WalkChains.{walk-leads}

-- what holds of each number that stands in a list holds of each
Each-times : (P : ℕ → Type 0) (xs : List ℕ) → ((k : ℕ) → 1 ≤ times k xs → P k) → AllByRecursion P xs
Each-times P [] all = tt
Each-times P (x ∷ xs) all = (all x (omega (arith, times-here x xs)), Each-times P xs (λ k stands. all k (omega (arith, stands))))

-- the numbers that a walk met are below the records
pub walk-below : (links : List ℕ) (start : ℕ) → length links ≤ no_link → AllByRecursion (λ (number : ℕ). number < length links) (walk links start).met
walk-below links start few = Each-times (λ (number : ℕ). number < length links) (walk links start).met (walk-leads links start few).within
