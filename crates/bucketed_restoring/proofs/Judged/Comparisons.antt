-- Comparisons of numbers decide what they compare.
use Rattle.std.proofs.Common.{◌≡◌, ℕ, ◌<◌, ◌≤◌, Bool, true, false, refl, arith, ◌==◌}
use Rattle.std.proofs.lemmas.Bool.Decides.{Decides-eqb}
use Rattle.std.specs.Prelude.{Decides, nat_le, nat_lt}
use Rattle.etagere_base.proofs.DecidingLemmas.{decides-no, decides-yes}

-- a comparison decides what it compares
pub decides-le : (a b : ℕ) → Decides (nat_le a b) (a ≤ b)
decides-le a b = by_test (nat_le a b) refl
  where
    by_test : (t : Bool) → nat_le a b ≡ t → Decides t (a ≤ b)
    by_test true e = decides-yes (grind (arith, e))
    by_test false e = decides-no (λ h. let here : nat_le a b ≡ true = grind (arith, h) in absurd (cc))

pub decides-lt : (a b : ℕ) → Decides (nat_lt a b) (a < b)
decides-lt a b = by_test (nat_lt a b) refl
  where
    by_test : (t : Bool) → nat_lt a b ≡ t → Decides t (a < b)
    by_test true e = decides-yes (grind (arith, e))
    by_test false e = decides-no (λ h. let here : nat_lt a b ≡ true = grind (arith, h) in absurd (cc))

-- so does a test for equality
pub decides-eq : (a b : ℕ) → Decides (a == b) (a ≡ b)
decides-eq a b = Decides-eqb a b
