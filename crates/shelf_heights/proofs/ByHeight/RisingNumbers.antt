-- Numbers whose measures rise along a list: each is at least where the list begins, and no two measure the same.
use Rattle.std.proofs.Common.{◌≡◌, ℕ, ◌+◌, ◌≤◌, Bool, true, false, List, [], ◌∷◌, map, refl, arith, subst}
use Rattle.std.specs.Prelude.{◌==◌}
use Rattle.etagere_base.specs.Lists.{times}
use Rattle.etagere_links.proofs.ListEnds.{times-other}
use Rattle.shelf_model.specs.Listing.{RiseFrom}

-- what holds of the first number and of each that stands after it holds of each
pub of-each : (P : ℕ → Type 0) (n : ℕ) (ns : List ℕ) → P n → ((k : ℕ) → 1 ≤ times k ns → P k) → (k : ℕ) → 1 ≤ times k (n ∷ ns) → P k
of-each P n ns first later k stands = by_test (n == k) refl
  where
    by_test : (b : Bool) → (n == k) ≡ b → P k
    by_test true e = let same : n ≡ k = grind arith in subst P same first
    by_test false e = later k (omega (arith, stands, times-other k n ns (λ same. grind arith)))

-- none is less than where the list begins
pub rise-low : (measure : ℕ → ℕ) (from : ℕ) (ns : List ℕ) → RiseFrom from (map measure ns) → (k : ℕ) → 1 ≤ times k ns → from ≤ measure k
rise-low measure from [] rise k stands = absurd (omega (arith, stands))
rise-low measure from (n ∷ ns) rise k stands =
    of-each (λ k. from ≤ measure k) n ns rise.0
    (λ k stands. omega (arith, rise.0, rise-low measure (measure n + 1) ns rise.1 k stands)) k stands

-- two of one measure are the same
pub rise-same : (measure : ℕ → ℕ) (from : ℕ) (ns : List ℕ) → RiseFrom from (map measure ns) → (k l : ℕ) → 1 ≤ times k ns → 1 ≤ times l ns → measure k ≡ measure l → k ≡ l
rise-same measure from [] rise k l stands other same = absurd (omega (arith, stands))
rise-same measure from (n ∷ ns) rise k l stands other same =
    of-each (λ k. measure k ≡ measure l → k ≡ l) n ns
    (λ same. of-each (λ l. measure n ≡ measure l → n ≡ l) n ns (λ _. refl)
    (λ l other same. absurd (omega (arith, same, rise-low measure (measure n + 1) ns rise.1 l other))) l other same)
    (λ k stands same. of-each (λ l. measure k ≡ measure l → k ≡ l) n ns
    (λ same. absurd (omega (arith, same, rise-low measure (measure n + 1) ns rise.1 k stands)))
    (λ l other same. rise-same measure (measure n + 1) ns rise.1 k l stands other same) l other same)
    k stands same
