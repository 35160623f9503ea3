-- What wastes less than two shelves differ in height is the best of all.
use Rattle.std.proofs.Common.{◌≡◌, ℕ, zero, suc, ◌+◌, ◌-◌, ◌<◌, Bool, true, false, cond, Option, None, Some, option_map, List, [], ◌∷◌, length, map, take, refl, ap, sym, ◌∙◌, arith}
use Rattle.std.proofs.lemmas.Bool.{and_parts, leb-true, ltb-false, ltb-true}
use Rattle.std.proofs.lemmas.List.{take_all}
use Rattle.std.specs.Prelude.{nat_le, nat_lt, not, slice_get, ◌&&◌}
use Rattle.etagere_base.specs.declared.sides.Sides.{Sides}
use Rattle.etagere_base.specs.Least.{Found, better, first_least}
use Rattle.etagere_base.proofs.Least.{first_least-is}
use Rattle.bucketed_records.specs.declared.records.KeptShelf.{KeptShelf}
use Rattle.bucket_index.specs.Private.Blocks.{AreInSteps, IsStep}
use Rattle.bucket_index.specs.Private.Searching.{is_least, kept_waste}
use Rattle.bucket_index.proofs.Searched.{best-keeps, better-none}

-- a shelf that wastes so much is as tall as what is asked for and that
waste-is : (adds : Bool) (sides : Sides) (kept : KeptShelf) (rank : ℕ) → kept_waste adds sides kept ≡ Some rank → kept.shelf.height ≡ sides.across + rank
waste-is adds sides kept rank is = by_test test refl is
  where
    test : Bool
    test =
        (nat_le sides.across kept.shelf.height && (nat_le sides.along kept.shelf.bucket_width && not (adds && nat_lt sides.across (kept.shelf.height - sides.across))))
        && nat_le sides.along kept.widest_room

    by_test : (t : Bool) → test ≡ t → cond t (Some (kept.shelf.height - sides.across)) None ≡ Some rank → kept.shelf.height ≡ sides.across + rank
    by_test true e some =
        let same : kept.shelf.height - sides.across ≡ rank = cc in
        omega (arith, same, leb-true sides.across kept.shelf.height (and_parts _ _ (and_parts _ _ e).0).0)
    by_test false e some = absurd (cc)

-- what the first of some shelves waste
some-waste : {P : Type 0} (rank : KeptShelf → Option ℕ) (n k r : ℕ) (shelves : List KeptShelf) → slice_get (map rank (take n shelves)) k ≡ Some (Some r)
    → ((kept : KeptShelf) → slice_get shelves k ≡ Some kept → rank kept ≡ Some r → P) → P
some-waste rank zero k r shelves at found = absurd (cc)
some-waste rank (suc n) k r [] at found = absurd (cc)
some-waste rank (suc n) zero r (x ∷ shelves) at found = found x refl (cc)
some-waste rank (suc n) (suc k) r (x ∷ shelves) at found = some-waste rank n k r shelves at found

-- what is the best of some shelves that are in steps, and wastes less than a step, stays against any
best-stays : (adds : Bool) (sides : Sides) (shelves : List KeptShelf) (found : Found) (n k : ℕ) (x : KeptShelf) → AreInSteps shelves → first_least (map (kept_waste adds sides) (take n shelves)) ≡ Some found
    → found.rank < 8 → slice_get shelves k ≡ Some x → better (Some found) (option_map (λ r. record { number = k; rank = r }) (kept_waste adds sides x)) ≡ Some found
best-stays adds sides shelves found n k x steps is low at = by_waste (kept_waste adds sides x) refl
  where
    by_waste : (o : Option ℕ) → kept_waste adds sides x ≡ o → better (Some found) (option_map (λ r. record { number = k; rank = r }) o) ≡ Some found
    by_waste None e = refl
    by_waste (Some r) e = by_less (nat_lt r found.rank) refl
      where
        no_less : r < found.rank → ⊥
        no_less less =
            some-waste (kept_waste adds sides) n found.number found.rank shelves (first_least-is (map (kept_waste adds sides) (take n shelves)) found is).at
            (λ kept there wastes. omega (
              arith,
              less,
              low,
              waste-is adds sides x r e,
              waste-is adds sides kept found.rank wastes,
              steps k x at,
              steps found.number kept there,
            ))

        by_less : (t : Bool) → nat_lt r found.rank ≡ t → better (Some found) (Some (record { number = k; rank = r })) ≡ Some found
        by_less true less = absurd (no_less (ltb-true r found.rank less))
        by_less false less = rw less refl

-- what wastes less than two shelves differ in height is the best of more shelves too
pub best-done : (step : ℕ) (adds : Bool) (sides : Sides) (shelves : List KeptShelf) (best : Option Found) (n j : ℕ) → IsStep step shelves
    → first_least (map (kept_waste adds sides) (take n shelves)) ≡ best → is_least step best ≡ true → first_least (map (kept_waste adds sides) (take (n + j) shelves)) ≡ best
best-done step adds sides shelves None n j steps is least = absurd (cc)
best-done step adds sides shelves (Some found) n j steps is least = by_step (nat_lt 1 step) refl
  where
    by_step : (t : Bool) → nat_lt 1 step ≡ t → first_least (map (kept_waste adds sides) (take (n + j) shelves)) ≡ Some found
    by_step true e =
        let known = steps (ltb-true 1 step e) in
        best-keeps (kept_waste adds sides) shelves (Some found) n j is
        (λ k x _ _ at. best-stays adds sides shelves found n k x known.1 is (omega (arith, known.0, ltb-true found.rank step least)) at)
    by_step false e =
        best-keeps (kept_waste adds sides) shelves (Some found) n j is
        (λ k x _ _ at. better-none found (option_map (λ r. record { number = k; rank = r }) (kept_waste adds sides x)) (omega (arith, ltb-false 1 step e, ltb-true found.rank step least)))

-- and the best of all
pub best-of_all : (step : ℕ) (adds : Bool) (sides : Sides) (shelves : List KeptShelf) (best : Option Found) (n : ℕ) → IsStep step shelves
    → first_least (map (kept_waste adds sides) (take n shelves)) ≡ best → is_least step best ≡ true → first_least (map (kept_waste adds sides) shelves) ≡ best
best-of_all step adds sides shelves best n steps is least =
    ap (λ (ys : List KeptShelf). first_least (map (kept_waste adds sides) ys)) (sym (take_all (n + length shelves) shelves (omega arith)))
    ∙ best-done step adds sides shelves best n (length shelves) steps is least
