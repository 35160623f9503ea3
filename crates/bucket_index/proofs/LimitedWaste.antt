-- What a search by a limit chooses is what is best.
use Rattle.std.proofs.Common.{◌≡◌, ℕ, ◌-◌, ◌^◌, ◌<◌, ◌≤◌, Bool, true, false, cond, Option, None, Some, min, refl, arith}
use Rattle.std.proofs.lemmas.Bool.{and_parts, leb-false, ltb-false, ltb-true}
use Rattle.std.specs.Option.{option_map_or}
use Rattle.std.specs.Prelude.{nat_le, nat_lt, not, option_map, ◌&&◌}
use Rattle.etagere_base.specs.declared.sides.Sides.{Sides}
use Rattle.etagere_base.specs.Least.{Found, better}
use Rattle.bucketed_records.specs.declared.records.KeptShelf.{KeptShelf}
use Rattle.bucket_index.specs.Private.Searching.{kept_waste, limit_beside, most_waste, waste_below}
use Rattle.bucket_index.proofs.PassedShelves.{waste-none}
use Rattle.bucket_index.proofs.Searched.{better-same}

-- a shelf that wastes so much
abbrev pub at_rank : ℕ → ℕ → Found
at_rank number rank = record { number = number; rank = rank }

-- a shelf below the limit stands in the place of what was found, and any other leaves that
pub limited : (adds : Bool) (sides : Sides) (kept : KeptShelf) (best : Option Found) (number : ℕ) → kept.shelf.height < 2 ^ 16
    → better best (option_map (at_rank number) (kept_waste adds sides kept))
    ≡ option_map_or (λ rank. Some (at_rank number rank)) (waste_below (limit_beside adds sides best) sides kept) best
limited adds sides kept best number small =
    by_room (nat_le sides.across kept.shelf.height) refl (nat_le sides.along kept.shelf.bucket_width) refl (nat_le sides.along kept.widest_room) refl
  where
    wasted : ℕ
    wasted = kept.shelf.height - sides.across

    Same : Option ℕ → Option ℕ → Type 0
    Same one other = better best (option_map (at_rank number) one) ≡ option_map_or (λ rank. Some (at_rank number rank)) other best

    limit : ℕ
    limit = limit_beside adds sides best

    limit-most : (found : Option Found) → limit_beside adds sides found ≤ most_waste adds sides
    limit-most None = omega arith
    limit-most (Some one) = omega arith

    too-much : (adding : Bool) → (adding && nat_lt sides.across wasted) ≡ true → most_waste adding sides ≤ wasted
    too-much true e = omega (arith, ltb-true sides.across wasted e)
    too-much false e = absurd (cc)

    little : (adding : Bool) → (adding && nat_lt sides.across wasted) ≡ false → wasted < most_waste adding sides
    little true e = omega (arith, small, ltb-false sides.across wasted e)
    little false e = omega (arith, small)

    by_best : (found : Option Found) → wasted < most_waste adds sides → (below : Bool) → nat_lt wasted (limit_beside adds sides found) ≡ below
        → better found (Some (at_rank number wasted)) ≡ option_map_or (λ rank. Some (at_rank number rank)) (cond below (Some wasted) None) found
    by_best None most true l = refl
    by_best None most false l = absurd (omega (arith, most, ltb-false wasted (most_waste adds sides) l))
    by_best (Some one) most below l = by_better (nat_lt wasted one.rank) refl below l
      where
        by_better : (lower : Bool) → nat_lt wasted one.rank ≡ lower → (below : Bool) → nat_lt wasted (min one.rank (most_waste adds sides)) ≡ below
            → better (Some one) (Some (at_rank number wasted)) ≡ option_map_or (λ rank. Some (at_rank number rank)) (cond below (Some wasted) None) (Some one)
        by_better true e true l = rw e refl
        by_better true e false l = absurd (omega (arith, most, ltb-true wasted one.rank e, ltb-false wasted (min one.rank (most_waste adds sides)) l))
        by_better false e true l = absurd (omega (arith, ltb-false wasted one.rank e, ltb-true wasted (min one.rank (most_waste adds sides)) l))
        by_better false e false l = rw e refl

    by_limit : (wastes : Bool) → (adds && nat_lt sides.across wasted) ≡ wastes → (below : Bool) → nat_lt wasted limit ≡ below
        → Same (cond (not wastes) (Some wasted) None) (cond below (Some wasted) None)
    by_limit true e true l = absurd (omega (arith, too-much adds e, limit-most best, ltb-true wasted limit l))
    by_limit true e false l = better-same best
    by_limit false e below l = by_best best (little adds e) below l

    by_room : (tall : Bool) → nat_le sides.across kept.shelf.height ≡ tall → (wide : Bool) → nat_le sides.along kept.shelf.bucket_width ≡ wide → (roomy : Bool)
        → nat_le sides.along kept.widest_room ≡ roomy → Same (kept_waste adds sides kept) (waste_below limit sides kept)
    by_room false tall wide wider roomy roomier = rw tall (better-same best)
    by_room true tall false wide roomy roomier = rw (tall, wide) (better-same best)
    by_room true tall true wide false roomy =
        let none = waste-none adds sides kept (leb-false sides.along kept.widest_room roomy) in
        rw (none, tall, wide, roomy) (better-same best)
    by_room true tall true wide true roomy = by_tests (adds && nat_lt sides.across wasted) refl (nat_lt wasted limit) refl
      where
        by_tests : (wastes : Bool) → (adds && nat_lt sides.across wasted) ≡ wastes → (below : Bool) → nat_lt wasted limit ≡ below → Same (kept_waste adds sides kept) (waste_below limit sides kept)
        by_tests true e below l = rw (tall, wide, roomy, e, l) (by_limit true e below l)
        by_tests false e below l = rw (tall, wide, roomy, e, l) (by_limit false e below l)

-- a shelf below the limit becomes it
pub limit-next : (adds : Bool) (sides : Sides) (kept : KeptShelf) (best : Option Found) (number rank : ℕ) → waste_below (limit_beside adds sides best) sides kept ≡ Some rank
    → limit_beside adds sides (Some (at_rank number rank)) ≡ rank
limit-next adds sides kept best number rank is = omega (arith, below, limit-most best)
  where
    limit : ℕ
    limit = limit_beside adds sides best

    limit-most : (found : Option Found) → limit_beside adds sides found ≤ most_waste adds sides
    limit-most None = omega arith
    limit-most (Some one) = omega arith

    test : Bool
    test =
        (nat_le sides.across kept.shelf.height && (nat_le sides.along kept.shelf.bucket_width && nat_le sides.along kept.widest_room))
        && nat_lt (kept.shelf.height - sides.across) limit

    by_test : (t : Bool) → test ≡ t → cond t (Some (kept.shelf.height - sides.across)) None ≡ Some rank → rank < limit
    by_test true e some =
        let same : kept.shelf.height - sides.across ≡ rank = cc in
        omega (arith, same, ltb-true (kept.shelf.height - sides.across) limit (and_parts _ _ e).1)
    by_test false e some = absurd (cc)

    below : rank < limit
    below = by_test test refl is
