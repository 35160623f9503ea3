-- Shelves in which a search finds nothing, so that it may pass over them.
use Rattle.std.proofs.Common.{◌≡◌, ℕ, zero, suc, ◌<◌, ◌≤◌, map, option_map, sym, Bool, true, false, cond, Option, None, Some, List, [], ◌∷◌, take, drop, refl, ap, arith, ◌∙◌, ◌==◌}
use Rattle.std.proofs.lemmas.Bool.Decides.{nat_tests}
use Rattle.std.specs.Prelude.{nat_le, nat_lt, not, slice_get, ◌&&◌, ◌-◌, ◌+◌}
use Rattle.etagere_base.specs.declared.sides.Sides.{Sides}
use Rattle.etagere_base.specs.Least.{Found, better, first_least}
use Rattle.bucketed_model.specs.Picking.{or_else}
use Rattle.bucketed_records.specs.declared.records.LinkedBucket.{LinkedBucket}
use Rattle.bucketed_records.specs.declared.records.KeptShelf.{KeptShelf}
use Rattle.bucket_index.specs.declared.searching.Wanted.TheVariants.{Exact}
use Rattle.bucket_index.specs.declared.searching.FoundBucket.{FoundBucket}
use Rattle.bucket_index.proofs.Searched.{best-keeps, better-same, search-skip}
use Rattle.bucket_index.specs.Private.Searching.{exact_from, exact_in, found_in, kept_waste}

-- a width that doesn't fit
too-wide : (room width : ℕ) → room < width → nat_le width room ≡ false
too-wide room width h = grind (arith, nat_tests)

-- two tests of which the second fails
second-fails : (s t : Bool) → t ≡ false → (s && t) ≡ false
second-fails true t h = h
second-fails false t h = refl

-- a shelf that has too little room counts for nothing
pub waste-none : (adds : Bool) (sides : Sides) (kept : KeptShelf) → kept.widest_room < sides.along → kept_waste adds sides kept ≡ None
waste-none adds sides kept narrow =
    ap (λ (t : Bool). cond t (Some (kept.shelf.height - sides.across)) None)
    (second-fails (nat_le sides.across kept.shelf.height && (nat_le sides.along kept.shelf.bucket_width && not (adds && nat_lt sides.across (kept.shelf.height - sides.across))))
    (nat_le sides.along kept.widest_room) (too-wide kept.widest_room sides.along narrow))

-- a shelf that has too little room has no exact bucket
pub exact-none : (sides : Sides) (buckets : List LinkedBucket) (number : ℕ) (kept : KeptShelf) → kept.widest_room < sides.along → exact_in sides buckets number kept ≡ None
exact-none sides buckets number kept narrow =
    ap (λ (t : Bool). cond t (found_in (Exact sides.along) buckets number kept) None)
    (second-fails (kept.shelf.height == sides.across) (nat_le sides.along kept.widest_room) (too-wide kept.widest_room sides.along narrow))

-- two tests of which the first fails
first-fails : (s t : Bool) → s ≡ false → (s && t) ≡ false
first-fails true t h = absurd (cc)
first-fails false t h = refl

-- a height that isn't the one of what is asked for
other-height : (height across : ℕ) → height < across → (height == across) ≡ false
other-height height across h = grind (arith, nat_tests)

-- a shelf without height is too low
pub waste-flat : (adds : Bool) (sides : Sides) (kept : KeptShelf) → kept.shelf.height < sides.across → kept_waste adds sides kept ≡ None
waste-flat adds sides kept low =
    ap (λ (t : Bool). cond t (Some (kept.shelf.height - sides.across)) None)
    (first-fails (nat_le sides.across kept.shelf.height && (nat_le sides.along kept.shelf.bucket_width && not (adds && nat_lt sides.across (kept.shelf.height - sides.across))))
    (nat_le sides.along kept.widest_room)
    (first-fails (nat_le sides.across kept.shelf.height) (nat_le sides.along kept.shelf.bucket_width && not (adds && nat_lt sides.across (kept.shelf.height - sides.across))) (too-wide kept.shelf.height sides.across low)))

-- a shelf with a height has little room where each that has one does, or it is too low
by_height : {P : Type 0} (kept : KeptShelf) (across along : ℕ) → 0 < across → (0 < kept.shelf.height → kept.widest_room < along) → (kept.shelf.height < across → P) → (kept.widest_room < along → P) → P
by_height {P} kept across along some narrow low wide = by_test (nat_lt 0 kept.shelf.height) refl
  where
    by_test : (t : Bool) → nat_lt 0 kept.shelf.height ≡ t → P
    by_test true e = wide (narrow (grind (arith, nat_tests)))
    by_test false e = low (grind (arith, nat_tests))

-- a shelf counts for nothing where it has too little room if it has a height
pub waste-passed : (adds : Bool) (sides : Sides) (kept : KeptShelf) → 0 < sides.across → (0 < kept.shelf.height → kept.widest_room < sides.along) → kept_waste adds sides kept ≡ None
waste-passed adds sides kept some narrow = by_height kept sides.across sides.along some narrow (waste-flat adds sides kept) (waste-none adds sides kept)

-- and it has no exact bucket
pub exact-passed : (sides : Sides) (buckets : List LinkedBucket) (number : ℕ) (kept : KeptShelf) → 0 < sides.across → (0 < kept.shelf.height → kept.widest_room < sides.along) → exact_in sides buckets number kept ≡ None
exact-passed sides buckets number kept some narrow =
    by_height kept sides.across sides.along some narrow
    (λ low. ap (λ (t : Bool). cond t (found_in (Exact sides.along) buckets number kept) None)
    (first-fails (kept.shelf.height == sides.across) (nat_le sides.along kept.widest_room) (other-height kept.shelf.height sides.across low))) (exact-none sides buckets number kept)

-- a search for an exact bucket goes on past a shelf that has none
pub exact-past : (sides : Sides) (buckets : List LinkedBucket) (m n : ℕ) (xs : List KeptShelf) (kept : KeptShelf) → slice_get xs n ≡ Some kept → exact_in sides buckets m kept ≡ None
    → exact_from sides buckets m (drop n xs) ≡ exact_from sides buckets (suc m) (drop (suc n) xs)
exact-past sides buckets m n [] kept at none = absurd (cc)
exact-past sides buckets m zero (x ∷ xs) kept at none =
    let same : x ≡ kept = cc in
    ap (λ (o : Option FoundBucket). or_else o (exact_from sides buckets (suc m) xs)) (ap (exact_in sides buckets m) same ∙ none)
exact-past sides buckets m (suc n) (x ∷ xs) kept at none = exact-past sides buckets m n xs kept at none

-- the best so far is the best past shelves that leave it
pub least-left : (adds : Bool) (sides : Sides) (shelves : List KeptShelf) (best : Option Found) (from behind : ℕ) → best ≡ first_least (map (kept_waste adds sides) (take from shelves)) → from ≤ behind
    → ((number : ℕ) (kept : KeptShelf) → from ≤ number → number < behind → slice_get shelves number ≡ Some kept → better best (option_map (λ n. record { number = number; rank = n }) (kept_waste adds sides kept)) ≡ best)
    → best ≡ first_least (map (kept_waste adds sides) (take behind shelves))
least-left adds sides shelves best from behind is on leaves =
    let end : from + (behind - from) ≡ behind = omega (arith, on) in
    sym (best-keeps (kept_waste adds sides) shelves best from (behind - from) (sym is) (λ k x low high at. leaves k x low (omega (arith, high, end)) at))
    ∙ ap (λ (k : ℕ). first_least (map (kept_waste adds sides) (take k shelves))) end

-- the same where they count for nothing
pub least-past : (adds : Bool) (sides : Sides) (shelves : List KeptShelf) (best : Option Found) (from behind : ℕ) → best ≡ first_least (map (kept_waste adds sides) (take from shelves)) → from ≤ behind
    → ((number : ℕ) (kept : KeptShelf) → from ≤ number → number < behind → slice_get shelves number ≡ Some kept → kept_waste adds sides kept ≡ None) → best ≡ first_least (map (kept_waste adds sides) (take behind shelves))
least-past adds sides shelves best from behind is on none =
    least-left adds sides shelves best from behind is on
    (λ number kept low high at. ap (λ (r : Option ℕ). better best (option_map (λ n. record { number = number; rank = n }) r)) (none number kept low high at) ∙ better-same best)

-- a search for an exact bucket goes on past shelves that have none
pub exact-behind : (sides : Sides) (buckets : List LinkedBucket) (shelves : List KeptShelf) (from behind : ℕ) → from ≤ behind
    → ((number : ℕ) (kept : KeptShelf) → from ≤ number → number < behind → slice_get shelves number ≡ Some kept → exact_in sides buckets number kept ≡ None)
    → exact_from sides buckets behind (drop behind shelves) ≡ exact_from sides buckets from (drop from shelves)
exact-behind sides buckets shelves from behind on none =
    let end : behind ≡ from + (behind - from) = omega (arith, on) in
    ap (λ (k : ℕ). exact_from sides buckets k (drop k shelves)) end
    ∙ sym (search-skip (exact_from sides buckets) shelves from (behind - from) (λ m k. refl) (λ k x low high at. exact-past sides buckets k k shelves x at (none k x low (omega (arith, high, end)) at)))
