-- The search by height finds the candidate that the search along the chain of shelves finds.
use Rattle.std.proofs.Common.{◌≡◌, ℕ, ◌+◌, ◌-◌, ◌<◌, ◌≤◌, Bool, true, false, cond, Option, None, Some, List, [], ◌∷◌, map, refl, ap, arith, sym, ◌∙◌}
use Rattle.std.proofs.lemmas.Bool.Decides.{nat_tests}
use Rattle.std.specs.Option.{option_map_or}
use Rattle.std.specs.Prelude.{nat_lt}
use Rattle.std.specs.List.{AllByRecursion}
use Rattle.etagere_base.specs.Lists.{times}
use Rattle.etagere_base.specs.declared.frames.Frame.{Frame}
use Rattle.shelf_records.specs.RecordLists.{Records, shelf_walk}
use Rattle.shelf_records.proofs.AllLists.LinkedWalks.{walked-numbers}
use Rattle.shelf_model.specs.Choice.{bad_fit_rank}
use Rattle.shelf_model.specs.Listing.{RiseFrom}
use Rattle.shelf_heights.specs.Private.ByHeight.{AreByHeightFor, order_of, chain_order, numbers_by_height}
use Rattle.shelf_records.specs.Private.Kept.{AreKept}
use Rattle.shelf_search.specs.Private.Searching.{best_candidate, earlier, earliest, first_by_height, first_offer, good_offer, offered}
use Rattle.shelf_search.specs.declared.choosing.Candidate.{Candidate}
use Rattle.shelf_heights.specs.declared.by_height.BoundedShelf.{BoundedShelf}
use Rattle.shelf_search.proofs.ByHeight.GoodOffers.{bad-is, good-is, none-good}
use Rattle.shelf_search.proofs.ByHeight.LeastOffers.{IsLeast, IsOffer, IsOutcome, least-first, least-later, lowest-outcome, none-less, offer-is, outcome-among, outcome-same, weight}
use Rattle.shelf_search.proofs.ByHeight.SearchableShelves.{left_out-searchable}
use Rattle.shelf_search.proofs.ByHeight.SearchedOnes.{offered-low}
use Rattle.shelf_heights.proofs.ByHeight.OrdersRise.{LiesWithin, kept-within, orders-rise}
use Rattle.shelf_heights.proofs.ByHeight.RisingNumbers.{of-each, rise-low}
use Rattle.shelf_records.proofs.Recorded.Members.{Each-member}

module _ (frame : Frame) (records : Records) (width height : ℕ) where
  -- the first good offer of shelves in their order weighs least
  first-good : (from : ℕ) (shelves : List ℕ) (candidate : Candidate) → AllByRecursion (LiesWithin frame records.shelves) shelves → RiseFrom from (map (order_of records.shelves) shelves)
      → first_offer (good_offer records width height) shelves ≡ Some candidate → IsLeast frame records width height shelves candidate × (candidate.rank < bad_fit_rank)
  first-good from [] candidate within rise first = absurd (cc)
  first-good from (shelf ∷ shelves) candidate within rise first =
      by_offer (good_offer records width height shelf) refl first (first-good (order_of records.shelves shelf + 1) shelves candidate within.1 rise.1)
    where
      by_offer : (o : Option Candidate) → good_offer records width height shelf ≡ o → option_map_or Some o (first_offer (good_offer records width height) shelves) ≡ Some candidate
          → (first_offer (good_offer records width height) shelves ≡ Some candidate → IsLeast frame records width height shelves candidate × (candidate.rank < bad_fit_rank))
          → IsLeast frame records width height (shelf ∷ shelves) candidate × (candidate.rank < bad_fit_rank)
      by_offer None good is rest =
          let later = rest is in
          let here : IsOffer records.shelves candidate.shelf candidate = offer-is frame records width height candidate.shelf candidate (Each-member (LiesWithin frame records.shelves) shelves candidate.shelf within.1 later.0.stands) later.0.offer in (
            least-later frame records width height shelf shelves candidate
                (λ other offers. omega (arith, later.1, here.in_chain, bad-is records width height shelf other good offers)) later.0,
            later.1,
          )
      by_offer (Some own) good is rest =
          let same : own ≡ candidate = cc in
          let offer = good-is records width height shelf candidate (good ∙ ap Some same) in
          let here : IsOffer records.shelves shelf candidate = offer-is frame records width height shelf candidate within.0 offer.0 in
          let weighs : weight records.shelves candidate ≡ order_of records.shelves shelf = omega (arith, here.good offer.1, ap (chain_order records.shelves) here.own) in (
            least-first frame records width height shelf shelves candidate here.own offer.0
                (λ k stands other offers.
                let there : IsOffer records.shelves k other = offer-is frame records width height k other (Each-member (LiesWithin frame records.shelves) shelves k within.1 stands) offers in
                omega (arith, weighs, there.above, rise-low (order_of records.shelves) (order_of records.shelves shelf + 1) shelves rise.1 k stands)),
            offer.1,
          )

  -- each offer of a shelf has the rank of a bad fit
  abbrev OffersBad : ℕ → Type 0
  OffersBad shelf = (candidate : Candidate) → offered records width height shelf ≡ Some candidate → candidate.rank ≡ bad_fit_rank

  -- one more shelf in front, against the earliest of those after it
  earliest-step : (shelf : ℕ) (shelves : List ℕ) (o p : Option Candidate) → ((k : ℕ) → 1 ≤ times k (shelf ∷ shelves) → OffersBad k) → LiesWithin frame records.shelves shelf
      → offered records width height shelf ≡ o → IsOutcome frame records width height shelves p → IsOutcome frame records width height (shelf ∷ shelves) (earlier records.shelves o p)
  earliest-step shelf shelves None None bad within offer least = of-each (λ k. offered records width height k ≡ None) shelf shelves offer least
  earliest-step shelf shelves None (Some later) bad within offer least = least-later frame records width height shelf shelves later (none-less frame records width height shelf later offer) least
  earliest-step shelf shelves (Some first) None bad within offer least =
      least-first frame records width height shelf shelves first (offer-is frame records width height shelf first within offer).own offer
      (λ k stands. none-less frame records width height k first (least k stands))
  earliest-step shelf shelves (Some first) (Some later) bad within offer least = by_test (nat_lt (chain_order records.shelves first.shelf) (chain_order records.shelves later.shelf)) refl
    where
      own : first.shelf ≡ shelf
      own = (offer-is frame records width height shelf first within offer).own

      ranks : first.rank ≡ later.rank
      ranks = bad shelf (grind arith) first offer ∙ sym (bad later.shelf (omega (arith, least.stands)) later least.offer)

      by_test : (b : Bool) → nat_lt (chain_order records.shelves first.shelf) (chain_order records.shelves later.shelf) ≡ b → IsOutcome frame records width height (shelf ∷ shelves) (cond b (Some first) (Some later))
      by_test true e =
          let before : chain_order records.shelves first.shelf < chain_order records.shelves later.shelf = grind (arith, nat_tests) in
          least-first frame records width height shelf shelves first own offer
          (λ k stands other offers. omega (arith, ranks, before, least.least k stands other offers))
      by_test false e =
          let after : chain_order records.shelves later.shelf ≤ chain_order records.shelves first.shelf = grind (arith, nat_tests) in
          least-later frame records width height shelf shelves later
          (λ other offers.
          let same : first ≡ other = cc in
          let weighs : weight records.shelves first ≡ weight records.shelves other = ap (weight records.shelves) same in
          omega (arith, ranks, after, weighs)) least

  -- where all offers rank alike, that of the earliest in the chain weighs least
  earliest-outcome : (shelves : List ℕ) → ((k : ℕ) → 1 ≤ times k shelves → OffersBad k) → AllByRecursion (LiesWithin frame records.shelves) shelves
      → IsOutcome frame records width height shelves (earliest records.shelves (map (offered records width height) shelves))
  earliest-outcome [] bad within = λ k stands. absurd (omega (arith, stands))
  earliest-outcome (shelf ∷ shelves) bad within =
      earliest-step shelf shelves (offered records width height shelf) (earliest records.shelves (map (offered records width height) shelves)) bad within.0 refl
      (earliest-outcome shelves (λ k stands. bad k (omega (arith, stands))) within.1)

  -- what the search by height finds weighs least
  by_height-outcome : (from : ℕ) (shelves : List ℕ) → AllByRecursion (LiesWithin frame records.shelves) shelves → RiseFrom from (map (order_of records.shelves) shelves)
      → IsOutcome frame records width height shelves (first_by_height records width height shelves)
  by_height-outcome from shelves within rise = by_first (first_offer (good_offer records width height) shelves) refl
    where
      by_first : (o : Option Candidate) → first_offer (good_offer records width height) shelves ≡ o
          → IsOutcome frame records width height shelves (option_map_or Some o (earliest records.shelves (map (offered records width height) shelves)))
      by_first None first =
          earliest-outcome shelves
          (λ k stands candidate offer.
          let here : IsOffer records.shelves k candidate = offer-is frame records width height k candidate (Each-member (LiesWithin frame records.shelves) shelves k within stands) offer in
          omega (arith, here.most, bad-is records width height k candidate (none-good records width height shelves first k stands) offer)) within
      by_first (Some candidate) first = (first-good from shelves candidate within rise first).0

-- a fact of each number of one list is one of each of another that has the same numbers
each-of : (P : ℕ → Type 0) (xs ys : List ℕ) → ((k : ℕ) → 1 ≤ times k ys → 1 ≤ times k xs) → AllByRecursion P xs → AllByRecursion P ys
each-of P xs [] less each = tt
each-of P xs (y ∷ ys) less each = (Each-member P xs y each (less y (grind arith)), each-of P xs ys (λ k stands. less k (omega (arith, stands))) each)

-- the shelf of least rank is the one that the search by height finds, also where shelves are left out that have no item
-- as wide
pub best-by-height : (frame : Frame) (records : Records) (by_height : List BoundedShelf) (width height : ℕ) → 1 ≤ width → AreKept frame records → AreByHeightFor frame records width by_height
    → best_candidate records width height ≡ first_by_height records width height (numbers_by_height by_height)
best-by-height frame records by_height width height wide kept are =
    let chain : List ℕ = (shelf_walk records).met in
    let within : AllByRecursion (LiesWithin frame records.shelves) chain = kept-within frame records kept in
    let among : (k : ℕ) → times k (numbers_by_height by_height) ≤ times k chain = λ k. omega (arith, are.once k, ap (times k) (walked-numbers records chain)) in
    outcome-same frame records width height 0 chain (best_candidate records width height) (first_by_height records width height (numbers_by_height by_height)) within
    (orders-rise frame records kept)
    (lowest-outcome frame records width height 0 chain within (orders-rise frame records kept))
    (outcome-among frame records width height chain (numbers_by_height by_height) (first_by_height records width height (numbers_by_height by_height)) among
    (λ k stands out. offered-low records width height (record { widest = width - 1; shelf = k }) (left_out-searchable frame records kept width by_height k are stands out) (omega (arith, wide)))
    (by_height-outcome frame records width height 0 (numbers_by_height by_height)
    (each-of (LiesWithin frame records.shelves) chain (numbers_by_height by_height) (λ k stands. omega (arith, stands, among k)) within) are.rising))
