-- What shelves offer, weighed by rank and then by the chain: the least of it is one in whichever order
-- they stand, and shelves that offer nothing can be left out.
use Rattle.std.proofs.Common.{◌≡◌, ℕ, zero, suc, ◌+◌, ◌*◌, ◌<◌, ◌≤◌, Bool, true, false, cond, Option, None, Some, List, [], ◌∷◌, map, refl, ap, arith, sym, ◌∙◌}
use Rattle.std.proofs.lemmas.Bool.Decides.{nat_tests}
use Rattle.std.specs.Prelude.{◌/◌, ◌||◌, nat_le, nat_lt}
use Rattle.std.specs.List.{AllByRecursion}
use Rattle.etagere_base.specs.Lists.{times}
use Rattle.etagere_base.specs.declared.frames.Frame.{Frame}
use Rattle.shelf_records.specs.declared.records.LinkedShelf.{LinkedShelf}
use Rattle.shelf_records.specs.RecordLists.{Records}
use Rattle.shelf_records.specs.AtlasRecords.{height_of, is_empty_at}
use Rattle.shelf_model.specs.Choice.{bad_fit_rank}
use Rattle.shelf_model.specs.Listing.{RiseFrom}
use Rattle.shelf_heights.specs.Private.ByHeight.{order_at, order_of, chain_order}
use Rattle.shelf_search.specs.Private.Searching.{better, lowest, offered}
use Rattle.shelf_search.specs.declared.choosing.Candidate.{Candidate}
use Rattle.shelf_heights.proofs.ByHeight.OrdersRise.{LiesWithin, same-in_chain}
use Rattle.shelf_heights.proofs.ByHeight.RisingNumbers.{of-each, rise-low, rise-same}
use Rattle.shelf_records.proofs.Recorded.Members.{Each-member}
use Rattle.shelf_search.proofs.Searched.SearchSteps.{Offers, offers-parts}

-- how a candidate weighs: by its rank, and then by the order of its shelf in the chain
abbrev pub weight : List LinkedShelf → Candidate → ℕ
weight shelves candidate = order_at candidate.rank (chain_order shelves candidate.shelf)

-- what is known of what a shelf offers
pub record IsOffer (shelves : List LinkedShelf) (shelf : ℕ) (candidate : Candidate) : Type 0 where
  pub own : candidate.shelf ≡ shelf
  pub in_chain : chain_order shelves candidate.shelf < 65536 * 65536
  pub above : order_of shelves shelf ≤ weight shelves candidate
  pub good : candidate.rank < bad_fit_rank → candidate.rank ≡ height_of shelves shelf
  pub most : candidate.rank ≤ bad_fit_rank

-- a rank is the height, or that of a bad fit
rank-is : (b : Bool) (height in_chain rank : ℕ) → height < 65536 → rank ≡ cond b height bad_fit_rank
    → (order_at height in_chain ≤ order_at rank in_chain) × (rank < bad_fit_rank → rank ≡ height) × (rank ≤ bad_fit_rank)
rank-is true height in_chain rank low is = (omega (arith, is), λ _. is, omega (arith, is, low))
rank-is false height in_chain rank low is = (omega (arith, is, low), λ below. absurd (omega (arith, is, below)), omega (arith, is))

-- of two candidates the one that weighs no more ranks no higher
lower-rank : (rank other in_chain second : ℕ) → second < 65536 * 65536 → order_at rank in_chain ≤ order_at other second → rank ≤ other
lower-rank rank other in_chain second low less = omega arith

module _ (frame : Frame) (records : Records) (width height : ℕ) where
  -- what is known of what one of these shelves offers
  pub offer-is : (shelf : ℕ) (candidate : Candidate) → LiesWithin frame records.shelves shelf → offered records width height shelf ≡ Some candidate → IsOffer records.shelves shelf candidate
  offer-is shelf candidate within offer =
      let parts : Offers records width height shelf candidate = offers-parts records width height shelf candidate offer in
      let is = rank-is (is_empty_at records.shelves shelf || nat_le (height_of records.shelves shelf) (height + height / 2)) (height_of records.shelves shelf) (chain_order records.shelves shelf) candidate.rank within.low parts.rank in
      let in_chain : chain_order records.shelves candidate.shelf ≡ chain_order records.shelves shelf = ap (chain_order records.shelves) parts.shelf_is in
      record {
        own = parts.shelf_is;
        in_chain = omega (arith, in_chain, within.along, within.across);
        above = omega (arith, in_chain, is.0);
        good = is.1;
        most = is.2;
      }

  -- a candidate that one of these shelves offers, and none offers one of less weight
  pub record IsLeast (shelves : List ℕ) (candidate : Candidate) : Type 0 where
    pub stands : 1 ≤ times candidate.shelf shelves
    pub offer : offered records width height candidate.shelf ≡ Some candidate
    pub least : (shelf : ℕ) → 1 ≤ times shelf shelves → (other : Candidate) → offered records width height shelf ≡ Some other → weight records.shelves candidate ≤ weight records.shelves other

  -- such a candidate, or none where no shelf offers any
  abbrev pub IsOutcome : List ℕ → Option Candidate → Type 0
  IsOutcome shelves None = (shelf : ℕ) → 1 ≤ times shelf shelves → offered records width height shelf ≡ None
  IsOutcome shelves (Some candidate) = IsLeast shelves candidate

  -- no less than this is offered by a shelf
  abbrev pub NoLess : Candidate → ℕ → Type 0
  NoLess candidate shelf = (other : Candidate) → offered records width height shelf ≡ Some other → weight records.shelves candidate ≤ weight records.shelves other

  -- what the first shelf offers, against that of those after it
  pub least-first : (shelf : ℕ) (shelves : List ℕ) (candidate : Candidate) → candidate.shelf ≡ shelf → offered records width height shelf ≡ Some candidate
      → ((k : ℕ) → 1 ≤ times k shelves → NoLess candidate k) → IsLeast (shelf ∷ shelves) candidate
  least-first shelf shelves candidate own offer later =
      record {
        stands = omega (arith, of-each (λ k. k ≡ shelf → 1 ≤ times k (shelf ∷ shelves)) shelf shelves (λ _. grind arith) (λ k stands _. omega (arith, stands)) candidate.shelf (grind arith) own);
        offer = ap (offered records width height) own ∙ offer;
        least = of-each (NoLess candidate) shelf shelves
            (λ other offers. let same : candidate ≡ other = cc in omega (arith, ap (weight records.shelves) same)) later;
      }

  -- what a shelf after the first one offers, where the first one offers no less
  pub least-later : (shelf : ℕ) (shelves : List ℕ) (candidate : Candidate) → NoLess candidate shelf → IsLeast shelves candidate → IsLeast (shelf ∷ shelves) candidate
  least-later shelf shelves candidate first least =
      record { stands = omega (arith, least.stands); offer = least.offer; least = of-each (NoLess candidate) shelf shelves first least.least }

  -- no shelf offers less than nothing
  pub none-less : (shelf : ℕ) (candidate : Candidate) → offered records width height shelf ≡ None → NoLess candidate shelf
  none-less shelf candidate none other offers = absurd (cc)

  -- an outcome of some shelves is one of more, where each of the others offers nothing
  pub outcome-among : (shelves some : List ℕ) (o : Option Candidate) → ((k : ℕ) → times k some ≤ times k shelves)
      → ((k : ℕ) → 1 ≤ times k shelves → times k some ≡ 0 → offered records width height k ≡ None)
      → IsOutcome some o → IsOutcome shelves o
  outcome-among shelves some None among left_out outcome = λ k stands. by_count k stands (times k some) refl
    where
      by_count : (k : ℕ) → 1 ≤ times k shelves → (n : ℕ) → times k some ≡ n → offered records width height k ≡ None
      by_count k stands zero is = left_out k stands is
      by_count k stands (suc n) is = outcome k (omega (arith, is))
  outcome-among shelves some (Some candidate) among left_out outcome =
      record {
        stands = omega (arith, outcome.stands, among candidate.shelf);
        offer = outcome.offer;
        least = λ k stands. by_count k stands (times k some) refl;
      }
    where
      by_count : (k : ℕ) → 1 ≤ times k shelves → (n : ℕ) → times k some ≡ n → NoLess candidate k
      by_count k stands zero is = none-less k candidate (left_out k stands is)
      by_count k stands (suc n) is = outcome.least k (omega (arith, is))

  -- the outcome is one, where the orders of the shelves rise in the chain
  pub outcome-same : (from : ℕ) (shelves : List ℕ) (o p : Option Candidate) → AllByRecursion (LiesWithin frame records.shelves) shelves
      → RiseFrom from (map (chain_order records.shelves) shelves) → IsOutcome shelves o → IsOutcome shelves p → o ≡ p
  outcome-same from shelves None None within rise one other = refl
  outcome-same from shelves None (Some candidate) within rise one other = absurd (none-some (sym (one candidate.shelf other.stands) ∙ other.offer))
    where
      none-some : None ≡ Some candidate → ⊥
      none-some is = cc
  outcome-same from shelves (Some candidate) None within rise one other = absurd (none-some (sym (other candidate.shelf one.stands) ∙ one.offer))
    where
      none-some : None ≡ Some candidate → ⊥
      none-some is = cc
  outcome-same from shelves (Some candidate) (Some second) within rise one other =
      let here : IsOffer records.shelves candidate.shelf candidate = offer-is candidate.shelf candidate (Each-member (LiesWithin frame records.shelves) shelves candidate.shelf within one.stands) one.offer in
      let there : IsOffer records.shelves second.shelf second = offer-is second.shelf second (Each-member (LiesWithin frame records.shelves) shelves second.shelf within other.stands) other.offer in
      let less : weight records.shelves candidate ≤ weight records.shelves second = one.least second.shelf other.stands second other.offer in
      let more : weight records.shelves second ≤ weight records.shelves candidate = other.least candidate.shelf one.stands candidate one.offer in
      let shelf : candidate.shelf ≡ second.shelf =
      rise-same (chain_order records.shelves) from shelves rise candidate.shelf second.shelf one.stands other.stands
      (same-in_chain candidate.rank second.rank (chain_order records.shelves candidate.shelf) (chain_order records.shelves second.shelf) here.in_chain there.in_chain (omega (arith, less, more))) in
      sym one.offer ∙ ap (offered records width height) shelf ∙ other.offer

  -- one more shelf in front, against the outcome of those after it
  lowest-step : (shelf : ℕ) (shelves : List ℕ) (o p : Option Candidate) → AllByRecursion (LiesWithin frame records.shelves) (shelf ∷ shelves)
      → RiseFrom (chain_order records.shelves shelf + 1) (map (chain_order records.shelves) shelves)
      → offered records width height shelf ≡ o → IsOutcome shelves p → IsOutcome (shelf ∷ shelves) (better o p)
  lowest-step shelf shelves None None within rise offer least = of-each (λ k. offered records width height k ≡ None) shelf shelves offer least
  lowest-step shelf shelves None (Some later) within rise offer least = least-later shelf shelves later (none-less shelf later offer) least
  lowest-step shelf shelves (Some first) None within rise offer least =
      least-first shelf shelves first (offer-is shelf first within.0 offer).own offer (λ k stands. none-less k first (least k stands))
  lowest-step shelf shelves (Some first) (Some later) within rise offer least = by_test (nat_lt later.rank first.rank) refl
    where
      own : IsOffer records.shelves shelf first
      own = offer-is shelf first within.0 offer

      next : IsOffer records.shelves later.shelf later
      next = offer-is later.shelf later (Each-member (LiesWithin frame records.shelves) shelves later.shelf within.1 least.stands) least.offer

      no_less : first.rank ≤ later.rank → (k : ℕ) → 1 ≤ times k shelves → NoLess first k
      no_less ranks k stands other offers =
          let there : IsOffer records.shelves k other = offer-is k other (Each-member (LiesWithin frame records.shelves) shelves k within.1 stands) offers in
          let above : later.rank ≤ other.rank =
          lower-rank later.rank other.rank (chain_order records.shelves later.shelf) (chain_order records.shelves other.shelf) there.in_chain (least.least k stands other offers) in
          let rises : chain_order records.shelves shelf + 1 ≤ chain_order records.shelves k = rise-low (chain_order records.shelves) (chain_order records.shelves shelf + 1) shelves rise k stands in
          omega (arith, ranks, above, rises, ap (chain_order records.shelves) own.own, ap (chain_order records.shelves) there.own)

      by_test : (b : Bool) → nat_lt later.rank first.rank ≡ b → IsLeast (shelf ∷ shelves) (cond b later first)
      by_test true e =
          let less : later.rank < first.rank = grind (arith, nat_tests) in
          least-later shelf shelves later
          (λ other offers.
          let same : first ≡ other = cc in
          let weighs : weight records.shelves first ≡ weight records.shelves other = ap (weight records.shelves) same in
          omega (arith, less, next.in_chain, weighs)) least
      by_test false e = least-first shelf shelves first own.own offer (no_less (grind (arith, nat_tests)))

  -- the first of least rank weighs least, where orders rise
  pub lowest-outcome : (from : ℕ) (shelves : List ℕ) → AllByRecursion (LiesWithin frame records.shelves) shelves → RiseFrom from (map (chain_order records.shelves) shelves)
      → IsOutcome shelves (lowest (map (offered records width height) shelves))
  lowest-outcome from [] within rise = λ k stands. absurd (omega (arith, stands))
  lowest-outcome from (shelf ∷ shelves) within rise =
      lowest-step shelf shelves (offered records width height shelf) (lowest (map (offered records width height) shelves)) within rise.1 refl
      (lowest-outcome (chain_order records.shelves shelf + 1) shelves within.1 rise.1)
