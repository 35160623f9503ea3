-- What shelves offer that are good fits, and what is known where none is.
use Rattle.std.proofs.Common.{◌≡◌, ℕ, ◌<◌, ◌≤◌, Bool, true, false, cond, Option, None, Some, List, [], ◌∷◌, map, refl, ap, arith, sym, ◌∙◌}
use Rattle.std.proofs.lemmas.Bool.Decides.{nat_tests}
use Rattle.std.specs.Option.{option_map_or}
use Rattle.std.specs.Prelude.{nat_lt}
use Rattle.etagere_base.specs.Lists.{times}
use Rattle.etagere_base.proofs.TimesLemmas.{times-here}
use Rattle.shelf_records.specs.RecordLists.{Records, shelf_walk}
use Rattle.shelf_records.specs.declared.records.LinkedShelf.{LinkedShelf}
use Rattle.shelf_model.specs.Choice.{bad_fit_rank}
use Rattle.shelf_heights.specs.Private.ByHeight.{chain_order}
use Rattle.shelf_search.specs.Private.Searching.{RanksFrom, best_candidate, better, earlier, earliest, first_by_height, first_offer, good_offer, lowest, offered, rank_of}
use Rattle.shelf_search.specs.declared.choosing.Candidate.{Candidate}
use Rattle.shelf_heights.proofs.ByHeight.RisingNumbers.{of-each}
use Rattle.shelf_search.proofs.Searched.SearchSteps.{offers-parts}

-- nothing ranks below what is the lowest: where that is nothing, nothing is offered
abbrev IsLowestOf : (ℕ → Option Candidate) → List ℕ → Option Candidate → Type 0
IsLowestOf offers numbers None = (k : ℕ) → 1 ≤ times k numbers → offers k ≡ None
IsLowestOf offers numbers (Some candidate) = (k : ℕ) (other : Candidate) → 1 ≤ times k numbers → offers k ≡ Some other → candidate.rank ≤ other.rank

-- one more in front, against the lowest of those after it
lowest-step : (offers : ℕ → Option Candidate) (n : ℕ) (ns : List ℕ) (o p : Option Candidate) → offers n ≡ o → IsLowestOf offers ns p → IsLowestOf offers (n ∷ ns) (better o p)
lowest-step offers n ns None None offer least = of-each (λ k. offers k ≡ None) n ns offer least
lowest-step offers n ns None (Some later) offer least =
    λ k other stands is. of-each (λ k. (other : Candidate) → offers k ≡ Some other → later.rank ≤ other.rank) n ns (λ other is. absurd (cc)) (λ k stands other is. least k other stands is) k stands other is
lowest-step offers n ns (Some first) None offer least =
    λ k other stands is. of-each (λ k. (other : Candidate) → offers k ≡ Some other → first.rank ≤ other.rank) n ns
    (λ other is. let same : first ≡ other = cc in omega (arith, ap (λ (c : Candidate). c.rank) same))
    (λ k stands other is. let none : offers k ≡ None = least k stands in absurd (cc)) k stands other is
lowest-step offers n ns (Some first) (Some later) offer least = by_test (nat_lt later.rank first.rank) refl
  where
    by_test : (b : Bool) → nat_lt later.rank first.rank ≡ b → IsLowestOf offers (n ∷ ns) (Some (cond b later first))
    by_test true e =
        let less : later.rank < first.rank = grind (arith, nat_tests) in
        λ k other stands is. of-each (λ k. (other : Candidate) → offers k ≡ Some other → later.rank ≤ other.rank) n ns
        (λ other is. let same : first ≡ other = cc in omega (arith, less, ap (λ (c : Candidate). c.rank) same))
        (λ k stands other is. least k other stands is) k stands other is
    by_test false e =
        let most : first.rank ≤ later.rank = grind (arith, nat_tests) in
        λ k other stands is. of-each (λ k. (other : Candidate) → offers k ≡ Some other → first.rank ≤ other.rank) n ns
        (λ other is. let same : first ≡ other = cc in omega (arith, ap (λ (c : Candidate). c.rank) same))
        (λ k stands other is. omega (arith, most, least k other stands is)) k stands other is

-- the lowest of what numbers offer is that
lowest-is : (offers : ℕ → Option Candidate) (numbers : List ℕ) → IsLowestOf offers numbers (lowest (map offers numbers))
lowest-is offers [] = λ k stands. absurd (omega (arith, stands))
lowest-is offers (n ∷ ns) = lowest-step offers n ns (offers n) (lowest (map offers ns)) refl (lowest-is offers ns)

-- a shelf that offers it
record IsOfferedBy (offers : ℕ → Option Candidate) (numbers : List ℕ) (candidate : Candidate) : Type 0 where
  pub number : ℕ
  pub stands : 1 ≤ times number numbers
  pub offer : offers number ≡ Some candidate

-- the earliest of what numbers offer is offered by one of them
earliest-offered : (shelves : List LinkedShelf) (offers : ℕ → Option Candidate) (numbers : List ℕ) (candidate : Candidate) → earliest shelves (map offers numbers) ≡ Some candidate → IsOfferedBy offers numbers candidate
earliest-offered shelves offers [] candidate found = absurd (cc)
earliest-offered shelves offers (n ∷ ns) candidate found = by_offers (offers n) (earliest shelves (map offers ns)) refl refl found (earliest-offered shelves offers ns candidate)
  where
    later : IsOfferedBy offers ns candidate → IsOfferedBy offers (n ∷ ns) candidate
    later rest = record { number = rest.number; stands = omega (arith, rest.stands); offer = rest.offer }

    first : offers n ≡ Some candidate → IsOfferedBy offers (n ∷ ns) candidate
    first offer = record { number = n; stands = omega (arith, times-here n ns); offer = offer }

    by_test : (b : Bool) (own other : Candidate) → offers n ≡ Some own → earliest shelves (map offers ns) ≡ Some other → cond b (Some own) (Some other) ≡ Some candidate → (earliest shelves (map offers ns) ≡ Some candidate → IsOfferedBy offers ns candidate) → IsOfferedBy offers (n ∷ ns) candidate
    by_test true own other offer rest same more = first (offer ∙ same)
    by_test false own other offer rest same more = later (more (rest ∙ same))

    by_offers : (o p : Option Candidate) → offers n ≡ o → earliest shelves (map offers ns) ≡ p → earlier shelves o p ≡ Some candidate → (earliest shelves (map offers ns) ≡ Some candidate → IsOfferedBy offers ns candidate) → IsOfferedBy offers (n ∷ ns) candidate
    by_offers None p offer rest same more = later (more (rest ∙ same))
    by_offers (Some own) None offer rest same more = first (offer ∙ same)
    by_offers (Some own) (Some other) offer rest same more = by_test (nat_lt (chain_order shelves own.shelf) (chain_order shelves other.shelf)) own other offer rest same more

module _ (records : Records) (width height : ℕ) where
  -- a good offer is an offer of a rank below that of a bad fit
  pub good-is : (shelf : ℕ) (candidate : Candidate) → good_offer records width height shelf ≡ Some candidate → (offered records width height shelf ≡ Some candidate) × (candidate.rank < bad_fit_rank)
  good-is shelf candidate good = by_test (nat_lt (rank_of records.shelves height shelf) bad_fit_rank) refl good
    where
      by_test : (b : Bool) → nat_lt (rank_of records.shelves height shelf) bad_fit_rank ≡ b → cond b (offered records width height shelf) None ≡ Some candidate
          → (offered records width height shelf ≡ Some candidate) × (candidate.rank < bad_fit_rank)
      by_test true e is =
          let below : rank_of records.shelves height shelf < bad_fit_rank = grind (arith, nat_tests) in
          (is, omega (arith, below, (offers-parts records width height shelf candidate is).rank))
      by_test false e is = absurd (cc)

  -- where there is no good offer, an offer has the rank of a bad fit
  pub bad-is : (shelf : ℕ) (candidate : Candidate) → good_offer records width height shelf ≡ None → offered records width height shelf ≡ Some candidate → bad_fit_rank ≤ candidate.rank
  bad-is shelf candidate none offer = by_test (nat_lt (rank_of records.shelves height shelf) bad_fit_rank) refl none
    where
      by_test : (b : Bool) → nat_lt (rank_of records.shelves height shelf) bad_fit_rank ≡ b → cond b (offered records width height shelf) None ≡ None → bad_fit_rank ≤ candidate.rank
      by_test true e is = absurd (cc)
      by_test false e is =
          let above : bad_fit_rank ≤ rank_of records.shelves height shelf = grind (arith, nat_tests) in
          omega (arith, above, (offers-parts records width height shelf candidate offer).rank)

  -- where the first good offer is none, none is good
  pub none-good : (shelves : List ℕ) → first_offer (good_offer records width height) shelves ≡ None → (k : ℕ) → 1 ≤ times k shelves → good_offer records width height k ≡ None
  none-good [] none = λ k stands. absurd (omega (arith, stands))
  none-good (shelf ∷ shelves) none = by_offer (good_offer records width height shelf) refl none (none-good shelves)
    where
      by_offer : (o : Option Candidate) → good_offer records width height shelf ≡ o → option_map_or Some o (first_offer (good_offer records width height) shelves) ≡ None
          → (first_offer (good_offer records width height) shelves ≡ None → (k : ℕ) → 1 ≤ times k shelves → good_offer records width height k ≡ None)
          → (k : ℕ) → 1 ≤ times k (shelf ∷ shelves) → good_offer records width height k ≡ None
      by_offer None good is rest = of-each (λ k. good_offer records width height k ≡ None) shelf shelves good (rest is)
      by_offer (Some own) good is rest = absurd (cc)

  -- where no shelf of some offers a good fit and the best of all is what the search by height finds among them, each offer
  -- has the rank of a bad fit
  pub bad-only : (shelves : List ℕ) → best_candidate records width height ≡ first_by_height records width height shelves
      → first_offer (good_offer records width height) shelves ≡ None → RanksFrom records width height bad_fit_rank
  bad-only shelves best none = by_best (best_candidate records width height) refl (lowest-is (offered records width height) (shelf_walk records).met)
    where
      placed : best_candidate records width height ≡ earliest records.shelves (map (offered records width height) shelves)
      placed = best ∙ ap (λ o. option_map_or Some o (earliest records.shelves (map (offered records width height) shelves))) none

      by_best : (o : Option Candidate) → best_candidate records width height ≡ o → IsLowestOf (offered records width height) (shelf_walk records).met o → RanksFrom records width height bad_fit_rank
      by_best None is least = λ shelf offer stands offers. let nothing : offered records width height shelf ≡ None = least shelf stands in absurd (cc)
      by_best (Some candidate) is least =
          let one : IsOfferedBy (offered records width height) shelves candidate = earliest-offered records.shelves (offered records width height) shelves candidate (sym placed ∙ is) in
          let bad : bad_fit_rank ≤ candidate.rank = bad-is one.number candidate (none-good shelves none one.number one.stands) one.offer in
          λ shelf offer stands offers. omega (arith, bad, least shelf offer stands offers)
