-- What a look tells that asks for one height alone: that a shelf offers just that, or nothing that ranks so low.
use Rattle.std.proofs.Common.{◌≡◌, ℕ, ◌+◌, ◌<◌, ◌≤◌, Bool, true, false, cond, Option, None, Some, refl, ap, arith}
use Rattle.std.proofs.lemmas.Bool.Decides.{nat_tests}
use Rattle.std.specs.Prelude.{nat_lt}
use Rattle.shelf_search.specs.Private.Searching.{better, limit_of}
use Rattle.shelf_search.specs.declared.choosing.Candidate.{Candidate}

-- what ranks just above a height
abbrev pub above : ℕ → Candidate
above height = record { shelf = 0; item = 0; rank = height + 1 }

-- what ranks no higher than the height is offered
pub low-offered : (height : ℕ) (offer : Option Candidate) (candidate : Candidate) → better (Some (above height)) offer ≡ Some candidate → candidate.rank ≤ height → offer ≡ Some candidate
low-offered height None candidate same low =
    let one : above height ≡ candidate = cc in
    let ranks : height + 1 ≡ candidate.rank = ap (λ (c : Candidate). c.rank) one in
    absurd (omega (arith, low, ranks))
low-offered height (Some later) candidate same low = by_test (nat_lt later.rank (height + 1)) (cc)
  where
    by_test : (b : Bool) → cond b later (above height) ≡ candidate → Some later ≡ Some candidate
    by_test true one = ap Some one
    by_test false one =
        let ranks : height + 1 ≡ candidate.rank = ap (λ (c : Candidate). c.rank) one in
        absurd (omega (arith, low, ranks))

-- where what is left ranks above the height, nothing is offered that ranks so low
pub none-low : (height : ℕ) (offer : Option Candidate) (candidate : Candidate) → height ≤ 65535 → better (Some (above height)) offer ≡ Some candidate → height < candidate.rank → height < limit_of offer
none-low height None candidate short same high = omega (arith, short)
none-low height (Some later) candidate short same high = by_test (nat_lt later.rank (height + 1)) refl (cc)
  where
    by_test : (b : Bool) → nat_lt later.rank (height + 1) ≡ b → cond b later (above height) ≡ candidate → height < later.rank
    by_test true e one =
        let ranks : later.rank ≡ candidate.rank = ap (λ (c : Candidate). c.rank) one in
        omega (arith, high, ranks)
    by_test false e one = grind (arith, nat_tests, e)

-- two that rank above the height, the better of them too
pub better-high : (height : ℕ) (best offer : Option Candidate) → height < limit_of best → height < limit_of offer → height < limit_of (better best offer)
better-high height None offer high other = other
better-high height (Some one) None high other = high
better-high height (Some one) (Some later) high other = by_test (nat_lt later.rank one.rank)
  where
    by_test : (b : Bool) → height < (cond b later one).rank
    by_test true = other
    by_test false = high

-- what ranks no higher than the height is better than what ranks above it
pub low-better : (height : ℕ) (best : Option Candidate) (candidate : Candidate) → height < limit_of best → candidate.rank ≤ height → better best (Some candidate) ≡ Some candidate
low-better height None candidate high low = refl
low-better height (Some one) candidate high low = by_test (nat_lt candidate.rank one.rank) refl
  where
    by_test : (b : Bool) → nat_lt candidate.rank one.rank ≡ b → Some (cond b candidate one) ≡ Some candidate
    by_test true e = refl
    by_test false e = absurd (grind (arith, nat_tests, e, high, low))
