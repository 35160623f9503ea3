use Rattle.std.proofs.Common.{◌≡◌, ℕ, suc, ◌+◌, ◌-◌, ◌<◌, add-one, Bool, true, Option, None, Some, List, length, get_or, map, take, refl, ap, sym, ◌∙◌, arith}
use Rattle.std.proofs.lemmas.Option.{slice_get-get_or, slice_get_read}
use Rattle.std.specs.Option.{option_map_or}
use Rattle.std.proofs.lemmas.Bool.Decides.{nat_tests}
use Rattle.std.specs.Prelude.{nat_lt, option_map, slice_get, ◌^◌}
use Rattle.etagere_base.specs.declared.sides.Sides.{Sides}
use Rattle.etagere_base.specs.Least.{Found, better, first_least}
use Rattle.etagere_base.proofs.Least.{best-more}
use Rattle.bucketed_records.specs.declared.records.KeptShelf.{KeptShelf}
use Rattle.bucket_index.specs.Private.Searching.{is_least, kept_waste, limit_beside, waste_below}
use Rattle.bucket_index.proofs.LimitedWaste.{at_rank, limit-next, limited}
use Rattle.bucket_index.proofs.SteppedShelves.{best-done}
use Rattle.bucket_index.proofs.searching.least_in.Goals as goal

-- the best with one shelf more, of which this is the rank
more-ranked : (rank : KeptShelf → Option ℕ) (shelves : List KeptShelf) (number : ℕ) (kept : KeptShelf) (r : Option ℕ) → number < length shelves → slice_get shelves number ≡ Some kept → rank kept ≡ r
    → first_least (map rank (take (suc number) shelves)) ≡ better (first_least (map rank (take number shelves))) (option_map (λ n. record { number = number; rank = n }) r)
more-ranked rank shelves number kept r within at is =
    let before = first_least (map rank (take number shelves)) in
    let read : get_or shelves number kept ≡ kept = let got = slice_get-get_or shelves number kept within in cc in
    best-more rank shelves number kept within
    ∙ ap (λ (s : KeptShelf). better before (option_map (λ n. record { number = number; rank = n }) (rank s))) read
    ∙ ap (λ (o : Option ℕ). better before (option_map (λ n. record { number = number; rank = n }) o)) is

-- one shelf more beside the best so far, where the loop stands
ranked : (rank : KeptShelf → Option ℕ) (shelves : List KeptShelf) (number : ℕ) (kept : KeptShelf) (best : Option Found) (r : Option ℕ) → number < length shelves → slice_get shelves number ≡ Some kept → rank kept ≡ r
    → best ≡ first_least (map rank (take number shelves)) → better best (option_map (λ n. record { number = number; rank = n }) r) ≡ first_least (map rank (take (suc number) shelves))
ranked rank shelves number kept best r within at is so_far =
    ap (λ (o : Option Found). better o (option_map (λ n. record { number = number; rank = n }) r)) so_far
    ∙ sym (more-ranked rank shelves number kept r within at is)

-- one shelf more, whose height fits 16 bits, by the limit that the best so far makes
stepped : (adds : Bool) (sides : Sides) (shelves : List KeptShelf) (number limit : ℕ) (kept : KeptShelf) (best : Option Found) (below : Option ℕ) → number < length shelves
    → slice_get shelves number ≡ Some kept → kept.shelf.height < 2 ^ 16 → best ≡ first_least (map (kept_waste adds sides) (take number shelves)) → limit ≡ limit_beside adds sides best
    → below ≡ waste_below limit sides kept
    → option_map_or (λ rank. Some (at_rank number rank)) below best ≡ first_least (map (kept_waste adds sides) (take (suc number) shelves))
stepped adds sides shelves number limit kept best below within at small so_far limits is =
    ap (λ (o : Option ℕ). option_map_or (λ rank. Some (at_rank number rank)) o best) (is ∙ ap (λ (n : ℕ). waste_below n sides kept) limits)
    ∙ sym (limited adds sides kept best number small)
    ∙ ranked (kept_waste adds sides) shelves number kept best (kept_waste adds sides kept) within at refl so_far

-- a lower number passes the test
less-lt : (m n : ℕ) → m < n → nat_lt m n ≡ true
less-lt m n h = grind (arith, nat_tests)

pub loop-number-preserved-in_default : goal.loop-number-preserved-in_default
loop-number-preserved-in_default c =
    let shelves = c.args.shelves.now in
    let number = c.loop-number.number in
    let kept = c.index-shelves-number.result in
    let within : number < length shelves = omega (arith, c.loop-number-test.true, c.min-number-end.ensures) in
    record {
      best = rw add-one
          (stepped c.args.adds c.args.sides.now shelves number c.loop-number.limit kept c.loop-number.best None within
          (slice_get_read shelves (length shelves) number kept refl within c.index-shelves-number.is) c.waste_below.ensures.small c.loop-number.invariant.best c.loop-number.invariant.limit
          (sym c.in_default.is ∙ c.waste_below.ensures.value));
      limit = c.loop-number.invariant.limit;
    }

pub loop-number-preserved : goal.loop-number-preserved
loop-number-preserved c =
    let shelves = c.args.shelves.now in
    let number = c.loop-number.number in
    let kept = c.index-shelves-number.result in
    let within : number < length shelves = omega (arith, c.loop-number-test.true, c.min-number-end.ensures) in
    let below = sym c.in-Some.is ∙ c.waste_below.ensures.value in
    record {
      best = rw add-one
          (stepped c.args.adds c.args.sides.now shelves number c.loop-number.limit kept c.loop-number.best (Some c.in-Some.rank) within
          (slice_get_read shelves (length shelves) number kept refl within c.index-shelves-number.is) c.waste_below.ensures.small c.loop-number.invariant.best c.loop-number.invariant.limit below);
      limit = sym (limit-next c.args.adds c.args.sides.now kept c.loop-number.best number c.in-Some.rank
          (ap (λ (n : ℕ). waste_below n c.args.sides.now kept) (sym c.loop-number.invariant.limit) ∙ sym below));
    }

pub returns-then-rank-step : goal.returns-then-rank-step
returns-then-rank-step c =
    let shelves = c.args.shelves.now in
    let number = c.loop-number.number in
    let kept = c.index-shelves-number.result in
    let rank = kept_waste c.args.adds c.args.sides.now in
    let within : number < length shelves = omega (arith, c.loop-number-test.true, c.min-number-end.ensures) in
    let end : suc number + (c.args.end - suc number) ≡ c.args.end = omega (arith, c.loop-number-test.true, c.min-number-end.ensures) in
    let best : Some (at_rank number c.in-Some.rank) ≡ first_least (map rank (take (suc number) shelves)) =
    stepped c.args.adds c.args.sides.now shelves number c.loop-number.limit kept c.loop-number.best (Some c.in-Some.rank) within
    (slice_get_read shelves (length shelves) number kept refl within c.index-shelves-number.is) c.waste_below.ensures.small c.loop-number.invariant.best c.loop-number.invariant.limit
    (sym c.in-Some.is ∙ c.waste_below.ensures.value) in
    let done : is_least c.args.step (Some (at_rank number c.in-Some.rank)) ≡ true = less-lt c.in-Some.rank c.args.step c.if-rank-step.true in
    sym (ap (λ (k : ℕ). first_least (map rank (take k shelves))) (sym end)
    ∙ best-done c.args.step c.args.adds c.args.sides.now shelves (Some (at_rank number c.in-Some.rank)) (suc number) (c.args.end - suc number) c.requires.step (sym best) done)
