use Rattle.std.proofs.Common.{◌≡◌, ℕ, false, true, ap, subst, sym, ◌∙◌, arith}
use Rattle.bucket_index.specs.Private.Heights.{IsUnfit}
use Rattle.bucket_index.specs.Private.Searching.{is_least, kept_waste}
use Rattle.bucket_index.proofs.PassedShelves.{least-left, least-past, waste-passed}
use Rattle.bucket_index.proofs.FoundShelves.{before-end}
use Rattle.bucket_index.proofs.MissedShelves.{none-before}
use Rattle.bucket_index.proofs.SteppedShelves.{best-of_all}
use Rattle.bucket_index.proofs.TallestShelves.{unfit-leaves}
use Rattle.bucket_index.proofs.searching.least_by_blocks.Goals as goal

pub loop-from-preserved-then-from-behind : goal.loop-from-preserved-then-from-behind
loop-from-preserved-then-from-behind c =
    let behind = c.behind_narrow-behind in
    least-past c.args.adds c.args.sides.now c.args.shelves.now c.loop-from.best c.loop-from.from behind.result c.loop-from.invariant behind.ensures.on
    (λ number kept on under at. waste-passed c.args.adds c.args.sides.now kept c.requires.across (behind.ensures.narrow c.args.shelves.now c.requires.known number kept on under at))

pub loop-from-preserved : goal.loop-from-preserved
loop-from-preserved c =
    let unfit = c.behind_unfit-from in
    least-left c.args.adds c.args.sides.now c.args.shelves.now c.least_in-best.result c.min-end.result unfit.result c.least_in-best.ensures unfit.ensures.on
    (λ number kept on under at. unfit-leaves c.args.adds c.args.sides.now kept c.least_in-best.result number
    (subst (λ (limit : ℕ). IsUnfit c.args.sides.now.across limit kept) c.limit_beside-limit.ensures (unfit.ensures.unfit c.args.shelves.now c.requires.below number kept on under at)))

pub least_in-best-requires-clause-step : goal.least_in-best-requires-clause-step
least_in-best-requires-clause-step c = c.step-step.ensures c.args.shelves.now c.requires.known

pub returns-after-loop-from : goal.returns-after-loop-from
returns-after-loop-from c =
    let rank = kept_waste c.args.adds c.args.sides.now in
    let shelves = c.args.shelves.now in
    let best = c.loop-from.best in
    record {
      least = λ all. before-end rank shelves best c.loop-from.from (omega (arith, all, c.loop-from-test.false)) c.loop-from.invariant;
      without = λ none number kept low there.
          none-before c.args.adds c.args.sides.now shelves c.loop-from.from (none ∙ c.loop-from.invariant) number kept (omega (arith, low, c.loop-from-test.false)) there;
    }

pub returns-then-is_least : goal.returns-then-is_least
returns-then-is_least c =
    let best = c.least_in-best.result in
    let least : is_least c.step-step.result best ≡ true = sym c.is_least.ensures ∙ c.if-is_least.true in
    record {
      least = λ all. sym (best-of_all c.step-step.result c.args.adds c.args.sides.now c.args.shelves.now best c.min-end.result (c.step-step.ensures c.args.shelves.now c.requires.known) (sym c.least_in-best.ensures) least);
      without = λ none. let nothing : false ≡ true = ap (is_least c.step-step.result) none ∙ least in absurd (cc);
    }
