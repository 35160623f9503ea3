use Rattle.std.proofs.Common.{◌≡◌, ℕ, ◌+◌, ◌-◌, Option, None, Some, List, length, max, refl, ap, sym, subst, ◌∙◌, arith}
use Rattle.std.proofs.lemmas.Option.{slice_get_past, slice_get_read}
use Rattle.std.specs.Prelude.{slice_get}
use Rattle.bucketed_records.specs.declared.records.LinkedBucket.{LinkedBucket}
use Rattle.bucket_index.specs.Private.Searching.{widest_from}
use Rattle.bucket_index.specs.declared.spans.Ahead.{Ahead}
use Rattle.bucket_index.specs.Private.Spans.{IsPassed}
use Rattle.bucket_index.proofs.KnownSpans.{widest-ahead}
use Rattle.bucket_index.proofs.WidestRooms.{widest-at, widest-none}
use Rattle.bucket_index.proofs.searching.widest_above.Goals as goal

-- the widest so far and that from where the search goes on make the widest of all
passed : (most width left rest : ℕ) (bs : List LinkedBucket) (at : Option ℕ) (ahead : Ahead) → width ≡ most → IsPassed (width + 1) bs at left ahead → max most (widest_from left bs at) ≡ rest
    → max most (widest_from ahead.left bs ahead.at) ≡ rest
passed most width left rest bs at ahead same is all = sym (widest-ahead most left bs at ahead (subst (λ (w : ℕ). IsPassed (w + 1) bs at left ahead) same is)) ∙ all

pub returns-then-ahead-eq0 : goal.returns-then-ahead-eq0
returns-then-ahead-eq0 c =
    let none : c.ahead-ahead.result.left ≡ 0 = omega (arith, c.if-ahead-eq0.true) in
    omega (arith, (passed c.loop-step.widest c.from.result c.loop-step.left _ c.args.buckets.now c.loop-step.at c.ahead-ahead.result c.from.ensures (c.ahead-ahead.ensures c.args.buckets.now c.requires.spans) c.loop-step.invariant.rest), ap (λ (n : ℕ). widest_from n c.args.buckets.now c.ahead-ahead.result.at) none)

pub returns-in_default : goal.returns-in_default
returns-in_default c =
    omega (arith, (passed c.loop-step.widest c.from.result c.loop-step.left _ c.args.buckets.now c.loop-step.at c.ahead-ahead.result c.from.ensures (c.ahead-ahead.ensures c.args.buckets.now c.requires.spans) c.loop-step.invariant.rest), widest-none c.args.buckets.now c.ahead-ahead.result.left c.ahead-ahead.result.at (sym c.number.ensures.value ∙ c.in_default.is))

pub returns-then-number-buckets : goal.returns-then-number-buckets
returns-then-number-buckets c =
    let left = c.ahead-ahead.result.left in
    omega (
      arith,
      (passed c.loop-step.widest c.from.result c.loop-step.left _ c.args.buckets.now c.loop-step.at c.ahead-ahead.result c.from.ensures (c.ahead-ahead.ensures c.args.buckets.now c.requires.spans) c.loop-step.invariant.rest),
      widest-at c.args.buckets.now left (left - 1) c.in-Some.number c.ahead-ahead.result.at None
          (sym c.number.ensures.value ∙ c.in-Some.is) (omega (arith, c.if-ahead-eq0.false)) (slice_get_past c.args.buckets.now c.in-Some.number (omega arith)),
    )

pub loop-step-preserved : goal.loop-step-preserved
loop-step-preserved c =
    let buckets = c.args.buckets.now in
    let number = c.in-Some.number in
    let bucket = c.index-buckets-number.result in
    let left = c.ahead-ahead.result.left in
    let here : slice_get buckets number ≡ Some bucket = slice_get_read buckets (length buckets) number bucket refl (omega arith) c.index-buckets-number.is in
    let own = widest-at buckets left (left - 1) number c.ahead-ahead.result.at (Some bucket) (sym c.number.ensures.value ∙ c.in-Some.is) (omega (arith, c.if-ahead-eq0.false)) here in
    let is = c.ahead-ahead.ensures buckets c.requires.spans in
    record {
      rest = omega (arith, (passed c.loop-step.widest c.from.result c.loop-step.left _ c.args.buckets.now c.loop-step.at c.ahead-ahead.result c.from.ensures (c.ahead-ahead.ensures c.args.buckets.now c.requires.spans) c.loop-step.invariant.rest), own, c.max-widest.ensures, c.record_room.ensures);
      few = omega (arith, c.loop-step.invariant.few, is.passed, c.if-ahead-eq0.false);
    }

pub returns-after-loop-step : goal.returns-after-loop-step
returns-after-loop-step c =
    let none : c.loop-step.left ≡ 0 = omega (arith, c.loop-step.invariant.few) in
    omega (arith, c.loop-step.invariant.rest, ap (λ (n : ℕ). widest_from n c.args.buckets.now c.loop-step.at) none)
