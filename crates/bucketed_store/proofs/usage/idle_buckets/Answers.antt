use Rattle.std.proofs.Common.{◌≡◌, ℕ, zero, suc, ◌+◌, ◌-◌, Option, None, Some, List, length, refl, ap, sym, ◌∙◌, arith}
use Rattle.std.proofs.lemmas.Option.{slice_get_past, slice_get_read}
use Rattle.std.specs.Option.{option_map_or}
use Rattle.std.specs.Prelude.{slice_get}
use Rattle.bucketed_model.specs.State.{most_buckets}
use Rattle.bucketed_records.specs.declared.records.LinkedBucket.{LinkedBucket}
use Rattle.bucketed_store.specs.Private.Refusals.{idle_from, idle_one}
use Rattle.bucketed_store.proofs.usage.idle_buckets.Goals as goal

-- how many are idle from a link on
idle-at : (buckets : List LinkedBucket) (left fewer number : ℕ) (at : Option ℕ) (found : Option LinkedBucket) → at ≡ Some number → left ≡ suc fewer → slice_get buckets number ≡ found
    → idle_from left buckets at ≡ option_map_or (λ (bucket : LinkedBucket). idle_one bucket + idle_from fewer buckets bucket.next) found 0
idle-at buckets left fewer number at found names less here =
    ap (idle_from left buckets) names
    ∙ ap (λ (n : ℕ). idle_from n buckets (Some number)) less
    ∙ ap (λ (r : Option LinkedBucket). option_map_or (λ (bucket : LinkedBucket). idle_one bucket + idle_from fewer buckets bucket.next) r 0) here

-- none is idle where no bucket is named
idle-none : (buckets : List LinkedBucket) (left : ℕ) (at : Option ℕ) → at ≡ None → idle_from left buckets at ≡ 0
idle-none buckets left at names = ap (idle_from left buckets) names ∙ none left
  where
    none : (n : ℕ) → idle_from n buckets None ≡ 0
    none zero = refl
    none (suc n) = refl

pub returns-in_default-clause-value : goal.returns-in_default-clause-value
returns-in_default-clause-value c =
    omega (arith, c.loop-step.invariant.whole, idle-none c.args.buckets.now (most_buckets - c.loop-step._step) c.loop-step.at (sym c.number.ensures.value ∙ c.in_default.is))

pub returns-then-number-buckets-clause-value : goal.returns-then-number-buckets-clause-value
returns-then-number-buckets-clause-value c =
    omega (
      arith,
      c.loop-step.invariant.whole,
      idle-at c.args.buckets.now (most_buckets - c.loop-step._step) (most_buckets - (c.loop-step._step + 1)) c.in-Some.number c.loop-step.at None
          (sym c.number.ensures.value ∙ c.in-Some.is) (omega arith) (slice_get_past c.args.buckets.now c.in-Some.number (omega arith)),
    )

pub loop-step-preserved : goal.loop-step-preserved
loop-step-preserved c =
    let bucket = c.index-buckets-number.result in
    let fewer = most_buckets - (c.loop-step._step + 1) in
    let here = idle-at c.args.buckets.now (most_buckets - c.loop-step._step) fewer c.in-Some.number c.loop-step.at (Some bucket)
    (sym c.number.ensures.value ∙ c.in-Some.is) (omega arith) (slice_get_read c.args.buckets.now (length c.args.buckets.now) c.in-Some.number bucket refl (omega arith) c.index-buckets-number.is) in
    record {
      whole = omega (arith, here, c.loop-step.invariant.whole, c.idle_one-idle.ensures.value);
      few = omega (arith, c.loop-step.invariant.few, c.idle_one-idle.ensures.few);
    }

pub returns-after-loop-step-clause-value : goal.returns-after-loop-step-clause-value
returns-after-loop-step-clause-value c =
    let none : most_buckets - c.loop-step._step ≡ 0 = omega arith in
    omega (arith, c.loop-step.invariant.whole, ap (λ (n : ℕ). idle_from n c.args.buckets.now c.loop-step.at) none)
