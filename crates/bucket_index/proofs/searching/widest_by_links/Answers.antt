use Rattle.std.proofs.Common.{◌≡◌, ℕ, ◌-◌, ◌+◌, Some, length, refl, ap, arith}
use Rattle.std.proofs.lemmas.Option.{slice_get_read}
use Rattle.bucketed_model.specs.State.{most_buckets}
use Rattle.bucket_index.specs.Private.Searching.{widest_from}
use Rattle.bucket_index.proofs.LinkedRecords.{named, widest-past}
use Rattle.bucket_index.proofs.WidestRooms.{widest-at}
use Rattle.bucket_index.proofs.searching.widest_by_links.Goals as goal

pub returns-then-number-end : goal.returns-then-number-end
returns-then-number-end c =
    omega (
      arith,
      c.loop-step.invariant,
      widest-past c.args.buckets.now (most_buckets - c.loop-step._step) (most_buckets - (c.loop-step._step + 1)) c.bits.result c.loop-step.at (omega arith) c.bits.ensures.link (omega arith)
          (omega (arith, c.end_of_linked-end.ensures, c.from-number.ensures)),
    )

pub returns-then-widest-most : goal.returns-then-widest-most
returns-then-widest-most c =
    omega (
      arith,
      c.requires.most,
      c.if-widest-most.true,
      c.loop-step.invariant,
      c.max-widest.ensures,
      c.record_room.ensures,
      widest-at c.args.buckets.now (most_buckets - c.loop-step._step) (most_buckets - (c.loop-step._step + 1)) c.from-number.result c.loop-step.at (Some c.index-buckets-number.result)
          (named c.from-number.result c.bits.result c.loop-step.at c.from-number.ensures c.bits.ensures.link (omega (arith, c.end_of_linked-end.ensures))) (omega arith) (slice_get_read c.args.buckets.now (length c.args.buckets.now) c.from-number.result c.index-buckets-number.result refl (omega arith) c.index-buckets-number.is),
    )

pub loop-step-preserved : goal.loop-step-preserved
loop-step-preserved c =
    omega (
      arith,
      c.loop-step.invariant,
      c.max-widest.ensures,
      c.record_room.ensures,
      widest-at c.args.buckets.now (most_buckets - c.loop-step._step) (most_buckets - (c.loop-step._step + 1)) c.from-number.result c.loop-step.at (Some c.index-buckets-number.result)
          (named c.from-number.result c.bits.result c.loop-step.at c.from-number.ensures c.bits.ensures.link (omega (arith, c.end_of_linked-end.ensures))) (omega arith) (slice_get_read c.args.buckets.now (length c.args.buckets.now) c.from-number.result c.index-buckets-number.result refl (omega arith) c.index-buckets-number.is),
    )

pub returns-after-loop-step : goal.returns-after-loop-step
returns-after-loop-step c =
    let none : most_buckets - c.loop-step._step ≡ 0 = omega arith in
    omega (arith, c.loop-step.invariant, ap (λ (n : ℕ). widest_from n c.args.buckets.now c.loop-step.at) none)
