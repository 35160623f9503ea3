use Rattle.std.proofs.Common.{◌-◌, ◌+◌, Some, length, refl, arith}
use Rattle.std.proofs.lemmas.Option.{slice_get_read}
use Rattle.bucketed_model.specs.State.{most_buckets}
use Rattle.bucket_index.proofs.LinkedRecords.{named}
use Rattle.bucket_index.proofs.WidestRooms.{widest-at}
use Rattle.bucket_index.proofs.searching.has_room_within.Goals as goal

pub returns-then-room-record_room : goal.returns-then-room-record_room
returns-then-room-record_room c =
    λ _. omega (
      arith,
      c.loop-step.invariant,
      c.record_room.ensures,
      c.if-room-record_room.true,
      widest-at c.args.buckets.now (most_buckets - c.loop-step._step) (most_buckets - (c.loop-step._step + 1)) c.from-number.result c.loop-step.at (Some c.index-buckets-number.result)
          (named c.from-number.result c.bits.result c.loop-step.at c.from-number.ensures c.bits.ensures.link (omega (arith, c.end_of_linked-end.ensures))) (omega arith) (slice_get_read c.args.buckets.now (length c.args.buckets.now) c.from-number.result c.index-buckets-number.result refl (omega arith) c.index-buckets-number.is),
    )

pub loop-step-preserved : goal.loop-step-preserved
loop-step-preserved c =
    omega (
      arith,
      c.loop-step.invariant,
      widest-at c.args.buckets.now (most_buckets - c.loop-step._step) (most_buckets - (c.loop-step._step + 1)) c.from-number.result c.loop-step.at (Some c.index-buckets-number.result)
          (named c.from-number.result c.bits.result c.loop-step.at c.from-number.ensures c.bits.ensures.link (omega (arith, c.end_of_linked-end.ensures))) (omega arith) (slice_get_read c.args.buckets.now (length c.args.buckets.now) c.from-number.result c.index-buckets-number.result refl (omega arith) c.index-buckets-number.is),
    )
