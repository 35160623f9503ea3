use Rattle.std.proofs.Common.{arith, length, refl}
use Rattle.std.proofs.lemmas.Option.{slice_get_read}
use Rattle.bucket_index.proofs.KnownSpans.{room-at}
use Rattle.bucket_index.proofs.spans.Spans.track_learned.Goals as goal

pub returns-then-was_widened : goal.returns-then-was_widened
returns-then-was_widened c =
    let buckets = c.args.buckets.now in
    let number = c.args.number in
    let one = c.index-buckets-number.result in
    let last = c.was_widened.ensures c.if-was_widened.true in
    let others = c.requires.others in
    let room = room-at buckets number one (slice_get_read buckets (length buckets) number one refl c.requires.within c.index-buckets-number.is) in
    c.bound_again.ensures buckets (omega (arith, room, c.record_room-room.ensures)) others.known (others.others last.0)
