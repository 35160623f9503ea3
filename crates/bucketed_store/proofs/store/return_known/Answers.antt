use Rattle.std.proofs.Common.{List, subst, sym}
use Rattle.bucketed_records.specs.declared.records.LinkedBucket.{LinkedBucket}
use Rattle.bucketed_records.specs.StandsFor.{shelf_of}
use Rattle.bucket_index.specs.Private.Rooms.{AreCounted}
use Rattle.bucket_index.specs.Private.Spans.{AreSpansExcept}
use Rattle.bucket_index.proofs.KnownSpans.{spans-changed-room}
use Rattle.bucketed_store.specs.Private.Returns.{returned_record, width_of}
use Rattle.bucketed_store.proofs.LeftShelves.{links-same}
use Rattle.bucketed_store.proofs.RoomsKept.{followed, is-there}
use Rattle.bucketed_store.proofs.store.return_known.Goals as goal

pub track-requires-clause-others : goal.track-requires-clause-others
track-requires-clause-others c =
    let buckets = c.args.buckets.now in
    let number = c.args.number in
    let width = width_of c.args.shelves.now (shelf_of buckets number) in
    subst (AreSpansExcept number c.args.spans.now) (sym c.return_only.ensures.buckets) (spans-changed-room number (returned_record width) c.args.spans.now buckets (links-same width) c.requires.spans)

pub returns-clause-rooms : goal.returns-clause-rooms
returns-clause-rooms c =
    let buckets = c.args.buckets.now in
    let number = c.args.number in
    let width = width_of c.args.shelves.now (shelf_of buckets number) in
    let one = is-there number buckets c.requires.number in
    subst (λ (bs : List LinkedBucket). AreCounted c.follow_return.new.self bs) (sym c.return_only.ensures.buckets)
    (followed number c.room_of-room.result (returned_record width) buckets c.return_only.new.buckets one.bucket c.args.rooms.now c.follow_return.new.self c.return_only.ensures.buckets one.at
    (c.room_of-room.ensures one.bucket one.at) c.requires.rooms c.follow_return.ensures)
