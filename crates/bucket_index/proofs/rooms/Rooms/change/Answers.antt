use Rattle.bucket_index.proofs.CountedRooms.{enough-changed}
use Rattle.bucket_index.proofs.rooms.Rooms.change.Goals as goal

pub returns : goal.returns
returns c = λ buckets others counted change are.
    rw (c.raise.ensures, c.lower.ensures, c.slot_of.ensures, c.slot_of-2.ensures, c.from.ensures, c.from-2.ensures)
    (enough-changed c.args.self.now.counts c.args.before c.args.after buckets others (counted are) change)
