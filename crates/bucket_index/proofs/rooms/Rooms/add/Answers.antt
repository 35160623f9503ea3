use Rattle.std.proofs.Common.{◌+◌}
use Rattle.bucket_index.specs.Private.Rooms.{slot_of, tally}
use Rattle.bucket_index.proofs.CountedRooms.{enough-less, enough-raised, so_many}
use Rattle.bucket_index.proofs.rooms.Rooms.add.Goals as goal

pub returns-then-self : goal.returns-then-self
returns-then-self c = λ buckets others counted more are.
    rw (c.raise.ensures, c.slot_of.ensures, c.from.ensures)
    (enough-less _ (λ slot. tally slot buckets + so_many (slot_of c.args.width) c.args.more slot) (λ slot. tally slot others)
    (enough-raised c.args.self.now.counts (λ slot. tally slot buckets) (slot_of c.args.width) c.args.more (counted are)) more)
