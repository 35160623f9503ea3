use Rattle.std.proofs.Common.{drop, sym}
use Rattle.bucket_index.proofs.CountedRooms.{exact-none}
use Rattle.bucket_index.proofs.searching.exact_from.Goals as goal

pub returns-then-not-may_give : goal.returns-then-not-may_give
returns-then-not-may_give c =
    sym (exact-none c.args.sides.now c.args.buckets.now c.args.from (drop c.args.from c.args.shelves.now) (c.may_give.ensures c.if-not-may_give.true c.args.buckets.now c.requires.rooms))
