use Rattle.std.proofs.Common.{ℕ, Option, subst, sym}
use Rattle.bucket_index.specs.Private.Rest.{IsIn}
use Rattle.bucketed_store.proofs.RoomsKept.{is-there}
use Rattle.bucketed_store.proofs.store.widest_after.Goals as goal

pub returns-clause-rest : goal.returns-clause-rest
returns-clause-rest c =
    let one = is-there c.args.found.now.bucket c.args.buckets.now c.requires.bucket in
    c.learn.ensures.known c.args.buckets.now one.bucket one.at (c.room_of.ensures one.bucket one.at) (sym c.widest_room-widest.ensures)
    (subst (λ (first : Option ℕ). IsIn c.args.buckets.now first c.args.found.now.bucket) (sym c.first_bucket-first.ensures) c.requires.row)
