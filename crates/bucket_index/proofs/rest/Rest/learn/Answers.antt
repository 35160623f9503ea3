use Rattle.std.proofs.Common.{refl, arith}
use Rattle.bucket_index.specs.declared.rest.Rest.{Rest}
use Rattle.bucket_index.proofs.RestOfRows.{beside-learned, rest-learned}
use Rattle.bucket_index.proofs.StandingBuckets.{row-learned}
use Rattle.bucket_index.proofs.rest.Rest.learn.Goals as goal

pub returns-clause-known : goal.returns-clause-known
returns-clause-known c buckets one there room widest is =
    let fresh : Rest = record {
      bucket = c.args.bucket;
      first = c.args.first;
      most = c.args.widest;
      room = c.args.room;
      bound = c.args.widest;
      former = record { count = 0; numbers = c.args.self.now.former.numbers };
    } in
    rest-learned fresh buckets widest (omega arith) (beside-learned fresh buckets one there widest room) (row-learned fresh buckets refl is)
