use Rattle.std.proofs.Common.{◌<◌, arith}
use Rattle.bucket_index.proofs.rest.Rest.lower.Goals as goal

pub returns-then-bucket-self : goal.returns-then-bucket-self
returns-then-bucket-self c buckets most bound row same =
    record {
      most = most;
      exact = λ less. absurd (never less);
      bound = bound;
      row = record {
        row = λ number e. let known = row.row number e in record { stand = known.stand; down = known.down };
        none = row.none;
      };
    }
  where
    never : c.args.self.now.most < c.args.self.now.most → ⊥
    never less = omega (arith, less)
