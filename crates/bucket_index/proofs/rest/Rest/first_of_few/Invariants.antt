use Rattle.bucket_index.specs.Private.Rest.{IsFurthestOf, latest}
use Rattle.bucket_index.proofs.rest.Rest.first_of_few.Given as goal

-- of those seen so far it begins the furthest along
abbrev pub invariant-loop-place : goal.invariant-loop-place
invariant-loop-place l = IsFurthestOf l.width (latest l.place l.self.former.numbers) l.buckets l.spot
