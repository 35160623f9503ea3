use Rattle.bucket_index.proofs.rest.Rest.know.Goals as goal

pub returns-else-self-widest-clause-known : goal.returns-else-self-widest-clause-known
returns-else-self-widest-clause-known c buckets one at room widest stands _ = c.learn.ensures.known buckets one at room widest stands
