use Rattle.bucket_index.proofs.spans.Spans.begin_to_learn.Goals as goal

pub returns-then-not-self : goal.returns-then-not-self
returns-then-not-self c buckets are = c.unknown.ensures buckets
