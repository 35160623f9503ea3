use Rattle.std.proofs.Common.{List, arith, subst, sym}
use Rattle.std.proofs.lemmas.List.{with_items_is}
use Rattle.bucketed_records.specs.declared.records.LinkedBucket.{LinkedBucket}
use Rattle.bucket_index.specs.Private.Spans.{AreSpans}
use Rattle.bucketed_store.proofs.making.make_buckets.Goals as goal

pub returns-then-is_none-clause-spans : goal.returns-then-is_none-clause-spans
returns-then-is_none-clause-spans c =
    let here = c.reuse_buckets-rest.new in
    c.push_buckets.ensures.spans here.spans
    (subst (λ (buckets : List LinkedBucket). AreSpans here.spans buckets)
    (sym (with_items_is c.args.buckets.now here.buckets (omega (arith, c.reuse_buckets-rest.auto.buckets, c.deref_mut.ensures.len)))) c.reuse_buckets-rest.ensures.spans)
