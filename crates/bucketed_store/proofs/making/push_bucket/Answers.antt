use Rattle.std.proofs.Common.{ℕ, ◌++◌, [], ◌∷◌, None, Some, refl, ap, sym, subst, ◌∙◌, arith}
use Rattle.bucketed_records.specs.declared.records.LinkedBucket.{LinkedBucket}
use Rattle.bucket_index.specs.Private.Spans.{AreSpans}
use Rattle.bucket_index.proofs.KnownSpans.{spans-added}
use Rattle.bucketed_store.specs.Private.StoreEdits.{made_new}
use Rattle.bucketed_store.proofs.MadeOnes.{before, made-parts}
use Rattle.bucketed_store.proofs.making.push_bucket.Goals as goal

pub returns-clause-made : goal.returns-clause-made
returns-clause-made c =
    made-parts (made_new c.args.new.now (before c.args.buckets.now.items None c.args.first)) c.push_reserved.new.self.items None c.to.result
    (c.push_reserved.ensures.items ∙ ap (λ (r : LinkedBucket). c.args.buckets.now.items ++ r ∷ []) c.new_record.ensures) refl
    (c.to.ensures ∙ ap (λ (n : ℕ). Some n) (omega (arith, c.len-number.ensures)))

pub returns-clause-spans : goal.returns-clause-spans
returns-clause-spans c spans known = subst (AreSpans spans) (sym c.push_reserved.ensures.items) (spans-added spans c.args.buckets.now.items _ known)
