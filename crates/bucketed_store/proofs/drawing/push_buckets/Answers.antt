use Rattle.std.proofs.Common.{◌≡◌, ◌+◌, ◌-◌, Some, ◌∷◌, length, refl, arith, ap, subst, sym, ◌∙◌}
use Rattle.std.proofs.lemmas.Option.{slice_get_past, slice_get_read}
use Rattle.std.specs.Prelude.{slice_get}
use Rattle.std.specs.List.{AllByRecursion}
use Rattle.pictures.proofs.GatheringLemmas.{along-begun, along-ends, along-passed, on-err}
use Rattle.bucketed_model.specs.State.{most_buckets}
use Rattle.bucketed_records.specs.declared.records.LinkedBucket.{LinkedBucket}
use Rattle.bucketed_store.specs.Private.DrawnRecords.{FitsIn, bucket_lines, linked_buckets, linked_from}
use Rattle.bucketed_store.proofs.Drawn.DrawnLinks.{linked-here, linked-none, linked-past}
use Rattle.bucketed_store.proofs.drawing.push_buckets.Goals as goal

-- no link is left
pub returns-in_default-clause-ok : goal.returns-in_default-clause-ok
returns-in_default-clause-ok g c =
    let left = most_buckets - c.loop-step._step in
    along-ends (bucket_lines c.args.frame.now c.args.kept.now.shelf) (g.W.Write.contents c.args.writer.now) c.args.text.now
    (g.W.Write.contents c.loop-step.writer) c.loop-step.text (linked_from left c.args.buckets.now c.loop-step.at) (linked_buckets c.args.buckets.now c.args.kept.now.shelf) c.loop-step.invariant.along
    (linked-none c.args.buckets.now left c.loop-step.at (sym c.number.ensures.value ∙ c.in_default.is))

-- no record has the number
pub returns-then-number-buckets-clause-ok : goal.returns-then-number-buckets-clause-ok
returns-then-number-buckets-clause-ok g c =
    let left = most_buckets - c.loop-step._step in
    along-ends (bucket_lines c.args.frame.now c.args.kept.now.shelf) (g.W.Write.contents c.args.writer.now) c.args.text.now
    (g.W.Write.contents c.loop-step.writer) c.loop-step.text (linked_from left c.args.buckets.now c.loop-step.at) (linked_buckets c.args.buckets.now c.args.kept.now.shelf) c.loop-step.invariant.along
    (linked-past c.args.buckets.now left c.in-Some.number c.loop-step.at (sym c.number.ensures.value ∙ c.in-Some.is) (slice_get_past c.args.buckets.now c.in-Some.number (omega arith)))

-- no more of the bucket is free than it is wide
pub push_bucket-requires : goal.push_bucket-requires
push_bucket-requires g c =
    let bucket : LinkedBucket = c.index-buckets-number.result in
    let fewer = most_buckets - (c.loop-step._step + 1) in
    let here : slice_get c.args.buckets.now c.in-Some.number ≡ Some bucket =
    slice_get_read c.args.buckets.now (length c.args.buckets.now) c.in-Some.number bucket refl (omega arith) c.index-buckets-number.is in
    (subst (AllByRecursion (FitsIn c.args.kept.now.shelf))
    (linked-here c.args.buckets.now (most_buckets - c.loop-step._step) fewer c.in-Some.number c.loop-step.at bucket (sym c.number.ensures.value ∙ c.in-Some.is) (omega arith) here)
    c.loop-step.invariant.fit).0

-- a beginning went out of the lines of the bucket
pub returns-in_err-push_bucket-clause-err : goal.returns-in_err-push_bucket-clause-err
returns-in_err-push_bucket-clause-err g c =
    let bucket : LinkedBucket = c.index-buckets-number.result in
    let left = most_buckets - c.loop-step._step in
    let fewer = most_buckets - (c.loop-step._step + 1) in
    let here : slice_get c.args.buckets.now c.in-Some.number ≡ Some bucket =
    slice_get_read c.args.buckets.now (length c.args.buckets.now) c.in-Some.number bucket refl (omega arith) c.index-buckets-number.is in
    on-err c.from_residual.result
    (along-begun (bucket_lines c.args.frame.now c.args.kept.now.shelf) (g.W.Write.contents c.args.writer.now) c.args.text.now
    (g.W.Write.contents c.loop-step.writer) (g.W.Write.contents c.push_bucket.new.writer) c.loop-step.text bucket
    (linked_from left c.args.buckets.now c.loop-step.at) (linked_from fewer c.args.buckets.now bucket.next) (linked_buckets c.args.buckets.now c.args.kept.now.shelf) c.loop-step.invariant.along
    (linked-here c.args.buckets.now left fewer c.in-Some.number c.loop-step.at bucket (sym c.number.ensures.value ∙ c.in-Some.is) (omega arith) here)
    c.in_err-push_bucket.ensures.err)

-- one more bucket was drawn
pub loop-step-preserved : goal.loop-step-preserved
loop-step-preserved g c =
    let bucket : LinkedBucket = c.index-buckets-number.result in
    let left = most_buckets - c.loop-step._step in
    let fewer = most_buckets - (c.loop-step._step + 1) in
    let here : slice_get c.args.buckets.now c.in-Some.number ≡ Some bucket =
    slice_get_read c.args.buckets.now (length c.args.buckets.now) c.in-Some.number bucket refl (omega arith) c.index-buckets-number.is in
    let whole : linked_from left c.args.buckets.now c.loop-step.at ≡ bucket ∷ linked_from fewer c.args.buckets.now bucket.next =
    linked-here c.args.buckets.now left fewer c.in-Some.number c.loop-step.at bucket (sym c.number.ensures.value ∙ c.in-Some.is) (omega arith) here in
    record {
      along = along-passed (bucket_lines c.args.frame.now c.args.kept.now.shelf) (g.W.Write.contents c.args.writer.now) c.args.text.now
          (g.W.Write.contents c.loop-step.writer) (g.W.Write.contents c.push_bucket.new.writer) c.loop-step.text c.push_bucket.new.text bucket
          (linked_from left c.args.buckets.now c.loop-step.at) (linked_from fewer c.args.buckets.now bucket.next) (linked_buckets c.args.buckets.now c.args.kept.now.shelf) c.loop-step.invariant.along
          whole c.in_ok-push_bucket.ensures.ok;
      fit = (subst (AllByRecursion (FitsIn c.args.kept.now.shelf)) whole c.loop-step.invariant.fit).1;
    }

-- after the most steps no bucket is left
pub returns-clause-ok : goal.returns-clause-ok
returns-clause-ok g c =
    let left = most_buckets - c.loop-step._step in
    let none : left ≡ 0 = omega arith in
    along-ends (bucket_lines c.args.frame.now c.args.kept.now.shelf) (g.W.Write.contents c.args.writer.now) c.args.text.now
    (g.W.Write.contents c.loop-step.writer) c.loop-step.text (linked_from left c.args.buckets.now c.loop-step.at) (linked_buckets c.args.buckets.now c.args.kept.now.shelf) c.loop-step.invariant.along
    (ap (λ n. linked_from n c.args.buckets.now c.loop-step.at) none)
