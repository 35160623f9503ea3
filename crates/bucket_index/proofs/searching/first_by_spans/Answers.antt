use Rattle.std.proofs.Common.{◌≡◌, ℕ, ◌-◌, ◌≤◌, Bool, true, false, cond, Option, Some, List, length, refl, ap, sym, ◌∙◌, arith}
use Rattle.std.proofs.lemmas.Option.{slice_get_read}
use Rattle.std.specs.Prelude.{slice_get}
use Rattle.bucketed_records.specs.declared.records.LinkedBucket.{LinkedBucket}
use Rattle.bucket_index.specs.declared.searching.Wanted.{Wanted}
use Rattle.bucket_index.specs.Private.Searching.{first_from, is_wanted}
use Rattle.bucket_index.proofs.KnownSpans.{first-ahead, first-at}
use Rattle.bucket_index.proofs.LinkedRecords.{first-past, named}
use Rattle.bucket_index.proofs.searching.first_by_spans.Goals as goal

-- what is found from a bucket on: it, where it is wanted, else what is found behind it
found-at : (wanted : Wanted) (buckets : List LinkedBucket) (left number : ℕ) (at : Option ℕ) (bucket : LinkedBucket) (is : Bool) → 1 ≤ left → at ≡ Some number → slice_get buckets number ≡ Some bucket → is_wanted wanted bucket ≡ is
    → first_from left wanted buckets at ≡ cond is (Some number) (first_from (left - 1) wanted buckets bucket.next)
found-at wanted buckets left number at bucket is some names here tested =
    first-at wanted buckets left (left - 1) number at (Some bucket) names (omega (arith, some)) here
    ∙ ap (λ (t : Bool). cond t (Some number) (first_from (left - 1) wanted buckets bucket.next)) tested

pub returns-then-number-end-clause-number : goal.returns-then-number-end-clause-number
returns-then-number-end-clause-number c =
    let left = c.loop-left.left in
    sym (sym c.loop-left.invariant
    ∙ first-past c.args.wanted c.args.buckets.now left (left - 1) c.bits.result c.loop-left.at (omega (arith, c.loop-left-test.true)) c.bits.ensures.link
    (omega arith) (omega (arith, c.end_of_linked-end.ensures, c.from-number.ensures)))

pub returns-then-is_wanted-clause-number : goal.returns-then-is_wanted-clause-number
returns-then-is_wanted-clause-number c =
    let bucket = c.index-buckets-number.result in
    sym (sym c.loop-left.invariant
    ∙ found-at c.args.wanted c.args.buckets.now c.loop-left.left c.from-number.result c.loop-left.at bucket true (omega (arith, c.loop-left-test.true))
    (named c.from-number.result c.bits.result c.loop-left.at c.from-number.ensures c.bits.ensures.link (omega (arith, c.end_of_linked-end.ensures)))
    (slice_get_read c.args.buckets.now (length c.args.buckets.now) c.from-number.result bucket refl (omega arith) c.index-buckets-number.is) (sym c.is_wanted.ensures ∙ c.if-is_wanted.true))

pub loop-left-preserved-then-ahead-left : goal.loop-left-preserved-then-ahead-left
loop-left-preserved-then-ahead-left c =
    let bucket = c.index-buckets-number.result in
    sym (found-at c.args.wanted c.args.buckets.now c.loop-left.left c.from-number.result c.loop-left.at bucket false (omega (arith, c.loop-left-test.true))
    (named c.from-number.result c.bits.result c.loop-left.at c.from-number.ensures c.bits.ensures.link (omega (arith, c.end_of_linked-end.ensures)))
    (slice_get_read c.args.buckets.now (length c.args.buckets.now) c.from-number.result bucket refl (omega arith) c.index-buckets-number.is) (sym c.is_wanted.ensures ∙ c.if-is_wanted.false))
    ∙ c.loop-left.invariant

pub loop-left-preserved : goal.loop-left-preserved
loop-left-preserved c =
    let is = c.ahead-ahead.ensures c.args.buckets.now c.requires in
    sym (first-ahead c.needed_room-needed.result c.loop-left.left c.args.wanted c.args.buckets.now c.loop-left.at c.ahead-ahead.result c.needed_room-needed.ensures is) ∙ c.loop-left.invariant

pub loop-left-smaller : goal.loop-left-smaller
loop-left-smaller c =
    let is = c.ahead-ahead.ensures c.args.buckets.now c.requires in
    grind (arith, is.passed, c.if-ahead-left.false)

pub returns-clause-number : goal.returns-clause-number
returns-clause-number c =
    let none : c.loop-left.left ≡ 0 = omega (arith, c.loop-left-test.false) in
    sym (sym c.loop-left.invariant ∙ ap (λ (n : ℕ). first_from n c.args.wanted c.args.buckets.now c.loop-left.at) none)
