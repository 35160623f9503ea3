use Rattle.std.proofs.Common.{◌≡◌, ℕ, ◌+◌, ◌-◌, Bool, true, false, cond, Some, length, refl, ap, sym, ◌∙◌, arith}
use Rattle.std.proofs.lemmas.Option.{slice_get_read}
use Rattle.bucket_index.specs.Private.Searching.{first_from, is_wanted}
use Rattle.bucket_index.proofs.KnownSpans.{first-at}
use Rattle.bucket_index.proofs.LinkedRecords.{first-past, named}
use Rattle.bucket_index.proofs.searching.first_within.Goals as goal

pub returns-then-number-end-clause-number : goal.returns-then-number-end-clause-number
returns-then-number-end-clause-number c =
    sym (sym c.loop-step.invariant
    ∙ first-past c.args.wanted c.args.buckets.now (c.args.most - c.loop-step._step) (c.args.most - (c.loop-step._step + 1)) c.bits.result c.loop-step.at (omega arith) c.bits.ensures.link
    (omega arith) (omega (arith, c.end_of_linked-end.ensures, c.from-number.ensures)))

pub returns-then-is_wanted-clause-number : goal.returns-then-is_wanted-clause-number
returns-then-is_wanted-clause-number c =
    let bucket = c.index-buckets-number.result in
    let left = c.args.most - c.loop-step._step in
    let fewer = c.args.most - (c.loop-step._step + 1) in
    let wanted : is_wanted c.args.wanted bucket ≡ true = sym c.is_wanted.ensures ∙ c.if-is_wanted.true in
    sym (sym c.loop-step.invariant
    ∙ first-at c.args.wanted c.args.buckets.now left fewer c.from-number.result c.loop-step.at (Some bucket)
    (named c.from-number.result c.bits.result c.loop-step.at c.from-number.ensures c.bits.ensures.link (omega (arith, c.end_of_linked-end.ensures))) (omega arith) (slice_get_read c.args.buckets.now (length c.args.buckets.now) c.from-number.result c.index-buckets-number.result refl (omega arith) c.index-buckets-number.is)
    ∙ ap (λ (t : Bool). cond t (Some c.from-number.result) (first_from fewer c.args.wanted c.args.buckets.now bucket.next)) wanted)

pub loop-step-preserved : goal.loop-step-preserved
loop-step-preserved c =
    let bucket = c.index-buckets-number.result in
    let left = c.args.most - c.loop-step._step in
    let fewer = c.args.most - (c.loop-step._step + 1) in
    let wanted : is_wanted c.args.wanted bucket ≡ false = sym c.is_wanted.ensures ∙ c.if-is_wanted.false in
    sym (first-at c.args.wanted c.args.buckets.now left fewer c.from-number.result c.loop-step.at (Some bucket)
    (named c.from-number.result c.bits.result c.loop-step.at c.from-number.ensures c.bits.ensures.link (omega (arith, c.end_of_linked-end.ensures))) (omega arith) (slice_get_read c.args.buckets.now (length c.args.buckets.now) c.from-number.result c.index-buckets-number.result refl (omega arith) c.index-buckets-number.is)
    ∙ ap (λ (t : Bool). cond t (Some c.from-number.result) (first_from fewer c.args.wanted c.args.buckets.now bucket.next)) wanted)
    ∙ c.loop-step.invariant

pub returns-clause-number : goal.returns-clause-number
returns-clause-number c =
    let none : c.args.most - c.loop-step._step ≡ 0 = omega arith in
    sym (sym c.loop-step.invariant ∙ ap (λ (n : ℕ). first_from n c.args.wanted c.args.buckets.now c.loop-step.at) none)
