use Rattle.std.proofs.Common.{arith, sym, ◌∙◌, ◌+◌}
use Rattle.bucketed_model.specs.State.{most_buckets}
use Rattle.bucket_index.specs.declared.spans.Ahead.{Ahead}
use Rattle.bucket_index.proofs.KnownSpans.{passed-none, passed-on, passed-span, passed-wider, widest-ahead}
use Rattle.bucket_index.proofs.WidestRooms.{widest-none}
use Rattle.bucket_index.proofs.spans.Spans.widest_bound.Goals as goal

pub loop-number-init : goal.loop-number-init
loop-number-init c buckets are = passed-none 1 buckets c.args.first most_buckets

pub loop-number-preserved : goal.loop-number-preserved
loop-number-preserved c buckets are =
    let number = c.in-Some.number in
    let span = c.span_at-span.result in
    let known = c.span_at-span.ensures buckets (are c.if-not-self.false).known in
    let width = c.max-widest.result + 1 in
    let here : Ahead = record { at = c.loop-number.at; left = c.loop-number.unseen } in
    let passed = c.is_passed.ensures.passed c.if-not-is_passed.false in
    let further = passed-span (c.from.result + 1) known.numbered known.block span buckets c.loop-number.at number c.loop-number.unseen (sym c.number.ensures.value ∙ c.in-Some.is) c.in-Some.ensures.small passed known.known in
    rw (c.from_bits-at.ensures, c.from-unseen.ensures)
    (passed-on width buckets c.args.first most_buckets here _ (passed-wider (c.loop-number.bound + 1) width buckets c.args.first most_buckets here (omega (arith, c.max-widest.ensures)) (c.loop-number.invariant buckets are))
    (passed-wider (c.from.result + 1) width buckets c.loop-number.at c.loop-number.unseen _ (omega (arith, c.from.ensures)) further))

pub returns : goal.returns
returns c buckets are =
    let bound = c.loop-number.bound in
    let end : Ahead = record { at = c.loop-number.at; left = c.loop-number.unseen } in
    omega (arith, widest-ahead bound most_buckets buckets c.args.first end (c.loop-number.invariant buckets are), widest-none buckets c.loop-number.unseen c.loop-number.at (sym c.number.ensures.value ∙ c.in_default.is))
