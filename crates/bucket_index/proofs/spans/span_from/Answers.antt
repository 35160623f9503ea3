use Rattle.std.proofs.Common.{◌≡◌, Some, length, refl, sym, ◌∙◌, arith}
use Rattle.std.proofs.lemmas.Option.{slice_get_read}
use Rattle.std.specs.Prelude.{slice_get}
use Rattle.bucket_index.specs.Private.Spans.{block_of}
use Rattle.bucket_index.proofs.KnownSpans.{span-longer}
use Rattle.bucket_index.proofs.spans.span_from.Goals as goal

pub loop-step-preserved : goal.loop-step-preserved
loop-step-preserved c =
    let buckets = c.args.buckets.now in
    let number = c.in-Some.number in
    let bucket = c.index-buckets-number.result in
    let here : slice_get buckets number ≡ Some bucket = slice_get_read buckets (length buckets) number bucket refl (omega arith) c.index-buckets-number.is in
    let same : block_of 1 number ≡ block_of 1 c.args.first = omega (arith, c.block_of.ensures.value, c.block_of-block.ensures.value, c.if-block_of-block.false) in
    record {
      lead = rw (c.max-widest.ensures, c.record_room.ensures)
          (span-longer (block_of 1) (block_of 1 c.args.first) number c.loop-step.behind c.loop-step.widest c.args.first c.loop-step.steps buckets bucket here same (sym c.number.ensures.value ∙ c.in-Some.is) c.loop-step.invariant.lead);
      some = omega (arith, c.loop-step.invariant.some);
      few = omega (arith, c.loop-step.invariant.few);
    }
