use Rattle.std.proofs.Common.{◌≡◌, Some, get_or, refl, sym, ◌∙◌, arith}
use Rattle.std.proofs.lemmas.Option.{slice_get-get_or}
use Rattle.std.specs.Prelude.{slice_get}
use Rattle.bucket_index.specs.Private.Spans.{Span, block_of}
use Rattle.bucket_index.proofs.KnownSpans.{passed-none, passed-on, passed-span}
use Rattle.bucket_index.proofs.spans.behind_narrow.Goals as goal

-- what a span is that is not there
abbrev none : Span
none = record { first = 0; steps = 0; behind = 0; widest_room = 0 }

pub loop-number-init : goal.loop-number-init
loop-number-init c buckets are = passed-none c.args.width buckets c.args.from c.args.most

pub loop-number-preserved : goal.loop-number-preserved
loop-number-preserved c buckets are =
    let spans = c.args.spans.now in
    let number = c.in-Some.number in
    let block = c.block_of-block.result in
    let span = get_or spans block none in
    let at : slice_get spans block ≡ Some span = slice_get-get_or spans block none (omega arith) in
    let further = passed-span c.args.width (block_of c.args.scale) block span buckets c.loop-number.at number c.loop-number.left (sym c.number.ensures.value ∙ c.in-Some.is) c.in-Some.ensures.small (c.if-not-is_passed.ensures.passed refl)
    (are block span at) in
    rw (c.from_bits-at.ensures, c.from-left.ensures)
    (passed-on c.args.width buckets c.args.from c.args.most (record { at = c.loop-number.at; left = c.loop-number.left }) _ (c.loop-number.invariant buckets are) further)
