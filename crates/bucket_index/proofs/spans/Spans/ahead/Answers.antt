use Rattle.std.proofs.Common.{refl}
use Rattle.bucket_index.proofs.KnownSpans.{passed-on}
use Rattle.bucket_index.proofs.spans.Spans.ahead.Goals as goal

pub returns : goal.returns
returns c buckets are =
    let known = (are (c.if-not-begins_narrow.ensures refl)).known in
    let width = c.args.width in
    let large = c.behind_narrow-large.result in
    let middle = c.behind_narrow-middle.result in
    let both = passed-on width buckets c.args.at c.args.left large middle (c.behind_narrow-large.ensures buckets known.large) (c.behind_narrow-middle.ensures buckets known.middle) in
    passed-on width buckets c.args.at c.args.left middle c.behind_narrow.result both (c.behind_narrow.ensures buckets known.small)
