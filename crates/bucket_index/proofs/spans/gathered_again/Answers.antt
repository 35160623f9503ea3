use Rattle.std.proofs.Common.{ap, ◌∙◌, arith, ◌<◌}
use Rattle.etagere_links.specs.Links.{no_link}
use Rattle.bucket_index.specs.Private.Spans.{whole_of}
use Rattle.bucket_index.proofs.KnownSpans.{but-first, known-block}
use Rattle.bucket_index.proofs.spans.gathered_again.Goals as goal

pub returns : goal.returns
returns c one block buckets are but known =
    let numbered = whole_of c.args.scale in
    let begun : c.args.span.first < no_link = omega (arith, c.if-span-eq65535.false) in
    let begins = but-first one numbered block c.args.span buckets (but begun) in
    known-block numbered (numbered c.from.result) block c.gathered.result buckets (ap numbered c.from.ensures ∙ begins.1) (c.gathered.ensures buckets are) known
