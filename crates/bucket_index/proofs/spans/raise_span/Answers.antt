use Rattle.std.proofs.Common.{Some, refl}
use Rattle.etagere_links.proofs.EditLemmas.{set-changed, changed_by-past}
use Rattle.bucket_index.specs.Private.Spans.{Span, widened}
use Rattle.bucket_index.proofs.spans.raise_span.Goals as goal

-- what a span is that is not there
abbrev none : Span
none = record { first = 0; steps = 0; behind = 0; widest_room = 0 }

pub returns-then-block-spans : goal.returns-then-block-spans
returns-then-block-spans c = rw c.max-span.ensures (set-changed (widened c.args.room) c.args.spans.now c.args.block none c.if-block-spans.true)

pub returns-else-block-spans : goal.returns-else-block-spans
returns-else-block-spans c = changed_by-past (widened c.args.room) c.args.spans.now (Some c.args.block) c.args.block refl c.if-block-spans.false
