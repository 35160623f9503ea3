use Rattle.std.proofs.Common.{Some, refl}
use Rattle.etagere_links.proofs.EditLemmas.{set-changed, changed_by-past}
use Rattle.bucket_index.specs.declared.spans.Span.{Span}
use Rattle.bucket_index.specs.Private.Spans.{no_span}
use Rattle.bucket_index.proofs.spans.set_span.Goals as goal

pub returns-then-block-spans : goal.returns-then-block-spans
returns-then-block-spans c = (set-changed (λ (span : Span). c.args.fresh) c.args.spans.now c.args.block no_span c.if-block-spans.true)

pub returns-else-block-spans : goal.returns-else-block-spans
returns-else-block-spans c = changed_by-past (λ (span : Span). c.args.fresh) c.args.spans.now (Some c.args.block) c.args.block refl c.if-block-spans.false
