use Rattle.std.proofs.Common.{Some, refl}
use Rattle.etagere_links.proofs.EditLemmas.{set-changed, changed_by-past}
use Rattle.bucketed_store.specs.Private.Returns as spec
use Rattle.bucketed_store.proofs.dropping.link_to.Goals as goal

pub returns-then-number-buckets : goal.returns-then-number-buckets
returns-then-number-buckets c =
    set-changed (spec.linked_to c.args.next) c.args.buckets.now c.args.number c.index-buckets-number.result c.if-number-buckets.true

pub returns-else-number-buckets : goal.returns-else-number-buckets
returns-else-number-buckets c =
    changed_by-past (spec.linked_to c.args.next) c.args.buckets.now (Some c.args.number) c.args.number refl c.if-number-buckets.false
