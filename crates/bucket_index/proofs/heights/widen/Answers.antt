use Rattle.std.proofs.Common.{Some, refl}
use Rattle.etagere_links.proofs.EditLemmas.{set-changed, changed_by-past}
use Rattle.bucket_index.specs.Private.Heights.{widened}
use Rattle.bucket_index.proofs.heights.widen.Goals as goal

pub returns-then-block-ranges : goal.returns-then-block-ranges
returns-then-block-ranges c = rw (c.min-range.ensures, c.max-range.ensures) (set-changed (widened c.args.height) c.args.ranges.now c.args.block (record { lowest = 0; tallest = 0 }) c.if-block-ranges.true)

pub returns-else-block-ranges : goal.returns-else-block-ranges
returns-else-block-ranges c = changed_by-past (widened c.args.height) c.args.ranges.now (Some c.args.block) c.args.block refl c.if-block-ranges.false
