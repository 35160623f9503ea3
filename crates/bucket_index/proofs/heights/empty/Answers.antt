use Rattle.std.proofs.Common.{Some, refl}
use Rattle.etagere_links.proofs.EditLemmas.{set-changed, changed_by-past}
use Rattle.bucket_index.specs.Private.Heights.{no_heights}
use Rattle.bucket_index.proofs.heights.empty.Goals as goal

pub returns-then-block-ranges : goal.returns-then-block-ranges
returns-then-block-ranges c = set-changed (λ _. no_heights) c.args.ranges.now c.args.block no_heights c.if-block-ranges.true

pub returns-else-block-ranges : goal.returns-else-block-ranges
returns-else-block-ranges c = changed_by-past (λ _. no_heights) c.args.ranges.now (Some c.args.block) c.args.block refl c.if-block-ranges.false
