use Rattle.std.proofs.Common.{Some, refl}
use Rattle.etagere_links.proofs.EditLemmas.{set-changed, changed_by-past}
use Rattle.bucket_index.specs.Private.Rooms.{more_by}
use Rattle.bucket_index.proofs.rooms.raise.Goals as goal

pub returns-then-slot-counts : goal.returns-then-slot-counts
returns-then-slot-counts c = rw c.more_by.ensures (set-changed (more_by c.args.more) c.args.counts.now c.args.slot 0 c.if-slot-counts.true)

pub returns-else-slot-counts : goal.returns-else-slot-counts
returns-else-slot-counts c = changed_by-past (more_by c.args.more) c.args.counts.now (Some c.args.slot) c.args.slot refl c.if-slot-counts.false
