use Rattle.std.proofs.Common.{rules}
use Rattle.traffic.proofs.saving.save_buckets.Goals as goal

pub returns-clause-saved : goal.returns-clause-saved
returns-clause-saved c = (c.in_ok-atlas.atlas, c.in_ok-atlas.ensures.led, search rules)
