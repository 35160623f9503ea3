-- The statuses of faults of a restoring.
use Rattle.std.proofs.Common.{◌<◌, ◌≢◌, ap, arith}
use Rattle.etagere_base.specs.declared.faults.RestoreFault.{RestoreFault}
use Rattle.etagere_base.specs.declared.faults.RestoreFault.TheVariants.{Memory}
use Rattle.glyph_shelf.specs.declared.faults.CacheRestoreFault.{CacheRestoreFault}
use Rattle.glyph_shelf.specs.declared.faults.CacheRestoreFault.TheVariants as caches
use Rattle.c_answers.specs.Statuses.{cache_restore_refused, restore_memory, restore_refused}

-- below that of memory they are those of rules
pub is_rule : (fault : RestoreFault) → restore_refused fault < restore_memory → fault ≢ Memory
is_rule fault below same = omega (arith, below, ap restore_refused same)

pub is_cache_rule : (fault : CacheRestoreFault) → cache_restore_refused fault ≢ restore_memory → fault ≢ caches.Memory
is_cache_rule fault other same = other (ap cache_restore_refused same)
