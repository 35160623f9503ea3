use Rattle.std.proofs.Common.{arith}
use Rattle.shelf_store.proofs.ByHeight.SettledShelves.{none-waits}
use Rattle.shelf_store.proofs.settling.moving.settle_each.Goals as goal

pub returns-clause-none_waits : goal.returns-clause-none_waits
returns-clause-none_waits c =
    none-waits c.loop-by_height.pending.notes c.len.ensures.tied (omega (arith, c.loop-by_height-test.false, c.len.ensures.len))
