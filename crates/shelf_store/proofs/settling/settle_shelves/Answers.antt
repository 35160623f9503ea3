use Rattle.std.proofs.Common.{arith}
use Rattle.shelf_store.proofs.ByHeight.SettledShelves.{all-by_height, all-settled, none-waits}
use Rattle.shelf_store.proofs.settling.settle_shelves.Goals as goal

pub returns-then-len-gt0-clause-by_height : goal.returns-then-len-gt0-clause-by_height
returns-then-len-gt0-clause-by_height c =
    all-by_height c.args.frame.now c.args.records.now c.settle_noted.new.pending.notes c.settle_noted.new.by_height.items c.requires.kept c.settle_noted.ensures.by_height
    c.settle_noted.ensures.none_waits (omega (arith, c.settle_noted.ensures.parked_below, c.if-parked_below-gt0.false, c.parked_below.ensures.value))

pub returns-then-len-gt0-clause-settled : goal.returns-then-len-gt0-clause-settled
returns-then-len-gt0-clause-settled c =
    all-settled c.args.frame.now c.args.records.now c.settle_noted.new.pending.notes c.settle_noted.new.by_height.items c.requires.kept c.settle_noted.ensures.by_height
    c.settle_noted.ensures.none_waits (omega (arith, c.settle_noted.ensures.parked_below, c.if-parked_below-gt0.false, c.parked_below.ensures.value))

pub returns-else-len-gt0-clause-by_height : goal.returns-else-len-gt0-clause-by_height
returns-else-len-gt0-clause-by_height c =
    all-by_height c.args.frame.now c.args.records.now c.args.pending.now.notes c.args.by_height.now.items c.requires.kept c.requires.by_height
    (none-waits c.args.pending.now.notes c.len.ensures.tied (omega (arith, c.if-len-gt0.false, c.len.ensures.len)))
    (omega (arith, c.if-parked_below-gt0.false, c.parked_below.ensures.value))

pub returns-else-len-gt0-clause-settled : goal.returns-else-len-gt0-clause-settled
returns-else-len-gt0-clause-settled c =
    all-settled c.args.frame.now c.args.records.now c.args.pending.now.notes c.args.by_height.now.items c.requires.kept c.requires.by_height
    (none-waits c.args.pending.now.notes c.len.ensures.tied (omega (arith, c.if-len-gt0.false, c.len.ensures.len)))
    (omega (arith, c.if-parked_below-gt0.false, c.parked_below.ensures.value))
