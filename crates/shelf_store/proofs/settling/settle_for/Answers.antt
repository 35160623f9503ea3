use Rattle.std.proofs.Common.{ap, arith, subst, sym}
use Rattle.shelf_records.specs.Private.Kept.{bare}
use Rattle.shelf_records.specs.RecordLists.{walked_lists}
use Rattle.shelf_notes.specs.Private.Pending.{Notes}
use Rattle.shelf_store.proofs.ByHeight.ParkedShelves.{all-for, watched-holds}
use Rattle.shelf_store.proofs.ByHeight.SettledShelves.{for-width, none-waits}
use Rattle.shelf_store.proofs.ByHeight.SplitByHeight.{settled-holds}
use Rattle.shelf_store.specs.Private.Settling.{AreByHeightExceptNoted}
use Rattle.shelf_store.proofs.settling.settle_for.Goals as goal

pub returns-then-width-parked_below-clause-by_height : goal.returns-then-width-parked_below-clause-by_height
returns-then-width-parked_below-clause-by_height c =
    settled-holds c.args.frame.now c.args.records.now c.list_all.new.pending.notes c.list_all.new.by_height.items c.requires.kept c.list_all.ensures.by_height c.list_all.ensures.settled

pub returns-then-width-parked_below-clause-follows : goal.returns-then-width-parked_below-clause-follows
returns-then-width-parked_below-clause-follows c =
    all-for (bare c.args.frame.now c.args.records.now) (walked_lists c.args.records.now).entries c.args.width c.list_all.new.by_height.items c.list_all.ensures.by_height

pub settle_noted-requires-clause-by_height : goal.settle_noted-requires-clause-by_height
settle_noted-requires-clause-by_height c =
    subst (λ (n : Notes). AreByHeightExceptNoted c.args.frame.now c.args.records.now n c.args.by_height.now.items) (sym c.watch.ensures.notes)
    (watched-holds (bare c.args.frame.now c.args.records.now) (walked_lists c.args.records.now).entries c.args.pending.now.notes c.args.by_height.now.items c.watch.new.self.notes.narrow_below
    c.requires.by_height)

pub returns-then-len-gt0-clause-follows : goal.returns-then-len-gt0-clause-follows
returns-then-len-gt0-clause-follows c =
    for-width c.args.frame.now c.args.records.now c.settle_noted.new.pending.notes c.settle_noted.new.by_height.items c.requires.kept c.settle_noted.ensures.by_height c.settle_noted.ensures.none_waits
    c.args.width (omega (arith, c.settle_noted.ensures.parked_below, c.watch.ensures.width, ap (λ (n : Notes). n.parked_below) c.watch.ensures.notes, c.if-width-parked_below.false, c.parked_below.ensures.value))

pub returns-else-len-gt0-clause-follows : goal.returns-else-len-gt0-clause-follows
returns-else-len-gt0-clause-follows c =
    for-width c.args.frame.now c.args.records.now c.args.pending.now.notes c.args.by_height.now.items c.requires.kept c.requires.by_height
    (none-waits c.args.pending.now.notes c.len.ensures.tied (omega (arith, c.if-len-gt0.false, c.len.ensures.len)))
    c.args.width (omega (arith, c.if-width-parked_below.false, c.parked_below.ensures.value))
