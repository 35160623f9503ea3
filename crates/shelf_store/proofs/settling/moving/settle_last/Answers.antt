use Rattle.std.proofs.Common.{◌-◌, ◌<◌, ℕ, List, ap, arith, get_or, length, sym, ◌∙◌}
use Rattle.shelf_notes.specs.Private.Pending.{Notes}
use Rattle.shelf_store.proofs.ByHeight.SettledShelves.{in_use-met, in_use-there, popped-holds}
use Rattle.shelf_store.specs.Private.Settling.{AreByHeightExceptNoted, BeginAsListed}
use Rattle.shelf_store.proofs.settling.moving.settle_last.Goals as goal
use Rattle.shelf_store.proofs.settling.moving.settle_last.Goals.{After-pop}

-- what holds once the shelf is noted no more
popped : (c : After-pop) → AreByHeightExceptNoted c.args.frame.now c.args.records.now c.pop.new.self.notes c.settle_one.new.by_height.items × BeginAsListed c.args.records.now.shelves c.pop.new.self.notes
popped c =
    let notes : Notes = c.settle_one.new.pending.notes in
    let same = c.settle_one.ensures.noted in
    let some : 0 < length notes.noted = omega (arith, c.requires.some, ap (λ (ns : List ℕ). length ns) same) in
    popped-holds c.args.frame.now c.args.records.now notes c.pop.new.self.notes c.settle_one.new.by_height.items c.noted_at-shelf.result c.pop.result
    c.requires.kept c.settle_one.ensures.by_height c.settle_one.ensures.as_listed c.settle_one.ensures.settled c.settle_one.ensures.bounded
    c.pop.ensures.none c.pop.ensures.within c.pop.ensures.last c.pop.ensures.notes some
    (c.noted_at-shelf.ensures.value ∙ ap (λ n. get_or c.args.pending.now.notes.noted (n - 1) 0) c.len.ensures.len ∙ sym (ap (λ (ns : List ℕ). get_or ns (length ns - 1) 0) same))

pub returns-then-is_to_park-clause-by_height : goal.returns-then-is_to_park-clause-by_height
returns-then-is_to_park-clause-by_height c =
    c.park_last.ensures.by_height c.args.frame.now c.requires.kept (c.is_to_park.ensures.to_park c.if-is_to_park.true) c.requires.by_height

pub park_last-requires-clause-list : goal.park_last-requires-clause-list
park_last-requires-clause-list c = record { frame = c.args.frame.now; kept = c.requires.kept; by_height = c.requires.by_height }

pub park_last-requires-clause-last : goal.park_last-requires-clause-last
park_last-requires-clause-last c = c.noted_at-shelf.ensures.value ∙ ap (λ n. get_or c.args.pending.now.notes.noted (n - 1) 0) c.len.ensures.len

pub returns-else-is_to_park-clause-by_height : goal.returns-else-is_to_park-clause-by_height
returns-else-is_to_park-clause-by_height c = (popped (goal.at.returns-else-is_to_park-clause-by_height c).After-pop).0

pub returns-else-is_to_park-clause-as_listed : goal.returns-else-is_to_park-clause-as_listed
returns-else-is_to_park-clause-as_listed c = (popped (goal.at.returns-else-is_to_park-clause-as_listed c).After-pop).1

pub is_to_park-requires-clause-in_use : goal.is_to_park-requires-clause-in_use
is_to_park-requires-clause-in_use c = in_use-met c.args.frame.now c.args.records.now c.args.pending.now.notes c.args.by_height.now.items c.requires.kept c.requires.by_height c.noted_at-shelf.result

pub is_to_park-requires-clause-within : goal.is_to_park-requires-clause-within
is_to_park-requires-clause-within c = in_use-there c.args.frame.now c.args.records.now c.args.pending.now.notes c.args.by_height.now.items c.requires.kept c.requires.by_height c.noted_at-shelf.result
