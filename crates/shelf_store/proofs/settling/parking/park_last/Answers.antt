use Rattle.std.proofs.Common.{◌≡◌, ◌-◌, ◌<◌, ℕ, List, ap, arith, get_or, length, subst, sym, ◌∙◌}
use Rattle.shelf_records.specs.Private.Kept.{bare}
use Rattle.shelf_records.specs.RecordLists.{walked_lists}
use Rattle.shelf_store.proofs.ByHeight.SettledShelves.{parked-begin, parked-popped}
use Rattle.shelf_store.specs.Private.Settling.{IsBoundIn}
use Rattle.shelf_store.proofs.settling.parking.park_last.Goals as goal
use Rattle.shelf_store.proofs.settling.parking.park_last.Goals.{After-park_last}

-- the shelf is the last one still
some : (c : After-park_last) → 0 < length c.take_out_if_listed.new.pending.notes.noted
some c = omega (arith, c.requires.some, ap (λ (ns : List ℕ). length ns) c.take_out_if_listed.ensures.noted)

last : (c : After-park_last) → c.args.shelf ≡ get_or c.take_out_if_listed.new.pending.notes.noted (length c.take_out_if_listed.new.pending.notes.noted - 1) 0
last c = c.requires.last ∙ sym (ap (λ (ns : List ℕ). get_or ns (length ns - 1) 0) c.take_out_if_listed.ensures.noted)

pub returns-clause-by_height : goal.returns-clause-by_height
returns-clause-by_height c frame kept to_park holds =
    let at = (goal.at.returns-clause-by_height c).After-park_last in
    let below = c.take_out_if_listed.ensures.narrow_below in
    parked-popped frame c.args.records.now c.take_out_if_listed.new.pending.notes c.park_last.new.self.notes c.take_out_if_listed.new.by_height.items c.args.shelf c.park_last.result
    kept (c.take_out_if_listed.ensures.by_height frame kept holds)
    c.park_last.ensures.none c.park_last.ensures.within c.park_last.ensures.last c.park_last.ensures.notes (some at) (last at) c.take_out_if_listed.ensures.unlisted
    (record {
      some = omega (arith, to_park.some, below);
      narrow = subst (λ (p : ℕ). IsBoundIn (bare frame c.args.records.now) (walked_lists c.args.records.now).entries (record { widest = p - 1; shelf = c.args.shelf })) (sym below) to_park.narrow;
    })

pub returns-clause-as_listed : goal.returns-clause-as_listed
returns-clause-as_listed c as_listed =
    let at = (goal.at.returns-clause-as_listed c).After-park_last in
    parked-begin c.args.records.now.shelves c.take_out_if_listed.new.pending.notes c.park_last.new.self.notes c.args.shelf c.park_last.result
    c.park_last.ensures.none c.park_last.ensures.within c.park_last.ensures.last c.park_last.ensures.notes (some at) (last at)
    (λ k. c.take_out_if_listed.ensures.others k (as_listed k))
