use Rattle.std.proofs.Common.{◌≡◌, ◌<◌, ℕ, [], ◌∷◌, ◌++◌, false, arith, ap, ◌∙◌, refl, sym, true, length, set}
use Rattle.std.proofs.lemmas.List.{length-set}
use Rattle.shelf_notes.specs.Private.Pending.{AreCounted, RoomyNotes, waits}
use Rattle.shelf_notes.specs.declared.pending.Standing.{Standing}
use Rattle.shelf_notes.proofs.Noted.{counted-forgotten, last-within, parked-waits}
use Rattle.shelf_notes.proofs.pending.PendingShelves.park_last.Goals as goal
use Rattle.shelf_notes.proofs.pending.PendingShelves.park_last.Goals.{After-from-shelf}

-- the number that was taken away stood last
last : (c : After-from-shelf) → c.self.inside.noted.items ≡ c.pop.new.self.items ++ c.from-shelf.result ∷ []
last c = c.in_ok-pop.ensures.items ∙ ap (λ (n : ℕ). c.pop.new.self.items ++ n ∷ []) (sym c.from-shelf.ensures)

within : (c : After-from-shelf) → c.from-shelf.result < length c.self.inside.standing.items
within c = last-within c.self.inside.standing.items c.self.inside.noted.items c.pop.new.self.items c.from-shelf.result c.self.invariant.counts (last c)

pub index_mut-requires : goal.index_mut-requires
index_mut-requires c = omega (arith, within (goal.at.index_mut-requires c).After-from-shelf)

-- the others are counted still, whatever else is known of the shelf
others : (c : After-from-shelf) (one : Standing) → waits one ≡ false → AreCounted (set c.self.inside.standing.items c.from-shelf.result one) c.pop.new.self.items
others c one none = counted-forgotten c.self.inside.standing.items c.self.inside.noted.items c.pop.new.self.items c.from-shelf.result one c.self.invariant.counts (last c) none

pub invariant_of-self-2 : goal.invariant_of-self-2
invariant_of-self-2 c =
    let one : Standing = record { listed = c.index_mut.result.now.listed; in_use = c.index_mut.result.now.in_use; noted = c.index_mut.result.now.noted; parked = true } in
    let long = length-set c.self.inside.standing.items c.from-shelf.result one in
    record {
      equal = omega (arith, c.self.invariant.equal, long);
      counts = others (goal.at.invariant_of-self-2 c).After-from-shelf one (parked-waits c.index_mut.result.now.noted true refl);
      fits = omega (arith, c.self.invariant.fits, c.in_ok-pop.ensures.capacity, long);
      few = omega (arith, c.self.invariant.few, long);
    }

pub returns-clause-within : goal.returns-clause-within
returns-clause-within c =
    omega (arith, within (goal.at.returns-clause-within c).After-from-shelf, ap (λ (v : RoomyNotes). length v.notes.standing) c.self.view_is)

pub returns-clause-tied : goal.returns-clause-tied
returns-clause-tied c =
    let one : Standing = record { listed = c.index_mut.result.now.listed; in_use = c.index_mut.result.now.in_use; noted = c.index_mut.result.now.noted; parked = true } in
    (others (goal.at.returns-clause-tied c).After-from-shelf one (parked-waits c.index_mut.result.now.noted true refl)).tied
