use Rattle.std.proofs.Common.{◌≡◌, ◌<◌, true, ap, arith, length, sym, ◌∙◌}
use Rattle.shelf_notes.specs.Private.Pending.{RoomyNotes, is_noted, is_parked, standing_at, waits}
use Rattle.shelf_notes.proofs.Noted.{known-within, number-noted, waits-noted}
use Rattle.shelf_notes.proofs.pending.PendingShelves.noted_at.Goals as goal
use Rattle.shelf_notes.proofs.pending.PendingShelves.noted_at.Goals.{After-from}

-- the shelf has changed
noted : (c : After-from) → waits (standing_at c.self.inside.standing.items c.from.result) ≡ true
noted c =
    let below : c.args.index < length c.self.inside.noted.items = omega (arith, c.requires, ap (λ (v : RoomyNotes). length v.notes.noted) c.self.view_is) in
    ap (λ n. waits (standing_at c.self.inside.standing.items n)) c.from.ensures
    ∙ number-noted c.self.inside.standing.items c.self.inside.noted.items c.args.index c.index.result.now c.self.invariant.counts below c.index.ensures

pub returns-clause-noted : goal.returns-clause-noted
returns-clause-noted c =
    sym (ap (λ (v : RoomyNotes). is_noted v.notes c.from.result) c.self.view_is) ∙ (waits-noted _ _ (noted (goal.at.returns-clause-noted c).After-from)).0

pub returns-clause-unparked : goal.returns-clause-unparked
returns-clause-unparked c =
    sym (ap (λ (v : RoomyNotes). is_parked v.notes c.from.result) c.self.view_is) ∙ (waits-noted _ _ (noted (goal.at.returns-clause-unparked c).After-from)).1

pub returns-clause-within : goal.returns-clause-within
returns-clause-within c =
    omega (
      arith,
      known-within c.self.inside.standing.items c.from.result (noted (goal.at.returns-clause-within c).After-from),
      ap (λ (v : RoomyNotes). length v.notes.standing) c.self.view_is,
    )
