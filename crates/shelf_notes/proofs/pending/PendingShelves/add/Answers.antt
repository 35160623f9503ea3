use Rattle.std.proofs.Common.{List, ap, arith, subst, sym}
use Rattle.shelf_notes.specs.Private.Pending.{AreCounted, RoomyNotes}
use Rattle.shelf_notes.specs.declared.pending.Standing.{Standing}
use Rattle.shelf_notes.proofs.Noted.{counted-added}
use Rattle.shelf_notes.proofs.pending.PendingShelves.add.Goals as goal

pub invariant_of-self : goal.invariant_of-self
invariant_of-self c =
    let value = ap (λ (v : RoomyNotes). v.room) c.self.view_is in
    record {
      equal = omega (arith, c.push_reserved.ensures.len, c.push_reserved-then-shelf-len.ensures.len, c.self.invariant.equal);
      counts = subst (λ (l : List Standing). AreCounted l c.self.inside.noted.items) (sym c.push_reserved-then-shelf-len.ensures.items)
          (counted-added c.self.inside.standing.items c.self.inside.noted.items c.self.invariant.counts);
      fits = omega (arith, c.push_reserved-then-shelf-len.ensures.len, c.if-shelf-len.true, c.len.ensures, c.requires.room, value);
      few = omega (arith, c.push_reserved-then-shelf-len.ensures.len, c.if-shelf-len.true, c.len.ensures, c.requires.few);
    }
