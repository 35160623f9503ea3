use Rattle.std.proofs.Common.{ℕ, List, ap, arith, length, replicate, subst, sym}
use Rattle.std.proofs.lemmas.List.{length-replicate}
use Rattle.shelf_notes.specs.Private.Pending.{AreCounted, RoomyNotes}
use Rattle.shelf_notes.specs.declared.pending.Standing.{Standing}
use Rattle.shelf_notes.proofs.Noted.{counted-unchanged, unnoted-waits}
use Rattle.shelf_notes.proofs.pending.PendingShelves.restart.Goals as goal

pub invariant_of-self : goal.invariant_of-self
invariant_of-self c =
    let count : ℕ = length c.args.shelves.now in
    let long = length-replicate count c.args.known in
    let entries = ap (λ (l : List Standing). length l) c.know_all.ensures.items in
    record {
      equal = omega (arith, ap length c.copy_all.ensures.items, long, entries);
      counts = subst (λ (l : List Standing). AreCounted l c.clear.new.self.items) (sym c.know_all.ensures.items)
          (subst (AreCounted (replicate count c.args.known)) (sym c.clear.ensures.items) (counted-unchanged count c.args.known (unnoted-waits _ _ c.requires.unchanged)));
      fits = omega (arith, long, entries, c.requires.room, c.clear.ensures.capacity, ap (λ (v : RoomyNotes). v.room) c.self.view_is);
      few = omega (arith, long, entries, c.requires.few);
    }
