use Rattle.std.proofs.Common.{List, true, false, arith, ap, ◌∙◌, sym}
use Rattle.std.proofs.lemmas.List.{length-set}
use Rattle.shelf_notes.specs.Private.Pending.{RoomyNotes, standing_at}
use Rattle.shelf_notes.specs.declared.pending.Standing.{Standing}
use Rattle.shelf_notes.proofs.Noted.{counted-kept, entry-in, unnoted-waits}
use Rattle.shelf_notes.proofs.pending.PendingShelves.put_to_use.Goals as goal

pub invariant_of-self : goal.invariant_of-self
invariant_of-self c =
    let standing : List Standing = c.self.inside.standing.items in
    let below = entry-in c.self.inside c.args.self.now c.args.shelf c.self.view_is c.requires.within in
    let one : Standing = record { listed = true; in_use = true; noted = false; parked = false } in
    let long = length-set standing c.args.shelf one in
    record {
      equal = omega (arith, c.self.invariant.equal, long);
      counts = counted-kept standing c.self.inside.noted.items c.args.shelf one c.self.invariant.counts below
          (sym (unnoted-waits _ _ (ap (λ (v : RoomyNotes). (standing_at v.notes.standing c.args.shelf).noted) c.self.view_is ∙ c.requires.unchanged)));
      fits = omega (arith, c.self.invariant.fits, long);
      few = omega (arith, c.self.invariant.few, long);
    }
