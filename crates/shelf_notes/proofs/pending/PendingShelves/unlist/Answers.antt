use Rattle.std.proofs.Common.{List, false, arith, ap, sym}
use Rattle.std.proofs.lemmas.List.{length-set}
use Rattle.shelf_notes.specs.Private.Pending.{waits}
use Rattle.shelf_notes.specs.declared.pending.Standing.{Standing}
use Rattle.shelf_notes.proofs.Noted.{counted-kept, entry-in, read-standing}
use Rattle.shelf_notes.proofs.pending.PendingShelves.unlist.Goals as goal

pub invariant_of-self : goal.invariant_of-self
invariant_of-self c =
    let standing : List Standing = c.self.inside.standing.items in
    let below = entry-in c.self.inside c.args.self.now c.args.shelf c.self.view_is c.requires in
    let one : Standing = record { listed = false; in_use = c.index_mut.result.now.in_use; noted = c.index_mut.result.now.noted; parked = c.index_mut.result.now.parked } in
    let long = length-set standing c.args.shelf one in
    record {
      equal = omega (arith, c.self.invariant.equal, long);
      counts = counted-kept standing c.self.inside.noted.items c.args.shelf one c.self.invariant.counts below
          (sym (ap waits (read-standing standing c.args.shelf c.index_mut.result.now below c.index_mut.ensures.value)));
      fits = omega (arith, c.self.invariant.fits, long);
      few = omega (arith, c.self.invariant.few, long);
    }
