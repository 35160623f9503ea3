use Rattle.std.proofs.Common.{◌≡◌, ℕ, ◌<◌, Bool, true, false, List, [], ◌∷◌, ◌++◌, arith, ap, ◌∙◌, sym, refl, length, set, subst, if◌then◌else◌}
use Rattle.std.proofs.lemmas.List.{length-set}
use Rattle.shelf_notes.specs.Private.Pending.{AreCounted, standing_at, waits}
use Rattle.shelf_notes.specs.declared.pending.Standing.{Standing}
use Rattle.shelf_notes.proofs.Noted.{counted-kept, counted-noted, entry-in, read-standing, room-left}
use Rattle.shelf_notes.proofs.pending.PendingShelves.note.Goals as goal

-- an entry was written that says of a shelf that it has changed, and its number stands among those
noted : (standing : List Standing) (numbers : List ℕ) (shelf : ℕ) (one : Standing) (so : Bool) → AreCounted standing numbers → shelf < length standing → waits (standing_at standing shelf) ≡ so → waits one ≡ true → AreCounted (set standing shelf one) (if so then numbers else numbers ++ shelf ∷ [])
noted standing numbers shelf one true counts below was some = counted-kept standing numbers shelf one counts below (some ∙ sym was)
noted standing numbers shelf one false counts below was some = counted-noted standing numbers shelf one counts below was some

pub push_unless-requires-clause-room : goal.push_unless-requires-clause-room
push_unless-requires-clause-room c = λ none.
    let below = entry-in c.self.inside c.args.self.now c.args.shelf c.self.view_is c.requires in
    let known = read-standing c.self.inside.standing.items c.args.shelf c.index_mut-known.result.now below c.index_mut-known.ensures.value in
    omega (arith, room-left c.self.inside.standing.items c.self.inside.noted.items c.args.shelf c.self.invariant.counts below (ap waits known ∙ sym c.waits.ensures ∙ none), c.self.invariant.fits)

pub invariant_of-self : goal.invariant_of-self
invariant_of-self c =
    let standing : List Standing = c.self.inside.standing.items in
    let below = entry-in c.self.inside c.args.self.now c.args.shelf c.self.view_is c.requires in
    let known = read-standing standing c.args.shelf c.index_mut-known.result.now below c.index_mut-known.ensures.value in
    let one : Standing = record { listed = c.index_mut-known.result.now.listed; in_use = c.args.in_use; noted = true; parked = false } in
    let long = length-set standing c.args.shelf one in
    record {
      equal = omega (arith, c.self.invariant.equal, long);
      counts = subst (AreCounted (set standing c.args.shelf one)) (sym c.push_unless.ensures.items)
          (noted standing c.self.inside.noted.items c.args.shelf one c.waits.result c.self.invariant.counts below (ap waits known ∙ sym c.waits.ensures) refl);
      fits = omega (arith, c.self.invariant.fits, c.push_unless.ensures.capacity, long);
      few = omega (arith, c.self.invariant.few, long);
    }
