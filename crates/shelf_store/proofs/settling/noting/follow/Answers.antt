use Rattle.std.proofs.Common.{◌≡◌, ◌+◌, ◌<◌, ℕ, true, false, List, ap, arith, length, subst, sym, take, ◌∙◌}
use Rattle.std.proofs.lemmas.List.{length-map, length-set, take_all}
use Rattle.etagere_base.specs.Lists.{times}
use Rattle.shelf_heights.specs.Private.ByHeight.{numbers_by_height}
use Rattle.shelf_notes.specs.Private.Pending.{Notes}
use Rattle.shelf_heights.specs.declared.by_height.BoundedShelf.{BoundedShelf}
use Rattle.shelf_notes.specs.declared.pending.Standing.{Standing}
use Rattle.shelf_heights.proofs.ByHeight.Edited.{in_order-once}
use Rattle.shelf_heights.proofs.ByHeight.Positions.{read-number}
use Rattle.shelf_store.proofs.ByHeight.Followed.{AreUsed, follows-all, one-used}
use Rattle.shelf_store.proofs.settling.noting.follow.Goals as goal
use Rattle.shelf_store.proofs.settling.noting.follow.Goals.{After-shelf}

-- the shelf has an entry
within : (c : After-shelf) → c.shelf.result < length c.loop-index.pending.notes.standing
within c =
    let below : c.loop-index.index < length c.args.by_height.now.items = omega (arith, c.loop-index-test.true, c.len-index-end.ensures) in
    let read = read-number (λ (n : ℕ). n < length c.args.shelves.now) c.loop-index.index c.args.by_height.now.items (record { widest = 0; shelf = 0 }) below c.requires.order.within in
    omega (arith, read, c.shelf.ensures, c.loop-index.invariant.known)

pub put_to_use-requires-clause-within : goal.put_to_use-requires-clause-within
put_to_use-requires-clause-within c = within (goal.at.put_to_use-requires-clause-within c).After-shelf

pub loop-index-preserved : goal.loop-index-preserved
loop-index-preserved c =
    let notes : Notes = c.loop-index.pending.notes in
    let one : Standing = record { listed = true; in_use = true; noted = false; parked = false } in
    record {
      kept = ap (λ (n : Notes). n.kept) c.put_to_use.ensures.notes ∙ c.loop-index.invariant.kept;
      known = ap (λ (n : Notes). length n.standing) c.put_to_use.ensures.notes ∙ length-set notes.standing c.shelf.result one ∙ c.loop-index.invariant.known;
      noted = ap (λ (n : Notes). n.noted) c.put_to_use.ensures.notes ∙ c.loop-index.invariant.noted;
      parked_below = ap (λ (n : Notes). n.parked_below) c.put_to_use.ensures.notes ∙ c.loop-index.invariant.parked_below;
      used = subst (AreUsed (c.loop-index.index + 1) c.args.by_height.now.items) (sym c.put_to_use.ensures.notes)
          (one-used c.loop-index.index c.args.by_height.now.items notes c.shelf.result (omega (arith, c.loop-index-test.true, c.len-index-end.ensures)) c.shelf.ensures (within (goal.at.loop-index-preserved c).After-shelf) c.loop-index.invariant.used);
      room = c.put_to_use.ensures.room ∙ c.loop-index.invariant.room;
    }

pub returns-clause-notes : goal.returns-clause-notes
returns-clause-notes c =
    let by_height : List BoundedShelf = c.args.by_height.now.items in
    let used = c.loop-index.invariant.used in
    let all : take c.loop-index.index (numbers_by_height by_height) ≡ numbers_by_height by_height =
    take_all c.loop-index.index (numbers_by_height by_height) (omega (arith, c.loop-index-test.false, c.len-index-end.ensures, length-map by_height (λ (one : BoundedShelf). one.shelf))) in
    record {
      kept = c.loop-index.invariant.kept;
      known = c.loop-index.invariant.known;
      noted = c.loop-index.invariant.noted;
      unchanged = used.unchanged;
      listed = λ k. omega (arith, used.listed k, ap (times k) all, in_order-once c.args.shelves.now by_height k c.requires.order);
      in_use = used.in_use;
      unparked = used.unparked;
      parked_below = c.loop-index.invariant.parked_below;
    }

pub returns-then-len-shelves-clause-notes : goal.returns-then-len-shelves-clause-notes
returns-then-len-shelves-clause-notes c =
    follows-all c.args.shelves.now c.args.by_height.now.items c.restart.new.self.notes c.requires.order (omega arith) c.restart.ensures.notes
