use Rattle.std.proofs.Common.{◌≡◌, ◌<◌, List, ap, arith, get_or, length, refl, subst, sym, ◌∙◌}
use Rattle.shelf_records.specs.declared.records.LinkedShelf.{LinkedShelf}
use Rattle.shelf_heights.specs.Private.ByHeight.{put_in, taken_out}
use Rattle.shelf_heights.specs.declared.by_height.BoundedShelf.{BoundedShelf}
use Rattle.shelf_notes.specs.Private.Pending.{Notes}
use Rattle.shelf_notes.proofs.NotedShelves.{unlisted-known}
use Rattle.shelf_store.proofs.ByHeight.ReplacedShelves.{IsReplaced, replaced, replaced_notes}
use Rattle.shelf_store.proofs.ByHeight.SettledShelves.{in_use-met, in_use-there}
use Rattle.shelf_store.specs.Private.Settling.{AreByHeightExceptNoted, IsBounded}
use Rattle.shelf_store.proofs.settling.parking.put_in_place.Goals as goal
use Rattle.shelf_store.proofs.settling.parking.put_in_place.Goals.{After-kept-2, After-settle, After-shelves}

-- the shelf is there
there : (c : After-shelves) → c.args.shelf < length c.args.records.now.shelves
there c = in_use-there c.args.frame.now c.args.records.now c.args.pending.now.notes c.args.by_height.now.items c.requires.kept c.requires.by_height c.args.shelf c.requires.in_use

pub offset_bounds-shelves-shelf : goal.offset_bounds-shelves-shelf
offset_bounds-shelves-shelf c = omega (arith, there (goal.at.offset_bounds-shelves-shelf c).After-shelves, c.requires.by_height.few)

pub bounds-shelves-shelf : goal.bounds-shelves-shelf
bounds-shelves-shelf c = rw c.shelves.ensures (there (goal.at.bounds-shelves-shelf c).After-shelves)

pub bounded_by_items-placed-requires-clause-stands : goal.bounded_by_items-placed-requires-clause-stands
bounded_by_items-placed-requires-clause-stands c =
    in_use-met c.args.frame.now c.args.records.now c.args.pending.now.notes c.args.by_height.now.items c.requires.kept c.requires.by_height c.args.shelf c.requires.in_use

pub bounded_by_items-placed-requires-clause-within : goal.bounded_by_items-placed-requires-clause-within
bounded_by_items-placed-requires-clause-within c = there (goal.at.bounded_by_items-placed-requires-clause-within c).After-shelves

-- the shelf with its bound, and its record
abbrev one : After-kept-2 → BoundedShelf
one c = c.bounded_by_items-placed.result

abbrev read : After-kept-2 → LinkedShelf
read c = c.index-shelves-shelf.result

is_read : (c : After-kept-2) → read c ≡ get_or c.args.records.now.shelves c.args.shelf (read c)
is_read c =
    c.index-shelves-shelf.is
    ∙ ap (λ (shelves : List LinkedShelf). get_or shelves c.args.shelf (read c)) c.shelves.ensures

-- what is noted after
abbrev after : After-kept-2 → Notes
after c = replaced_notes c.args.shelf c.args.left (read c) c.args.pending.now.notes

-- there is a kept record for each entry
entries : (c : After-kept-2) → length c.args.pending.now.notes.kept ≡ length c.args.pending.now.notes.standing
entries c =
    sym (ap (λ (n : Notes). length n.kept) c.unlist.ensures.notes)
    ∙ c.list.ensures.entries
    ∙ ap (λ (n : Notes). length n.standing) c.unlist.ensures.notes
    ∙ unlisted-known c.args.pending.now.notes c.args.left c.requires.left_known

followed : (c : After-kept-2) → IsReplaced c.args.frame.now c.args.records.now c.args.by_height.now.items c.args.shelf c.args.left (one c) (after c)
followed c =
    replaced c.args.frame.now c.args.records.now c.args.pending.now.notes c.args.by_height.now.items c.args.shelf c.args.left (one c) (read c)
    (record {
      kept = c.requires.kept;
      holds = c.requires.by_height;
      as_listed = c.requires.as_listed;
      known = c.requires.known;
      noted = c.requires.noted;
      unparked = c.requires.unparked;
      in_use = c.requires.in_use;
      unlisted_so = c.requires.unlisted;
      left_known = c.requires.left_known;
      left_listed = c.requires.left_listed;
      left_noted = c.requires.left_noted;
      entries = entries c;
    })
    c.bounded_by_items-placed.ensures.shelf (is_read c) c.bounded_by_items-placed.ensures.bounded

-- the list once it followed the shelf
settled : (c : After-settle) → c.settle.new.by_height.items
    ≡ put_in (replaced_notes c.args.shelf c.args.left c.index-shelves-shelf.result c.args.pending.now.notes).kept c.bounded_by_items-placed.result (taken_out c.args.left c.args.by_height.now.items)
settled c =
    c.settle.ensures.by_height
    ∙ rw (c.kept-2.ensures, c.list.ensures.notes, c.unlist.ensures.notes, c.position_of-index.ensures.same, c.position_of-index.ensures.shelf) refl

pub settle-requires-clause-order : goal.settle-requires-clause-order
settle-requires-clause-order c =
    rw (c.kept-2.ensures, c.list.ensures.notes, c.unlist.ensures.notes, c.position_of-index.ensures.same, c.position_of-index.ensures.shelf) (followed (goal.at.settle-requires-clause-order c).After-kept-2).order

pub settle-requires-clause-within : goal.settle-requires-clause-within
settle-requires-clause-within c =
    rw (c.bounded_by_items-placed.ensures.shelf, c.kept-2.ensures, c.list.ensures.notes, c.unlist.ensures.notes) (followed (goal.at.settle-requires-clause-within c).After-kept-2).within

pub returns-clause-put : goal.returns-clause-put
returns-clause-put c =
    let at = goal.at.returns-clause-put c in
    rw (c.list.ensures.notes, c.unlist.ensures.notes) (settled at.After-settle
    ∙ ap (λ (one : BoundedShelf). put_in (after at.After-kept-2).kept one (taken_out c.args.left c.args.by_height.now.items)) c.bounded_by_items-placed.ensures.value)

pub returns-clause-by_height : goal.returns-clause-by_height
returns-clause-by_height c =
    let at = goal.at.returns-clause-by_height c in
    subst (AreByHeightExceptNoted c.args.frame.now c.args.records.now c.list.new.self.notes) (sym (settled at.After-settle))
    (rw (c.list.ensures.notes, c.unlist.ensures.notes) (followed at.After-kept-2).holds)

pub returns-clause-bounded : goal.returns-clause-bounded
returns-clause-bounded c =
    let at = goal.at.returns-clause-bounded c in
    subst (IsBounded c.args.frame.now c.args.records.now c.args.shelf) (sym (settled at.After-settle)) (followed at.After-kept-2).bounded

pub returns-clause-as_listed : goal.returns-clause-as_listed
returns-clause-as_listed c = rw (c.list.ensures.notes, c.unlist.ensures.notes) (followed (goal.at.returns-clause-as_listed c).After-kept-2).as_listed

pub returns-clause-settled : goal.returns-clause-settled
returns-clause-settled c = rw (c.list.ensures.notes, c.unlist.ensures.notes) (followed (goal.at.returns-clause-settled c).After-kept-2).settled
