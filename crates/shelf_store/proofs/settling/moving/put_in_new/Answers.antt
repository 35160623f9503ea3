use Rattle.std.proofs.Common.{◌≡◌, ◌<◌, List, ap, arith, get_or, length, subst, ◌∙◌}
use Rattle.shelf_records.specs.declared.records.LinkedShelf.{LinkedShelf}
use Rattle.shelf_heights.specs.Private.ByHeight.{AreInOrder, put_in, taken_out}
use Rattle.shelf_notes.specs.Private.Pending.{Notes, listed_as, once_where}
use Rattle.shelf_heights.specs.declared.by_height.BoundedShelf.{BoundedShelf}
use Rattle.shelf_store.proofs.ByHeight.SettledShelves.{absent-stays, in_use-met, in_use-there, listed-stands, others-order, own-within, put-bounded, put-holds, put-as_listed, put-room, put-settled}
use Rattle.shelf_store.specs.Private.Settling.{AreByHeightExceptNoted, IsBounded}
use Rattle.shelf_store.proofs.settling.moving.put_in_new.Goals as goal
use Rattle.shelf_store.proofs.settling.moving.put_in_new.Goals.{After-kept, After-shelves}

-- the shelf is there
there : (c : After-shelves) → c.args.shelf < length c.args.records.now.shelves
there c = in_use-there c.args.frame.now c.args.records.now c.args.pending.now.notes c.args.by_height.now.items c.requires.kept c.requires.by_height c.args.shelf c.requires.in_use

pub offset_bounds-shelves-shelf : goal.offset_bounds-shelves-shelf
offset_bounds-shelves-shelf c = omega (arith, there (goal.at.offset_bounds-shelves-shelf c).After-shelves, c.requires.by_height.few)

pub bounds-shelves-shelf : goal.bounds-shelves-shelf
bounds-shelves-shelf c = rw c.shelves.ensures (there (goal.at.bounds-shelves-shelf c).After-shelves)

pub bounded_by_items-one-requires-clause-stands : goal.bounded_by_items-one-requires-clause-stands
bounded_by_items-one-requires-clause-stands c =
    in_use-met c.args.frame.now c.args.records.now c.args.pending.now.notes c.args.by_height.now.items c.requires.kept c.requires.by_height c.args.shelf c.requires.in_use

pub bounded_by_items-one-requires-clause-within : goal.bounded_by_items-one-requires-clause-within
bounded_by_items-one-requires-clause-within c = there (goal.at.bounded_by_items-one-requires-clause-within c).After-shelves

pub bounded_by_items-one-requires-clause-few : goal.bounded_by_items-one-requires-clause-few
bounded_by_items-one-requires-clause-few c = c.requires.by_height.few

-- the shelf as it is put in, and its record
abbrev one : After-kept → BoundedShelf
one c = c.bounded_by_items-one.result

is_read : (c : After-kept) → c.index-shelves-shelf.result ≡ get_or c.args.records.now.shelves c.args.shelf c.index-shelves-shelf.result
is_read c =
    c.index-shelves-shelf.is
    ∙ ap (λ (shelves : List LinkedShelf). get_or shelves c.args.shelf c.index-shelves-shelf.result) c.shelves.ensures

-- what is noted after
abbrev after : After-kept → Notes
after c = listed_as c.args.shelf c.index-shelves-shelf.result c.args.pending.now.notes

-- the list has it not
absent : (c : After-kept) → taken_out c.args.shelf c.args.by_height.now.items ≡ c.args.by_height.now.items
absent c =
    absent-stays c.args.shelf c.args.by_height.now.items (c.requires.by_height.listed c.args.shelf ∙ ap once_where c.requires.unlisted)

-- what holds once it was put in
record Follows (c : After-kept) : Type 0 where
  order : AreInOrder (after c).kept c.args.by_height.now.items
  within : c.args.shelf < length (after c).kept
  holds : AreByHeightExceptNoted c.args.frame.now c.args.records.now (after c) (put_in (after c).kept (one c) c.args.by_height.now.items)
  bounded : IsBounded c.args.frame.now c.args.records.now c.args.shelf (put_in (after c).kept (one c) c.args.by_height.now.items)

followed : (c : After-kept) → Follows c
followed c =
    let frame = c.args.frame.now in
    let records = c.args.records.now in
    let notes = c.args.pending.now.notes in
    let by_height = c.args.by_height.now.items in
    let read = c.index-shelves-shelf.result in
    record {
      order = subst (AreInOrder (after c).kept) (absent c)
          (others-order frame records notes by_height c.requires.kept c.requires.by_height c.args.shelf c.requires.known c.requires.noted
          (one c) read c.bounded_by_items-one.ensures.shelf c.requires.in_use c.requires.as_listed c.list.ensures.entries (is_read c));
      within = own-within frame records notes by_height c.requires.kept c.requires.by_height c.args.shelf c.requires.known c.requires.noted
          (one c) read c.bounded_by_items-one.ensures.shelf c.requires.in_use c.requires.as_listed c.list.ensures.entries (is_read c);
      holds = subst (λ (xs : List BoundedShelf). AreByHeightExceptNoted frame records (after c) (put_in (after c).kept (one c) xs)) (absent c)
          (put-holds frame records notes by_height c.requires.kept c.requires.by_height c.args.shelf c.requires.known c.requires.noted
          (one c) read c.bounded_by_items-one.ensures.shelf c.requires.in_use c.requires.as_listed c.list.ensures.entries (is_read c) c.requires.unparked);
      bounded = subst (λ (xs : List BoundedShelf). IsBounded frame records c.args.shelf (put_in (after c).kept (one c) xs)) (absent c)
          (put-bounded frame records notes by_height c.requires.kept c.requires.by_height c.args.shelf c.requires.known c.requires.noted
          (one c) read c.bounded_by_items-one.ensures.shelf c.requires.in_use c.requires.as_listed c.list.ensures.entries (is_read c) c.bounded_by_items-one.ensures.bounded);
    }

pub put_in-requires-clause-order : goal.put_in-requires-clause-order
put_in-requires-clause-order c =
    rw (c.kept.ensures, c.list.ensures.notes, c.position_of_named-behind.ensures) ((followed (goal.at.put_in-requires-clause-order c).After-kept).order)

pub put_in-requires-clause-within : goal.put_in-requires-clause-within
put_in-requires-clause-within c =
    rw (c.bounded_by_items-one.ensures.shelf, c.kept.ensures, c.list.ensures.notes) ((followed (goal.at.put_in-requires-clause-within c).After-kept).within)

pub position_of_named-behind-requires-clause-listed : goal.position_of_named-behind-requires-clause-listed
position_of_named-behind-requires-clause-listed c k so =
    listed-stands c.args.frame.now c.args.records.now c.args.pending.now.notes c.args.by_height.now.items c.requires.kept c.requires.by_height k so

pub put_in-requires-clause-room : goal.put_in-requires-clause-room
put_in-requires-clause-room c =
    rw c.position_of_named-behind.ensures
    (omega (
      arith,
      put-room c.args.frame.now c.args.records.now c.args.pending.now.notes c.args.by_height.now.items c.requires.kept c.requires.by_height c.args.shelf c.requires.known c.requires.noted c.requires.in_use c.requires.unlisted c.requires.as_listed,
      c.requires.room,
    ))

pub returns-clause-by_height : goal.returns-clause-by_height
returns-clause-by_height c =
    rw (c.put_in.ensures.by_height, c.kept.ensures, c.list.ensures.notes, c.position_of_named-behind.ensures) ((followed (goal.at.returns-clause-by_height c).After-kept).holds)

pub returns-clause-bounded : goal.returns-clause-bounded
returns-clause-bounded c =
    rw (c.put_in.ensures.by_height, c.kept.ensures, c.list.ensures.notes, c.position_of_named-behind.ensures) ((followed (goal.at.returns-clause-bounded c).After-kept).bounded)

pub returns-clause-as_listed : goal.returns-clause-as_listed
returns-clause-as_listed c =
    let at = (goal.at.returns-clause-as_listed c).After-kept in
    rw c.list.ensures.notes
    (put-as_listed c.args.frame.now c.args.records.now c.args.pending.now.notes c.args.by_height.now.items c.requires.kept c.requires.by_height c.args.shelf c.requires.known c.requires.noted
    (one at) c.index-shelves-shelf.result c.bounded_by_items-one.ensures.shelf c.requires.in_use c.requires.as_listed c.list.ensures.entries (is_read at))

pub returns-clause-settled : goal.returns-clause-settled
returns-clause-settled c =
    let at = (goal.at.returns-clause-settled c).After-kept in
    rw c.list.ensures.notes
    (put-settled c.args.frame.now c.args.records.now c.args.pending.now.notes c.args.by_height.now.items c.requires.kept c.requires.by_height c.args.shelf c.requires.known c.requires.noted
    (one at) c.index-shelves-shelf.result c.bounded_by_items-one.ensures.shelf c.requires.in_use c.requires.as_listed c.list.ensures.entries (is_read at))
