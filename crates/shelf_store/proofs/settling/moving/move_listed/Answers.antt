use Rattle.std.proofs.Common.{◌≡◌, ◌<◌, List, ap, arith, get_or, length, refl, subst, sym, ◌∙◌}
use Rattle.shelf_records.specs.declared.records.LinkedShelf.{LinkedShelf}
use Rattle.shelf_heights.specs.Private.ByHeight.{AreInOrder, put_in, taken_out}
use Rattle.shelf_notes.specs.Private.Pending.{Notes, listed_as}
use Rattle.shelf_heights.specs.declared.by_height.BoundedShelf.{BoundedShelf}
use Rattle.shelf_store.proofs.ByHeight.SettledShelves.{in_use-met, in_use-there, others-order, own-within, put-bounded, put-holds, put-as_listed, put-settled}
use Rattle.shelf_store.specs.Private.Settling.{AreByHeightExceptNoted, BeginAsListed, IsBounded, IsSettled}
use Rattle.shelf_store.proofs.settling.moving.move_listed.Goals as goal
use Rattle.shelf_store.proofs.settling.moving.move_listed.Goals.{After-kept-2, After-settle, After-shelves}

-- the shelf is there
there : (c : After-shelves) → c.args.shelf < length c.args.records.now.shelves
there c = in_use-there c.args.frame.now c.args.records.now c.args.pending.now.notes c.args.by_height.now.items c.requires.kept c.requires.by_height c.args.shelf c.requires.in_use

pub offset_bounds-shelves-shelf : goal.offset_bounds-shelves-shelf
offset_bounds-shelves-shelf c = omega (arith, there (goal.at.offset_bounds-shelves-shelf c).After-shelves, c.requires.by_height.few)

pub bounds-shelves-shelf : goal.bounds-shelves-shelf
bounds-shelves-shelf c = rw c.shelves.ensures (there (goal.at.bounds-shelves-shelf c).After-shelves)

pub bounded_by_items-one-requires-clause-stands : goal.bounded_by_items-one-requires-clause-stands
bounded_by_items-one-requires-clause-stands c =
    in_use-met c.args.frame.now c.args.records.now c.args.pending.now.notes c.args.by_height.now.items c.requires.kept c.requires.by_height c.args.shelf c.requires.in_use

pub bounded_by_items-one-requires-clause-within : goal.bounded_by_items-one-requires-clause-within
bounded_by_items-one-requires-clause-within c = there (goal.at.bounded_by_items-one-requires-clause-within c).After-shelves

pub bounded_by_items-one-requires-clause-few : goal.bounded_by_items-one-requires-clause-few
bounded_by_items-one-requires-clause-few c = c.requires.by_height.few

-- the shelf with its bound, and its record
abbrev one : After-kept-2 → BoundedShelf
one c = c.bounded_by_items-one.result

abbrev read : After-kept-2 → LinkedShelf
read c = c.index-shelves-shelf.result

is_read : (c : After-kept-2) → read c ≡ get_or c.args.records.now.shelves c.args.shelf (read c)
is_read c =
    c.index-shelves-shelf.is
    ∙ ap (λ (shelves : List LinkedShelf). get_or shelves c.args.shelf (read c)) c.shelves.ensures

-- what is noted after
abbrev after : After-kept-2 → Notes
after c = listed_as c.args.shelf (read c) c.args.pending.now.notes

-- what holds once it was put in among the others
record Follows (c : After-kept-2) : Type 0 where
  order : AreInOrder (after c).kept (taken_out c.args.shelf c.args.by_height.now.items)
  within : c.args.shelf < length (after c).kept
  holds : AreByHeightExceptNoted c.args.frame.now c.args.records.now (after c) (put_in (after c).kept (one c) (taken_out c.args.shelf c.args.by_height.now.items))
  bounded : IsBounded c.args.frame.now c.args.records.now c.args.shelf (put_in (after c).kept (one c) (taken_out c.args.shelf c.args.by_height.now.items))
  as_listed : BeginAsListed c.args.records.now.shelves (after c)
  settled : IsSettled c.args.records.now.shelves (after c) c.args.shelf

followed : (c : After-kept-2) → Follows c
followed c =
    let frame = c.args.frame.now in
    let records = c.args.records.now in
    let notes = c.args.pending.now.notes in
    let by_height = c.args.by_height.now.items in
    let named = c.bounded_by_items-one.ensures.shelf in
    record {
      order = others-order frame records notes by_height c.requires.kept c.requires.by_height c.args.shelf c.requires.known c.requires.noted
          (one c) (read c) named c.requires.in_use c.requires.as_listed c.list.ensures.entries (is_read c);
      within = own-within frame records notes by_height c.requires.kept c.requires.by_height c.args.shelf c.requires.known c.requires.noted
          (one c) (read c) named c.requires.in_use c.requires.as_listed c.list.ensures.entries (is_read c);
      holds = put-holds frame records notes by_height c.requires.kept c.requires.by_height c.args.shelf c.requires.known c.requires.noted
          (one c) (read c) named c.requires.in_use c.requires.as_listed c.list.ensures.entries (is_read c) c.requires.unparked;
      bounded = put-bounded frame records notes by_height c.requires.kept c.requires.by_height c.args.shelf c.requires.known c.requires.noted
          (one c) (read c) named c.requires.in_use c.requires.as_listed c.list.ensures.entries (is_read c) c.bounded_by_items-one.ensures.bounded;
      as_listed = put-as_listed frame records notes by_height c.requires.kept c.requires.by_height c.args.shelf c.requires.known c.requires.noted
          (one c) (read c) named c.requires.in_use c.requires.as_listed c.list.ensures.entries (is_read c);
      settled = put-settled frame records notes by_height c.requires.kept c.requires.by_height c.args.shelf c.requires.known c.requires.noted
          (one c) (read c) named c.requires.in_use c.requires.as_listed c.list.ensures.entries (is_read c);
    }

pub settle-requires-clause-order : goal.settle-requires-clause-order
settle-requires-clause-order c =
    rw (c.kept-2.ensures, c.list.ensures.notes, c.position_of-index.ensures.same, c.position_of-index.ensures.shelf) (followed (goal.at.settle-requires-clause-order c).After-kept-2).order

pub settle-requires-clause-within : goal.settle-requires-clause-within
settle-requires-clause-within c =
    rw (c.bounded_by_items-one.ensures.shelf, c.kept-2.ensures, c.list.ensures.notes) (followed (goal.at.settle-requires-clause-within c).After-kept-2).within

-- the list once it followed the shelf
settled : (c : After-settle) → c.settle.new.by_height.items
    ≡ put_in (listed_as c.args.shelf c.index-shelves-shelf.result c.args.pending.now.notes).kept c.bounded_by_items-one.result (taken_out c.args.shelf c.args.by_height.now.items)
settled c =
    c.settle.ensures.by_height
    ∙ rw (c.kept-2.ensures, c.list.ensures.notes, c.position_of-index.ensures.same, c.position_of-index.ensures.shelf) refl

pub returns-clause-moved : goal.returns-clause-moved
returns-clause-moved c =
    let at = goal.at.returns-clause-moved c in
    rw c.list.ensures.notes (settled at.After-settle
    ∙ ap (λ (one : BoundedShelf). put_in (after at.After-kept-2).kept one (taken_out c.args.shelf c.args.by_height.now.items)) c.bounded_by_items-one.ensures.value)

pub returns-clause-by_height : goal.returns-clause-by_height
returns-clause-by_height c =
    let at = goal.at.returns-clause-by_height c in
    subst (AreByHeightExceptNoted c.args.frame.now c.args.records.now c.list.new.self.notes) (sym (settled at.After-settle))
    (rw c.list.ensures.notes (followed at.After-kept-2).holds)

pub returns-clause-bounded : goal.returns-clause-bounded
returns-clause-bounded c =
    let at = goal.at.returns-clause-bounded c in
    subst (IsBounded c.args.frame.now c.args.records.now c.args.shelf) (sym (settled at.After-settle)) (followed at.After-kept-2).bounded

pub returns-clause-as_listed : goal.returns-clause-as_listed
returns-clause-as_listed c = rw c.list.ensures.notes (followed (goal.at.returns-clause-as_listed c).After-kept-2).as_listed

pub returns-clause-settled : goal.returns-clause-settled
returns-clause-settled c = rw c.list.ensures.notes (followed (goal.at.returns-clause-settled c).After-kept-2).settled
