use Rattle.std.proofs.Common.{◌≡◌, ◌∷◌, [], List, ◌∙◌, ap, add-one, arith, length, subst, sym}
use Rattle.std.proofs.lemmas.List.{length-append}
use Rattle.shelf_heights.specs.Private.ByHeight.{AreByHeight, newly_bounded}
use Rattle.shelf_store.specs.Private.FreshRecords.{fresh_records, numbered}
use Rattle.shelf_heights.specs.declared.by_height.BoundedShelf.{BoundedShelf}
use Rattle.shelf_store.proofs.ByHeight.NewByHeight.{fresh-by_height}
use Rattle.shelf_store.proofs.Spelled.NumberedLists.{numbered-done, numbered-more}
use Rattle.shelf_store.proofs.starting.push_columns.Goals as goal

pub push-requires : goal.push-requires
push-requires c = record { room = omega (arith, c.loop-column.invariant.count, c.loop-column.invariant.room, c.loop-column-test.true) }

pub loop-column-preserved : goal.loop-column-preserved
loop-column-preserved c =
    let frame = c.args.frame.now in
    let column = c.loop-column.column in
    let old = c.loop-column.by_height.items in
    record {
      shelves = rw (c.push.ensures.items, add-one)
          (numbered-more (newly_bounded frame) column frame.columns old c.newly_bounded.result c.loop-column-test.true c.newly_bounded.ensures ∙ c.loop-column.invariant.shelves);
      count = omega (arith, ap length c.push.ensures.items, length-append old (c.newly_bounded.result ∷ []), c.loop-column.invariant.count);
      room = omega (arith, c.loop-column.invariant.room, c.push.ensures.capacity);
      capacity = omega (arith, c.loop-column.invariant.capacity, c.push.ensures.capacity);
    }

pub returns-clause-by_height : goal.returns-clause-by_height
returns-clause-by_height c =
    let frame = c.args.frame.now in
    let made : c.loop-column.by_height.items ≡ numbered (newly_bounded frame) 0 frame.columns =
    numbered-done (newly_bounded frame) c.loop-column.column frame.columns c.loop-column.by_height.items c.loop-column-test.false c.loop-column.invariant.shelves in
    subst (λ (by_height : List BoundedShelf). AreByHeight frame (fresh_records frame) by_height) (sym made) (fresh-by_height frame c.requires.frame c.requires.columns)
