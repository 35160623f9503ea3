use Rattle.std.proofs.Common.{◌≡◌, ◌+◌, ◌-◌, ◌*◌, ap, ◌∙◌, arith}
use Rattle.etagere_base.specs.Frames.{across_side}
use Rattle.shelf_store.specs.Private.RecordsGrown as spec
use Rattle.shelf_store.proofs.Grown.GrowSteps.{appended-next, can-append-next, growing-is}
use Rattle.shelf_store.proofs.growing.appending.append_columns.Goals as goal

pub loop-column-preserved : goal.loop-column-preserved
loop-column-preserved c =
    let frame = c.args.frame.now in
    let column = c.loop-column.column in
    let growing : spec.Growing = record { records = c.loop-column.records; made = c.loop-column.made } in
    let new : spec.Growing = record { records = c.insert_shelf-previous.new.records; made = c.insert_shelf-previous.new.made } in
    let inserted : new ≡ spec.shelf_inserted frame.column_width c.loop-column.previous (column * frame.column_width) 0 (across_side frame) growing =
    growing-is c.insert_shelf-previous.new.records c.insert_shelf-previous.new.made
    (spec.shelf_inserted frame.column_width c.loop-column.previous (column * frame.column_width) 0 (across_side frame) growing)
    (c.insert_shelf-previous.ensures.records
    ∙ ap (λ height. (spec.shelf_inserted frame.column_width c.loop-column.previous (column * frame.column_width) 0 height growing).records) c.across_side.ensures)
    (c.insert_shelf-previous.ensures.made
    ∙ ap (λ height. (spec.shelf_inserted frame.column_width c.loop-column.previous (column * frame.column_width) 0 height growing).made) c.across_side.ensures) in
    record {
      rest =
          appended-next frame (frame.columns - column) (frame.columns - (column + 1)) c.loop-column.previous column growing new c.insert_shelf-previous.result
          (omega (arith, c.loop-column-test.true)) inserted c.insert_shelf-previous.ensures.number
          ∙ c.loop-column.invariant.rest;
      can =
          can-append-next frame (frame.columns - column) (frame.columns - (column + 1)) c.loop-column.previous column growing new c.insert_shelf-previous.result
          (omega (arith, c.loop-column-test.true)) inserted c.insert_shelf-previous.ensures.number c.loop-column.invariant.can;
    }
