use Rattle.std.proofs.Common.{◌+◌, ◌-◌, [], ◌∷◌, ◌++◌, ap, ◌∙◌, arith}
use Rattle.shelf_records.proofs.MadeRecords.{shelves-next}
use Rattle.shelf_records.proofs.uses.make_shelves.Goals as goal

pub loop-made-preserved : goal.loop-made-preserved
loop-made-preserved c = record {
  made =
      shelves-next (c.args.count - c.loop-made._made) (c.args.count - (c.loop-made._made + 1)) c.loop-made.shelves.items c.push_reserved.new.self.items (omega (arith, c.loop-made-test.true))
      (c.push_reserved.ensures.items ∙ ap (λ x. c.loop-made.shelves.items ++ x ∷ []) c.new_shelf.ensures)
      ∙ c.loop-made.invariant.made;
  room = omega (arith, c.loop-made.invariant.room, c.loop-made-test.true, c.push_reserved.ensures.len, c.push_reserved.ensures.capacity);
}
