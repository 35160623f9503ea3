use Rattle.std.proofs.Common.{List, ap, map, refl, subst, ◌∙◌, arith}
use Rattle.std.specs.List.Sorted.{IsNonDecreasingBy, IsPermutation}
use Rattle.shelf_records.specs.declared.records.LinkedShelf.{LinkedShelf}
use Rattle.shelf_heights.specs.Private.ByHeight.{numbers_by_height, order_of}
use Rattle.shelf_heights.specs.declared.by_height.BoundedShelf.{BoundedShelf}
use Rattle.shelf_store.proofs.ByHeight.NewByHeight.{reordered-by_height}
use Rattle.etagere_base.proofs.FrameSides.{column_width-le, sides_low}
use Rattle.shelf_records.proofs.Spelled.StandsKept.{witnesses}
use Rattle.shelf_store.proofs.starting.reorder_shelves.Goals as goal

pub returns-clause-by_height : goal.returns-clause-by_height
returns-clause-by_height c =
    let sorted = c.sort.new.self.items in
    reordered-by_height c.args.frame.now c.args.records.now c.args.by_height.now.items sorted c.args.frame.now.column_width c.requires.kept refl c.requires.once
    (subst (λ (by_height : List BoundedShelf). IsPermutation (numbers_by_height by_height) (numbers_by_height sorted)) c.set_bounds.ensures.items c.sort.ensures.numbers)
    (subst (λ (shelves : List LinkedShelf). IsNonDecreasingBy (order_of shelves) (numbers_by_height sorted)) c.shelves.ensures c.sort.ensures.sorted)
    (c.sort.ensures.bounds ∙ ap (map (λ (one : BoundedShelf). one.widest)) c.set_bounds.ensures.items)

pub overflow_cast-frame : goal.overflow_cast-frame
overflow_cast-frame c =
    let frame = c.args.frame.now in
    let is_frame = (witnesses c.requires.kept).valid.frame in
    omega (arith, column_width-le 65535 frame is_frame, (sides_low 65535 frame is_frame).0)
