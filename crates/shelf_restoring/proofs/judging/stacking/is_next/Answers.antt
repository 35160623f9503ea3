-- What the tests of a shelf say of where it stands.
use Rattle.std.proofs.Common.{◌≡◌, ◌+◌, ◌/◌, arith, sym, ◌∙◌}
use Rattle.shelf_records.specs.AtlasRecords.{across_of, along_of, height_of}
use Rattle.shelf_restoring.specs.Private.Rules.{IsNext}
use Rattle.shelf_restoring.proofs.Judged.ColumnStarts.{decides-tall, next-after, next-here}
use Rattle.shelf_restoring.proofs.judging.stacking.is_next.Goals as goal
use Rattle.shelf_restoring.proofs.judging.stacking.is_next.Goals.{else-along-start-via-then-along-start+else-along-start-2, then-height-across_side, else-height-across_side, else-along-start-via-else-along-start, then-along-start-3, else-along-start-3}

pub returns-then-from-below : goal.returns-then-from-below
returns-then-from-below c = λ shelves entry said at_column.
    let frame = c.args.frame.now in
    let start = c.args.start in
    let height = c.args.height in
    let along : c.from-along.result ≡ along_of shelves entry.number = c.from-along.ensures ∙ said.along in
    let across : c.from.result ≡ across_of shelves entry.number = c.from.ensures ∙ said.across in
    decides-tall c.args.shelf.now.height (height_of shelves entry.number) (IsNext frame shelves (start / frame.column_width) height entry) said.height
    (λ high. elim c.if-along-start-3.branch [
      | then-along-start-3 w ↦
          next-here frame shelves entry start height c.requires.wide at_column (sym along ∙ w.if-along-start-3.true) (sym across ∙ c.if-from-below.true ∙ w.below-is) high
      | else-along-start-3 w ↦ elim c.else-along-start.branch [
        | else-along-start-via-then-along-start+else-along-start-2 v ↦ elim v.if-height-across_side.branch [
          | then-height-across_side u ↦ absurd (grind (arith, u.value-is, v.if-along-start-2.false))
          | else-height-across_side u ↦
              let ends : c.from-along.result ≡ start + frame.column_width = grind (arith, u.value-is, v.if-along-start-2.false) in
              next-after frame shelves entry start height c.requires.wide at_column (sym along ∙ ends) (omega (arith, u.if-height-across_side.false, v.across_side.ensures))
              (sym across ∙ c.if-from-below.true ∙ w.below-is) high
        ]
        | else-along-start-via-else-along-start v ↦ absurd (w.if-along-start-3.false (omega (arith, v.if-along-start.false)))
      ]
    ])
    (λ next. next.tall)
