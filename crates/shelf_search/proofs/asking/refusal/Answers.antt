use Rattle.std.proofs.Common.{◌≤◌, Some, ap, arith, sym, ◌∙◌}
use Rattle.etagere_base.proofs.FrameSides.{sides_low}
use Rattle.etagere_base.specs.Frames.{across_side, rounded}
use Rattle.etagere_base.specs.declared.sides.Sides.{Sides}
use Rattle.shelf_records.specs.Private.Kept.{state_of}
use Rattle.shelf_search.proofs.Searched.AskedReasons.{fits-across, nothing-lacking, records-lacking, room-lacking, widest-told}
use Rattle.shelf_records.proofs.Spelled.StandsKept.{witnesses}
use Rattle.shelf_search.proofs.asking.refusal.Goals as goal

pub returns-then-from-sides : goal.returns-then-from-sides
returns-then-from-sides c =
    let frame = c.args.frame.now in
    let records = c.args.records.now in
    let sides = c.rounded-sides.result in
    let fits = sym c.size_refusal.ensures ∙ c.in_default.is in
    ap Some c.no_room.ensures
    ∙ room-lacking (state_of frame records) c.args.size fits sides c.rounded-sides.ensures c.widest_free-widest.result
    (widest-told frame records c.args.size sides c.shelf_height-height.result c.widest_free-widest.result c.requires.kept c.rounded-sides.ensures c.shelf_height-height.ensures.value c.widest_free-widest.ensures)
    (omega (arith, c.if-from-sides.true, c.from.ensures))

pub returns-then-lacks_records : goal.returns-then-lacks_records
returns-then-lacks_records c =
    let frame = c.args.frame.now in
    let records = c.args.records.now in
    let sides = c.rounded-sides.result in
    let fits = sym c.size_refusal.ensures ∙ c.in_default.is in
    records-lacking (state_of frame records) c.args.size fits sides c.rounded-sides.ensures c.widest_free-widest.result
    (widest-told frame records c.args.size sides c.shelf_height-height.result c.widest_free-widest.result c.requires.kept c.rounded-sides.ensures c.shelf_height-height.ensures.value c.widest_free-widest.ensures)
    (omega (arith, c.if-from-sides.false, c.from.ensures)) (sym (c.lacks_records.ensures frame c.requires.kept c.requires.counted c.shelf_height-height.ensures.value) ∙ c.if-lacks_records.true)

pub returns : goal.returns
returns c =
    let frame = c.args.frame.now in
    let records = c.args.records.now in
    let sides = c.rounded-sides.result in
    let fits = sym c.size_refusal.ensures ∙ c.in_default.is in
    nothing-lacking (state_of frame records) c.args.size fits sides c.rounded-sides.ensures c.widest_free-widest.result
    (widest-told frame records c.args.size sides c.shelf_height-height.result c.widest_free-widest.result c.requires.kept c.rounded-sides.ensures c.shelf_height-height.ensures.value c.widest_free-widest.ensures)
    (omega (arith, c.if-from-sides.false, c.from.ensures)) (sym (c.lacks_records.ensures frame c.requires.kept c.requires.counted c.shelf_height-height.ensures.value) ∙ c.if-lacks_records.false)

pub rounded-sides-requires-clause-alignment_width : goal.rounded-sides-requires-clause-alignment_width
rounded-sides-requires-clause-alignment_width c = (witnesses c.requires.kept).valid.frame.alignment_width

pub rounded-sides-requires-clause-alignment_height : goal.rounded-sides-requires-clause-alignment_height
rounded-sides-requires-clause-alignment_height c = (witnesses c.requires.kept).valid.frame.alignment_height

pub shelf_height-height-requires-clause-frame : goal.shelf_height-height-requires-clause-frame
shelf_height-height-requires-clause-frame c = (witnesses c.requires.kept).valid.frame

pub shelf_height-height-requires-clause-short : goal.shelf_height-height-requires-clause-short
shelf_height-height-requires-clause-short c =
    let low : (rounded c.args.frame.now c.args.size).across ≤ across_side c.args.frame.now = fits-across c.args.frame.now c.args.size (sym c.size_refusal.ensures ∙ c.in_default.is) in
    omega (arith, ap (λ (s : Sides). s.across) c.rounded-sides.ensures, low, (sides_low 65535 c.args.frame.now (witnesses c.requires.kept).valid.frame).1)

pub widest_free-widest-requires-clause-linked : goal.widest_free-widest-requires-clause-linked
widest_free-widest-requires-clause-linked c = (witnesses c.requires.kept).linked

pub widest_free-widest-requires-clause-few : goal.widest_free-widest-requires-clause-few
widest_free-widest-requires-clause-few c = (witnesses c.requires.kept).counts.items.1

pub size_refusal-requires-clause-alignment_width : goal.size_refusal-requires-clause-alignment_width
size_refusal-requires-clause-alignment_width c = (witnesses c.requires.kept).valid.frame.alignment_width

pub size_refusal-requires-clause-alignment_height : goal.size_refusal-requires-clause-alignment_height
size_refusal-requires-clause-alignment_height c = (witnesses c.requires.kept).valid.frame.alignment_height

pub lacks_records-requires-clause-linked : goal.lacks_records-requires-clause-linked
lacks_records-requires-clause-linked c = (witnesses c.requires.kept).linked

pub lacks_records-requires-clause-few : goal.lacks_records-requires-clause-few
lacks_records-requires-clause-few c = omega (arith, c.requires.counted, (witnesses c.requires.kept).valid.peak_items)

pub lacks_records-requires-clause-counts : goal.lacks_records-requires-clause-counts
lacks_records-requires-clause-counts c = let counts = (witnesses c.requires.kept).counts in (counts.shelves.1, counts.items.1)
