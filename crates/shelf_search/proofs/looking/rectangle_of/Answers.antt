use Rattle.std.proofs.Common.{sym, ap, ◌∙◌}
use Rattle.std.specs.Prelude.{Some, option_map}
use Rattle.shelf_records.specs.Private.Reading.{recorded_rectangle}
use Rattle.shelf_records.proofs.Recorded.RecordsOfIds.{kept-rectangle}
use Rattle.shelf_search.proofs.looking.rectangle_of.Goals as goal

pub returns-in_err-number : goal.returns-in_err-number
returns-in_err-number c =
    c.from_residual.ensures
    ∙ ap (option_map (recorded_rectangle c.args.frame.now c.args.records.now)) c.in_err-number.ensures
    ∙ sym (kept-rectangle c.args.frame.now c.args.records.now c.args.id c.requires)

pub returns : goal.returns
returns c =
    ap Some c.recorded_rectangle.ensures
    ∙ ap (option_map (recorded_rectangle c.args.frame.now c.args.records.now)) c.in_ok-number.ensures
    ∙ sym (kept-rectangle c.args.frame.now c.args.records.now c.args.id c.requires)
