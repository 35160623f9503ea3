use Rattle.std.proofs.Common.{◌≡◌, ◌<◌, ◌^◌, rules, subst, sym}
use Rattle.etagere_base.specs.declared.frames.Frame.{Frame}
use Rattle.etagere_base.specs.Sides.{side}
use Rattle.bucketed_model.specs.Frames.{IsBucketedFrame, bucketed_frame}
use Rattle.bucketed_model.proofs.Shelving.NewFrames.{accepted-bucketed}
use Rattle.bucketed_model.proofs.bucketed_frames.bucketed_frame.Goals as goal

pub returns-clause-frame : goal.returns-clause-frame
returns-clause-frame c =
    let plain : Frame = c.without_columns.result in
    let short_width : side c.args.options.now.alignment.width < 2 ^ 31 = search (rules, c.without_columns.ensures.alignments.0) in
    let short_height : side c.args.options.now.alignment.height < 2 ^ 31 = search (rules, c.without_columns.ensures.alignments.1) in
    let made : Frame = record plain { column_width = c.column_width.result; columns = c.side.result } in
    let value : made ≡ bucketed_frame c.args.size c.args.options.now = search rules in
    subst IsBucketedFrame (sym value) (accepted-bucketed c.args.size c.args.options.now c.requires short_width short_height)
