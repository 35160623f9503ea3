use Rattle.std.proofs.Common.{◌≡◌, ◌<◌, ◌^◌, ◌/◌, rules, subst, sym}
use Rattle.etagere_base.specs.declared.frames.Frame.{Frame}
use Rattle.etagere_base.specs.Frames.{IsFrame, atlas_frame}
use Rattle.etagere_base.specs.Sides.{side}
use Rattle.etagere_base.proofs.AcceptedFrames.{accepted-frame}
use Rattle.etagere_base.proofs.frames.atlas_frame.Goals as goal

pub returns-clause-frame : goal.returns-clause-frame
returns-clause-frame c =
    let plain : Frame = c.without_columns-frame.result in
    let short_width : side c.args.options.now.alignment.width < 2 ^ 31 = search (rules, c.without_columns-frame.ensures.alignments.0) in
    let short_height : side c.args.options.now.alignment.height < 2 ^ 31 = search (rules, c.without_columns-frame.ensures.alignments.1) in
    let made : Frame = record plain {
      column_width = c.column_width-column_width.result;
      columns = c.along_side.result / c.column_width-column_width.result;
    } in
    let value : made ≡ atlas_frame c.args.size c.args.options.now = search rules in
    subst (IsFrame 65535) (sym value) (accepted-frame 65535 c.args.size c.args.options.now c.requires short_width short_height)
