use Rattle.std.proofs.Common.{rules, ◌≡◌, ap, sym, subst, ◌∙◌, to_z, w32}
use Rattle.etagere_base.specs.Frames.{atlas_frame}
use Rattle.etagere_base.specs.declared.frames.Frame.{Frame}
use Rattle.etagere_base.specs.declared.options.AllocatorOptions.{AllocatorOptions}
use Rattle.moves.specs.Atlases.Options.{options_of}
use Rattle.moves.proofs.MovedAtlases.SameFrames.{frame-again}
use Rattle.moves.proofs.atlases.kept_options.options_of.Goals as goal

pub returns-clause-again : goal.returns-clause-again
returns-clause-again c = λ size options is same.
    let frame = c.args.frame.now in
    let made : AllocatorOptions = record {
      alignment = record { width = to_z w32 frame.alignment_width; height = to_z w32 frame.alignment_height };
      vertical_shelves = frame.vertical;
      num_columns = to_z w32 frame.columns;
    } in
    let value : made ≡ options_of frame = search rules in
    ap (atlas_frame size) value ∙ subst (λ (frame : Frame). atlas_frame size (options_of frame) ≡ frame) (sym same) (frame-again size options is)
