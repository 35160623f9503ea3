-- The options of an atlas, read off its frame.
use Rattle.std.specs.Prelude.{pos}
use Rattle.etagere_base.specs.declared.frames.Frame.{Frame}
use Rattle.etagere_base.specs.declared.options.AllocatorOptions.{AllocatorOptions}

-- the alignments and the direction of a frame, and as many columns as it has
abbrev pub options_of : Frame → AllocatorOptions
options_of frame =
    record {
      alignment = record { width = pos frame.alignment_width; height = pos frame.alignment_height };
      vertical_shelves = frame.vertical;
      num_columns = pos frame.columns;
    }
