-- The frame of a bucketed atlas, which has as many columns as are asked for.
use Rattle.std.specs.Prelude.{ℕ}
use Rattle.etagere_base.specs.declared.frames.Frame.{Frame}
use Rattle.etagere_base.specs.declared.geometry.Size.{Size}
use Rattle.etagere_base.specs.declared.options.AllocatorOptions.{AllocatorOptions}
use Rattle.etagere_base.specs.Frames.{IsFrame, column_width_of}
use Rattle.etagere_base.specs.Sides.{side}

-- the longest side of a bucketed atlas
abbrev pub longest_bucketed_side : ℕ
longest_bucketed_side = 65534

-- the frame of a bucketed atlas, which has the columns asked for
abbrev pub bucketed_frame : Size → AllocatorOptions → Frame
bucketed_frame size options =
    record {
      width = side size.width;
      height = side size.height;
      alignment_width = side options.alignment.width;
      alignment_height = side options.alignment.height;
      vertical = options.vertical_shelves;
      column_width = column_width_of size options;
      columns = side options.num_columns;
    }

-- a frame keeps the ranges of a bucketed atlas
abbrev pub IsBucketedFrame : Frame → Type 0
IsBucketedFrame frame = IsFrame longest_bucketed_side frame
