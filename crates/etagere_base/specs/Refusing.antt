-- Why no shelf of a frame, however empty, could take a size: each reason as a test, and the first that
-- holds.
use Rattle.std.specs.Prelude.{Bool, Option, None, Some, nat_lt, if◌then◌else◌}
use Rattle.etagere_base.specs.declared.faults.SizeRefusal.{SizeRefusal}
use Rattle.etagere_base.specs.declared.faults.SizeRefusal.TheVariants as reasons
use Rattle.etagere_base.specs.declared.frames.Frame.{Frame}
use Rattle.etagere_base.specs.declared.geometry.Size.{Size}
use Rattle.etagere_base.specs.Frames.{across_side, is_not_positive, is_too_long, rounded}

-- the side along is above the width of a column
abbrev pub is_wider_than_column : Frame → Size → Bool
is_wider_than_column frame size = nat_lt frame.column_width (rounded frame size).along

-- the side across is above that of the atlas
abbrev pub is_taller_than_atlas : Frame → Size → Bool
is_taller_than_atlas frame size = nat_lt (across_side frame) (rounded frame size).across

-- the first reason why no shelf of a frame, however empty, could take a size
abbrev pub size_refusal : Frame → Size → Option SizeRefusal
size_refusal frame size =
    if is_not_positive size then Some reasons.NotPositive
    else (if is_too_long size then Some reasons.TooLong
    else (if is_wider_than_column frame size then Some reasons.WiderThanColumn
    else (if is_taller_than_atlas frame size then Some reasons.TallerThanAtlas
    else None)))
