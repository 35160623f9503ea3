-- Growing, of an atlas of either kind: the first fault of a new size, and the frame that it leads to.
use Rattle.std.specs.Prelude.{ℕ, ◌/◌, ◌||◌, not, Option, None, Some, nat_lt, ◌==◌, if◌then◌else◌}
use Rattle.etagere_base.specs.declared.faults.ResizeFault.{ResizeFault}
use Rattle.etagere_base.specs.declared.faults.ResizeFault.TheVariants as faults
use Rattle.etagere_base.specs.declared.frames.Frame.{Frame}
use Rattle.etagere_base.specs.declared.geometry.Size.{Size}
use Rattle.etagere_base.specs.Frames.{along_side, alignment_along, are_sides, is_too_large}
use Rattle.etagere_base.specs.Sides.{down, side}

-- the first fault of a grow to a size, where no side may pass the longest
abbrev pub resize_fault : ℕ → Frame → Size → Option ResizeFault
resize_fault longest frame size =
    if not (are_sides longest size) then Some faults.Size
    else (if nat_lt (side size.width) frame.width || nat_lt (side size.height) frame.height
    then Some faults.Smaller
    else (if is_too_large size then Some faults.Area
    else None))

-- the frame with other sides
abbrev pub resized : Frame → Size → Frame
resized frame size = record frame { width = side size.width; height = side size.height }

-- the width of the columns after a grow: one column becomes as wide as the alignment allows, more
-- stay as they are
abbrev pub grown_column_width : Frame → Size → ℕ
grown_column_width frame size =
    if frame.columns == 1 then down (along_side (resized frame size)) (alignment_along frame)
    else frame.column_width

-- the frame after a grow, which has as many columns as fit
abbrev pub grown_frame : Frame → Size → Frame
grown_frame frame size =
    record (resized frame size) {
      column_width = grown_column_width frame size;
      columns = along_side (resized frame size) / grown_column_width frame size;
    }
