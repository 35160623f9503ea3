-- Sizes and options: which make an atlas, the frame that is kept of them, and what a size asks of
-- the shelves.
use Rattle.std.specs.Prelude.{◌≡◌, ℕ, ◌-◌, ◌*◌, ◌/◌, ◌%◌, ◌^◌, ◌<◌, ◌≤◌, ℤ, Bool, ◌&&◌, ◌||◌, not, nat_le, nat_lt, ◌==◌, Option, Some, None, if◌then◌else◌}
use Rattle.etagere_base.specs.declared.faults.OptionsFault.{OptionsFault}
use Rattle.etagere_base.specs.declared.faults.OptionsFault.TheVariants as faults
use Rattle.etagere_base.specs.declared.frames.Frame.{Frame}
use Rattle.etagere_base.specs.declared.geometry.Size.{Size}
use Rattle.etagere_base.specs.declared.options.AllocatorOptions.{AllocatorOptions}
use Rattle.etagere_base.specs.declared.sides.Sides.{Sides}
use Rattle.etagere_base.specs.Sides.{side, swapped_axes, up, down}

-- no side of an atlas is longer, nor one that is asked for
abbrev pub longest_side : ℕ
longest_side = 65535

-- the greatest area of an atlas
abbrev pub largest_area : ℕ
largest_area = 2 ^ 31 - 1

-- a side of an atlas or of a size asked for: at least 1, and no longer than the longest
abbrev pub is_side : ℕ → ℤ → Bool
is_side longest length = nat_lt 0 (side length) && nat_le (side length) longest

-- both sides of a size are such sides
abbrev pub are_sides : ℕ → Size → Bool
are_sides longest size = is_side longest size.width && is_side longest size.height

-- a side of a size is below 1
abbrev pub is_not_positive : Size → Bool
is_not_positive size = side size.width == 0 || side size.height == 0

-- a side of a size is longer than that of any atlas
abbrev pub is_too_long : Size → Bool
is_too_long size =
    nat_lt longest_side (side size.width) || nat_lt longest_side (side size.height)

-- the area of a size is above the greatest
abbrev pub is_too_large : Size → Bool
is_too_large size = nat_lt largest_area (side size.width * side size.height)

-- the frame of a size, an alignment and a direction of shelves, before it is given columns
abbrev pub without_columns : Size → Size → Bool → Frame
without_columns size alignment vertical =
    record {
      width = side size.width;
      height = side size.height;
      alignment_width = side alignment.width;
      alignment_height = side alignment.height;
      vertical = vertical;
      column_width = 0;
      columns = 0;
    }

-- the sides of an atlas along and across its shelves
abbrev pub sides_of : Size → AllocatorOptions → Sides
sides_of size options =
    swapped_axes options.vertical_shelves
    (record { along = side size.width; across = side size.height })

-- the alignments along and across the shelves
abbrev pub alignments_of : AllocatorOptions → Sides
alignments_of options =
    swapped_axes options.vertical_shelves
    (record { along = side options.alignment.width; across = side options.alignment.height })

-- the width of a column: an equal share of the atlas, rounded down to the alignment
abbrev pub column_width_of : Size → AllocatorOptions → ℕ
column_width_of size options =
    down ((sides_of size options).along / side options.num_columns) (alignments_of options).along

-- the first fault of a size and options, where no side may pass the longest
abbrev pub options_fault : ℕ → Size → AllocatorOptions → Option OptionsFault
options_fault longest size options =
    if not (are_sides longest size) then Some faults.Size
    else (if is_too_large size then Some faults.Area
    else (if side options.alignment.width == 0 || side options.alignment.height == 0
    then Some faults.Alignment
    else (if side options.num_columns == 0 then Some faults.Columns
    else (if column_width_of size options == 0 then Some faults.ColumnTooNarrow
    else None))))

-- the size and options make an atlas
abbrev pub IsAccepted : ℕ → Size → AllocatorOptions → Type 0
IsAccepted longest size options = options_fault longest size options ≡ None

-- the frame of a shelf atlas, which has as many columns as fit
abbrev pub atlas_frame : Size → AllocatorOptions → Frame
atlas_frame size options =
    record {
      width = side size.width;
      height = side size.height;
      alignment_width = side options.alignment.width;
      alignment_height = side options.alignment.height;
      vertical = options.vertical_shelves;
      column_width = column_width_of size options;
      columns = (sides_of size options).along / column_width_of size options;
    }

-- the side of the atlas along its shelves
abbrev pub along_side : Frame → ℕ
along_side frame =
    (swapped_axes frame.vertical (record { along = frame.width; across = frame.height })).along

-- the side of the atlas across its shelves
abbrev pub across_side : Frame → ℕ
across_side frame =
    (swapped_axes frame.vertical (record { along = frame.width; across = frame.height })).across

-- the alignment along the shelves
abbrev pub alignment_along : Frame → ℕ
alignment_along frame =
    (swapped_axes frame.vertical
    (record { along = frame.alignment_width; across = frame.alignment_height })).along

-- the sides if they fit a column
abbrev pub fitting : Frame → Sides → Option Sides
fitting frame sides =
    if nat_le sides.along frame.column_width && nat_le sides.across (across_side frame)
    then Some sides
    else None

-- the sides of a size along and across the shelves, each rounded up by its own axis
abbrev pub rounded : Frame → Size → Sides
rounded frame size =
    swapped_axes frame.vertical
    (record {
      along = up (side size.width) frame.alignment_width;
      across = up (side size.height) frame.alignment_height;
    })

-- what a size asks of the shelves: its rounded sides; none where the size is empty, has a side above
-- the longest or is larger than a column
abbrev pub asked : Frame → Size → Option Sides
asked frame size =
    if are_sides longest_side size then fitting frame (rounded frame size) else None

-- a frame's sides, area and alignments keep their ranges, and its columns are aligned and lie
-- within its side
pub record IsFrame (longest : ℕ) (frame : Frame) : Type 0 where
  pub width : (1 ≤ frame.width) × (frame.width ≤ longest)
  pub height : (1 ≤ frame.height) × (frame.height ≤ longest)
  pub area : frame.width * frame.height < 2 ^ 31
  pub alignment_width : (1 ≤ frame.alignment_width) × (frame.alignment_width < 2 ^ 31)
  pub alignment_height : (1 ≤ frame.alignment_height) × (frame.alignment_height < 2 ^ 31)
  pub column_width : 1 ≤ frame.column_width
  pub aligned : frame.column_width % alignment_along frame ≡ 0
  pub columns : (1 ≤ frame.columns) × (frame.columns * frame.column_width ≤ along_side frame)

-- no more columns would fit the side along the shelves
abbrev pub HasAllColumns : Frame → Type 0
HasAllColumns frame = frame.columns ≡ along_side frame / frame.column_width
