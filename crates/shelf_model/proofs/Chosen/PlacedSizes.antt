-- The placement of a size: how large it is, and when there is room for its splits.
use Rattle.std.proofs.Common.{◌≡◌, ◌≤◌, Some, arith}
use Rattle.etagere_base.specs.Frames.{IsFrame, across_side, asked}
use Rattle.etagere_base.specs.declared.frames.Frame.{Frame}
use Rattle.etagere_base.specs.declared.geometry.Size.{Size}
use Rattle.etagere_base.specs.declared.sides.Sides.{Sides}
use Rattle.etagere_base.proofs.FrameSides.{column_width-le, sides_low}
use Rattle.etagere_base.proofs.AskedSides.{asked-sides}

-- what is asked of the shelves is no longer than the longest side
pub asked-short : (frame : Frame) (size : Size) (sides : Sides) → IsFrame 65535 frame → asked frame size ≡ Some sides
    → (sides.along ≤ 65535) × (sides.across ≤ 65535)
asked-short frame size sides valid asks =
    let is = asked-sides 65535 frame size sides valid asks in
    let fits : (sides.along ≤ frame.column_width) × (sides.across ≤ across_side frame) = (is.narrow, is.short) in
    let short = sides_low 65535 frame valid in
    let narrow = column_width-le 65535 frame valid in
    (omega arith, omega arith)
