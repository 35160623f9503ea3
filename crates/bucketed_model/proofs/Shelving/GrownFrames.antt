-- The frame of a grown atlas keeps the ranges of a bucketed frame.
use Rattle.std.proofs.Common.{◌≡◌, None}
use Rattle.etagere_base.specs.declared.frames.Frame.{Frame}
use Rattle.etagere_base.specs.declared.geometry.Size.{Size}
use Rattle.etagere_base.specs.Growing.{resize_fault}
use Rattle.etagere_base.proofs.GrownFrames.{FitsSize, no-fault, size-fits}
use Rattle.bucketed_model.specs.Frames.{longest_bucketed_side}
use Rattle.bucketed_model.specs.Growing.{grow_fault, of_resize}

-- what the tests of a grow have shown
abbrev pub Fits : Frame → Size → Type 0
Fits frame size = FitsSize longest_bucketed_side frame size

-- a grow without a fault
pub grow-fits : (frame : Frame) (size : Size) → grow_fault frame size ≡ None → Fits frame size
grow-fits frame size h = size-fits longest_bucketed_side frame size (no-fault of_resize (resize_fault longest_bucketed_side frame size) h)
