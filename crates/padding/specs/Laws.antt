-- Laws of padding, in the words of a caller.
use Rattle.std.specs.Prelude.{◌≡◌, ◌≤◌, ℤ, None, Some}
use Rattle.etagere_base.specs.declared.frames.Frame.{Frame}
use Rattle.etagere_base.specs.declared.geometry.Rectangle.{Rectangle}
use Rattle.etagere_base.specs.declared.geometry.Size.{Size}
use Rattle.etagere_base.specs.Rectangles.{Covers, IsLarge, SharesNone}
use Rattle.shelf_model.specs.declared.faults.Refusal.{Refusal}
use Rattle.shelf_model.specs.Choice.{IsRefused}
use Rattle.shelf_model.specs.Refusal.{refusal}
use Rattle.shelf_model.specs.State.{AtlasState}
use Rattle.padding.specs.declared.sides.Padding.{Padding}
use Rattle.padding.specs.Padding.{HasSize, padded, padding_refusal, trimmed, with_padding}

-- with its padding a trimmed rectangle is what it was
abbrev pub IsTakenBack : Type 0
IsTakenBack =
    (padding : Padding) (rectangle : Rectangle) → with_padding padding (trimmed padding rectangle) ≡ rectangle

-- a trimmed rectangle covers nothing but what the rectangle did
abbrev pub LiesWithin : Type 0
LiesWithin =
    (padding : Padding) (rectangle : Rectangle) (x y : ℤ) → Covers (trimmed padding rectangle) x y
    → Covers rectangle x y

-- where rectangles share nothing, trimmed they don't either
abbrev pub StandsApart : Type 0
StandsApart =
    (padding : Padding) (one other : Rectangle) → SharesNone one other
    → SharesNone (trimmed padding one) (trimmed padding other)

-- what is large enough for a positive size with its padding has that size when it is trimmed
abbrev pub MakesRoom : Type 0
MakesRoom =
    (padding : Padding) (frame : Frame) (size : Size) (rectangle : Rectangle) → 1 ≤ frame.alignment_width
    → 1 ≤ frame.alignment_height → IsLarge frame (padded padding size) rectangle
    → padding_refusal padding size ≡ None
    → HasSize size (trimmed padding rectangle)

-- an atlas refuses what padding refuses, and for the same reason
abbrev pub RefusesForEver : Type 0
RefusesForEver =
    (padding : Padding) (size : Size) (reason : Refusal) (state : AtlasState)
    → padding_refusal padding size ≡ Some reason
    → (refusal state (padded padding size) ≡ Some reason) × IsRefused state (padded padding size)
