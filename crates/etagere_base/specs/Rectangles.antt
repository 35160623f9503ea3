-- When rectangles lie inside, are large enough, aligned, and share no unit square: what the
-- promises to users are made of.
use Rattle.std.specs.Prelude.{◌≡◌, ℕ, ◌+◌, ◌*◌, Bool, true, false, ℤ, pos, ◌+ℤ◌, ◌≤ℤ◌, ◌<ℤ◌, List, [], ◌∷◌}
use Rattle.etagere_base.specs.Frames.{alignment_along}
use Rattle.etagere_base.specs.declared.frames.Frame.{Frame}
use Rattle.etagere_base.specs.declared.geometry.Point.{Point}
use Rattle.etagere_base.specs.declared.geometry.Rectangle.{Rectangle}
use Rattle.etagere_base.specs.declared.geometry.Size.{Size}
use Rattle.etagere_base.specs.declared.ids.Allocation.{Allocation}
use Rattle.etagere_base.specs.Sides.{side, up}
use Rattle.std.specs.List.{AllByRecursion}

-- the unit square at these places lies in the rectangle
pub record Covers (rectangle : Rectangle) (x y : ℤ) : Type 0 where
  pub from_left : rectangle.min.x ≤ℤ x
  pub to_right : x <ℤ rectangle.max.x
  pub from_top : rectangle.min.y ≤ℤ y
  pub to_bottom : y <ℤ rectangle.max.y

-- two rectangles share no unit square
abbrev pub SharesNone : Rectangle → Rectangle → Type 0
SharesNone one other = (x y : ℤ) → Covers one x y → Covers other x y → ⊥

-- a rectangle lies within the atlas, and has an area
pub record IsInside (frame : Frame) (rectangle : Rectangle) : Type 0 where
  pub left : pos 0 ≤ℤ rectangle.min.x
  pub top : pos 0 ≤ℤ rectangle.min.y
  pub wide : rectangle.min.x <ℤ rectangle.max.x
  pub tall : rectangle.min.y <ℤ rectangle.max.y
  pub right : rectangle.max.x ≤ℤ pos frame.width
  pub bottom : rectangle.max.y ≤ℤ pos frame.height

-- a rectangle is at least as large as a size asks for in a frame: each side rounded up
pub record IsLarge (frame : Frame) (size : Size) (rectangle : Rectangle) : Type 0 where
  pub width : (rectangle.min.x +ℤ pos (up (side size.width) frame.alignment_width))
      ≤ℤ rectangle.max.x
  pub height : (rectangle.min.y +ℤ pos (up (side size.height) frame.alignment_height))
      ≤ℤ rectangle.max.y

-- of a point's coordinates the one along the shelves, which may be vertical
abbrev pub place_along : Bool → Point → ℤ
place_along true point = point.y
place_along false point = point.x

-- a rectangle's place along the shelves and its extent along them are multiples of the alignment
pub record IsAligned (frame : Frame) (rectangle : Rectangle) : Type 0 where
  pub place : ℕ
  pub extent : ℕ
  pub begins : place_along frame.vertical rectangle.min ≡ pos (place * alignment_along frame)
  pub ends : place_along frame.vertical rectangle.max
      ≡ pos ((place + extent) * alignment_along frame)

-- any two of the allocations share no unit square
abbrev pub AreApart : List Allocation → Type 0
AreApart [] = Unit {0}
AreApart (allocation ∷ others) =
    AllByRecursion (λ (other : Allocation). SharesNone allocation.rectangle other.rectangle) others
    × AreApart others
