-- Where the pixels of an atlas lie in a buffer that holds it row after row.
use Rattle.std.specs.Prelude.{◌≡◌, ℕ, ◌+◌, ◌*◌, pos, ◌+ℤ◌, Some}
use Rattle.etagere_base.specs.Rectangles.{Covers}
use Rattle.etagere_base.specs.declared.geometry.Rectangle.{Rectangle}
use Rattle.shelf_model.specs.Places.{rectangle_of}
use Rattle.shelf_model.specs.State.{AtlasState}

-- here begin the four bytes of the pixel (x, y) of what is allocated under an id, counted from its
-- corner; it is a pixel of its rectangle
pub record IsPixel (state : AtlasState) (id x y offset : ℕ) : Type 0 where
  pub rectangle : Rectangle
  pub found : rectangle_of state id ≡ Some rectangle
  pub left : ℕ
  pub top : ℕ
  pub from_left : rectangle.min.x ≡ pos left
  pub from_top : rectangle.min.y ≡ pos top
  pub covered : Covers rectangle (pos (left + x)) (pos (top + y))
  pub begins : offset ≡ ((top + y) * state.frame.width + (left + x)) * 4

-- what is allocated under an id, if anything, has no pixel (x, y)
abbrev pub IsNoPixel : AtlasState → ℕ → ℕ → ℕ → Type 0
IsNoPixel state id x y =
    (rectangle : Rectangle) → rectangle_of state id ≡ Some rectangle
    → Covers rectangle (rectangle.min.x +ℤ pos x) (rectangle.min.y +ℤ pos y)
    → ⊥

-- the pixel (x, y) of a rectangle, counted from its corner, lies so far from the left and from the top of what it is in
pub record LiesAt (rectangle : Rectangle) (x y left top : ℕ) : Type 0 where
  pub from_left : pos left ≡ rectangle.min.x +ℤ pos x
  pub from_top : pos top ≡ rectangle.min.y +ℤ pos y
  pub covered : Covers rectangle (pos left) (pos top)

-- a rectangle has no pixel (x, y), counted from its corner
abbrev pub HasNoPixel : Rectangle → ℕ → ℕ → Type 0
HasNoPixel rectangle x y = Covers rectangle (rectangle.min.x +ℤ pos x) (rectangle.min.y +ℤ pos y) → ⊥
