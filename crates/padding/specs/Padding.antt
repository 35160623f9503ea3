-- Padding: pixels that stay free around a rectangle. What is asked for has them, and what is given back has not.
use Rattle.std.specs.Prelude.{ℕ, ◌+◌, ◌^◌, ◌==◌, ℤ, pos, ◌+ℤ◌, ◌-ℤ◌, ◌≤ℤ◌, Option, None, Some, List, map, if◌then◌else◌}
use Rattle.std.specs.List.{AllByRecursion}
use Rattle.etagere_base.specs.declared.frames.Frame.{Frame}
use Rattle.etagere_base.specs.declared.geometry.Rectangle.{Rectangle}
use Rattle.etagere_base.specs.declared.geometry.Size.{Size}
use Rattle.etagere_base.specs.declared.ids.Allocation.{Allocation}
use Rattle.etagere_base.specs.Rectangles.{AreApart, IsInside}
use Rattle.etagere_base.specs.Sides.{side}
use Rattle.shelf_model.specs.declared.faults.Refusal.{Refusal}
use Rattle.shelf_model.specs.declared.faults.Refusal.TheVariants.{NotPositive, TooLong}
use Rattle.etagere_base.specs.Frames.{is_not_positive, is_too_long}
use Rattle.padding.specs.declared.sides.Padding as sides

-- a length with the pixels before and after it; one that isn't positive gets none
abbrev pub padded_side : ℕ → ℕ → ℤ → ℤ
padded_side before after length =
    if side length == 0 then length else length +ℤ pos (before + after)

-- a size with its padding
abbrev pub padded : sides.Padding → Size → Size
padded padding size =
    record {
      width = padded_side padding.left padding.right size.width;
      height = padded_side padding.top padding.bottom size.height;
    }

-- why no atlas has a place for a size with its padding, whatever is free: the first reason that holds
abbrev pub padding_refusal : sides.Padding → Size → Option Refusal
padding_refusal padding size =
    if is_not_positive size then Some NotPositive
    else (if is_too_long (padded padding size) then Some TooLong else None)

-- a rectangle without its padding
abbrev pub trimmed : sides.Padding → Rectangle → Rectangle
trimmed padding rectangle =
    record {
      min = record {
        x = rectangle.min.x +ℤ pos padding.left;
        y = rectangle.min.y +ℤ pos padding.top;
      };
      max = record {
        x = rectangle.max.x -ℤ pos padding.right;
        y = rectangle.max.y -ℤ pos padding.bottom;
      };
    }

-- a rectangle with its padding
abbrev pub with_padding : sides.Padding → Rectangle → Rectangle
with_padding padding rectangle =
    record {
      min = record {
        x = rectangle.min.x -ℤ pos padding.left;
        y = rectangle.min.y -ℤ pos padding.top;
      };
      max = record {
        x = rectangle.max.x +ℤ pos padding.right;
        y = rectangle.max.y +ℤ pos padding.bottom;
      };
    }

-- an allocation of which the rectangle is trimmed
abbrev pub trimmed_allocation : sides.Padding → Allocation → Allocation
trimmed_allocation padding allocation =
    record { id = allocation.id; rectangle = trimmed padding allocation.rectangle }

-- an allocation of which the rectangle has its padding
abbrev pub padded_allocation : sides.Padding → Allocation → Allocation
padded_allocation padding allocation =
    record { id = allocation.id; rectangle = with_padding padding allocation.rectangle }

-- with their padding, what was given back trimmed lies inside and apart
pub record ArePadded (padding : sides.Padding) (frame : Frame) (given : List Allocation) : Type 0 where
  pub inside : AllByRecursion (λ (allocation : Allocation). IsInside frame (with_padding padding allocation.rectangle))
      given
  pub apart : AreApart (map (padded_allocation padding) given)

-- a rectangle is at least as wide and as tall as a size
pub record HasSize (size : Size) (rectangle : Rectangle) : Type 0 where
  pub width : (rectangle.min.x +ℤ size.width) ≤ℤ rectangle.max.x
  pub height : (rectangle.min.y +ℤ size.height) ≤ℤ rectangle.max.y

-- a place is not farther from the origin than this
abbrev pub IsNearPlace : ℤ → Type 0
IsNearPlace place = ((pos 0 -ℤ pos (2 ^ 30)) ≤ℤ place) × (place ≤ℤ pos (2 ^ 30))

-- no corner of a rectangle is
pub record IsNear (rectangle : Rectangle) : Type 0 where
  pub left : IsNearPlace rectangle.min.x
  pub top : IsNearPlace rectangle.min.y
  pub right : IsNearPlace rectangle.max.x
  pub bottom : IsNearPlace rectangle.max.y
