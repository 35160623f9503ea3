-- Rectangles by their places along and across the shelves, within the atlas and apart, and allocations that lie apart.
use Rattle.std.proofs.Common.{◌≡◌, ℕ, ◌+◌, ◌≤◌, Bool, true, false, ℤ, pos, arith, subst, sym, List, [], ◌∷◌, ◌++◌}
use Rattle.std.proofs.lemmas.Int.{ints}
use Rattle.std.specs.Prelude.{◌≤ℤ◌, ◌<ℤ◌}
use Rattle.etagere_base.specs.Frames.{along_side, across_side}
use Rattle.etagere_base.specs.Sides.{swapped_axes}
use Rattle.etagere_base.specs.declared.frames.Frame.{Frame}
use Rattle.etagere_base.specs.declared.geometry.Rectangle.{Rectangle}
use Rattle.etagere_base.specs.declared.ids.Allocation.{Allocation}
use Rattle.std.specs.List.{AllByRecursion}
use Rattle.etagere_base.specs.Places.{rectangle_at}
use Rattle.etagere_base.specs.Rectangles.{Covers, SharesNone, IsInside, AreApart}
use Rattle.etagere_base.proofs.EachLemmas.{Each-append}

-- a rectangle with an area lies between two places along and two places across
pub record LiesIn (frame : Frame) (left right top bottom : ℕ) (rectangle : Rectangle) : Type 0 where
  pub along : ℕ
  pub across : ℕ
  pub width : ℕ
  pub height : ℕ
  pub is : rectangle ≡ rectangle_at frame along across width height
  pub wide : 1 ≤ width
  pub tall : 1 ≤ height
  pub from_left : left ≤ along
  pub to_right : along + width ≤ right
  pub from_top : top ≤ across
  pub to_bottom : across + height ≤ bottom

-- what lies in a part lies in the whole
pub LiesIn-widen : (frame : Frame) (left right top bottom left' right' top' bottom' : ℕ) (rectangle : Rectangle)
    → left' ≤ left → right ≤ right' → top' ≤ top → bottom ≤ bottom'
    → LiesIn frame left right top bottom rectangle → LiesIn frame left' right' top' bottom' rectangle
LiesIn-widen frame left right top bottom left' right' top' bottom' rectangle l r b t lies =
    record {
      along = lies.along;
      across = lies.across;
      width = lies.width;
      height = lies.height;
      is = lies.is;
      wide = lies.wide;
      tall = lies.tall;
      from_left = omega arith;
      to_right = omega arith;
      from_top = omega arith;
      to_bottom = omega arith;
    }

-- the rectangle at these places, by the direction of the shelves
abbrev box : Bool → ℕ → ℕ → ℕ → ℕ → Rectangle
box vertical along across width height =
    let min = swapped_axes vertical (record { along = along; across = across }) in
    let max = swapped_axes vertical (record { along = along + width; across = across + height }) in
    record { min = record { x = pos min.along; y = pos min.across }; max = record { x = pos max.along; y = pos max.across } }

-- of a place's x and y the one along the shelves
abbrev along_of : Bool → ℤ → ℤ → ℤ
along_of true x y = y
along_of false x y = x

-- a unit square in a box lies within it along and across
covered : (vertical : Bool) (along across width height : ℕ) (x y : ℤ) → Covers (box vertical along across width height) x y
    → (pos along ≤ℤ along_of vertical x y) × (along_of vertical x y <ℤ pos (along + width))
    × (pos across ≤ℤ along_of vertical y x) × (along_of vertical y x <ℤ pos (across + height))
covered true along across width height x y covers = (covers.from_top, covers.to_bottom, covers.from_left, covers.to_right)
covered false along across width height x y covers = (covers.from_left, covers.to_right, covers.from_top, covers.to_bottom)

-- rectangles with a line between them along the shelves are apart
pub apart-along : (frame : Frame) (left right top bottom left' right' top' bottom' : ℕ) (one other : Rectangle)
    → right ≤ left' → LiesIn frame left right top bottom one → LiesIn frame left' right' top' bottom' other → SharesNone one other
apart-along frame left right top bottom left' right' top' bottom' one other line lies lies' x y in_one in_other =
    let p = covered frame.vertical _ _ _ _ x y (subst (λ (r : Rectangle). Covers r x y) lies.is in_one) in
    let q = covered frame.vertical _ _ _ _ x y (subst (λ (r : Rectangle). Covers r x y) lies'.is in_other) in
    omega (arith, ints)

-- rectangles with a line between them across the shelves are apart
pub apart-across : (frame : Frame) (left right top bottom left' right' top' bottom' : ℕ) (one other : Rectangle)
    → bottom ≤ top' → LiesIn frame left right top bottom one → LiesIn frame left' right' top' bottom' other → SharesNone one other
apart-across frame left right top bottom left' right' top' bottom' one other line lies lies' x y in_one in_other =
    let p = covered frame.vertical _ _ _ _ x y (subst (λ (r : Rectangle). Covers r x y) lies.is in_one) in
    let q = covered frame.vertical _ _ _ _ x y (subst (λ (r : Rectangle). Covers r x y) lies'.is in_other) in
    omega (arith, ints)

-- a box that keeps to the sides is inside, either way the shelves run
box-inside : (vertical : Bool) (frame : Frame) (along across width height : ℕ) → 1 ≤ width → 1 ≤ height
    → along + width ≤ (swapped_axes vertical (record { along = frame.width; across = frame.height })).along
    → across + height ≤ (swapped_axes vertical (record { along = frame.width; across = frame.height })).across
    → IsInside frame (box vertical along across width height)
box-inside true frame along across width height wide above right below =
    record {
      left = omega (arith, ints);
      top = omega (arith, ints);
      wide = omega (arith, ints);
      tall = omega (arith, ints);
      right = omega (arith, ints);
      bottom = omega (arith, ints);
    }
box-inside false frame along across width height wide above right below =
    record {
      left = omega (arith, ints);
      top = omega (arith, ints);
      wide = omega (arith, ints);
      tall = omega (arith, ints);
      right = omega (arith, ints);
      bottom = omega (arith, ints);
    }

-- what lies between the sides of the atlas is inside
pub inside-from_lies : (frame : Frame) (rectangle : Rectangle)
    → LiesIn frame 0 (along_side frame) 0 (across_side frame) rectangle → IsInside frame rectangle
inside-from_lies frame rectangle lies =
    subst (λ (r : Rectangle). IsInside frame r) (sym lies.is)
    (box-inside frame.vertical frame _ _ _ _ lies.wide lies.tall lies.to_right lies.to_bottom)

-- being apart goes both ways
pub SharesNone-swap : (one other : Rectangle) → SharesNone one other → SharesNone other one
SharesNone-swap one other apart x y in_other in_one = apart x y in_one in_other

-- an allocation shares no unit square with any of these
abbrev pub IsApartFrom : List Allocation → Allocation → Type 0
IsApartFrom others allocation = AllByRecursion (λ (other : Allocation). SharesNone allocation.rectangle other.rectangle) others

-- of two lists that are apart, none of one touches any of the other
pub AreApart-append : (xs ys : List Allocation)
    → AreApart xs → AreApart ys → AllByRecursion (IsApartFrom ys) xs → AreApart (xs ++ ys)
AreApart-append [] ys front back across = back
AreApart-append (x ∷ xs) ys front back across =
    (Each-append _ xs ys front.0 across.0, AreApart-append xs ys front.1 back across.1)
