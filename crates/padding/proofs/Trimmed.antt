-- What is trimmed: with its padding it is what it was, and it lies within that.
use Rattle.std.proofs.Common.{◌≡◌, ℕ, ◌+◌, ◌≤◌, ◌==◌, Bool, false, cond, ℤ, pos, negsuc, ◌+ℤ◌, ◌-ℤ◌, ◌≤ℤ◌, refl, ap, ◌∙◌, List, [], ◌∷◌, map, arith}
use Rattle.std.proofs.lemmas.Int.{ints}
use Rattle.etagere_base.specs.declared.frames.Frame.{Frame}
use Rattle.etagere_base.specs.declared.geometry.Rectangle.{Rectangle}
use Rattle.etagere_base.specs.declared.geometry.Size.{Size}
use Rattle.etagere_base.specs.Rectangles.{AreApart, Covers, IsInside, IsLarge}
use Rattle.etagere_base.specs.declared.ids.Allocation.{Allocation}
use Rattle.etagere_base.specs.Frames.{longest_side}
use Rattle.etagere_base.specs.Sides.{side, up}
use Rattle.std.specs.List.{AllByRecursion}
use Rattle.etagere_base.proofs.AskedSides.{rounded-up}
use Rattle.padding.specs.declared.sides.Padding.{Padding}
use Rattle.padding.specs.Padding.{ArePadded, IsNear, padded_allocation, trimmed_allocation, HasSize, padded, padded_side, trimmed, with_padding}

-- some pixels there and back again
there-back : (place : ℤ) (pixels : ℕ) → (place +ℤ pos pixels) -ℤ pos pixels ≡ place
there-back place pixels = omega (arith, ints)

back-there : (place : ℤ) (pixels : ℕ) → (place -ℤ pos pixels) +ℤ pos pixels ≡ place
back-there place pixels = omega (arith, ints)

pub taken-back : (padding : Padding) (rectangle : Rectangle) → with_padding padding (trimmed padding rectangle) ≡ rectangle
taken-back padding rectangle =
    rw (there-back rectangle.min.x padding.left, there-back rectangle.min.y padding.top, back-there rectangle.max.x padding.right, back-there rectangle.max.y padding.bottom) refl

pub lies-within : (padding : Padding) (rectangle : Rectangle) (x y : ℤ) → Covers (trimmed padding rectangle) x y → Covers rectangle x y
lies-within padding rectangle x y covers =
    record {
      from_left = omega (arith, ints, covers.from_left);
      to_right = omega (arith, ints, covers.to_right);
      from_top = omega (arith, ints, covers.from_top);
      to_bottom = omega (arith, ints, covers.to_bottom);
    }

-- what is long enough for a positive length with its padding is long enough for the length without it
side-room : (low high length : ℤ) (before after alignment : ℕ) → 1 ≤ alignment → (side length == 0) ≡ false
    → (low +ℤ pos (up (side (padded_side before after length)) alignment)) ≤ℤ high
    → ((low +ℤ pos before) +ℤ length) ≤ℤ (high -ℤ pos after)
side-room low high (negsuc n) before after alignment aligned positive room = absurd (cc)
side-room low high (pos n) before after alignment aligned positive room =
    let long : padded_side before after (pos n) ≡ pos (n + (before + after)) =
    ap (λ (b : Bool). cond b (pos n) (pos n +ℤ pos (before + after))) positive in
    let enough : side (padded_side before after (pos n)) ≤ up (side (padded_side before after (pos n))) alignment =
    (rounded-up (side (padded_side before after (pos n))) alignment aligned).enough in
    omega (arith, ints, enough, room, ap side long)

pub makes-room : (padding : Padding) (frame : Frame) (size : Size) (rectangle : Rectangle) → 1 ≤ frame.alignment_width
    → 1 ≤ frame.alignment_height → IsLarge frame (padded padding size) rectangle
    → (side size.width == 0) ≡ false → (side size.height == 0) ≡ false
    → HasSize size (trimmed padding rectangle)
makes-room padding frame size rectangle wide tall large width height =
    record {
      width = side-room rectangle.min.x rectangle.max.x size.width padding.left padding.right frame.alignment_width wide width large.width;
      height = side-room rectangle.min.y rectangle.max.y size.height padding.top padding.bottom frame.alignment_height tall height large.height;
    }

-- with their padding, trimmed allocations are what they were
pub all-back : (padding : Padding) (all : List Allocation) → map (padded_allocation padding) (map (trimmed_allocation padding) all) ≡ all
all-back padding [] = refl
all-back padding (a ∷ all) =
    ap (λ (r : Rectangle). record { id = a.id; rectangle = r } ∷ map (padded_allocation padding) (map (trimmed_allocation padding) all)) (taken-back padding a.rectangle)
    ∙ ap (λ (l : List Allocation). a ∷ l) (all-back padding all)

-- so they lie inside and apart where these do
pub are-padded : (padding : Padding) (frame : Frame) (all : List Allocation)
    → AllByRecursion (λ (allocation : Allocation). IsInside frame allocation.rectangle) all → AreApart all
    → ArePadded padding frame (map (trimmed_allocation padding) all)
are-padded padding frame all inside apart =
    record { inside = each all inside; apart = rw (all-back padding all) apart }
  where
    each : (l : List Allocation) → AllByRecursion (λ (allocation : Allocation). IsInside frame allocation.rectangle) l
        → AllByRecursion (λ (allocation : Allocation). IsInside frame (with_padding padding allocation.rectangle)) (map (trimmed_allocation padding) l)
    each [] all_inside = tt
    each (a ∷ l) all_inside = (rw (taken-back padding a.rectangle) all_inside.0, each l all_inside.1)

-- what lies inside an atlas is near
pub near-inside : (frame : Frame) (rectangle : Rectangle) → frame.width ≤ longest_side → frame.height ≤ longest_side
    → IsInside frame rectangle → IsNear rectangle
near-inside frame rectangle wide tall inside =
    let left = inside.left in
    let top = inside.top in
    let across = inside.wide in
    let down = inside.tall in
    let right = inside.right in
    let bottom = inside.bottom in
    record {
      left = (omega (arith, ints), omega (arith, ints));
      top = (omega (arith, ints), omega (arith, ints));
      right = (omega (arith, ints), omega (arith, ints));
      bottom = (omega (arith, ints), omega (arith, ints));
    }
