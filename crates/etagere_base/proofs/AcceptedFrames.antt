-- What an accepted size and options say of the frame that they make.
use Rattle.std.proofs.Common.{◌≡◌, ℕ, ◌-◌, ◌*◌, ◌/◌, ◌^◌, ◌<◌, ◌≤◌, Bool, true, false, cond, Some, None, ◌||◌, not, ◌&&◌, nat_lt, nat_le, ◌==◌, arith, refl}
use Rattle.std.proofs.Math.Nat.{mul-mod_left, div-mul-le_self, div-le_self}
use Rattle.std.proofs.lemmas.Nat.{le-div}
use Rattle.etagere_base.specs.declared.geometry.Size.{Size}
use Rattle.etagere_base.specs.declared.options.AllocatorOptions.{AllocatorOptions}
use Rattle.etagere_base.specs.Frames.{IsAccepted, IsFrame, alignments_of, atlas_frame, column_width_of, sides_of}
use Rattle.etagere_base.specs.Sides.{side, down}

-- what the tests of a size and options have shown
pub record Accepted (longest : ℕ) (size : Size) (options : AllocatorOptions) : Type 0 where
  pub width : (0 < side size.width) × (side size.width ≤ longest)
  pub height : (0 < side size.height) × (side size.height ≤ longest)
  pub area : side size.width * side size.height < 2 ^ 31
  pub alignment_width : 0 < side options.alignment.width
  pub alignment_height : 0 < side options.alignment.height
  pub columns : 0 < side options.num_columns
  pub column_width : 0 < column_width_of size options

-- a chain of tests answers none only where each test fails
all_fail : {A : Type 0} (a b c d e : Bool) (u v w x y : A) → cond a (Some u) (cond b (Some v) (cond c (Some w) (cond d (Some x) (cond e (Some y) None)))) ≡ None → (a ≡ false) × (b ≡ false) × (c ≡ false) × (d ≡ false) × (e ≡ false)
all_fail true b c d e u v w x y h = cc
all_fail false true c d e u v w x y h = cc
all_fail false false true d e u v w x y h = cc
all_fail false false false true e u v w x y h = cc
all_fail false false false false true u v w x y h = cc
all_fail false false false false false u v w x y h = (refl, refl, refl, refl, refl)

side_range : (longest n m : ℕ) → not ((nat_lt 0 n && nat_le n longest) && (nat_lt 0 m && nat_le m longest)) ≡ false → ((0 < n) × (n ≤ longest)) × ((0 < m) × (m ≤ longest))
side_range longest n m h = (grind arith, grind arith)

both_positive : (n m : ℕ) → (n == 0 || m == 0) ≡ false → (0 < n) × (0 < m)
both_positive n m h = grind arith

positive : (n : ℕ) → (n == 0) ≡ false → 0 < n
positive n h = grind arith

small : (n : ℕ) → nat_lt (2 ^ 31 - 1) n ≡ false → n < 2 ^ 31
small n h = grind arith

pub accepted : (longest : ℕ) (size : Size) (options : AllocatorOptions) → IsAccepted longest size options → Accepted longest size options
accepted longest size options h =
    let failed = all_fail _ _ _ _ _ _ _ _ _ _ h in
    let sides = side_range longest (side size.width) (side size.height) failed.0 in
    let alignments = both_positive (side options.alignment.width) (side options.alignment.height) failed.2 in
    record {
      width = sides.0;
      height = sides.1;
      area = small _ failed.1;
      alignment_width = alignments.0;
      alignment_height = alignments.1;
      columns = positive _ failed.3;
      column_width = positive _ failed.4;
    }

-- a share of a length, rounded down to an alignment, is no longer than the length
down-share-le : (length parts alignment : ℕ) → down (length / parts) alignment ≤ length
down-share-le length parts alignment = omega (arith, div-mul-le_self (length / parts) alignment, div-le_self length parts)

-- a size and options without a fault make a frame
pub accepted-frame : (longest : ℕ) (size : Size) (options : AllocatorOptions) → IsAccepted longest size options
    → side options.alignment.width < 2 ^ 31 → side options.alignment.height < 2 ^ 31 → IsFrame longest (atlas_frame size options)
accepted-frame longest size options h short_width short_height =
    let a = accepted longest size options h in
    record {
      width = a.width;
      height = a.height;
      area = a.area;
      alignment_width = (a.alignment_width, short_width);
      alignment_height = (a.alignment_height, short_height);
      column_width = a.column_width;
      aligned = mul-mod_left _ _;
      columns = (
        le-div 1 _ _ a.column_width (omega (arith, down-share-le (sides_of size options).along (side options.num_columns) (alignments_of options).along)),
        div-mul-le_self _ _,
      );
    }
