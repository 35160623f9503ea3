-- The sides of an atlas along and across its shelves, and its columns.
use Rattle.std.proofs.Common.{◌≡◌, ℕ, ◌+◌, ◌<◌, ◌≤◌, Bool, true, false, refl, arith, suc, ◌*◌}
use Rattle.std.proofs.Math.Nat.{le-mul_of_pos_right, mul-le-mul_right, suc-mul}
use Rattle.etagere_base.specs.Frames.{IsFrame, along_side, across_side}
use Rattle.etagere_base.specs.declared.frames.Frame.{Frame}

-- no side of an atlas is longer than the longest
pub sides_low : (longest : ℕ) (frame : Frame) → IsFrame longest frame → (along_side frame ≤ longest) × (across_side frame ≤ longest)
sides_low longest frame valid = by_turn frame.vertical refl
  where
    by_turn : (b : Bool) → frame.vertical ≡ b → (along_side frame ≤ longest) × (across_side frame ≤ longest)
    by_turn true e = rw e (valid.height.1, valid.width.1)
    by_turn false e = rw e (valid.width.1, valid.height.1)

-- an atlas has a side across its shelves
pub across-positive : (longest : ℕ) (frame : Frame) → IsFrame longest frame → 1 ≤ across_side frame
across-positive longest frame valid = by_turn frame.vertical refl
  where
    by_turn : (b : Bool) → frame.vertical ≡ b → 1 ≤ across_side frame
    by_turn true e = rw e (valid.width.0)
    by_turn false e = rw e (valid.height.0)

-- an earlier column ends where a later one begins, or before it
pub columns-apart : (one other width : ℕ) → one < other → one * width + width ≤ other * width
columns-apart one other width h = omega (arith, mul-le-mul_right {m = suc one} {n = other} width h, suc-mul one width)

-- a column ends within the atlas
pub column-within : (frame : Frame) (column : ℕ) → IsFrame 65535 frame → column < frame.columns
    → column * frame.column_width + frame.column_width ≤ along_side frame
column-within frame column is_frame below =
    omega (arith, columns-apart column frame.columns frame.column_width below, is_frame.columns.1)

-- a column is no wider than the atlas
pub column_width-le : (longest : ℕ) (frame : Frame) → IsFrame longest frame → frame.column_width ≤ along_side frame
column_width-le longest frame valid =
    omega (
      arith,
      valid.columns.1,
      mul-le-mul_right {m = 1} {n = frame.columns} frame.column_width valid.columns.0,
    )

-- an atlas has no more columns than pixels along its shelves
pub columns-le : (frame : Frame) → IsFrame 65535 frame → frame.columns ≤ 65535
columns-le frame valid =
    omega (arith, valid.columns.1, (sides_low 65535 frame valid).0, le-mul_of_pos_right frame.columns valid.column_width)
