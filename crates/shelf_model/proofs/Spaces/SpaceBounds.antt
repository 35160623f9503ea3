-- What is allocated is no larger than the atlas.
use Rattle.std.proofs.Common.{◌≡◌, ℕ, ◌*◌, ◌≤◌, Bool, true, false, cond, List, refl, ap, arith}
use Rattle.std.proofs.Math.Nat.{mul-le-mul_right, mul_assoc, mul_comm}
use Rattle.std.specs.Prelude.{nat_lt}
use Rattle.etagere_base.specs.Frames.{IsFrame, along_side, across_side}
use Rattle.etagere_base.specs.Sides.{swapped_axes}
use Rattle.etagere_base.specs.declared.frames.Frame.{Frame}
use Rattle.std.specs.List.{AllByRecursion}
use Rattle.shelf_model.specs.Space.{allocated_width, space_in, allocated_space}
use Rattle.shelf_model.specs.State.{Shelf, AtlasState}
use Rattle.shelf_model.specs.Valid.{IsShelf, IsValid}
use Rattle.etagere_base.proofs.ColumnTotals.{total_before, total_before-columns}
use Rattle.etagere_base.proofs.EachLemmas.{Each-weaken}
use Rattle.etagere_base.proofs.Totals.{total-le, total-times}
use Rattle.shelf_model.proofs.Places.Heights.{column_of, height_of}
use Rattle.shelf_model.proofs.Places.Tiling.{IsTiled, valid-tiled}
use Rattle.shelf_model.proofs.Spaces.SpaceLemmas.{allocated_width-le}

-- shelves hold no more than their heights by the width of a column
space_in-le : (frame : Frame) (shelves : List Shelf) → AllByRecursion (IsShelf frame) shelves
    → space_in shelves ≤ frame.column_width * total_before column_of height_of frame.columns shelves
space_in-le frame shelves valid =
    omega (
      arith,
      total-le _ _ shelves (Each-weaken (IsShelf frame) (λ (s : Shelf). allocated_width s.items * s.height ≤ frame.column_width * height_before s) shelves each valid),
      total-times frame.column_width height_before shelves,
    )
  where
    height_before : Shelf → ℕ
    height_before s = cond (nat_lt s.column frame.columns) s.height 0

    each : (s : Shelf) → IsShelf frame s → allocated_width s.items * s.height ≤ frame.column_width * height_before s
    each s v =
        let here : nat_lt s.column frame.columns ≡ true = grind (arith, v.column) in
        let le : allocated_width s.items ≤ frame.column_width = omega (arith, allocated_width-le s.items, v.width) in
        rw here (mul-le-mul_right s.height le)

-- the sides along and across span the area
sides_area : (vertical : Bool) (width height : ℕ)
    → (swapped_axes vertical (record { along = width; across = height })).along * (swapped_axes vertical (record { along = width; across = height })).across ≡ width * height
sides_area true width height = mul_comm height width
sides_area false width height = refl

-- the columns are no larger than the atlas
columns_area-le : (frame : Frame) → IsFrame 65535 frame → frame.column_width * (frame.columns * across_side frame) ≤ frame.width * frame.height
columns_area-le frame is_frame =
    omega (
      arith,
      mul_assoc frame.column_width frame.columns (across_side frame),
      ap (λ (n : ℕ). n * across_side frame) (mul_comm frame.column_width frame.columns),
      mul-le-mul_right {m = frame.columns * frame.column_width} {n = along_side frame} (across_side frame) is_frame.columns.1,
      sides_area frame.vertical frame.width frame.height,
    )

-- what shelves allocate that fill the columns is no larger than the atlas
pub tiled-space-le : (frame : Frame) (shelves : List Shelf) → IsTiled frame shelves → space_in shelves ≤ frame.width * frame.height
tiled-space-le frame shelves tiled =
    omega (
      arith,
      space_in-le frame shelves tiled.are_shelves,
      ap (λ (n : ℕ). frame.column_width * n) (total_before-columns column_of height_of (across_side frame) frame.columns shelves tiled.heights),
      columns_area-le frame tiled.is_frame,
    )

-- what is allocated is no larger than the atlas
pub space-le-area : (state : AtlasState) → IsValid state → allocated_space state ≤ state.frame.width * state.frame.height
space-le-area state valid = tiled-space-le state.frame state.shelves (valid-tiled state valid)
