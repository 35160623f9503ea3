-- The frame of a size and options without a fault keeps the ranges of a bucketed frame.
use Rattle.std.proofs.Common.{ℕ, ◌*◌, ◌/◌, ◌<◌, ◌≤◌, ◌^◌, arith, mul_comm}
use Rattle.std.proofs.Math.Nat.{div-mul-le_self, mul-le-mul_left, mul-mod_left}
use Rattle.etagere_base.proofs.AcceptedFrames.{accepted}
use Rattle.etagere_base.specs.declared.geometry.Size.{Size}
use Rattle.etagere_base.specs.declared.options.AllocatorOptions.{AllocatorOptions}
use Rattle.etagere_base.specs.Frames.{IsAccepted}
use Rattle.etagere_base.specs.Sides.{down, side}
use Rattle.bucketed_model.specs.Frames.{IsBucketedFrame, bucketed_frame}

-- equal shares of a length, rounded down to an alignment, fit it
shares-le : (length parts alignment : ℕ) → parts * down (length / parts) alignment ≤ length
shares-le length parts alignment =
    omega (arith, mul-le-mul_left parts (div-mul-le_self (length / parts) alignment), mul_comm parts (length / parts), div-mul-le_self length parts)

-- a size and options without a fault make a bucketed frame
pub accepted-bucketed : (size : Size) (options : AllocatorOptions) → IsAccepted 65534 size options
    → side options.alignment.width < 2 ^ 31 → side options.alignment.height < 2 ^ 31 → IsBucketedFrame (bucketed_frame size options)
accepted-bucketed size options h short_width short_height =
    let a = accepted 65534 size options h in
    record {
      width = a.width;
      height = a.height;
      area = a.area;
      alignment_width = (a.alignment_width, short_width);
      alignment_height = (a.alignment_height, short_height);
      column_width = a.column_width;
      aligned = mul-mod_left _ _;
      columns = (a.columns, shares-le _ _ _);
    }
