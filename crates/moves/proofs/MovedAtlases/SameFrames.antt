-- An atlas of the same size and of the options read off a frame has that frame.
use Rattle.std.proofs.Common.{◌≡◌, ℕ, ◌*◌, ◌/◌, ◌<◌, ◌≤◌, Bool, true, false, ap, mul_comm, arith}
use Rattle.std.proofs.Math.Nat.{div-mul-le_self, mul-le-mul_left}
use Rattle.std.proofs.lemmas.Nat.{le-div}
use Rattle.etagere_base.proofs.AcceptedFrames.{accepted}
use Rattle.etagere_base.specs.Frames.{IsAccepted, alignments_of, atlas_frame, longest_side, sides_of}
use Rattle.etagere_base.specs.Sides.{down, side, swapped_axes}
use Rattle.etagere_base.specs.declared.geometry.Size.{Size}
use Rattle.etagere_base.specs.declared.options.AllocatorOptions.{AllocatorOptions}
use Rattle.moves.specs.Atlases.Options.{options_of}

-- a share of a length is no smaller for fewer parts
share-le : (length few many : ℕ) → 0 < few → few ≤ many → length / many ≤ length / few
share-le length few many some more =
    le-div (length / many) length few some
    (omega (arith, mul-le-mul_left (length / many) more, div-mul-le_self length many))

-- rounded down alike, where one is between a rounded length and the length
down-between : (length alignment low : ℕ) → 0 < alignment → down length alignment ≤ low → low ≤ length
    → down low alignment ≡ down length alignment
down-between length alignment low aligned least most =
    ap (λ n. n * alignment)
    (same (low / alignment) (length / alignment)
    (le-div (low / alignment) length alignment aligned (omega (arith, div-mul-le_self low alignment)))
    (le-div (length / alignment) low alignment aligned (omega (arith, least))))
  where
    same : (n m : ℕ) → n ≤ m → m ≤ n → n ≡ m
    same n m le ge = omega arith

-- a share rounded down is that of as many parts as there is room for
share-again : (length parts alignment : ℕ) → 0 < parts → 0 < alignment → 0 < down (length / parts) alignment
    → down (length / (length / down (length / parts) alignment)) alignment ≡ down (length / parts) alignment
share-again length parts alignment some aligned wide =
    let width : ℕ = down (length / parts) alignment in
    let narrow : width ≤ length / parts = div-mul-le_self (length / parts) alignment in
    let more : parts ≤ length / width =
    le-div parts length width wide (omega (arith, mul-le-mul_left parts narrow, div-mul-le_self length parts, mul_comm parts (length / parts))) in
    let room : width ≤ length / (length / width) =
    le-div width length (length / width) (omega (arith, more)) (omega (arith, div-mul-le_self length width, mul_comm width (length / width))) in
    down-between (length / parts) alignment (length / (length / width)) aligned room (share-le length parts (length / width) some more)

-- where both alignments are positive, the one along the shelves is
swapped-positive : (vertical : Bool) (width height : ℕ) → 0 < width → 0 < height
    → 0 < (swapped_axes vertical (record { along = width; across = height })).along
swapped-positive true width height wide tall = tall
swapped-positive false width height wide tall = wide

-- the frame of a size and options is that of the size and the options read off it
pub frame-again : (size : Size) (options : AllocatorOptions) → IsAccepted longest_side size options
    → atlas_frame size (options_of (atlas_frame size options)) ≡ atlas_frame size options
frame-again size options is =
    let a = accepted longest_side size options is in
    ap (λ (width : ℕ). record {
      width = side size.width;
      height = side size.height;
      alignment_width = side options.alignment.width;
      alignment_height = side options.alignment.height;
      vertical = options.vertical_shelves;
      column_width = width;
      columns = (sides_of size options).along / width;
    })
    (share-again (sides_of size options).along (side options.num_columns) (alignments_of options).along a.columns
    (swapped-positive options.vertical_shelves _ _ a.alignment_width a.alignment_height) a.column_width)
