-- Lengths that are multiples of the alignment, and rectangles that begin and end at them.
use Rattle.std.proofs.Common.{◌≡◌, ℕ, ◌+◌, ◌*◌, ◌/◌, ◌%◌, Bool, true, false, pos, refl, ap, sym, ◌∙◌, arith}
use Rattle.std.proofs.Math.Nat.{add-mul, mod-add-mod}
use Rattle.std.proofs.lemmas.Nat.{div-add-mod'}
use Rattle.etagere_base.specs.Frames.{alignment_along}
use Rattle.etagere_base.specs.Places.{rectangle_at}
use Rattle.etagere_base.specs.Rectangles.{IsAligned, place_along}
use Rattle.etagere_base.specs.Sides.{swapped_axes}
use Rattle.etagere_base.specs.declared.frames.Frame.{Frame}

-- the sum of two multiples is a multiple
pub sum_aligned : (a b m : ℕ) → a % m ≡ 0 → b % m ≡ 0 → (a + b) % m ≡ 0
sum_aligned a b m h k =
    let nothing : 0 + b ≡ b = omega arith in
    sym (mod-add-mod a m b) ∙ ap (λ (c : ℕ). (c + b) % m) h ∙ ap (λ (c : ℕ). c % m) nothing ∙ k

-- the point at a place along lies there
point-along : (vertical : Bool) (along across : ℕ)
    → let place = swapped_axes vertical (record { along = along; across = across }) in
    place_along vertical (record { x = pos place.along; y = pos place.across }) ≡ pos along
point-along true along across = refl
point-along false along across = refl

-- a length without a remainder is so many alignments
pub multiple : (length alignment : ℕ) → length % alignment ≡ 0 → length ≡ length / alignment * alignment
multiple length alignment even = omega (arith, div-add-mod' length alignment)

-- a rectangle is aligned whose place and width are so many alignments
pub rectangle-aligned : (frame : Frame) (along across width height place extent : ℕ)
    → along ≡ place * alignment_along frame → width ≡ extent * alignment_along frame
    → IsAligned frame (rectangle_at frame along across width height)
rectangle-aligned frame along across width height place extent begins wide =
    record {
      place = place;
      extent = extent;
      begins = point-along frame.vertical along across ∙ ap pos begins;
      ends = point-along frame.vertical (along + width) (across + height)
          ∙ ap pos (omega (arith, begins, wide, add-mul place extent (alignment_along frame)));
    }
