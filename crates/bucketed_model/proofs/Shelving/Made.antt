-- Shelves that are made are as shelves must be.
use Rattle.std.proofs.Common.{◌≡◌, ℕ, suc, ◌+◌, ◌*◌, ◌%◌, ◌<◌, ◌≤◌, List, [], ◌∷◌, length, refl, ap, arith}
use Rattle.std.proofs.Math.Nat.{suc-mul, zero-mod}
use Rattle.std.specs.List.{AllByRecursion}
use Rattle.etagere_base.specs.declared.frames.Frame.{Frame}
use Rattle.etagere_base.specs.Frames.{alignment_along}
use Rattle.bucketed_model.specs.Adding.{IsTag, NewShelf, made_shelf, new_bucket, new_buckets, width_of_share}
use Rattle.bucketed_model.specs.Frames.{IsBucketedFrame}
use Rattle.bucketed_model.specs.State.{Bucket, Tag, column_place, tag_numbers}
use Rattle.bucketed_model.specs.Valid.{IsBucket, IsShelf, StandBetween}
use Rattle.bucketed_model.proofs.Shelving.Shares.{aligned-sum, aligned-times, share-aligned, shares-fit}
use Rattle.bucketed_model.proofs.Shelving.Shelves.{numbers_of}

-- as many new buckets as tags
pub length-new : (place width : ℕ) (tags : List Tag) → length (new_buckets place width tags) ≡ length tags
length-new place width [] = refl
length-new place width (tag ∷ tags) = ap suc (length-new place width tags)

-- new buckets have the numbers of their tags
pub numbers-new : (place width : ℕ) (tags : List Tag) → numbers_of (new_buckets place width tags) ≡ tag_numbers tags
numbers-new place width [] = refl
numbers-new place width (tag ∷ tags) = ap (λ (ns : List ℕ). tag.number ∷ ns) (numbers-new place width tags)

-- a new bucket is as a bucket must be
bucket-new : (al width height place : ℕ) (tag : Tag) → IsTag tag → IsBucket al width height (new_bucket place tag)
bucket-new al width height place tag is_tag = record {
  tag = is_tag;
  used = omega arith;
  aligned = zero-mod al;
  live = omega arith;
  given = omega arith;
  idle = λ _. (refl, refl);
  busy = λ h. absurd (omega (arith, h));
}

-- new buckets are as buckets must be
pub each-new : (al width height place : ℕ) (tags : List Tag) → AllByRecursion IsTag tags → AllByRecursion (IsBucket al width height) (new_buckets place width tags)
each-new al width height place [] each = tt
each-new al width height place (tag ∷ tags) each =
    (bucket-new al width height (place + length tags * width) tag each.0, each-new al width height place tags each.1)

-- new buckets stand side by side
pub stand-new : (al width place : ℕ) (tags : List Tag) → place % al ≡ 0 → width % al ≡ 0
    → StandBetween al width place (place + length tags * width) (new_buckets place width tags)
stand-new al width place [] even even_width = omega arith
stand-new al width place (tag ∷ tags) even even_width = (
  aligned-sum place (length tags * width) al even (aligned-times (length tags) width al even_width),
  omega (arith, suc-mul (length tags) width),
  stand-new al width place tags even even_width,
)

-- buckets that stand up to an end stand up to a later one, where there are any
pub stand-widen : (al width begin end later : ℕ) (b : Bucket) (bs : List Bucket) → end ≤ later
    → StandBetween al width begin end (b ∷ bs) → StandBetween al width begin later (b ∷ bs)
stand-widen al width begin end later b bs h stand = (stand.0, omega (arith, stand.1), stand.2)

-- a shelf that is made is as a shelf must be
pub shelf-made : (frame : Frame) (new : NewShelf) (tag : Tag) (tags : List Tag) → IsBucketedFrame frame → new.column < frame.columns
    → (frame.columns ≡ 1 → 1 ≤ width_of_share frame new.count) → suc (length tags) ≡ new.count → AllByRecursion IsTag (tag ∷ tags)
    → IsShelf frame (made_shelf frame new (tag ∷ tags))
shelf-made frame new tag tags is_frame column wide enough each =
    let width = width_of_share frame new.count in
    let begin = column_place frame new.column in
    let even = aligned-times new.column frame.column_width (alignment_along frame) is_frame.aligned in
    record {
      column = column;
      aligned = share-aligned frame new.count;
      width = wide;
      buckets = each-new (alignment_along frame) width new.height begin (tag ∷ tags) each;
      stand = stand-widen (alignment_along frame) width begin (begin + suc (length tags) * width) (begin + frame.column_width)
          (new_bucket (begin + length tags * width) tag) (new_buckets begin width tags)
          (rw enough (omega (arith, shares-fit frame new.count)))
          (stand-new (alignment_along frame) width begin (tag ∷ tags) even (share-aligned frame new.count));
    }
