-- Which states a bucketed atlas can be in.
use Rattle.std.specs.Prelude.{◌≡◌, ℕ, suc, ◌+◌, ◌*◌, ◌%◌, ◌<◌, ◌≤◌, ◌⊎◌, Bool, false, List, [], ◌∷◌}
use Rattle.std.specs.List.{AllByRecursion}
use Rattle.etagere_base.specs.declared.frames.Frame.{Frame}
use Rattle.etagere_base.specs.Frames.{across_side, alignment_along}
use Rattle.etagere_base.specs.Lists.{times}
use Rattle.bucketed_model.specs.Adding.{IsTag}
use Rattle.bucketed_model.specs.Frames.{IsBucketedFrame}
use Rattle.bucketed_model.specs.State.{Bucket, BucketShelf, BucketedState, bucket_numbers, buckets_in_use, column_height, column_place, is_idle, most_buckets, most_given}

-- a bucket of a shelf this wide and tall: what it has used, aligned, is at least its items' least
-- widths; with nothing live it is as new
pub record IsBucket (alignment width height : ℕ) (bucket : Bucket) : Type 0 where
  pub tag : IsTag bucket.tag
  pub used : bucket.used ≤ width
  pub aligned : bucket.used % alignment ≡ 0
  pub live : bucket.live ≤ bucket.given
  pub given : bucket.given ≤ most_given
  pub idle : bucket.live ≡ 0 → (bucket.given ≡ 0) × (bucket.used ≡ 0)
  pub busy : 1 ≤ bucket.live → (bucket.given * alignment ≤ bucket.used) × (1 ≤ height)

-- buckets this wide stand at aligned places from an end down to a begin, where the last one stands
abbrev pub StandBetween : ℕ → ℕ → ℕ → ℕ → List Bucket → Type 0
StandBetween alignment width begin end [] = end ≡ begin
StandBetween alignment width begin end (bucket ∷ buckets) =
    (bucket.place % alignment ≡ 0)
    × (bucket.place + width ≤ end)
    × StandBetween alignment width begin bucket.place buckets

-- a shelf stands in one of the columns, and its buckets stand within it
pub record IsShelf (frame : Frame) (shelf : BucketShelf) : Type 0 where
  pub column : shelf.column < frame.columns
  pub aligned : shelf.bucket_width % alignment_along frame ≡ 0
  pub width : frame.columns ≡ 1 → 1 ≤ shelf.bucket_width
  pub buckets : AllByRecursion (IsBucket (alignment_along frame) shelf.bucket_width shelf.height)
      shelf.buckets
  pub stand : StandBetween (alignment_along frame) shelf.bucket_width
      (column_place frame shelf.column)
      (column_place frame shelf.column + frame.column_width) shelf.buckets

-- shelves go on where so many columns are opened: each in the last opened one, or it opens the next
-- and has a height
abbrev pub OpenColumns : ℕ → List BucketShelf → Type 0
OpenColumns opened [] = Unit {0}
OpenColumns opened (shelf ∷ shelves) =
    ((suc shelf.column ≡ opened) ⊎ ((shelf.column ≡ opened) × (1 ≤ shelf.height)))
    × OpenColumns (suc shelf.column) shelves

-- there is a last shelf, and it holds nothing live
abbrev pub ends_idle : List BucketShelf → Bool
ends_idle [] = false
ends_idle (shelf ∷ []) = is_idle shelf
ends_idle (shelf ∷ next ∷ shelves) = ends_idle (next ∷ shelves)

-- shelves stand in the columns of a frame, column after column, no column too tall, and each bucket
-- has a number of its own
pub record AreShelves (frame : Frame) (shelves : List BucketShelf) : Type 0 where
  pub each : AllByRecursion (IsShelf frame) shelves
  pub columns : OpenColumns 0 shelves
  pub heights : (column : ℕ) → column_height column shelves ≤ across_side frame
  pub numbers : (n : ℕ) → times n (bucket_numbers shelves) ≤ 1
  pub few : buckets_in_use shelves ≤ most_buckets

-- what a bucketed atlas can be in: its shelves stand in the frame, and the last one holds something
-- live
pub record IsValid (state : BucketedState) : Type 0 where
  pub frame : IsBucketedFrame state.frame
  pub shelves : AreShelves state.frame state.shelves
  pub ends : ends_idle state.shelves ≡ false
