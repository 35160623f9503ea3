-- Laws of refusals: a size is refused exactly where it does not fit, and each reason says what would
-- give it one.
use Rattle.std.specs.Prelude.{◌≡◌, ◌↔◌, ℕ, ◌<◌, ◌≤◌, None, Some, IsSome, slice_get, true}
use Rattle.etagere_base.specs.declared.geometry.Size.{Size}
use Rattle.etagere_base.specs.declared.sides.Sides.{Sides}
use Rattle.etagere_base.specs.Frames.{asked}
use Rattle.bucketed_model.specs.Adding.{left_to}
use Rattle.bucketed_model.specs.declared.refusals.BucketedRefusal.TheVariants as reasons
use Rattle.bucketed_model.specs.Picking.{free_width}
use Rattle.bucketed_model.specs.Placing.{destination_of, placement_of}
use Rattle.bucketed_model.specs.Refusal.{has_space, refusal}
use Rattle.bucketed_model.specs.State.{Bucket, BucketShelf, BucketedState, buckets_left, most_given}

-- there is no reason exactly where a size fits
abbrev pub RefusesExactly : Type 0
RefusesExactly =
    (state : BucketedState) (size : Size) → (refusal state size ≡ None) ↔ IsSome (placement_of state size)

-- where buckets are lacking, there is space for a new shelf, and at most one bucket is left
abbrev pub FewBucketsAreLeft : Type 0
FewBucketsAreLeft =
    (state : BucketedState) (size : Size) (sides : Sides)
    → refusal state size ≡ Some reasons.NoBuckets
    → asked state.frame size ≡ Some sides
    → (has_space state.frame (left_to state.frame state.shelves) sides.across ≡ true)
    × (buckets_left state.shelves ≤ 1)

-- where a size finds no room, it is wider than the widest room that is told, and sides as tall and
-- no wider than that fit
abbrev pub WidestFits : Type 0
WidestFits =
    (state : BucketedState) (size : Size) (sides : Sides) (widest : ℕ)
    → refusal state size ≡ Some (reasons.NoRoom widest)
    → asked state.frame size ≡ Some sides
    → (1 ≤ sides.along → widest < sides.along)
    × ((width : ℕ) → 1 ≤ width → width ≤ widest
    → IsSome
    (destination_of state.frame state.shelves (record { along = width; across = sides.across })))

-- a bucket of a shelf that is tall enough has the width left, and has given the most items
pub record IsUsedUp (state : BucketedState) (sides : Sides) : Type 0 where
  pub number : ℕ
  pub shelf : BucketShelf
  pub index : ℕ
  pub bucket : Bucket
  pub shelf_is : slice_get state.shelves number ≡ Some shelf
  pub bucket_is : slice_get shelf.buckets index ≡ Some bucket
  pub tall : sides.across ≤ shelf.height
  pub wide : sides.along ≤ free_width shelf bucket
  pub given : most_given ≤ bucket.given

-- where items are used up, there is such a bucket
abbrev pub ABucketIsUsedUp : Type 0
ABucketIsUsedUp =
    (state : BucketedState) (size : Size) (sides : Sides)
    → refusal state size ≡ Some reasons.ItemsUsedUp
    → asked state.frame size ≡ Some sides
    → IsUsedUp state sides
