-- Laws of the model, proved of all its states: each step keeps a state valid and a ledger tied to
-- it, and counts the space that is allocated.
use Rattle.std.specs.Prelude.{◌≡◌, ℕ, ◌+◌, ◌*◌, ◌^◌, ◌≤◌, true, Some, slice_get, List, [], ◌∷◌, ◌++◌, map}
use Rattle.std.specs.List.{AllByRecursion}
use Rattle.etagere_base.specs.declared.geometry.Size.{Size}
use Rattle.etagere_base.specs.declared.frames.Frame.{Frame}
use Rattle.etagere_base.specs.declared.ids.Allocation.{Allocation}
use Rattle.etagere_base.specs.Lists.{times}
use Rattle.etagere_base.specs.Places.{rectangle_at}
use Rattle.etagere_base.specs.Rectangles.{AreApart, IsAligned, IsInside, IsLarge}
use Rattle.bucketed_model.specs.Adding.{least_power_of_two}
use Rattle.bucketed_model.specs.Atlas.{Allocates, Grows, KeepsPromises}
use Rattle.bucketed_model.specs.Frames.{IsBucketedFrame}
use Rattle.bucketed_model.specs.Returning.{bucket_returned, is_known, returned_bucket, tag_of}
use Rattle.bucketed_model.specs.Picking.{Spot}
use Rattle.bucketed_model.specs.Space.{allocated_space}
use Rattle.bucketed_model.specs.State.{Bucket, BucketShelf, BucketedState, fresh}
use Rattle.bucketed_model.specs.Tied.{AreTied, entries_of}
use Rattle.bucketed_model.specs.Valid.{IsValid}

-- what each valid state keeps
abbrev pub ValidKeepsPromises : Type 0
ValidKeepsPromises = (state : BucketedState) → IsValid state → KeepsPromises state

-- a new atlas, and each step from a valid state, is valid
abbrev pub StepsKeepValid : Type 0
StepsKeepValid =
    ((frame : Frame) → IsBucketedFrame frame → IsValid (fresh frame))
    × ((old : BucketedState) (size : Size) (allocation : Allocation) (new : BucketedState)
    → IsValid old → Allocates old size allocation new → IsValid new)
    × ((state : BucketedState) (id : ℕ) → IsValid state → IsValid (bucket_returned state id))
    × ((old : BucketedState) (size : Size) (new : BucketedState) → IsValid old → Grows old size new
    → IsValid new)

-- what is given is as large as the size, and aligned
abbrev pub GivesEnough : Type 0
GivesEnough =
    (old : BucketedState) (size : Size) (allocation : Allocation) (new : BucketedState)
    → IsValid old → Allocates old size allocation new
    → IsLarge old.frame size allocation.rectangle × IsAligned old.frame allocation.rectangle

-- a ledger stays tied: to a new atlas with no entry, by an allocation with one more, by a return
-- with one less, and by a grow with the same
abbrev pub StepsKeepTied : Type 0
StepsKeepTied =
    ((frame : Frame) → IsBucketedFrame frame → AreTied [] (fresh frame))
    × ((entries : List Allocation) (old : BucketedState) (size : Size) (allocation : Allocation)
    (new : BucketedState)
    → AreTied entries old → Allocates old size allocation new
    → AreTied (entries ++ allocation ∷ []) new)
    × ((one : List Allocation) (entry : Allocation) (other : List Allocation)
    (state : BucketedState)
    → AreTied (one ++ entry ∷ other) state
    → AreTied (one ++ other) (bucket_returned state entry.id))
    × ((entries : List Allocation) (old : BucketedState) (size : Size) (new : BucketedState)
    → AreTied entries old → Grows old size new → AreTied entries new)

-- an allocation adds the area that it gives to the space that is allocated
pub record CountsArea (old : BucketedState) (allocation : Allocation) (new : BucketedState)
    : Type 0 where
  pub along : ℕ
  pub across : ℕ
  pub width : ℕ
  pub height : ℕ
  pub rectangle : allocation.rectangle ≡ rectangle_at old.frame along across width height
  pub space : allocated_space new ≡ allocated_space old + width * height

-- a return gives back the area that its bucket has used where that is emptied, and else nothing
abbrev pub CountsReturn : BucketedState → Spot → BucketedState → Type 0
CountsReturn old spot new =
    allocated_space new + spot.bucket.used * spot.shelf.height
    ≡ allocated_space old + (returned_bucket spot.bucket).used * spot.shelf.height

-- the space that is allocated after each step; a grow changes nothing
abbrev pub StepsCountSpace : Type 0
StepsCountSpace =
    ((old : BucketedState) (size : Size) (allocation : Allocation) (new : BucketedState)
    → IsValid old → Allocates old size allocation new → CountsArea old allocation new)
    × ((state : BucketedState) (id number : ℕ) (shelf : BucketShelf) (index : ℕ) (bucket : Bucket)
    → IsValid state
    → slice_get state.shelves number ≡ Some shelf → slice_get shelf.buckets index ≡ Some bucket
    → bucket.tag.number ≡ (tag_of id).number
    → CountsReturn state (record { number = number; shelf = shelf; bucket = bucket })
    (bucket_returned state id))
    × ((old : BucketedState) (size : Size) (new : BucketedState) → IsValid old → Grows old size new
    → allocated_space new ≡ allocated_space old)

-- what a tied ledger has lies within the atlas, apart, under ids that differ and are known, as many
-- in each bucket as are live; with no entry the atlas is as new
pub record TiedIsSafe (entries : List Allocation) (state : BucketedState) : Type 0 where
  pub inside : AllByRecursion (λ (entry : Allocation). IsInside state.frame entry.rectangle) entries
  pub apart : AreApart entries
  pub ids : (id : ℕ) → times id (map (λ (entry : Allocation). entry.id) entries) ≤ 1
  pub known : AllByRecursion (λ (entry : Allocation). is_known state entry.id ≡ true) entries
  pub counts : AllByRecursion
      (λ (shelf : BucketShelf).
      AllByRecursion (λ (bucket : Bucket). entries_of bucket.tag entries ≡ bucket.live) shelf.buckets)
      state.shelves
  pub empty : entries ≡ [] → state ≡ fresh state.frame

abbrev pub TiedIsAlwaysSafe : Type 0
TiedIsAlwaysSafe =
    (entries : List Allocation) (state : BucketedState) → AreTied entries state
    → TiedIsSafe entries state

-- a power of two that is not below a number, and no other such power is less
pub record IsLeastPower (number power : ℕ) : Type 0 where
  pub exponent : ℕ
  pub is_power : power ≡ 2 ^ exponent
  pub enough : number ≤ power
  pub least : (other : ℕ) → number ≤ 2 ^ other → power ≤ 2 ^ other

-- what a long shelf is divided into is the least power of two that is not below its number
abbrev pub PowersAreLeast : Type 0
PowersAreLeast = (number : ℕ) → number ≤ 4096 → IsLeastPower number (least_power_of_two number)
