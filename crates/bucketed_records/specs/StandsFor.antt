-- When the records of a bucketed atlas stand for a state: the rules that a snapshot has to keep.
use Rattle.std.specs.Prelude.{◌≡◌, ℕ, ℤ, pos, ◌+ℤ◌, ◌-ℤ◌, ◌*ℤ◌, suc, ◌+◌, ◌-◌, ◌*◌, ◌/◌, ◌%◌, ◌<◌, ◌≤◌, ◌||◌, false, List, [], ◌∷◌, ◌++◌, IfSome, IsTrue, length, map, nat_lt, slice_get, ◌==◌, if◌then◌else◌}
use Rattle.std.specs.List.{AllByRecursion}
use Rattle.etagere_base.specs.declared.faults.RestoreFault.{RestoreFault}
use Rattle.etagere_base.specs.declared.faults.RestoreFault.TheVariants as faults
use Rattle.etagere_base.specs.declared.frames.Frame.{Frame}
use Rattle.etagere_base.specs.Frames.{across_side, alignment_along}
use Rattle.etagere_links.specs.Links.{no_link}
use Rattle.etagere_links.specs.Lists.{HasEachOnce}
use Rattle.etagere_links.specs.Edits.{field_at}
use Rattle.etagere_links.specs.Walks.{Walked}
use Rattle.bucketed_model.specs.Frames.{IsBucketedFrame}
use Rattle.bucketed_model.specs.State.{BucketShelf, BucketedState, available_height, column_height, current_column, generations, most_buckets, most_given}
use Rattle.bucketed_model.specs.Valid.{OpenColumns, ends_idle}
use Rattle.bucketed_records.specs.declared.records.LinkedBucket.{LinkedBucket}
use Rattle.bucketed_records.specs.declared.records.LinkedBucketShelf.{LinkedBucketShelf}
use Rattle.bucketed_records.specs.BucketRecords.{BucketRecords, bucket_walk, state_of}

-- there are at most as many records of a kind as buckets can be in use
pub record HasCounts (atlas : BucketRecords) : Type 0 where
  pub shelves : length atlas.shelves ≤ most_buckets
  pub buckets : length atlas.buckets ≤ most_buckets

-- a walk stops at none or before a record
abbrev pub StopsInRange : ℕ → Walked → Type 0
StopsInRange count walked = IsTrue (walked.end == no_link || nat_lt walked.end count)

-- the shelf that the bucket of this number names
abbrev pub shelf_of : List LinkedBucket → ℕ → ℕ
shelf_of buckets number = field_at (λ (bucket : LinkedBucket). bucket.shelf) 0 buckets number

-- how much of the bucket of this number is live
abbrev pub live_of : List LinkedBucket → ℕ → ℕ
live_of buckets number = field_at (λ (bucket : LinkedBucket). bucket.refcount) 0 buckets number

-- how much width the bucket of this number has left
abbrev pub free_of : List LinkedBucket → ℕ → ℕ
free_of buckets number = field_at (λ (bucket : LinkedBucket). bucket.free_space) 0 buckets number

-- where the bucket of this number stands along
abbrev pub place_of : List LinkedBucket → ℕ → ℕ
place_of buckets number = field_at (λ (bucket : LinkedBucket). bucket.x) 0 buckets number

-- how often the bucket of this number was emptied
abbrev pub generation_of : List LinkedBucket → ℕ → ℕ
generation_of buckets number =
    field_at (λ (bucket : LinkedBucket). bucket.generation) 0 buckets number

-- the walks of shelves, of which the first has this number, stop in range, and their buckets name
-- them
abbrev pub AreLinked : List LinkedBucket → ℕ → List LinkedBucketShelf → Type 0
AreLinked buckets number [] = Unit {0}
AreLinked buckets number (shelf ∷ shelves) =
    StopsInRange (length buckets) (bucket_walk buckets shelf.first_bucket)
    × AllByRecursion (λ bucket. shelf_of buckets bucket ≡ number) (bucket_walk buckets shelf.first_bucket).met
    × AreLinked buckets (suc number) shelves

-- no walk stops out of range, and buckets name their shelf
pub record HasLinks (atlas : BucketRecords) : Type 0 where
  pub shelves : AreLinked atlas.buckets 0 atlas.shelves
  pub unused : StopsInRange (length atlas.buckets) (bucket_walk atlas.buckets atlas.unused)

-- the heights of the shelves of these records that stand in a column, added up
abbrev pub height_before : ℕ → ℕ → List LinkedBucketShelf → ℕ
height_before column_width column [] = 0
height_before column_width column (shelf ∷ shelves) =
    (if shelf.x / column_width == column then shelf.height else 0)
    + height_before column_width column shelves

-- each shelf begins across where those before it in its column end
abbrev pub AreStacked : ℕ → List LinkedBucketShelf → List LinkedBucketShelf → Type 0
AreStacked column_width before [] = Unit {0}
AreStacked column_width before (shelf ∷ shelves) =
    (shelf.y ≡ height_before column_width (shelf.x / column_width) before)
    × AreStacked column_width (before ++ shelf ∷ []) shelves

-- the shelves stand in the columns, which have a width, column after column, none too tall; the
-- records say where each begins, and what the last column leaves
pub record HasShelves (atlas : BucketRecords) (state : BucketedState) : Type 0 where
  pub wide : 1 ≤ length atlas.shelves → 1 ≤ atlas.frame.column_width
  pub columns : AllByRecursion (λ (shelf : BucketShelf). shelf.column < state.frame.columns) state.shelves
  pub opened : OpenColumns 0 state.shelves
  pub along : AllByRecursion (λ (shelf : LinkedBucketShelf). shelf.x % atlas.frame.column_width ≡ 0)
      atlas.shelves
  pub across : AreStacked atlas.frame.column_width [] atlas.shelves
  pub heights : (column : ℕ) → column_height column state.shelves ≤ across_side state.frame
  pub current_column : atlas.current_column ≡ current_column state.shelves
  pub available_height : atlas.available_height ≡ available_height state.frame state.shelves

-- a bucket of a shelf this wide and tall: what it has used, aligned, is at least its items' least
-- widths; with nothing live it is as new
pub record IsFilled (alignment width height : ℕ) (bucket : LinkedBucket) : Type 0 where
  pub free : bucket.free_space ≤ width
  pub aligned : (width - bucket.free_space) % alignment ≡ 0
  pub live : bucket.refcount ≤ bucket.item_count
  pub given : bucket.item_count ≤ most_given
  pub idle : bucket.refcount ≡ 0 → (bucket.item_count ≡ 0) × (width - bucket.free_space ≡ 0)
  pub busy : 1 ≤ bucket.refcount
      → (bucket.item_count * alignment ≤ width - bucket.free_space) × (1 ≤ height)

-- there are places of buckets this wide, from an end down to a begin: the last one is there, and
-- each other one is aligned and no less than the end of the next one
abbrev pub StandDown : ℕ → ℕ → ℕ → ℕ → List ℕ → Type 0
StandDown alignment width begin end [] = ⊥
StandDown alignment width begin end (place ∷ []) = (place ≡ begin) × (place + width ≤ end)
StandDown alignment width begin end (place ∷ next ∷ places) =
    (place % alignment ≡ 0) × (place + width ≤ end)
    × StandDown alignment width begin place (next ∷ places)

-- the buckets of these numbers stand apart and in order within a shelf, and none has used more than
-- it has
pub record AreBuckets (frame : Frame) (buckets : List LinkedBucket) (shelf : LinkedBucketShelf)
    (numbers : List ℕ) : Type 0 where
  pub aligned : shelf.bucket_width % alignment_along frame ≡ 0
  pub width : frame.columns ≡ 1 → 1 ≤ shelf.bucket_width
  pub filled : AllByRecursion
      (λ number. IfSome (slice_get buckets number)
      (IsFilled (alignment_along frame) shelf.bucket_width shelf.height)) numbers
  pub stand : StandDown (alignment_along frame) shelf.bucket_width shelf.x
      (shelf.x + frame.column_width) (map (place_of buckets) numbers)

-- the buckets of a shelf do so
abbrev pub HasBuckets : BucketRecords → LinkedBucketShelf → Type 0
HasBuckets atlas shelf =
    AreBuckets atlas.frame atlas.buckets shelf (bucket_walk atlas.buckets shelf.first_bucket).met

-- what the bucket of this number has used of a width: below 0 where it has more left than that
abbrev pub used_of : ℕ → List LinkedBucket → ℕ → ℤ
used_of width buckets number =
    field_at (λ (bucket : LinkedBucket). pos width -ℤ pos bucket.free_space) (pos 0) buckets number

-- what the buckets of these numbers have used of it, added up
abbrev pub all_used : ℕ → List LinkedBucket → List ℕ → ℤ
all_used width buckets [] = pos 0
all_used width buckets (number ∷ numbers) =
    used_of width buckets number +ℤ all_used width buckets numbers

-- the areas that the buckets of shelves have used, added up
abbrev pub used_area : List LinkedBucket → List LinkedBucketShelf → ℤ
used_area buckets [] = pos 0
used_area buckets (shelf ∷ shelves) =
    (all_used shelf.bucket_width buckets (bucket_walk buckets shelf.first_bucket).met
    *ℤ pos shelf.height)
    +ℤ used_area buckets shelves

-- the generation of each bucket in use is one of 8 bits, as the type of records has it
abbrev pub HasGenerations : BucketRecords → LinkedBucketShelf → Type 0
HasGenerations atlas shelf =
    AllByRecursion (λ bucket. generation_of atlas.buckets bucket < generations)
    (bucket_walk atlas.buckets shelf.first_bucket).met

-- the numbers of the buckets of shelves
abbrev pub walked_numbers : List LinkedBucket → List LinkedBucketShelf → List ℕ
walked_numbers buckets [] = []
walked_numbers buckets (shelf ∷ shelves) =
    (bucket_walk buckets shelf.first_bucket).met ++ walked_numbers buckets shelves

-- each bucket record is in use in one place or unused, and each walk ends at none
pub record IsShared (atlas : BucketRecords) : Type 0 where
  pub once :
      HasEachOnce (length atlas.buckets)
      (walked_numbers atlas.buckets atlas.shelves ++ (bucket_walk atlas.buckets atlas.unused).met)
  pub ends : AllByRecursion
      (λ (shelf : LinkedBucketShelf). (bucket_walk atlas.buckets shelf.first_bucket).end ≡ no_link)
      atlas.shelves
  pub unused_end : (bucket_walk atlas.buckets atlas.unused).end ≡ no_link

-- records keep the rule whose breach is this fault; that memory ran out breaks none, and there are no free lists
abbrev pub Keeps : BucketRecords → RestoreFault → Type 0
Keeps atlas faults.Frame = IsBucketedFrame atlas.frame
Keeps atlas faults.Counts = HasCounts atlas
Keeps atlas faults.Link = HasLinks atlas
Keeps atlas faults.Shelves = HasShelves atlas (state_of atlas)
Keeps atlas faults.Runs = AllByRecursion (HasBuckets atlas) atlas.shelves
Keeps atlas faults.Neighbours = ends_idle (state_of atlas).shelves ≡ false
Keeps atlas faults.FreeList = Unit {0}
Keeps atlas faults.Sharing = IsShared atlas
Keeps atlas faults.Unused = AllByRecursion (λ bucket. live_of atlas.buckets bucket ≡ 0) (bucket_walk atlas.buckets atlas.unused).met
Keeps atlas faults.Space = atlas.allocated_space ≡ used_area atlas.buckets atlas.shelves
Keeps atlas faults.Memory = Unit {0}

-- the records keep each rule, and spell the state
pub record StandsFor (atlas : BucketRecords) (state : BucketedState) : Type 0 where
  pub spelled : state ≡ state_of atlas
  pub keeps : (fault : RestoreFault) → Keeps atlas fault
  pub generations : AllByRecursion (HasGenerations atlas) atlas.shelves
