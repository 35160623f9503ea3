-- A ledger of what callers have, tied to the buckets that hold it.
use Rattle.std.specs.Prelude.{◌≡◌, ℕ, ◌+◌, ◌<◌, ◌≤◌, ◌≤ℤ◌, ◌⊎◌, List, [], ◌∷◌, ◌++◌, if◌then◌else◌}
use Rattle.std.specs.List.{AllByRecursion}
use Rattle.etagere_base.specs.declared.frames.Frame.{Frame}
use Rattle.etagere_base.specs.declared.ids.Allocation.{Allocation}
use Rattle.etagere_base.specs.Rectangles.{place_along}
use Rattle.etagere_base.specs.Places.{rectangle_at}
use Rattle.bucketed_model.specs.Returning.{given_of, is_same_tag, tag_of}
use Rattle.bucketed_model.specs.State.{Bucket, BucketShelf, BucketedState, Tag, column_height, is_idle_bucket}
use Rattle.bucketed_model.specs.Valid.{IsValid}

-- a bucket that holds something live: where its shelf lies across, and how tall that is
pub record BusyBucket : Type 0 where
  pub bucket : Bucket
  pub across : ℕ
  pub height : ℕ

-- the buckets that hold something live, of a shelf that lies here across and is this tall
abbrev pub busy_along : ℕ → ℕ → List Bucket → List BusyBucket
busy_along across height [] = []
busy_along across height (bucket ∷ buckets) =
    if is_idle_bucket bucket then busy_along across height buckets
    else record { bucket = bucket; across = across; height = height }
    ∷ busy_along across height buckets

-- the buckets that hold something live, of shelves that stand after others
abbrev pub busy_after : List BucketShelf → List BucketShelf → List BusyBucket
busy_after before [] = []
busy_after before (shelf ∷ shelves) =
    busy_along (column_height shelf.column before) shelf.height shelf.buckets
    ++ busy_after (before ++ shelf ∷ []) shelves

-- the buckets that hold something live
abbrev pub busy_buckets : List BucketShelf → List BusyBucket
busy_buckets shelves = busy_after [] shelves

-- how many items are live in the buckets of a tag
abbrev pub live_of : Tag → List BusyBucket → ℕ
live_of tag [] = 0
live_of tag (busy ∷ others) =
    (if is_same_tag tag busy.bucket.tag then busy.bucket.live else 0) + live_of tag others

-- how many entries name a tag
abbrev pub entries_of : Tag → List Allocation → ℕ
entries_of tag [] = 0
entries_of tag (entry ∷ entries) =
    (if is_same_tag tag (tag_of entry.id) then 1 else 0) + entries_of tag entries

-- an element is one of a list
abbrev pub StandsIn : {X : Type 0} → X → List X → Type 0
StandsIn x [] = ⊥
StandsIn x (y ∷ ys) = (y ≡ x) ⊎ StandsIn x ys

-- an entry is an item that a bucket gave: it lies in what the bucket has used, as tall as its shelf
pub record LiesInBucket (frame : Frame) (busy : BusyBucket) (entry : Allocation) : Type 0 where
  pub along : ℕ
  pub width : ℕ
  pub tag : tag_of entry.id ≡ busy.bucket.tag
  pub given : (1 ≤ given_of entry.id) × (given_of entry.id ≤ busy.bucket.given)
  pub rectangle : entry.rectangle ≡ rectangle_at frame along busy.across width busy.height
  pub wide : 1 ≤ width
  pub begins : busy.bucket.place ≤ along
  pub ends : along + width ≤ busy.bucket.place + busy.bucket.used

-- an entry lies in one of the busy buckets
pub record IsInABucket (frame : Frame) (busy : List BusyBucket) (entry : Allocation) : Type 0 where
  pub bucket : BusyBucket
  pub stands : StandsIn bucket busy
  pub lies : LiesInBucket frame bucket entry

-- of two entries of one bucket the later one was given later, and lies behind the earlier one
pub record Precedes (frame : Frame) (entry later : Allocation) : Type 0 where
  pub given : given_of entry.id < given_of later.id
  pub place : place_along frame.vertical entry.rectangle.max
      ≤ℤ place_along frame.vertical later.rectangle.min

-- the entries of each bucket stand in the order in which they were given
abbrev pub AreInOrder : Frame → List Allocation → Type 0
AreInOrder frame [] = Unit {0}
AreInOrder frame (entry ∷ entries) =
    AllByRecursion (λ (later : Allocation). tag_of entry.id ≡ tag_of later.id → Precedes frame entry later)
    entries
    × AreInOrder frame entries

-- the entries of a ledger are what the busy buckets of shelves hold: as many for each tag as are
-- live, each in its bucket, in the order in which they were given
pub record AreInBuckets (frame : Frame) (busy : List BusyBucket) (entries : List Allocation)
    : Type 0 where
  pub counted : (tag : Tag) → entries_of tag entries ≡ live_of tag busy
  pub placed : AllByRecursion (IsInABucket frame busy) entries
  pub ordered : AreInOrder frame entries

-- a ledger and a state go together: the state is valid, and its buckets hold what the ledger has
pub record AreTied (entries : List Allocation) (state : BucketedState) : Type 0 where
  pub valid : IsValid state
  pub in_buckets : AreInBuckets state.frame (busy_buckets state.shelves) entries
