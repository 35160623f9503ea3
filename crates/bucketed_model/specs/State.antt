-- The model of a bucketed atlas: shelves of buckets, as callers see it.
use Rattle.std.specs.Prelude.{ℕ, ◌+◌, ◌-◌, ◌*◌, Bool, List, [], ◌∷◌, ◌++◌, length, map, ◌==◌, if◌then◌else◌}
use Rattle.std.specs.List.{list_all}
use Rattle.etagere_base.specs.declared.frames.Frame.{Frame}
use Rattle.etagere_base.specs.Frames.{across_side}

-- most buckets that are in use at once
abbrev pub most_buckets : ℕ
most_buckets = 4095

-- most items that a bucket gives before it is empty again
abbrev pub most_given : ℕ
most_given = 4095

-- the generations of a bucket, after which they begin anew
abbrev pub generations : ℕ
generations = 256

-- an id counts what a bucket has given by this many
abbrev pub given_unit : ℕ
given_unit = 4096

-- an id counts the bucket's generation by this many
abbrev pub generation_unit : ℕ
generation_unit = 16777216

-- what names a bucket while it isn't emptied: its number, and how often it was emptied, modulo 256
pub record Tag : Type 0 where
  pub number : ℕ
  pub generation : ℕ

-- a part of a shelf, filled from its front: its place along, the width used, how many of its items
-- are live, and how many it has given since it was empty
pub record Bucket : Type 0 where
  pub place : ℕ
  pub used : ℕ
  pub live : ℕ
  pub given : ℕ
  pub tag : Tag

-- a strip across a column: its buckets, all equally wide, in the order of search
pub record BucketShelf : Type 0 where
  pub column : ℕ
  pub height : ℕ
  pub bucket_width : ℕ
  pub buckets : List Bucket

-- a bucketed atlas: its shelves column after column, in each by their place across
pub record BucketedState : Type 0 where
  pub frame : Frame
  pub shelves : List BucketShelf

-- a new bucketed atlas has no shelf
abbrev pub fresh : Frame → BucketedState
fresh frame = record { frame = frame; shelves = [] }

-- nothing of a bucket is live
abbrev pub is_idle_bucket : Bucket → Bool
is_idle_bucket bucket = bucket.live == 0

-- a shelf holds nothing live
abbrev pub is_idle : BucketShelf → Bool
is_idle shelf = list_all is_idle_bucket shelf.buckets

-- where a column begins along
abbrev pub column_place : Frame → ℕ → ℕ
column_place frame column = column * frame.column_width

-- the heights of the shelves of one column, added up
abbrev pub column_height : ℕ → List BucketShelf → ℕ
column_height column [] = 0
column_height column (shelf ∷ shelves) =
    (if shelf.column == column then shelf.height else 0) + column_height column shelves

-- the column of the last shelf, or this one where there is none
abbrev pub last_column : ℕ → List BucketShelf → ℕ
last_column column [] = column
last_column column (shelf ∷ shelves) = last_column shelf.column shelves

-- the column in which shelves are added: that of the last shelf, or the first
abbrev pub current_column : List BucketShelf → ℕ
current_column shelves = last_column 0 shelves

-- the height that the shelves of the current column leave
abbrev pub available_height : Frame → List BucketShelf → ℕ
available_height frame shelves = across_side frame - column_height (current_column shelves) shelves

-- how many buckets the shelves have
abbrev pub buckets_in_use : List BucketShelf → ℕ
buckets_in_use [] = 0
buckets_in_use (shelf ∷ shelves) = length shelf.buckets + buckets_in_use shelves

-- how many buckets can still be made
abbrev pub buckets_left : List BucketShelf → ℕ
buckets_left shelves = most_buckets - buckets_in_use shelves

-- the numbers of tags
abbrev pub tag_numbers : List Tag → List ℕ
tag_numbers tags = map (λ (tag : Tag). tag.number) tags

-- the numbers of the buckets of shelves
abbrev pub bucket_numbers : List BucketShelf → List ℕ
bucket_numbers [] = []
bucket_numbers (shelf ∷ shelves) =
    map (λ (bucket : Bucket). bucket.tag.number) shelf.buckets ++ bucket_numbers shelves

-- the shelf with other buckets
abbrev pub with_buckets : List Bucket → BucketShelf → BucketShelf
with_buckets buckets shelf =
    record {
      column = shelf.column;
      height = shelf.height;
      bucket_width = shelf.bucket_width;
      buckets = buckets;
    }

-- the shelf with another height
abbrev pub with_height : ℕ → BucketShelf → BucketShelf
with_height height shelf =
    record {
      column = shelf.column;
      height = height;
      bucket_width = shelf.bucket_width;
      buckets = shelf.buckets;
    }

-- a bucket changed where it has this number
abbrev pub changed_at : ℕ → (Bucket → Bucket) → Bucket → Bucket
changed_at number change bucket = if bucket.tag.number == number then change bucket else bucket

-- the shelf with its bucket of this number changed
abbrev pub changed_in : ℕ → (Bucket → Bucket) → BucketShelf → BucketShelf
changed_in number change shelf = with_buckets (map (changed_at number change) shelf.buckets) shelf

-- the shelves with the bucket of this number changed
abbrev pub changed_bucket : ℕ → (Bucket → Bucket) → List BucketShelf → List BucketShelf
changed_bucket number change shelves = map (changed_in number change) shelves
