-- What the steps of the private functions do to records.
use Rattle.std.specs.Prelude.{ℕ, zero, suc, ◌+◌, ◌-◌, ◌/◌, ◌%◌, ◌^◌, ◌≡◌, ◌<◌, ◌≤◌, max, Bool, true, Option, None, Some, option_map, IsSome, List, [], ◌∷◌, ◌++◌, length, take, drop, slice_get, ◌==◌, if◌then◌else◌}
use Rattle.std.specs.Option.{option_map_or}
use Rattle.std.specs.List.{AllByRecursion}
use Rattle.etagere_base.specs.declared.frames.Frame.{Frame}
use Rattle.etagere_base.specs.declared.ids.Allocation.{Allocation}
use Rattle.etagere_base.specs.declared.sides.Sides.{Sides}
use Rattle.etagere_base.specs.Frames.{across_side}
use Rattle.etagere_base.specs.Places.{rectangle_at}
use Rattle.etagere_links.specs.Links.{no_link}
use Rattle.etagere_links.specs.Edits.{changed_by}
use Rattle.bucketed_model.specs.Adding.{NewShelf, total_count, width_of_share}
use Rattle.bucketed_model.specs.Merging.{Group}
use Rattle.bucketed_model.specs.Taking.{id_of}
use Rattle.bucketed_model.specs.State.{column_place, generations, most_buckets, most_given}
pub use Rattle.bucketed_records.specs.declared.records.LinkedBucket.{LinkedBucket}
use Rattle.bucketed_records.specs.BucketRecords.{next_of}
pub use Rattle.bucketed_records.specs.declared.records.KeptShelf.{KeptShelf}
use Rattle.bucketed_records.specs.Private.Store.{Stored}
use Rattle.bucket_index.specs.declared.searching.FoundBucket.{FoundBucket}
use Rattle.bucket_index.specs.Private.Rest.{IsIn}
use Rattle.bucket_index.specs.Private.Searching.{widest_from}
use Rattle.bucket_index.specs.Private.Spans.{room_at}
use Rattle.bucketed_store.specs.Private.Placing.{Placement, InBucket, InAdded, InMerged, kept_height}
-- buckets to be made side by side: the number of their shelf, their width, and where the first one
-- begins
pub use Rattle.bucketed_store.specs.declared.making.NewBuckets.{NewBuckets}

-- bucket records, where the unused ones begin, and the first bucket of a shelf
pub record Made : Type 0 where
  pub buckets : List LinkedBucket
  pub unused : Option ℕ
  pub first : Option ℕ

-- the record of a bucket that has given nothing yet
abbrev pub new_record : NewBuckets → Option ℕ → ℕ → LinkedBucket
new_record new next generation =
    record {
      x = new.x;
      free_space = new.width;
      next = next;
      refcount = 0;
      item_count = 0;
      shelf = new.shelf;
      generation = generation;
    }

-- one more bucket in front of a shelf, in a new record
abbrev pub made_new : NewBuckets → Made → Made
made_new new made =
    record {
      buckets = made.buckets ++ new_record new made.first 0 ∷ [];
      unused = made.unused;
      first = Some (length made.buckets);
    }

-- one more bucket in front of a shelf, in an unused record, under its next generation
abbrev pub made_again : NewBuckets → Made → ℕ → LinkedBucket → Made
made_again new made number old =
    record {
      buckets =
          changed_by (Some number)
          (λ _. new_record new made.first ((old.generation + 1) % generations)) made.buckets;
      unused = old.next;
      first = Some number;
    }

-- one more bucket in front of a shelf: in the record that became unused last, or else in a new one
abbrev pub made_one : NewBuckets → Made → Made
made_one new made =
    option_map_or
    (λ number. option_map_or (made_again new made number) (slice_get made.buckets number)
    (made_new new made))
    made.unused (made_new new made)

-- the buckets to be made after the first one
abbrev pub after_first : NewBuckets → NewBuckets
after_first new = record new { x = new.x + new.width }

-- so many more buckets in front of a shelf, from left to right
abbrev pub made_many : ℕ → NewBuckets → Made → Made
made_many zero new made = made
made_many (suc count) new made = made_many count (after_first new) (made_one new made)

-- where the next shelf in the column at a place begins across
abbrev pub next_across : ℕ → List KeptShelf → ℕ
next_across x shelves =
    option_map_or
    (λ (last : KeptShelf). if last.shelf.x == x then last.shelf.y + last.shelf.height else 0)
    (slice_get shelves (length shelves - 1)) 0

-- a shelf made after others, with its buckets
abbrev pub stored_shelf : Frame → NewShelf → Stored → Stored
stored_shelf frame new stored =
    let width = width_of_share frame new.count in
    let x = column_place frame new.column in
    let buckets : NewBuckets = record { shelf = length stored.shelves; width = width; x = x } in
    let made =
    made_many new.count buckets
    (record { buckets = stored.buckets; unused = stored.unused; first = None }) in
    let kept : KeptShelf = record {
      shelf = record {
        x = x;
        y = next_across x stored.shelves;
        height = new.height;
        bucket_width = width;
        first_bucket = made.first;
      };
      live_items = 0;
      widest_room = width;
    } in
    record { shelves = stored.shelves ++ kept ∷ []; buckets = made.buckets; unused = made.unused }

-- shelves made one after another
abbrev pub stored_shelves : Frame → List NewShelf → Stored → Stored
stored_shelves frame [] stored = stored
stored_shelves frame (new ∷ news) stored = stored_shelves frame news (stored_shelf frame new stored)

-- a shelf with another height
abbrev pub to_height : ℕ → KeptShelf → KeptShelf
to_height height kept = record kept { shelf = record kept.shelf { height = height } }

-- a shelf that gave its height to one before it, and begins where that ends
abbrev pub flattened : ℕ → KeptShelf → KeptShelf
flattened across kept = record kept { shelf = record kept.shelf { y = across; height = 0 } }

-- where the shelf of a number begins across
abbrev pub across_of : List KeptShelf → ℕ → ℕ
across_of shelves number =
    option_map_or (λ (kept : KeptShelf). kept.shelf.y) (slice_get shelves number) 0

-- the height of neighbouring shelves together
abbrev pub group_height : Group → List KeptShelf → ℕ
group_height group shelves = kept_height (take (suc group.others) (drop group.first shelves))

-- the first of neighbouring shelves takes the heights of the others, which stay with none behind it
abbrev pub kept_merged : Group → List KeptShelf → List KeptShelf
kept_merged group shelves =
    let height = group_height group shelves in
    let across = across_of shelves group.first + height in
    let risen = changed_by (Some group.first) (to_height height) shelves in
    let next = changed_by (Some (group.first + 1)) (flattened across) risen in
    if group.others == 2 then changed_by (Some (group.first + 2)) (flattened across) next else next

-- neighbouring shelves stand in a list, one or two with the first, and end within 16 bits
pub record IsGroupIn (group : Group) (shelves : List KeptShelf) : Type 0 where
  pub some : 1 ≤ group.others
  pub few : group.others ≤ 2
  pub within : group.first + group.others < length shelves
  pub short : across_of shelves group.first + group_height group shelves < 2 ^ 16

-- a record of a bucket after it gave an item this wide
abbrev pub taken_record : ℕ → LinkedBucket → LinkedBucket
taken_record width bucket =
    record bucket {
      free_space = bucket.free_space - width;
      refcount = bucket.refcount + 1;
      item_count = bucket.item_count + 1;
    }

-- a shelf after it gave an item, with this greatest width that a bucket can give now
abbrev pub given_from : ℕ → KeptShelf → KeptShelf
given_from room kept = record kept { live_items = kept.live_items + 1; widest_room = room }

-- the first bucket of the shelf of a number
abbrev pub first_bucket_of : List KeptShelf → ℕ → Option ℕ
first_bucket_of shelves number =
    option_map_or (λ (kept : KeptShelf). kept.shelf.first_bucket) (slice_get shelves number) None

-- how tall the shelf of a number is
abbrev pub height_of : List KeptShelf → ℕ → ℕ
height_of shelves number =
    option_map_or (λ (kept : KeptShelf). kept.shelf.height) (slice_get shelves number) 0

-- how many items of the shelf of a number are live
abbrev pub live_items_of : List KeptShelf → ℕ → ℕ
live_items_of shelves number =
    option_map_or (λ (kept : KeptShelf). kept.live_items) (slice_get shelves number) 0

-- the shelves after one of these buckets gave an item, which lies in the shelf of this number
abbrev pub shelves_given : ℕ → List KeptShelf → List LinkedBucket → List KeptShelf
shelves_given shelf shelves buckets =
    changed_by (Some shelf)
    (given_from (widest_from most_buckets buckets (first_bucket_of shelves shelf))) shelves

-- the greatest width that a bucket of the shelf of a number can give, as it is kept
abbrev pub widest_of : List KeptShelf → ℕ → ℕ
widest_of shelves number =
    option_map_or (λ (kept : KeptShelf). kept.widest_room) (slice_get shelves number) 0

-- what is kept of a shelf is the greatest width that one of its buckets can give
abbrev pub KnowsWidest : ℕ → List KeptShelf → List LinkedBucket → Type 0
KnowsWidest shelf shelves buckets =
    widest_from most_buckets buckets (first_bucket_of shelves shelf) ≡ widest_of shelves shelf

-- the buckets of a shelf can give as much as this one
abbrev pub GivesAsMuch : ℕ → ℕ → List KeptShelf → List LinkedBucket → Type 0
GivesAsMuch shelf bucket shelves buckets =
    room_at buckets bucket ≤ widest_from most_buckets buckets (first_bucket_of shelves shelf)

-- a bucket stands in the row of a shelf
abbrev pub IsInRow : ℕ → ℕ → List KeptShelf → List LinkedBucket → Type 0
IsInRow shelf bucket shelves buckets = IsIn buckets (first_bucket_of shelves shelf) bucket

-- what is kept of a shelf is no less than its buckets can give, and just that if the one that gave
-- last had less room than this before; that one and the buckets behind it are some of the shelf's
pub record IsWidestKept (shelf bucket room : ℕ) (shelves : List KeptShelf)
    (buckets : List LinkedBucket) : Type 0 where
  pub most : widest_from most_buckets buckets (first_bucket_of shelves shelf)
      ≤ widest_of shelves shelf
  pub exact : room < widest_of shelves shelf → KnowsWidest shelf shelves buckets
  pub one : GivesAsMuch shelf bucket shelves buckets
  pub behind : widest_from most_buckets buckets (next_of buckets bucket)
      ≤ widest_from most_buckets buckets (first_bucket_of shelves shelf)

-- where it is true, the widest room that is kept of a shelf is that of one of its buckets
abbrev pub KeepsWidest : ℕ → Bool → List KeptShelf → List LinkedBucket → Type 0
KeepsWidest shelf keeps shelves buckets =
    keeps ≡ true → KnowsWidest shelf shelves buckets

-- a bucket of a shelf gave an item this wide
abbrev pub stored_taken : ℕ → ℕ → ℕ → Stored → Stored
stored_taken shelf bucket width stored =
    record {
      shelves =
          shelves_given shelf stored.shelves
          (changed_by (Some bucket) (taken_record width) stored.buckets);
      buckets = changed_by (Some bucket) (taken_record width) stored.buckets;
      unused = stored.unused;
    }

-- what a new shelf is that can be made: in one of the columns, no taller than the atlas, with a
-- bucket
pub record IsNewShelf (frame : Frame) (new : NewShelf) : Type 0 where
  pub column : new.column < frame.columns
  pub height : new.height ≤ across_side frame
  pub count : 1 ≤ new.count

-- the bucket of a number can give an item this wide
pub record CanTake (number width : ℕ) (buckets : List LinkedBucket) : Type 0 where
  pub bucket : LinkedBucket
  pub here : slice_get buckets number ≡ Some bucket
  pub narrow : width < 2 ^ 16
  pub free : width ≤ bucket.free_space
  pub given : bucket.item_count < most_given
  pub live : bucket.refcount ≤ bucket.item_count

-- what is kept of a shelf is what its buckets can give, of which some are one that gives an item this
-- wide, and those behind it
pub record IsWidest (shelf bucket width : ℕ) (stored : Stored) : Type 0 where
  pub exact : KnowsWidest shelf stored.shelves stored.buckets
  pub one : GivesAsMuch shelf bucket stored.shelves
      (changed_by (Some bucket) (taken_record width) stored.buckets)
  pub behind : widest_from most_buckets
      (changed_by (Some bucket) (taken_record width) stored.buckets)
      (next_of stored.buckets bucket)
      ≤ widest_from most_buckets
      (changed_by (Some bucket) (taken_record width) stored.buckets)
      (first_bucket_of stored.shelves shelf)

-- the first bucket of the shelf of a number
abbrev pub found_first : ℕ → List KeptShelf → Option FoundBucket
found_first number shelves =
    option_map (λ bucket. record { shelf = number; bucket = bucket })
    (first_bucket_of shelves number)

-- records made ready for a placement
abbrev pub stored_ready : Frame → Placement → Stored → Stored
stored_ready frame (InBucket found) stored = stored
stored_ready frame (InAdded news) stored = stored_shelves frame news stored
stored_ready frame (InMerged group) stored =
    record stored { shelves = kept_merged group stored.shelves }

-- the bucket of a placement in records that were made ready for it
abbrev pub found_of : Placement → Stored → Option FoundBucket
found_of (InBucket found) stored = Some found
found_of (InAdded news) stored = found_first (length stored.shelves - 1) stored.shelves
found_of (InMerged group) stored = found_first group.first stored.shelves

-- the last shelf ends at this place across, or before it
abbrev pub EndsBy : ℕ → List KeptShelf → Type 0
EndsBy end shelves =
    (last : KeptShelf) → slice_get shelves (length shelves - 1) ≡ Some last
    → last.shelf.y + last.shelf.height ≤ end

-- the last shelf ends within the atlas
abbrev pub IsShort : Frame → List KeptShelf → Type 0
IsShort frame shelves = EndsBy (across_side frame) shelves

-- before each of these shelves is made the last one ends within the atlas
abbrev pub StayShort : Frame → List NewShelf → Stored → Type 0
StayShort frame [] stored = Unit {0}
StayShort frame (new ∷ news) stored =
    IsShort frame stored.shelves × StayShort frame news (stored_shelf frame new stored)

-- new shelves can be made with the records that there are, where so many buckets are in use: unused
-- ones are used before new ones are made
pub record CanStore (frame : Frame) (news : List NewShelf) (in_use : ℕ) (stored : Stored)
    : Type 0 where
  pub each : AllByRecursion (IsNewShelf frame) news
  pub shelves : length stored.shelves + 2 ≤ no_link
  pub short : StayShort frame news stored
  pub used : in_use ≤ length stored.buckets
  pub buckets : length stored.buckets + total_count news ≤ no_link
  pub records : length (stored_shelves frame news stored).buckets
      ≡ max (length stored.buckets) (in_use + total_count news)

-- the shelf of a number has a first bucket
pub record HasFirst (number : ℕ) (shelves : List KeptShelf) : Type 0 where
  pub within : number < length shelves
  pub some : IsSome (first_bucket_of shelves number)

-- records can be made ready for a placement
abbrev pub CanPrepare : Frame → Placement → ℕ → Stored → Type 0
CanPrepare frame (InBucket found) in_use stored = Unit {0}
CanPrepare frame (InAdded news) in_use stored =
    CanStore frame news in_use stored
    × HasFirst (length (stored_shelves frame news stored).shelves - 1)
    (stored_shelves frame news stored).shelves
CanPrepare frame (InMerged group) in_use stored =
    IsGroupIn group stored.shelves × HasFirst group.first (kept_merged group stored.shelves)

-- what a bucket of a shelf gives next, that wide
abbrev pub kept_allocation : Frame → ℕ → FoundBucket → KeptShelf → LinkedBucket → Allocation
kept_allocation frame width found kept bucket =
    record {
      id = id_of (record { number = found.bucket; generation = bucket.generation })
          (bucket.item_count + 1);
      rectangle = rectangle_at frame (bucket.x + (kept.shelf.bucket_width - bucket.free_space))
          kept.shelf.y width kept.shelf.height;
    }

-- how many buckets have to be made for a placement
abbrev pub needed_for : Placement → ℕ
needed_for (InBucket found) = 0
needed_for (InAdded news) = total_count news
needed_for (InMerged group) = 0

-- where the current column is, and what height it leaves, by the last shelf
abbrev pub end_of : Frame → List KeptShelf → Sides
end_of frame shelves =
    option_map_or
    (λ (last : KeptShelf). record {
      along = last.shelf.x / frame.column_width;
      across = across_side frame - (last.shelf.y + last.shelf.height);
    })
    (slice_get shelves (length shelves - 1)) (record { along = 0; across = across_side frame })

-- a placement is in a bucket that is there
abbrev pub IsThere : Placement → Type 0
IsThere (InBucket found) = Unit {0}
IsThere (InAdded news) = ⊥
IsThere (InMerged group) = ⊥

-- a placement is in shelves that have to be added
abbrev pub IsAdding : Placement → Type 0
IsAdding (InBucket found) = ⊥
IsAdding (InAdded news) = Unit {0}
IsAdding (InMerged group) = ⊥

-- a bucket of a shelf can give an item this wide, which lies within the atlas
pub record CanGiveFrom (width : ℕ) (found : FoundBucket) (kept : KeptShelf) (bucket : LinkedBucket)
    : Type 0 where
  pub number : found.bucket < most_buckets
  pub given : bucket.item_count < most_given
  pub free : bucket.free_space ≤ kept.shelf.bucket_width
  pub right : bucket.x + (kept.shelf.bucket_width - bucket.free_space) + width < 2 ^ 31
  pub bottom : kept.shelf.y + kept.shelf.height < 2 ^ 31

-- a bucket that was found can give an item this wide
pub record CanGive (frame : Frame) (width : ℕ) (found : FoundBucket) (stored : Stored) : Type 0 where
  pub kept : KeptShelf
  pub shelf : slice_get stored.shelves found.shelf ≡ Some kept
  pub bucket : LinkedBucket
  pub here : slice_get stored.buckets found.bucket ≡ Some bucket
  pub can : CanGiveFrom width found kept bucket
