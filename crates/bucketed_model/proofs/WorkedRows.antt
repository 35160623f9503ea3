-- The definitions alone, with no program, give the answers of worked examples.
use Rattle.std.specs.Prelude.{◌≡◌, ℕ, zero, suc, ◌+◌, ◌-◌, ◌*◌, Bool, true, false, pos, Option, None, Some, List, [], ◌∷◌, ◌++◌, refl, option_map, map, replicate}
use Rattle.std.specs.Option.{option_map_or}
use Rattle.etagere_base.specs.declared.drawing.Colour.{Colour}
use Rattle.etagere_base.specs.declared.drawing.Colour.TheVariants.{Background, Allocated, Free}
use Rattle.etagere_base.specs.declared.drawing.Drawn.{Drawn}
use Rattle.etagere_base.specs.declared.geometry.Rectangle.{Rectangle}
use Rattle.etagere_base.specs.declared.geometry.Size.{Size}
use Rattle.etagere_base.specs.declared.ids.Allocation.{Allocation}
use Rattle.etagere_base.specs.declared.options.AllocatorOptions.{AllocatorOptions}
use Rattle.bucketed_model.specs.Adding.{NewShelf}
use Rattle.bucketed_model.specs.declared.faults.GrowFault.TheVariants as faults
use Rattle.bucketed_model.specs.Frames.{bucketed_frame}
use Rattle.bucketed_model.specs.Growing.{grown, grow_counts, grow_fault}
use Rattle.bucketed_model.specs.Placing.{Destination, BucketPlacement, InBucket, InAdded, InMerged, placement_of}
use Rattle.bucketed_model.specs.Returning.{bucket_returned, is_known}
use Rattle.bucketed_model.specs.State.{BucketShelf, BucketedState, Tag, buckets_in_use, fresh}
use Rattle.bucketed_model.specs.Svg.{picture}
use Rattle.bucketed_model.specs.Taking.{bucket_taken, given}

abbrev pub size : ℕ → ℕ → Size
size width height = record { width = pos width; height = pos height }

abbrev rectangle : ℕ → ℕ → ℕ → ℕ → Rectangle
rectangle x0 y0 x1 y1 = record { min = record { x = pos x0; y = pos y0 }; max = record { x = pos x1; y = pos y1 } }

abbrev pub options : ℕ → ℕ → Bool → ℕ → AllocatorOptions
options width height vertical columns =
    record { alignment = size width height; vertical_shelves = vertical; num_columns = pos columns }

abbrev pub new_atlas : Size → AllocatorOptions → BucketedState
new_atlas size options = fresh (bucketed_frame size options)

abbrev pub plain_atlas : ℕ → ℕ → BucketedState
plain_atlas width height = new_atlas (size width height) (options 1 1 false 1)

-- so many new tags, the last made first, with numbers from one on
abbrev tags_from : ℕ → ℕ → List Tag
tags_from number zero = []
tags_from number (suc n) = record { number = number + n; generation = 0 } ∷ tags_from number n

-- new tags for shelves that get so many buckets each
abbrev tags_by : ℕ → List ℕ → List Tag
tags_by number [] = []
tags_by number (count ∷ counts) = tags_from number count ++ tags_by (number + count) counts

-- a call: a size asked for, with new tags where buckets are made; one with these tags; a return; a grow
pub data Call : Type 0 where
  Ask : (width height : ℕ) → Call
  AskWith : (width height : ℕ) (tags : List Tag) → Call
  Return : (id : ℕ) → Call
  Grow : (width height : ℕ) → Call

abbrev taken_or : BucketedState → List Tag → Option BucketPlacement → BucketedState
taken_or state tags None = state
taken_or state tags (Some placement) = bucket_taken state placement tags

abbrev given_or : BucketedState → List Tag → Option BucketPlacement → Option Allocation
given_or state tags None = None
given_or state tags (Some placement) = given state placement tags

-- how many buckets each shelf gets that a placement adds
abbrev counts_of : Option BucketPlacement → List ℕ
counts_of None = []
counts_of (Some placement) = counts_for placement.destination
  where
    counts_for : Destination → List ℕ
    counts_for (InBucket spot) = []
    counts_for (InAdded news) = map (λ (new : NewShelf). new.count) news
    counts_for (InMerged group) = []

abbrev new_tags : BucketedState → Size → List Tag
new_tags state size = tags_by (buckets_in_use state.shelves) (counts_of (placement_of state size))

abbrev grown_tags : BucketedState → Size → List Tag
grown_tags state size =
    tags_by (buckets_in_use state.shelves) (grow_counts state.frame size state.shelves)

abbrev after_call : BucketedState → Call → BucketedState
after_call state (Ask width height) =
    taken_or state (new_tags state (size width height)) (placement_of state (size width height))
after_call state (AskWith width height tags) = taken_or state tags (placement_of state (size width height))
after_call state (Return id) = bucket_returned state id
after_call state (Grow width height) = grown state (size width height) (grown_tags state (size width height))

-- what a call gives
abbrev answer : BucketedState → Call → Option Allocation
answer state (Ask width height) =
    given_or state (new_tags state (size width height)) (placement_of state (size width height))
answer state (AskWith width height tags) = given_or state tags (placement_of state (size width height))
answer state call = None

abbrev pub after : BucketedState → List Call → BucketedState
after state [] = state
after state (call ∷ calls) = after (after_call state call) calls

abbrev answers : BucketedState → List Call → List (Option Allocation)
answers state [] = []
answers state (call ∷ calls) = answer state call ∷ answers (after_call state call) calls

abbrev placed : ℕ → ℕ → ℕ → ℕ → ℕ → Option Allocation
placed id x0 y0 x1 y1 = Some (record { id = id; rectangle = rectangle x0 y0 x1 y1 })

-- the same call so many times
abbrev pub times_of : ℕ → Call → List Call
times_of n call = replicate n call

-- a rectangle without its id
abbrev corners : Option Allocation → Option Rectangle
corners answer = option_map (λ allocation. allocation.rectangle) answer

abbrev at : ℕ → ℕ → ℕ → ℕ → Option Rectangle
at x0 y0 x1 y1 = Some (rectangle x0 y0 x1 y1)

abbrev rectangles : BucketedState → List Call → List (Option Rectangle)
rectangles state calls = map corners (answers state calls)

-- a bucket is filled before a shelf is added, and no wider than it is free
pub buckets_before_shelves : answers (plain_atlas 32 64) (Ask 20 16 ∷ Ask 24 16 ∷ Ask 8 16 ∷ []) ≡ placed 4096 0 0 20 16 ∷ placed 4097 0 16 24 32 ∷ placed 8193 24 16 32 32 ∷ []
buckets_before_shelves = refl

-- the whole atlas is given once
pub whole_atlas : answers (plain_atlas 1000 1000) (Ask 1000 1000 ∷ Ask 1 1 ∷ []) ≡ placed 4096 0 0 1000 1000 ∷ None ∷ []
whole_atlas = refl

-- vertical shelves, and an alignment across them
pub vertical_shelves : rectangles (new_atlas (size 256 64) (options 1 1 true 1)) (Ask 100 50 ∷ []) ≡ at 0 0 112 50 ∷ []
vertical_shelves = refl

pub vertical_alignment : rectangles (new_atlas (size 256 64) (options 50 1 true 1)) (Ask 50 60 ∷ []) ≡ at 0 0 64 60 ∷ []
vertical_alignment = refl

-- a filler closes a column, and is used when it fits
pub filled_columns : rectangles (new_atlas (size 64 64) (options 1 1 false 2)) (Ask 24 46 ∷ Ask 24 32 ∷ Ask 24 32 ∷ Ask 24 8 ∷ []) ≡ at 0 0 24 48 ∷ at 32 0 56 32 ∷ at 32 32 56 64 ∷ at 0 48 24 64 ∷ []
filled_columns = refl

-- the number of buckets goes by how many shelf heights a column is wide: 32, 33 and 64 here
pub counts_of_buckets-at_32 : rectangles (plain_atlas 256 8) (Ask 1 8 ∷ []) ≡ at 192 0 193 8 ∷ []
counts_of_buckets-at_32 = refl

pub counts_of_buckets-at_33 : rectangles (plain_atlas 264 8) (Ask 1 8 ∷ []) ≡ at 0 0 1 8 ∷ []
counts_of_buckets-at_33 = refl

pub counts_of_buckets-at_64 : rectangles (plain_atlas 512 8) (Ask 1 8 ∷ []) ≡ at 384 0 385 8 ∷ []
counts_of_buckets-at_64 = refl

-- a bucket keeps its used width while something in it lives, and ids that were never given are unknown
abbrev one_of_two : BucketedState
one_of_two = after (plain_atlas 32 8) (Ask 8 8 ∷ Ask 8 8 ∷ Return 4096 ∷ [])

pub used_width_stays : answers (plain_atlas 32 8) (Ask 8 8 ∷ Ask 8 8 ∷ Return 4096 ∷ Ask 8 8 ∷ []) ≡ placed 4096 0 0 8 8 ∷ placed 8192 8 0 16 8 ∷ None ∷ placed 12288 16 0 24 8 ∷ []
used_width_stays = refl

pub unknown_ids : map (is_known one_of_two) (8192 ∷ 0 ∷ 12288 ∷ 8193 ∷ 16785408 ∷ []) ≡ true ∷ false ∷ false ∷ false ∷ false ∷ []
unknown_ids = refl

-- the first fault of a grow
pub grow_faults : map (grow_fault (plain_atlas 32 32).frame) (size 70000 40 ∷ size 31 40 ∷ size 65534 65534 ∷ size 33 40 ∷ []) ≡ Some faults.Size ∷ Some faults.Smaller ∷ Some faults.Area ∷ None ∷ []
grow_faults = refl

-- an atlas grows to take what was refused
pub grow_to_fit : rectangles (plain_atlas 32 32) (Ask 32 32 ∷ Ask 256 256 ∷ Grow 256 288 ∷ Ask 32 32 ∷ Ask 256 256 ∷ []) ≡ at 0 0 32 32 ∷ None ∷ None ∷ at 224 0 256 32 ∷ at 0 32 256 288 ∷ []
grow_to_fit = refl

-- columns are those asked for until the atlas grows, be it to the same size
pub columns_until_grow : rectangles (new_atlas (size 7 8) (options 1 1 false 4)) (times_of 5 (Ask 1 8) ++ Grow 7 8 ∷ times_of 4 (Ask 1 8)) ≡ at 0 0 1 8 ∷ at 1 0 2 8 ∷ at 2 0 3 8 ∷ at 3 0 4 8 ∷ None ∷ None ∷ at 4 0 5 8 ∷ at 5 0 6 8 ∷ at 6 0 7 8 ∷ None ∷ []
columns_until_grow = refl

-- shelves at the end are dropped one after another, and tags can be given again
pub dropped_shelves : answers (plain_atlas 64 32) (Ask 64 8 ∷ Ask 64 8 ∷ Return 4096 ∷ AskWith 64 16 (record { number = 2; generation = 0 } ∷ []) ∷ Return 4097 ∷ Return 4098 ∷ AskWith 64 32 (record { number = 0; generation = 2 } ∷ []) ∷ []) ≡ placed 4096 0 0 64 8 ∷ placed 4097 0 8 64 16 ∷ None ∷ placed 4098 0 16 64 32 ∷ None ∷ None ∷ placed 33558528 0 0 64 32 ∷ []
dropped_shelves = refl

pub dropped_shelves-all : (after (plain_atlas 64 32) (Ask 64 8 ∷ Ask 64 8 ∷ Return 4096 ∷ AskWith 64 16 (record { number = 2; generation = 0 } ∷ []) ∷ Return 4097 ∷ Return 4098 ∷ [])).shelves ≡ []
dropped_shelves-all = refl

-- three shelves are merged, and stay so
pub merged_shelves_stay : answers (plain_atlas 64 32) (times_of 4 (Ask 64 8) ++ Return 4096 ∷ Return 4097 ∷ Return 4098 ∷ Ask 64 24 ∷ Ask 64 8 ∷ Return 16781312 ∷ Ask 64 24 ∷ []) ≡ placed 4096 0 0 64 8 ∷ placed 4097 0 8 64 16 ∷ placed 4098 0 16 64 24 ∷ placed 4099 0 24 64 32 ∷ None ∷ None ∷ None ∷ placed 16781312 0 0 64 24 ∷ None ∷ None ∷ placed 33558528 0 0 64 24 ∷ []
merged_shelves_stay = refl

-- so many items of a bucket, the first of them this one
abbrev items_of : ℕ → ℕ → ℕ → List Call
items_of bucket first zero = []
items_of bucket first (suc n) = Return (bucket + 4096 * first) ∷ items_of bucket (suc first) n

-- 56 squares in 14 buckets of 7 shelves, of which the first, the third and the fourth are emptied
abbrev squares : List Call
squares =
    times_of 56 (Ask 32 32) ++ items_of 1 1 4 ++ items_of 0 1 4 ++ items_of 5 1 4 ++ items_of 4 1 4 ++ items_of 7 1 4
    ++ items_of 6 1 4

abbrev emptied_shelves : BucketedState
emptied_shelves = after (plain_atlas 256 256) squares

pub neighbours_are_merged-first : answers (plain_atlas 256 256) (Ask 32 32 ∷ []) ≡ placed 4097 128 0 160 32 ∷ []
neighbours_are_merged-first = refl

pub neighbours_are_merged : rectangles emptied_shelves (Ask 70 70 ∷ Ask 64 64 ∷ []) ≡ None ∷ at 128 64 192 128 ∷ []
neighbours_are_merged = refl

pub grow_across : rectangles emptied_shelves (Grow 256 294 ∷ Ask 70 70 ∷ []) ≡ None ∷ at 0 224 70 294 ∷ []
grow_across = refl

pub grow_along : rectangles emptied_shelves (Ask 512 32 ∷ Grow 512 256 ∷ Ask 512 32 ∷ []) ≡ None ∷ None ∷ at 0 224 512 256 ∷ []
grow_along = refl

-- 5000 rounds of one item and its return: each starts the bucket anew, under the next generation
abbrev worn : ℕ → BucketedState → BucketedState
worn zero state = state
worn (suc n) state = worn n (bucket_returned (after_call state (Ask 16 8)) (id_given_now state))
  where
    id_given_now : BucketedState → ℕ
    id_given_now state = option_map_or (λ allocation. allocation.id) (answer state (Ask 16 8)) 0

abbrev one_in_buckets : BucketedState
one_in_buckets = after (plain_atlas 16 16) (Ask 16 8 ∷ Ask 16 8 ∷ Return 4096 ∷ [])

pub emptied_buckets_start_anew-two : answers (plain_atlas 16 16) (Ask 16 8 ∷ Ask 16 8 ∷ []) ≡ placed 4096 0 0 16 8 ∷ placed 4097 0 8 16 16 ∷ []
emptied_buckets_start_anew-two = refl

pub emptied_buckets_start_anew-first : answer one_in_buckets (Ask 16 8) ≡ placed 16781312 0 0 16 8
emptied_buckets_start_anew-first = refl

pub emptied_buckets_start_anew-last : answer (worn 4999 one_in_buckets) (Ask 16 8) ≡ placed 2281705472 0 0 16 8
emptied_buckets_start_anew-last = refl

-- a shelf of one bucket, one wide, that has given so many items
abbrev pub narrow_shelf : ℕ → ℕ → ℕ → ℕ → BucketShelf
narrow_shelf column height number items =
    record {
      column = column;
      height = height;
      bucket_width = 1;
      buckets = record {
        place = column;
        used = items;
        live = items;
        given = items;
        tag = record { number = number; generation = 0 };
      } ∷ [];
    }

abbrev pub many_columns : ℕ → List BucketShelf → BucketedState
many_columns height shelves = record { frame = (new_atlas (size 5000 height) (options 1 1 false 5000)).frame; shelves = shelves }

-- so many columns, this one first, each full with one item
abbrev full_columns : ℕ → ℕ → List BucketShelf
full_columns column zero = []
full_columns column (suc n) = narrow_shelf column 8 column 1 ∷ full_columns (suc column) n

pub dropped_buckets_are_free-shape : after (many_columns 8 []) (times_of 20 (Ask 1 8)) ≡ many_columns 8 (full_columns 0 20)
dropped_buckets_are_free-shape = refl

-- with 4095 buckets in use a size is refused, until the last shelf is dropped
pub dropped_buckets_are_free : answers (many_columns 8 (full_columns 0 4095)) (Ask 1 8 ∷ Return 8190 ∷ AskWith 1 8 (record { number = 4094; generation = 1 } ∷ []) ∷ []) ≡ None ∷ None ∷ placed 16785406 4094 0 4095 8 ∷ []
dropped_buckets_are_free = refl

-- so many columns after the first, this one first, each with one item, and a filler in all but the last
abbrev filled_from : ℕ → ℕ → List BucketShelf
filled_from column zero = []
filled_from column (suc n) = narrow_shelf column 8 (2 * column - 1) 1 ∷ filled_before column (filled_from (suc column) n)
  where
    filled_before : ℕ → List BucketShelf → List BucketShelf
    filled_before column [] = []
    filled_before column (shelf ∷ shelves) = narrow_shelf column 1 (2 * column) 0 ∷ shelf ∷ shelves

abbrev filled_shelves : ℕ → List BucketShelf
filled_shelves n = narrow_shelf 0 9 0 1 ∷ filled_from 1 n

pub a_filler_leaves_a_bucket-shape : after (many_columns 9 []) (Ask 1 9 ∷ times_of 20 (Ask 1 8)) ≡ many_columns 9 (filled_shelves 20)
a_filler_leaves_a_bucket-shape = refl

pub a_filler_leaves_a_bucket-first : rectangles (many_columns 9 []) (Ask 1 9 ∷ times_of 3 (Ask 1 8)) ≡ at 0 0 1 9 ∷ at 1 0 2 8 ∷ at 2 0 3 8 ∷ at 3 0 4 8 ∷ []
a_filler_leaves_a_bucket-first = refl

-- where one bucket is left and a filler is needed, the size is refused; the filler of the first column still serves
pub a_filler_leaves_a_bucket : rectangles (many_columns 9 (filled_shelves 2046)) (Ask 1 8 ∷ Ask 1 8 ∷ Ask 1 1 ∷ []) ≡ at 2047 0 2048 8 ∷ None ∷ at 1 8 2 9 ∷ []
a_filler_leaves_a_bucket = refl

-- what pictures show: the whole atlas, and then of each bucket what is used and what is free
abbrev drawn : Colour → ℕ → ℕ → ℕ → ℕ → Drawn
drawn colour x y width height = record { colour = colour; x = x; y = y; width = width; height = height }

pub picture_of_a_bucket : picture (after (plain_atlas 16 16) (Ask 10 8 ∷ []))
    ≡ drawn Background 0 0 16 16 ∷ drawn Allocated 0 0 10 8 ∷ drawn Free 10 0 6 8 ∷ []
picture_of_a_bucket = refl

pub picture_of_a_bucket_without_items : picture (after (plain_atlas 40 8) (Ask 3 8 ∷ []))
    ≡ drawn Background 0 0 40 8 ∷ drawn Allocated 20 0 3 8 ∷ drawn Free 23 0 17 8 ∷ drawn Allocated 0 0 0 8 ∷ drawn Free 0 0 20 8 ∷ []
picture_of_a_bucket_without_items = refl

pub picture_of_vertical_buckets : picture (after (new_atlas (size 16 16) (options 1 1 true 1)) (Ask 8 10 ∷ []))
    ≡ drawn Background 0 0 16 16 ∷ drawn Allocated 0 0 8 10 ∷ drawn Free 0 10 8 6 ∷ []
picture_of_vertical_buckets = refl
