-- New shelves: where one is added, how tall it is, and which buckets it gets.
use Rattle.std.specs.Prelude.{◌≡◌, ℕ, zero, suc, ◌+◌, ◌-◌, ◌*◌, ◌/◌, ◌<◌, ◌≤◌, min, max, Bool, Option, None, Some, ◌&&◌, ◌||◌, List, [], ◌∷◌, ◌++◌, length, take, drop, nat_le, nat_lt, ◌==◌, if◌then◌else◌}
use Rattle.std.specs.List.{AllByRecursion}
use Rattle.etagere_base.specs.declared.frames.Frame.{Frame}
use Rattle.etagere_base.specs.declared.sides.Sides.{Sides}
use Rattle.etagere_base.specs.Frames.{across_side, alignment_along}
use Rattle.etagere_base.specs.Sides.{down, step}
use Rattle.etagere_base.specs.Lists.{times}
use Rattle.bucketed_model.specs.State.{Tag, Bucket, BucketShelf, available_height, bucket_numbers, buckets_left, column_place, current_column, generations, most_buckets, tag_numbers}

-- what shelves leave: the current column, the height that is available in it, and how many buckets
-- can be made
pub record Remaining : Type 0 where
  pub column : ℕ
  pub height : ℕ
  pub buckets : ℕ

-- a shelf to be made: its column, its height and how many buckets it gets
pub record NewShelf : Type 0 where
  pub column : ℕ
  pub height : ℕ
  pub count : ℕ

-- the shelf asked for, and the filler before it where one is needed
pub record NewShelves : Type 0 where
  pub filler : Option NewShelf
  pub asked : NewShelf

-- what these shelves leave
abbrev pub left_to : Frame → List BucketShelf → Remaining
left_to frame shelves =
    record {
      column = current_column shelves;
      height = available_height frame shelves;
      buckets = buckets_left shelves;
    }

-- the first of a power of two and so many doublings that is not below a number
abbrev pub doubled : ℕ → ℕ → ℕ → ℕ
doubled zero power n = power
doubled (suc steps) power n = if nat_le n power then power else doubled steps (power + power) n

-- the least power of two, up to 4096, that is not below a number
abbrev pub least_power_of_two : ℕ → ℕ
least_power_of_two n = doubled 12 1 n

-- into how many buckets a shelf is divided that is so many times as long as the larger of its
-- height and its item's width; no power above 4096 is needed
abbrev pub bucket_count : ℕ → ℕ
bucket_count items =
    if nat_le items 4 then 1
    else (if nat_le items 16 then 2
    else (if nat_le items 32 then 4 else least_power_of_two (items / 16 - 1)))

-- how many buckets a new shelf gets for items this wide, where so many are left
abbrev pub new_count : Frame → ℕ → ℕ → ℕ → ℕ
new_count frame width height left = min (bucket_count (frame.column_width / max width height)) left

-- there is a column after the current one
abbrev pub has_later_column : Frame → Remaining → Bool
has_later_column frame left = nat_lt (left.column + 1) frame.columns

-- a filler takes the available height where that is too short and the next column has to open
abbrev pub needs_filler : Frame → Remaining → ℕ → Bool
needs_filler frame left height =
    nat_lt 0 left.height && (nat_lt left.height height && has_later_column frame left)

-- a shelf this tall can be added: there is height or another column, and a bucket for each shelf
-- that is made
abbrev pub can_add : Frame → Remaining → ℕ → Bool
can_add frame left height =
    (nat_le height left.height || has_later_column frame left)
    && nat_le (if needs_filler frame left height then 2 else 1) left.buckets

-- the shelf that fills the current column, which leaves one bucket for the shelf asked for
abbrev pub filler : Frame → Remaining → NewShelf
filler frame left =
    record {
      column = left.column;
      height = left.height;
      count = new_count frame 0 left.height (left.buckets - 1);
    }

-- the shelf asked for, in a column with so much height, where so many buckets are left
abbrev pub asked_shelf : Frame → ℕ → ℕ → ℕ → Sides → NewShelf
asked_shelf frame column available left sides =
    let height = min (step sides.across) available in
    record { column = column; height = height; count = new_count frame sides.along height left }

-- the shelves to be added for these sides: the one asked for, behind a filler where one is needed
abbrev pub new_shelves : Frame → Remaining → Sides → List NewShelf
new_shelves frame left sides =
    let next = left.column + 1 in
    let filling = filler frame left in
    if needs_filler frame left sides.across
    then filling
    ∷ asked_shelf frame next (across_side frame) (left.buckets - filling.count) sides ∷ []
    else (if left.height == 0
    then asked_shelf frame next (across_side frame) left.buckets sides ∷ []
    else asked_shelf frame left.column left.height left.buckets sides ∷ [])

-- the new shelves in the order in which they are made
abbrev pub news_of : NewShelves → List NewShelf
news_of news = news_before news.filler
  where
    news_before : Option NewShelf → List NewShelf
    news_before None = news.asked ∷ []
    news_before (Some filling) = filling ∷ news.asked ∷ []

-- how many buckets new shelves get together
abbrev pub total_count : List NewShelf → ℕ
total_count [] = 0
total_count (new ∷ news) = new.count + total_count news

-- a bucket that has given nothing yet
abbrev pub new_bucket : ℕ → Tag → Bucket
new_bucket place tag = record { place = place; used = 0; live = 0; given = 0; tag = tag }

-- new buckets side by side from a place on, the rightmost first
abbrev pub new_buckets : ℕ → ℕ → List Tag → List Bucket
new_buckets place width [] = []
new_buckets place width (tag ∷ tags) =
    new_bucket (place + length tags * width) tag ∷ new_buckets place width tags

-- the width of a bucket: an equal share of the column, rounded down to the alignment
abbrev pub width_of_share : Frame → ℕ → ℕ
width_of_share frame count = down (frame.column_width / count) (alignment_along frame)

-- a shelf that was made, its buckets with these tags
abbrev pub made_shelf : Frame → NewShelf → List Tag → BucketShelf
made_shelf frame new tags =
    let width = width_of_share frame new.count in
    record {
      column = new.column;
      height = new.height;
      bucket_width = width;
      buckets = new_buckets (column_place frame new.column) width tags;
    }

-- shelves that were made, one after another, with these tags
abbrev pub made_shelves : Frame → List NewShelf → List Tag → List BucketShelf
made_shelves frame [] tags = []
made_shelves frame (new ∷ news) tags =
    made_shelf frame new (take new.count tags) ∷ made_shelves frame news (drop new.count tags)

-- the shelves with those added that these sides need
abbrev pub added : Frame → List BucketShelf → Sides → List Tag → List BucketShelf
added frame shelves sides tags =
    shelves ++ made_shelves frame (new_shelves frame (left_to frame shelves) sides) tags

-- a tag's number and generation fit an id
pub record IsTag (tag : Tag) : Type 0 where
  pub number : tag.number < most_buckets
  pub generation : tag.generation < generations

-- tags for so many new buckets: as many as that, their numbers differ and are those of no bucket of
-- the shelves
pub record AreNewTags (shelves : List BucketShelf) (needed : ℕ) (tags : List Tag) : Type 0 where
  pub count : length tags ≡ needed
  pub each : AllByRecursion IsTag tags
  pub numbers : (n : ℕ) → times n (tag_numbers tags) + times n (bucket_numbers shelves) ≤ 1
