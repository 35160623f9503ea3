-- The shelves that sides need can be added: each is as a shelf must be, and together they leave no bucket short.
use Rattle.std.proofs.Common.{◌≡◌, ℕ, zero, suc, ◌+◌, ◌-◌, ◌*◌, ◌/◌, ◌<◌, ◌≤◌, Bool, true, false, cond, List, [], ◌∷◌, ◌++◌, length, take, drop, min, max, refl, ap, arith, sym, ◌∙◌, subst, ◌&&◌, ◌||◌, inl, inr, append_assoc}
use Rattle.std.proofs.lemmas.Bool.{and_parts, eqb-true, leb-true, ltb-true}
use Rattle.std.proofs.lemmas.List.{length-take-le, length-drop}
use Rattle.std.specs.List.{AllByRecursion, list_all}
use Rattle.std.specs.Prelude.{nat_le, nat_lt, ◌==◌}
use Rattle.etagere_base.proofs.AskedSides.{IsAsked, step-tall}
use Rattle.etagere_base.proofs.TimesLemmas.{times-append}
use Rattle.etagere_base.specs.declared.frames.Frame.{Frame}
use Rattle.etagere_base.specs.declared.sides.Sides.{Sides}
use Rattle.etagere_base.specs.Frames.{across_side}
use Rattle.etagere_base.specs.Lists.{times}
use Rattle.etagere_base.specs.Sides.{step}
use Rattle.bucketed_model.specs.Adding.{AreNewTags, IsTag, NewShelf, asked_shelf, can_add, filler, has_later_column, made_shelf, made_shelves, new_buckets, needs_filler, new_count, new_shelves, total_count, width_of_share, left_to}
use Rattle.bucketed_model.specs.Frames.{IsBucketedFrame}
use Rattle.bucketed_model.specs.State.{BucketShelf, Tag, available_height, bucket_numbers, buckets_in_use, buckets_left, column_height, current_column, is_idle, is_idle_bucket, last_column, most_buckets, tag_numbers}
use Rattle.bucketed_model.specs.Valid.{AreShelves, IsShelf, OpenColumns}
use Rattle.bucketed_model.proofs.Shelving.Made.{length-new, numbers-new, shelf-made}
use Rattle.bucketed_model.proofs.Shelving.Shares.{alignment-positive, bucket_count-le, share-wide}
use Rattle.bucketed_model.proofs.Shelving.Shelves.{bucket_numbers-append, column_height-unopened, numbers_of, opened_by, opened-current, shelf-added, OpenColumns-append, buckets_in_use-append}

-- a shelf but for its buckets
abbrev bare : NewShelf → BucketShelf
bare new = record { column = new.column; height = new.height; bucket_width = 0; buckets = [] }

-- a new shelf fits behind others
pub record FitsBehind (frame : Frame) (shelves : List BucketShelf) (new : NewShelf) : Type 0 where
  pub column : new.column < frame.columns
  pub opens : OpenColumns (opened_by 0 shelves) (bare new ∷ [])
  pub least : column_height new.column shelves + new.height ≤ across_side frame
  pub some : 1 ≤ new.count
  pub few : buckets_in_use shelves + new.count ≤ most_buckets
  pub wide : frame.columns ≡ 1 → 1 ≤ width_of_share frame new.count

-- a new shelf that fits is added
pub added-one : (frame : Frame) (shelves : List BucketShelf) (new : NewShelf) (tags : List Tag) → IsBucketedFrame frame → AreShelves frame shelves
    → FitsBehind frame shelves new → length tags ≡ new.count → AllByRecursion IsTag tags
    → ((n : ℕ) → times n (tag_numbers tags) + times n (bucket_numbers shelves) ≤ 1)
    → AreShelves frame (shelves ++ made_shelf frame new tags ∷ [])
added-one frame shelves new [] is_frame valid fits enough each numbers = absurd (omega (arith, fits.some, enough))
added-one frame shelves new (tag ∷ tags) is_frame valid fits enough each numbers =
    let place = new.column * frame.column_width in
    let width = width_of_share frame new.count in
    shelf-added frame shelves (made_shelf frame new (tag ∷ tags)) valid
    (shelf-made frame new tag tags is_frame fits.column fits.wide enough each)
    fits.opens fits.least
    (λ n. omega (arith, numbers n, ap (times n) (numbers-new place width (tag ∷ tags))))
    (omega (arith, fits.few, enough, length-new place width (tag ∷ tags)))

-- the shelves after some that fit were added: the last one is asked for, wide and tall enough, and the others hold nothing
pub record Adds (frame : Frame) (shelves : List BucketShelf) (sides : Sides) (news : List NewShelf) (tags : List Tag) : Type 0 where
  pub more : List BucketShelf
  pub new : NewShelf
  pub own : List Tag
  pub made : made_shelves frame news tags ≡ more ++ made_shelf frame new own ∷ []
  pub idle : list_all is_idle more ≡ true
  pub valid : AreShelves frame (shelves ++ (more ++ made_shelf frame new own ∷ []))
  pub enough : length own ≡ new.count
  pub some : 1 ≤ new.count
  pub wide : sides.along ≤ width_of_share frame new.count
  pub tall : sides.across ≤ new.height

-- new shelves fit behind others: the one asked for, wide and tall enough, or a filler and then that one
abbrev pub FitsNews : Frame → List BucketShelf → Sides → List NewShelf → Type 0
FitsNews frame shelves sides [] = ⊥
FitsNews frame shelves sides (new ∷ []) =
    FitsBehind frame shelves new × (sides.along ≤ width_of_share frame new.count) × (sides.across ≤ new.height)
FitsNews frame shelves sides (filling ∷ new ∷ []) =
    FitsBehind frame shelves filling
    × ((own : List Tag) → length own ≡ filling.count → FitsBehind frame (shelves ++ made_shelf frame filling own ∷ []) new)
    × (sides.along ≤ width_of_share frame new.count)
    × (sides.across ≤ new.height)
FitsNews frame shelves sides (filling ∷ new ∷ other ∷ news) = ⊥

-- the current column is one of the frame
pub current-below : (frame : Frame) (column : ℕ) (shelves : List BucketShelf) → column < frame.columns → AllByRecursion (IsShelf frame) shelves → last_column column shelves < frame.columns
current-below frame column [] h each = h
current-below frame column (x ∷ xs) h each = current-below frame x.column xs each.0.column each.1

-- what a shelf opens when it stands in the current column
opens-current : (shelves : List BucketShelf) (x : BucketShelf) → x.column ≡ current_column shelves → 1 ≤ x.height → OpenColumns (opened_by 0 shelves) (x ∷ [])
opens-current [] x h tall = (inr (h, tall), tt)
opens-current (y ∷ ys) x h tall = (inl (ap suc h ∙ sym (opened-current y ys)), tt)

-- the columns opened by shelves and one more
opened-append : (opened : ℕ) (xs : List BucketShelf) (x : BucketShelf) → opened_by opened (xs ++ x ∷ []) ≡ suc x.column
opened-append opened [] x = refl
opened-append opened (y ∷ ys) x = opened-append (suc y.column) ys x

-- a new shelf gets a bucket, and no more than are left
count-range : (frame : Frame) (width height left : ℕ) → 1 ≤ left → (1 ≤ new_count frame width height left) × (new_count frame width height left ≤ left)
count-range frame width height left more =
    let some = (bucket_count-le (frame.column_width / max width height)).0 in (omega (arith, some), omega arith)

-- the shelf that is asked for is tall and wide enough
record IsEnough (frame : Frame) (available left : ℕ) (sides : Sides) (new : NewShelf) : Type 0 where
  pub tall : sides.across ≤ new.height
  pub short : new.height ≤ available
  pub some : 1 ≤ new.count
  pub few : new.count ≤ left
  pub wide : sides.along ≤ width_of_share frame new.count

asked-enough : (frame : Frame) (column available left : ℕ) (sides : Sides) → IsBucketedFrame frame → IsAsked frame sides → sides.across ≤ available → 1 ≤ left
    → IsEnough frame available left sides (asked_shelf frame column available left sides)
asked-enough frame column available left sides is_frame asks tall more =
    let height = min (step sides.across) available in
    let range = count-range frame sides.along height left more in
    record {
      tall = omega (arith, step-tall sides.across);
      short = omega arith;
      some = range.0;
      few = range.1;
      wide = share-wide frame sides.along height left (alignment-positive frame is_frame) asks.along asks.narrow asks.aligned more;
    }

-- new buckets hold nothing
pub idle-new : (place width : ℕ) (tags : List Tag) → list_all is_idle_bucket (new_buckets place width tags) ≡ true
idle-new place width [] = refl
idle-new place width (tag ∷ tags) = idle-new place width tags

-- so many tags in front, and the rest
pub take-drop : (n : ℕ) (tags : List Tag) (k : ℕ) → times k (tag_numbers (take n tags)) + times k (tag_numbers (drop n tags)) ≡ times k (tag_numbers tags)
take-drop zero tags k = omega arith
take-drop (suc n) [] k = omega arith
take-drop (suc n) (tag ∷ tags) k = omega (arith, take-drop n tags k)

-- the facts of the tags in front
pub each-take : (n : ℕ) (tags : List Tag) → AllByRecursion IsTag tags → AllByRecursion IsTag (take n tags)
each-take zero tags each = tt
each-take (suc n) [] each = tt
each-take (suc n) (tag ∷ tags) each = (each.0, each-take n tags each.1)

-- the facts of the other tags
pub each-drop : (n : ℕ) (tags : List Tag) → AllByRecursion IsTag tags → AllByRecursion IsTag (drop n tags)
each-drop zero tags each = each
each-drop (suc n) [] each = tt
each-drop (suc n) (tag ∷ tags) each = each-drop n tags each.1

-- one shelf is added
adds-one : (frame : Frame) (shelves : List BucketShelf) (sides : Sides) (new : NewShelf) (tags : List Tag) → IsBucketedFrame frame → AreShelves frame shelves
    → FitsBehind frame shelves new → sides.along ≤ width_of_share frame new.count → sides.across ≤ new.height
    → AreNewTags shelves (total_count (new ∷ [])) tags → Adds frame shelves sides (new ∷ []) tags
adds-one frame shelves sides new tags is_frame valid fits wide tall are_new =
    let enough : length (take new.count tags) ≡ new.count = length-take-le new.count tags (omega (arith, are_new.count)) in
    record {
      more = [];
      new = new;
      own = take new.count tags;
      made = refl;
      idle = refl;
      valid = added-one frame shelves new (take new.count tags) is_frame valid fits enough (each-take new.count tags are_new.each)
          (λ n. omega (arith, take-drop new.count tags n, are_new.numbers n));
      enough = enough;
      some = fits.some;
      wide = wide;
      tall = tall;
    }

-- a shelf is added behind a filler
adds-two : (frame : Frame) (shelves : List BucketShelf) (sides : Sides) (filling new : NewShelf) (tags : List Tag) → IsBucketedFrame frame → AreShelves frame shelves
    → FitsBehind frame shelves filling
    → ((own : List Tag) → length own ≡ filling.count → FitsBehind frame (shelves ++ made_shelf frame filling own ∷ []) new)
    → sides.along ≤ width_of_share frame new.count → sides.across ≤ new.height
    → AreNewTags shelves (total_count (filling ∷ new ∷ [])) tags → Adds frame shelves sides (filling ∷ new ∷ []) tags
adds-two frame shelves sides filling new tags is_frame valid fits then wide tall are_new =
    let one = take filling.count tags in
    let two = take new.count (drop filling.count tags) in
    let first : length one ≡ filling.count = length-take-le filling.count tags (omega (arith, are_new.count)) in
    let second : length two ≡ new.count = length-take-le new.count (drop filling.count tags) (omega (arith, are_new.count, length-drop filling.count tags)) in
    let middle = shelves ++ made_shelf frame filling one ∷ [] in
    record {
      more = made_shelf frame filling one ∷ [];
      new = new;
      own = two;
      made = refl;
      idle = rw (idle-new (filling.column * frame.column_width) (width_of_share frame filling.count) one) refl;
      valid = subst (AreShelves frame) (append_assoc shelves (made_shelf frame filling one ∷ []) (made_shelf frame new two ∷ []))
          (added-one frame middle new two is_frame
          (added-one frame shelves filling one is_frame valid fits first (each-take filling.count tags are_new.each)
          (λ n. omega (arith, take-drop filling.count tags n, are_new.numbers n)))
          (then one first) second (each-take new.count (drop filling.count tags) (each-drop filling.count tags are_new.each))
          (λ n. omega (
            arith,
            take-drop filling.count tags n,
            take-drop new.count (drop filling.count tags) n,
            are_new.numbers n,
            bucket_numbers-append n shelves (made_shelf frame filling one ∷ []),
            times-append n (numbers_of (made_shelf frame filling one).buckets) [],
            ap (times n) (numbers-new (filling.column * frame.column_width) (width_of_share frame filling.count) one),
          )));
      enough = second;
      some = (then one first).some;
      wide = wide;
      tall = tall;
    }

-- a shelf that is asked for fits the current column where that has the height
fits-current : (frame : Frame) (shelves : List BucketShelf) (sides : Sides) → IsBucketedFrame frame → IsAsked frame sides → AreShelves frame shelves
    → sides.across ≤ available_height frame shelves → 1 ≤ buckets_left shelves
    → FitsBehind frame shelves (asked_shelf frame (current_column shelves) (available_height frame shelves) (buckets_left shelves) sides)
fits-current frame shelves sides is_frame asks valid tall more =
    let enough = asked-enough frame (current_column shelves) (available_height frame shelves) (buckets_left shelves) sides is_frame asks tall more in
    record {
      column = current-below frame 0 shelves is_frame.columns.0 valid.each;
      opens = opens-current shelves (bare (asked_shelf frame (current_column shelves) (available_height frame shelves) (buckets_left shelves) sides)) refl (omega (arith, enough.tall, asks.across));
      least = omega (arith, enough.short, valid.heights (current_column shelves));
      some = enough.some;
      few = omega (arith, enough.few);
      wide = λ _. omega (arith, enough.wide, asks.along);
    }

-- a shelf that is asked for fits the column that it opens
fits-next : (frame : Frame) (shelves : List BucketShelf) (column : ℕ) (sides : Sides) (left : ℕ) → IsBucketedFrame frame → IsAsked frame sides → OpenColumns 0 shelves
    → opened_by 0 shelves ≡ column → column < frame.columns → 1 ≤ left → buckets_in_use shelves + left ≤ most_buckets
    → FitsBehind frame shelves (asked_shelf frame column (across_side frame) left sides)
fits-next frame shelves column sides left is_frame asks goes next below more few =
    let enough = asked-enough frame column (across_side frame) left sides is_frame asks asks.short more in
    record {
      column = below;
      opens = (inr (sym next, omega (arith, enough.tall, asks.across)), tt);
      least = omega (arith, enough.short, column_height-unopened 0 column shelves goes (omega (arith, next)));
      some = enough.some;
      few = omega (arith, enough.few);
      wide = λ _. omega (arith, enough.wide, asks.along);
    }

-- a filler fits the current column
fits-filler : (frame : Frame) (y : BucketShelf) (ys : List BucketShelf) → AreShelves frame (y ∷ ys)
    → 1 ≤ available_height frame (y ∷ ys) → current_column (y ∷ ys) + 1 < frame.columns → 2 ≤ buckets_left (y ∷ ys)
    → FitsBehind frame (y ∷ ys) (filler frame (left_to frame (y ∷ ys)))
fits-filler frame y ys valid tall below more =
    let range = count-range frame 0 (available_height frame (y ∷ ys)) (buckets_left (y ∷ ys) - 1) (omega arith) in
    record {
      column = omega arith;
      opens = opens-current (y ∷ ys) (bare (filler frame (left_to frame (y ∷ ys)))) refl tall;
      least = omega (arith, valid.heights (current_column (y ∷ ys)));
      some = range.0;
      few = omega (arith, range.1);
      wide = λ h. absurd (omega (arith, h));
    }

-- where a filler is needed, it and the shelf asked for fit
fits-filled : (frame : Frame) (y : BucketShelf) (ys : List BucketShelf) (sides : Sides) → IsBucketedFrame frame → IsAsked frame sides → AreShelves frame (y ∷ ys)
    → 1 ≤ available_height frame (y ∷ ys) → current_column (y ∷ ys) + 1 < frame.columns → 2 ≤ buckets_left (y ∷ ys)
    → FitsNews frame (y ∷ ys) sides (filler frame (left_to frame (y ∷ ys)) ∷ asked_shelf frame (current_column (y ∷ ys) + 1) (across_side frame) (buckets_left (y ∷ ys) - (filler frame (left_to frame (y ∷ ys))).count) sides ∷ [])
fits-filled frame y ys sides is_frame asks valid tall below more =
    let shelves = y ∷ ys in
    let filling = filler frame (left_to frame shelves) in
    let column = current_column shelves + 1 in
    let left = buckets_left shelves - filling.count in
    let range = count-range frame 0 (available_height frame shelves) (buckets_left shelves - 1) (omega arith) in
    let fits = fits-filler frame y ys valid tall below more in
    let enough = asked-enough frame column (across_side frame) left sides is_frame asks asks.short (omega (arith, range.1)) in (
      fits,
      (λ own same. fits-next frame (shelves ++ made_shelf frame filling own ∷ []) column sides left is_frame asks
          (OpenColumns-append 0 shelves (made_shelf frame filling own ∷ []) valid.columns fits.opens)
          (omega (arith, opened-append 0 shelves (made_shelf frame filling own))) below (omega (arith, range.1))
          (omega (arith, buckets_in_use-append shelves (made_shelf frame filling own ∷ []), length-new (filling.column * frame.column_width) (width_of_share frame filling.count) own, same, range.1))),
      enough.wide,
      enough.tall,
    )

-- what the tests show where a filler is needed
filler-tests : (height available left : ℕ) (later : Bool) → (nat_lt 0 available && (nat_lt available height && later)) ≡ true → nat_le 2 left ≡ true
    → (1 ≤ available) × (available < height) × (later ≡ true) × (2 ≤ left)
filler-tests height available left later h k =
    let parts = and_parts (nat_lt 0 available) (nat_lt available height && later) h in
    let inner = and_parts (nat_lt available height) later parts.1 in
    (ltb-true 0 available parts.0, ltb-true available height inner.0, inner.1, leb-true 2 left k)

-- what they show where no height is available
next-tests : (height available : ℕ) (later : Bool) → 1 ≤ height → available ≡ 0 → (nat_le height available || later) ≡ true → later ≡ true
next-tests height available true some none h = refl
next-tests height available false some none h = absurd (grind arith)

-- what they show where some is available and no filler is needed
current-tests : (height available : ℕ) (later : Bool) → 1 ≤ available → (nat_lt 0 available && (nat_lt available height && later)) ≡ false → (nat_le height available || later) ≡ true → height ≤ available
current-tests height available true some none h = grind arith
current-tests height available false some none h = grind arith

-- where there is a shelf, what can be added fits
fits-behind : (frame : Frame) (y : BucketShelf) (ys : List BucketShelf) (sides : Sides) → IsBucketedFrame frame → IsAsked frame sides → AreShelves frame (y ∷ ys)
    → can_add frame (left_to frame (y ∷ ys)) sides.across ≡ true → FitsNews frame (y ∷ ys) sides (new_shelves frame (left_to frame (y ∷ ys)) sides)
fits-behind frame y ys sides is_frame asks valid can =
    by_tests (needs_filler frame (left_to frame (y ∷ ys)) sides.across) (available_height frame (y ∷ ys) == 0) refl refl can
  where
    by_tests : (b c : Bool) → needs_filler frame (left_to frame (y ∷ ys)) sides.across ≡ b → (available_height frame (y ∷ ys) == 0) ≡ c
        → ((nat_le sides.across (available_height frame (y ∷ ys)) || has_later_column frame (left_to frame (y ∷ ys))) && nat_le (cond b 2 1) (buckets_left (y ∷ ys))) ≡ true
        → FitsNews frame (y ∷ ys) sides
        (cond b (filler frame (left_to frame (y ∷ ys)) ∷ asked_shelf frame (current_column (y ∷ ys) + 1) (across_side frame) (buckets_left (y ∷ ys) - (filler frame (left_to frame (y ∷ ys))).count) sides ∷ [])
        (cond c (asked_shelf frame (current_column (y ∷ ys) + 1) (across_side frame) (buckets_left (y ∷ ys)) sides ∷ [])
        (asked_shelf frame (current_column (y ∷ ys)) (available_height frame (y ∷ ys)) (buckets_left (y ∷ ys)) sides ∷ [])))
    by_tests true c e k can =
        let room = and_parts (nat_le sides.across (available_height frame (y ∷ ys)) || has_later_column frame (left_to frame (y ∷ ys))) (nat_le 2 (buckets_left (y ∷ ys))) can in
        let tests = filler-tests sides.across (available_height frame (y ∷ ys)) (buckets_left (y ∷ ys)) (has_later_column frame (left_to frame (y ∷ ys))) e room.1 in
        fits-filled frame y ys sides is_frame asks valid tests.0 (ltb-true (current_column (y ∷ ys) + 1) frame.columns tests.2) tests.3
    by_tests false true e k can =
        let room = and_parts (nat_le sides.across (available_height frame (y ∷ ys)) || has_later_column frame (left_to frame (y ∷ ys))) (nat_le 1 (buckets_left (y ∷ ys))) can in
        let later = next-tests sides.across (available_height frame (y ∷ ys)) (has_later_column frame (left_to frame (y ∷ ys))) asks.across (eqb-true (available_height frame (y ∷ ys)) 0 k) room.0 in
        let more : 1 ≤ buckets_left (y ∷ ys) = leb-true 1 (buckets_left (y ∷ ys)) room.1 in
        let column = current_column (y ∷ ys) + 1 in
        let enough = asked-enough frame column (across_side frame) (buckets_left (y ∷ ys)) sides is_frame asks asks.short more in
        (fits-next frame (y ∷ ys) column sides (buckets_left (y ∷ ys)) is_frame asks valid.columns (omega (arith, opened-current y ys)) (ltb-true column frame.columns later) more (omega (arith, valid.few)), enough.wide, enough.tall)
    by_tests false false e k can =
        let room = and_parts (nat_le sides.across (available_height frame (y ∷ ys)) || has_later_column frame (left_to frame (y ∷ ys))) (nat_le 1 (buckets_left (y ∷ ys))) can in
        let some : 1 ≤ available_height frame (y ∷ ys) = grind arith in
        let tall = current-tests sides.across (available_height frame (y ∷ ys)) (has_later_column frame (left_to frame (y ∷ ys))) some e room.0 in
        let more : 1 ≤ buckets_left (y ∷ ys) = leb-true 1 (buckets_left (y ∷ ys)) room.1 in
        let enough = asked-enough frame (current_column (y ∷ ys)) (available_height frame (y ∷ ys)) (buckets_left (y ∷ ys)) sides is_frame asks tall more in
        (fits-current frame (y ∷ ys) sides is_frame asks valid tall more, enough.wide, enough.tall)

-- a first shelf fits a new atlas
fits-first : (frame : Frame) (sides : Sides) → IsBucketedFrame frame → IsAsked frame sides → AreShelves frame [] → FitsNews frame [] sides (new_shelves frame (left_to frame []) sides)
fits-first frame sides is_frame asks valid =
    by_tests (needs_filler frame (left_to frame []) sides.across) (available_height frame [] == 0) refl refl
  where
    by_tests : (b c : Bool) → needs_filler frame (left_to frame []) sides.across ≡ b → (available_height frame [] == 0) ≡ c
        → FitsNews frame [] sides
        (cond b (filler frame (left_to frame []) ∷ asked_shelf frame (current_column [] + 1) (across_side frame) (buckets_left [] - (filler frame (left_to frame [])).count) sides ∷ [])
        (cond c (asked_shelf frame (current_column [] + 1) (across_side frame) (buckets_left []) sides ∷ [])
        (asked_shelf frame (current_column []) (available_height frame []) (buckets_left []) sides ∷ [])))
    by_tests true c e k =
        let parts = and_parts (nat_lt 0 (available_height frame [])) (nat_lt (available_height frame []) sides.across && has_later_column frame (left_to frame [])) e in
        let inner = and_parts (nat_lt (available_height frame []) sides.across) (has_later_column frame (left_to frame [])) parts.1 in
        absurd (omega (arith, ltb-true (available_height frame []) sides.across inner.0, asks.short))
    by_tests false true e k =
        absurd (omega (arith, eqb-true (available_height frame []) 0 k, asks.short, asks.across))
    by_tests false false e k =
        let tall : sides.across ≤ available_height frame [] = omega (arith, asks.short) in
        let enough = asked-enough frame 0 (available_height frame []) (buckets_left []) sides is_frame asks tall (omega arith) in
        (fits-current frame [] sides is_frame asks valid tall (omega arith), enough.wide, enough.tall)

-- where a shelf can be added, what is added fits
pub added-fits : (frame : Frame) (shelves : List BucketShelf) (sides : Sides) → IsBucketedFrame frame → IsAsked frame sides → AreShelves frame shelves
    → can_add frame (left_to frame shelves) sides.across ≡ true → FitsNews frame shelves sides (new_shelves frame (left_to frame shelves) sides)
added-fits frame [] sides is_frame asks valid can = fits-first frame sides is_frame asks valid
added-fits frame (y ∷ ys) sides is_frame asks valid can = fits-behind frame y ys sides is_frame asks valid can

-- what fits is added
fits-adds : (frame : Frame) (shelves : List BucketShelf) (sides : Sides) (news : List NewShelf) (tags : List Tag) → IsBucketedFrame frame → AreShelves frame shelves
    → FitsNews frame shelves sides news → AreNewTags shelves (total_count news) tags → Adds frame shelves sides news tags
fits-adds frame shelves sides [] tags is_frame valid fits are_new = absurd fits
fits-adds frame shelves sides (new ∷ []) tags is_frame valid fits are_new = adds-one frame shelves sides new tags is_frame valid fits.0 fits.1 fits.2 are_new
fits-adds frame shelves sides (filling ∷ new ∷ []) tags is_frame valid fits are_new =
    adds-two frame shelves sides filling new tags is_frame valid fits.0 fits.1 fits.2 fits.3 are_new
fits-adds frame shelves sides (filling ∷ new ∷ other ∷ news) tags is_frame valid fits are_new = absurd fits

-- where a shelf can be added, it is
pub added-adds : (frame : Frame) (shelves : List BucketShelf) (sides : Sides) (tags : List Tag) → IsBucketedFrame frame → IsAsked frame sides → AreShelves frame shelves
    → can_add frame (left_to frame shelves) sides.across ≡ true → AreNewTags shelves (total_count (new_shelves frame (left_to frame shelves) sides)) tags
    → Adds frame shelves sides (new_shelves frame (left_to frame shelves) sides) tags
added-adds frame shelves sides tags is_frame asks valid can are_new =
    fits-adds frame shelves sides (new_shelves frame (left_to frame shelves) sides) tags is_frame valid (added-fits frame shelves sides is_frame asks valid can) are_new
