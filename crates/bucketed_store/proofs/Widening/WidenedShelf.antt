-- Records spell the shelves after one of them got further buckets.
use Rattle.std.proofs.Common.{◌≡◌, ℕ, zero, suc, ◌+◌, ◌*◌, ◌≤◌, max, false, cond, Option, None, Some, List, [], ◌∷◌, ◌++◌, length, refl, ap, arith, subst, sym, ◌∙◌, ◌==◌, length-append, add-zero}
use Rattle.std.proofs.lemmas.List.{length-map, map-append}
use Rattle.std.specs.Option.{option_map_or}
use Rattle.std.specs.Prelude.{slice_get}
use Rattle.std.specs.List.{AllByRecursion}
use Rattle.etagere_base.proofs.ReplacedLists.{slice_get-append}
use Rattle.etagere_base.proofs.TimesLemmas.{times-append}
use Rattle.etagere_base.specs.declared.frames.Frame.{Frame}
use Rattle.etagere_base.specs.Lists.{times}
use Rattle.etagere_links.specs.Edits.{changed_by}
use Rattle.bucketed_model.specs.Adding.{IsTag, new_bucket, new_buckets}
use Rattle.bucketed_model.specs.State.{Bucket, BucketShelf, Tag, bucket_numbers, buckets_in_use, most_buckets, tag_numbers, with_buckets}
use Rattle.bucketed_model.proofs.Shelving.Made.{length-new, numbers-new}
use Rattle.bucketed_model.proofs.Shelving.Shelves.{bucket_numbers-append, buckets_in_use-append, column_height-append, numbers_of, in-use-length}
use Rattle.bucketed_records.specs.declared.records.LinkedBucket.{LinkedBucket}
use Rattle.bucketed_records.specs.Private.Store.{AreBucketsSpelled, AreShelvesSpelled, Spells, Stored, first_link, kept_shelf, kept_shelves, live_items, widest_room}
use Rattle.bucketed_records.specs.declared.records.KeptShelf.{KeptShelf}
use Rattle.bucketed_records.proofs.Spelling.KeptShelves.{kept-append, kept-heights, length-kept}
use Rattle.bucketed_store.specs.Private.Grows.{shelf_made, shelf_widened, widened_kept}
use Rattle.bucketed_store.specs.Private.Returns.{width_of}
use Rattle.bucketed_store.specs.Private.StoreEdits.{Made, first_bucket_of, made_many}
use Rattle.bucketed_store.proofs.Emptying.ItemReturns.{changed-middle}
use Rattle.bucketed_store.proofs.Emptying.SpelledSpots.{shelf-spelled}
use Rattle.bucketed_store.proofs.Emptying.SpelledReturns.{widest-all}
use Rattle.bucketed_store.proofs.Spelling.MadeBuckets.{AreMade, made_many-are, has_unused-same, shelves-stay, StaysExcept}

-- a shelf with further buckets, side by side from a place on
abbrev pub wider : ℕ → List Tag → BucketShelf → BucketShelf
wider place tags shelf = with_buckets (new_buckets place shelf.bucket_width tags ++ shelf.buckets) shelf

-- nothing of new buckets is live
live-new : (place width : ℕ) (tags : List Tag) (bs : List Bucket) → live_items (new_buckets place width tags ++ bs) ≡ live_items bs
live-new place width [] bs = refl
live-new place width (tag ∷ tags) bs = omega (arith, live-new place width tags bs)

-- the greatest room with new buckets
widest-new : (place width count : ℕ) (tags : List Tag) (bs : List Bucket) → length tags ≡ count
    → cond (count == 0) (widest_room width bs) width ≡ widest_room width (new_buckets place width tags ++ bs)
widest-new place width zero [] bs long = refl
widest-new place width (suc count) [] bs long = absurd (omega (arith, long))
widest-new place width zero (tag ∷ tags) bs long = absurd (omega (arith, long))
widest-new place width (suc count) (tag ∷ tags) bs long =
    let some : (suc count == 0) ≡ false = grind arith in
    rw some (sym (widest-all width [] (new_bucket (place + length tags * width) tag) (new_buckets place width tags ++ bs) (omega arith)))

-- what is kept of a shelf with further buckets
kept-wider : (frame : Frame) (front : List BucketShelf) (x : BucketShelf) (place count : ℕ) (tags : List Tag) (first : Option ℕ) → length tags ≡ count
    → first ≡ first_link (new_buckets place x.bucket_width tags ++ x.buckets) → widened_kept count first (kept_shelf frame front x) ≡ kept_shelf frame front (wider place tags x)
kept-wider frame front x place count tags first long e =
    rw (e, widest-new place x.bucket_width count tags x.buckets long, live-new place x.bucket_width tags x.buckets) refl

-- the shelves are spelled where one got further buckets, and the records of the others stay
spelled-wider : (old new : List LinkedBucket) (numbers : List ℕ) (n : ℕ) (front : List BucketShelf) (x other : BucketShelf) (back : List BucketShelf) → StaysExcept numbers old new
    → ((k : ℕ) → 1 ≤ times k (bucket_numbers (front ++ x ∷ back)) → times k numbers ≡ 0)
    → AreBucketsSpelled new (n + length front) other.bucket_width other.buckets
    → AreShelvesSpelled old n (front ++ x ∷ back) → AreShelvesSpelled new n (front ++ other ∷ back)
spelled-wider old new numbers n [] x other back stays apart own spelled = (
  subst (λ (m : ℕ). AreBucketsSpelled new m other.bucket_width other.buckets) (add-zero n) own,
  shelves-stay old new numbers (suc n) back stays (λ k stands. apart k (omega (arith, stands, times-append k (numbers_of x.buckets) (bucket_numbers back)))) spelled.1,
)
spelled-wider old new numbers n (y ∷ front) x other back stays apart own spelled =
    let all : (k : ℕ) → times k (numbers_of y.buckets ++ bucket_numbers (front ++ x ∷ back)) ≡ times k (numbers_of y.buckets) + times k (bucket_numbers (front ++ x ∷ back)) =
    λ k. times-append k (numbers_of y.buckets) (bucket_numbers (front ++ x ∷ back)) in
    let first : AreShelvesSpelled new n (y ∷ []) =
    shelves-stay old new numbers n (y ∷ []) stays (λ k stands. apart k (omega (arith, stands, all k, times-append k (numbers_of y.buckets) []))) (spelled.0, tt) in (
      first.0,
      spelled-wider old new numbers (suc n) front x other back stays (λ k stands. apart k (omega (arith, stands, all k)))
          (subst (λ (m : ℕ). AreBucketsSpelled new m other.bucket_width other.buckets) (omega arith) own) spelled.1,
    )

-- one of the shelves got further buckets: their tags, and what is unused now
pub record WidensShelf (frame : Frame) (stored : Stored) (front : List BucketShelf) (x : BucketShelf) (back : List BucketShelf) (place count : ℕ) : Type 0 where
  pub tags : List Tag
  pub unused : List ℕ
  pub count_is : length tags ≡ count
  pub each : AllByRecursion IsTag tags
  pub numbers : (k : ℕ) → times k (tag_numbers tags) + times k (bucket_numbers (front ++ x ∷ back)) ≤ 1
  pub members : (k : ℕ) → times k (bucket_numbers (front ++ wider place tags x ∷ back)) ≡ times k (tag_numbers tags) + times k (bucket_numbers (front ++ x ∷ back))
  pub in_use : buckets_in_use (front ++ wider place tags x ∷ back) ≡ count + buckets_in_use (front ++ x ∷ back)
  pub spells : Spells frame (shelf_widened (length front) place count stored) unused (front ++ wider place tags x ∷ back)
  pub grows : length (shelf_widened (length front) place count stored).buckets ≡ max (length stored.buckets) (buckets_in_use (front ++ x ∷ back) + count)

pub widens-shelf : (frame : Frame) (stored : Stored) (unused : List ℕ) (front : List BucketShelf) (x : BucketShelf) (back : List BucketShelf) (place count : ℕ)
    → Spells frame stored unused (front ++ x ∷ back) → buckets_in_use (front ++ x ∷ back) + count ≤ most_buckets
    → WidensShelf frame stored front x back place count
widens-shelf frame stored unused front x back place count spells few =
    let i = length front in
    let w = x.bucket_width in
    let xs = front ++ x ∷ back in
    let A = kept_shelves frame [] front in
    let kept = kept_shelf frame front x in
    let B = kept_shelves frame (front ++ x ∷ []) back in
    let long : length A ≡ i = length-kept frame [] front in
    let whole : stored.shelves ≡ A ++ kept ∷ B = spells.shelves ∙ kept-append frame [] front (x ∷ back) in
    let here : slice_get stored.shelves i ≡ Some kept = ap (λ (ks : List KeptShelf). slice_get ks i) whole ∙ slice_get-append A kept B i long in
    let width : width_of stored.shelves i ≡ w = ap (λ (r : Option KeptShelf). option_map_or (λ (k : KeptShelf). k.shelf.bucket_width) r 0) here in
    let first : first_bucket_of stored.shelves i ≡ first_link x.buckets = ap (λ (r : Option KeptShelf). option_map_or (λ (k : KeptShelf). k.shelf.first_bucket) r None) here in
    let before : Made = record { buckets = stored.buckets; unused = stored.unused; first = first_bucket_of stored.shelves i } in
    let made = shelf_made i place count stored in
    let same : made_many count (record { shelf = i; width = w; x = place }) before ≡ made =
    ap (λ (v : ℕ). made_many count (record { shelf = i; width = v; x = place }) before) (sym width) in
    let zero_plus : 0 + i ≡ i = omega arith in
    let inside : (k : ℕ) → times k (numbers_of x.buckets) ≤ times k (bucket_numbers xs) =
    λ k. omega (arith, bucket_numbers-append k front (x ∷ back), times-append k (numbers_of x.buckets) (bucket_numbers back)) in
    let are : AreMade count i w place before made (bucket_numbers xs) x.buckets =
    subst (λ (m : Made). AreMade count i w place before m (bucket_numbers xs) x.buckets) same
    (made_many-are count i w place before (bucket_numbers xs) unused x.buckets first
    (subst (λ (n : ℕ). AreBucketsSpelled stored.buckets n w x.buckets) zero_plus (shelf-spelled stored.buckets 0 front x back spells.buckets)) inside spells.has_unused
    (omega (arith, few, in-use-length xs))) in
    let y = wider place are.tags x in
    let members : (k : ℕ) → times k (bucket_numbers (front ++ y ∷ back)) ≡ times k (tag_numbers are.tags) + times k (bucket_numbers xs) =
    λ k. omega (
      arith,
      bucket_numbers-append k front (y ∷ back),
      bucket_numbers-append k front (x ∷ back),
      times-append k (numbers_of y.buckets) (bucket_numbers back),
      times-append k (numbers_of x.buckets) (bucket_numbers back),
      ap (times k) (map-append (λ (b : Bucket). b.tag.number) (new_buckets place w are.tags) x.buckets),
      times-append k (numbers_of (new_buckets place w are.tags)) (numbers_of x.buckets),
      ap (times k) (numbers-new place w are.tags),
    ) in
    let more : buckets_in_use (front ++ y ∷ back) ≡ count + buckets_in_use xs =
    omega (
      arith,
      buckets_in_use-append front (y ∷ back),
      buckets_in_use-append front (x ∷ back),
      length-append (new_buckets place w are.tags) x.buckets,
      length-new place w are.tags,
      are.count_is,
    ) in
    let behind : B ≡ kept_shelves frame (front ++ y ∷ []) back =
    kept-heights frame (front ++ x ∷ []) (front ++ y ∷ []) back (λ c. column_height-append c front (x ∷ []) ∙ sym (column_height-append c front (y ∷ []))) in
    record {
      tags = are.tags;
      unused = are.unused;
      count_is = are.count_is;
      each = are.each;
      numbers = are.numbers;
      members = members;
      in_use = more;
      spells = record {
        shelves = ap (changed_by (Some i) (widened_kept count made.first)) whole
            ∙ changed-middle (widened_kept count made.first) A kept B i long
            ∙ ap (λ (k : KeptShelf). A ++ k ∷ B) (kept-wider frame front x place count are.tags made.first are.count_is are.first)
            ∙ ap (λ (ks : List KeptShelf). A ++ kept_shelf frame front y ∷ ks) behind
            ∙ sym (kept-append frame [] front (y ∷ back));
        buckets = spelled-wider stored.buckets made.buckets (tag_numbers are.tags) 0 front x y back are.stays
            (λ k stands. omega (arith, stands, are.numbers k))
            (subst (λ (n : ℕ). AreBucketsSpelled made.buckets n w y.buckets) (sym zero_plus) are.spelled) spells.buckets;
        has_unused = has_unused-same made.buckets made.unused (tag_numbers are.tags ++ bucket_numbers xs) (bucket_numbers (front ++ y ∷ back)) are.unused
            (λ k. omega (arith, members k, times-append k (tag_numbers are.tags) (bucket_numbers xs)))
            (omega (arith, in-use-length (front ++ y ∷ back), in-use-length xs, more, length-append (tag_numbers are.tags) (bucket_numbers xs), length-map are.tags (λ (t : Tag). t.number), are.count_is))
            are.has_unused;
      };
      grows = omega (arith, are.grows, in-use-length xs);
    }
