-- What is kept of the shelf of a bucket is the widest room of its buckets, and those behind the bucket are some of them.
use Rattle.std.proofs.Common.{◌≡◌, ℕ, zero, suc, ◌+◌, ◌<◌, ◌≤◌, inl, inr, Option, None, Some, List, [], ◌∷◌, ◌++◌, length, map, max, take, refl, ap, sym, subst, ◌∙◌, arith, length-append}
use Rattle.std.specs.Option.{option_map_or}
use Rattle.std.specs.Prelude.{option_and_then, option_map, slice_get}
use Rattle.etagere_base.specs.declared.frames.Frame.{Frame}
use Rattle.etagere_base.specs.Frames.{alignment_along}
use Rattle.etagere_links.specs.Edits.{changed_by}
use Rattle.bucketed_model.specs.Picking.{Spot}
use Rattle.bucketed_model.specs.State.{Bucket, BucketShelf, changed_at, column_place, most_buckets}
use Rattle.bucketed_model.specs.Taking.{taken_bucket}
use Rattle.bucketed_model.specs.Valid.{AreShelves, StandBetween}
use Rattle.bucketed_model.proofs.Validity.Spots.{IsSpot}
use Rattle.bucketed_model.proofs.Validity.Taken.{spot-valid}
use Rattle.bucketed_records.specs.declared.records.LinkedBucket.{LinkedBucket}
use Rattle.bucketed_records.specs.BucketRecords.{next_of}
use Rattle.bucketed_records.specs.StandsFor.{place_of}
use Rattle.bucketed_records.specs.Private.Store.{AreBucketsSpelled, Spells, Stored, first_link, kept_shelf, record_room, widest_room}
use Rattle.bucketed_records.specs.declared.records.KeptShelf.{KeptShelf}
use Rattle.bucket_index.specs.Private.Rest.{IsIn, LeadDown, Stands}
use Rattle.bucket_index.specs.Private.Searching.{widest_from}
use Rattle.bucket_index.specs.Private.Spans.{room_at}
use Rattle.bucket_index.proofs.WidestRooms.{widest-at}
use Rattle.bucketed_store.specs.Private.StoreEdits.{IsInRow, IsWidest, KnowsWidest, first_bucket_of, taken_record}
use Rattle.bucketed_store.proofs.Spelling.FoundFirst.{spelled-back, widest-read}
use Rattle.bucketed_store.proofs.Spelling.FoundBucket.{few-at, kept-at, spelled-at}
use Rattle.bucketed_store.proofs.Spelling.SpotRecords.{spot-records}
use Rattle.bucketed_store.proofs.Spelling.TakenRecords.{buckets-taken, first-taken}

-- the widest of the last buckets is one of all
widest-back : (width : ℕ) (front back : List Bucket) → widest_room width back ≤ widest_room width (front ++ back)
widest-back width [] back = omega arith
widest-back width (b ∷ front) back = omega (arith, widest-back width front back)

-- as many buckets after one has changed
length-taken : (n item : ℕ) (bs : List Bucket) → length (map (changed_at n (taken_bucket item)) bs) ≡ length bs
length-taken n item [] = refl
length-taken n item (b ∷ bs) = ap suc (length-taken n item bs)

-- the widest of the buckets of which one may have changed
widest-taken : (records : List LinkedBucket) (n item number width : ℕ) (bs : List Bucket) → length bs ≤ most_buckets → AreBucketsSpelled records number width bs
    → widest_from most_buckets (changed_by (Some n) (taken_record item) records) (first_link bs) ≡ widest_room width (map (changed_at n (taken_bucket item)) bs)
widest-taken records n item number width bs few h =
    ap (widest_from most_buckets (changed_by (Some n) (taken_record item) records)) (sym (first-taken n item bs))
    ∙ widest-read (changed_by (Some n) (taken_record item) records) number width most_buckets (map (changed_at n (taken_bucket item)) bs) (omega (arith, few, length-taken n item bs))
    (buckets-taken records n item number width bs h)

-- the changed buckets behind some
map-back : (f : Bucket → Bucket) (front back : List Bucket) → map f (front ++ back) ≡ map f front ++ map f back
map-back f [] back = refl
map-back f (b ∷ front) back = ap (λ (bs : List Bucket). f b ∷ bs) (map-back f front back)

-- what a record can give is no more than what those from it on can
widest-first : (records : List LinkedBucket) (n : ℕ) → room_at records n ≤ widest_from most_buckets records (Some n)
widest-first records n = rw (widest-at records most_buckets 4094 n (Some n) (slice_get records n) refl refl refl) (by_record (slice_get records n))
  where
    by_record : (o : Option LinkedBucket) → option_map_or record_room o 0 ≤ option_map_or (λ (bucket : LinkedBucket). max (record_room bucket) (widest_from 4094 records bucket.next)) o 0
    by_record None = omega arith
    by_record (Some b) = omega arith

-- what is kept of a shelf is the widest room of its buckets
pub shelf-knows : (frame : Frame) (stored : Stored) (unused : List ℕ) (shelves : List BucketShelf) (number : ℕ) (shelf : BucketShelf) → AreShelves frame shelves → Spells frame stored unused shelves
    → slice_get shelves number ≡ Some shelf → KnowsWidest number stored.shelves stored.buckets
shelf-knows frame stored unused shelves number shelf valid spells at =
    let kept : slice_get stored.shelves number ≡ Some (kept_shelf frame (take number shelves) shelf) =
    ap (λ (ks : List KeptShelf). slice_get ks number) spells.shelves ∙ kept-at frame [] shelves number ∙ ap (option_map (kept_shelf frame (take number shelves))) at in
    let own = spelled-at stored.buckets 0 shelves number shelf spells.buckets at in
    ap (λ (r : Option KeptShelf). widest_from most_buckets stored.buckets (option_map_or (λ (one : KeptShelf). one.shelf.first_bucket) r None)) kept
    ∙ widest-read stored.buckets (0 + number) shelf.bucket_width most_buckets shelf.buckets (omega (arith, few-at shelves number shelf at, valid.few)) own
    ∙ sym (ap (λ (r : Option KeptShelf). option_map_or (λ (one : KeptShelf). one.widest_room) r 0) kept)

-- a bucket between others stands in the row of all
stands-spelled : (records : List LinkedBucket) (number width steps : ℕ) (left : List Bucket) (b : Bucket) (right : List Bucket) → length (left ++ b ∷ right) ≤ steps → AreBucketsSpelled records number width (left ++ b ∷ right)
    → Stands steps records (first_link (left ++ b ∷ right)) b.tag.number
stands-spelled records number width zero [] b right few own = absurd (omega arith)
stands-spelled records number width zero (x ∷ left) b right few own = absurd (omega arith)
stands-spelled records number width (suc steps) [] b right few own = inl refl
stands-spelled records number width (suc steps) (x ∷ left) b right few own =
    inr (subst (λ (at : Option ℕ). Stands steps records at b.tag.number) (sym (ap (option_and_then (λ (bucket : LinkedBucket). bucket.next)) own.0))
    (stands-spelled records number width steps left b right (omega (arith, few)) own.1))

-- where a record begins that spells a bucket
place-spelled : (records : List LinkedBucket) (number width : ℕ) (b : Bucket) (bs : List Bucket) → AreBucketsSpelled records number width (b ∷ bs) → place_of records b.tag.number ≡ b.place
place-spelled records number width b bs own = ap (λ (r : Option LinkedBucket). option_map_or (λ (bucket : LinkedBucket). bucket.x) r 0) own.0

-- the row of buckets that have a width leads down
down-spelled : (alignment width begin end number : ℕ) (records : List LinkedBucket) (steps : ℕ) (bs : List Bucket) → 1 ≤ width → StandBetween alignment width begin end bs → AreBucketsSpelled records number width bs
    → LeadDown steps records (first_link bs)
down-spelled alignment width begin end number records zero bs some stand own = tt
down-spelled alignment width begin end number records (suc steps) [] some stand own = tt
down-spelled alignment width begin end number records (suc steps) (b ∷ bs) some stand own =
    let link : next_of records b.tag.number ≡ first_link bs = ap (option_and_then (λ (bucket : LinkedBucket). bucket.next)) own.0 in (
      λ next e. by_next bs stand.2 own.1 next (sym link ∙ e),
      subst (LeadDown steps records) (sym link) (down-spelled alignment width begin b.place number records steps bs some stand.2 own.1),
    )
  where
    by_next : (cs : List Bucket) → StandBetween alignment width begin b.place cs → AreBucketsSpelled records number width cs → (next : ℕ) → first_link cs ≡ Some next → place_of records next < place_of records b.tag.number
    by_next [] lower later next e = absurd (never e)
      where
        never : None ≡ Some next → ⊥
        never h = cc
    by_next (c ∷ cs) lower later next e =
        let same : c.tag.number ≡ next = cc in
        omega (arith, some, lower.1, ap (place_of records) same, place-spelled records number width c cs later, place-spelled records number width b bs own)

-- the bucket of a spot stands in the row of its shelf
pub spot-stands : (frame : Frame) (stored : Stored) (unused : List ℕ) (shelves : List BucketShelf) (spot : Spot) → AreShelves frame shelves → Spells frame stored unused shelves → IsSpot shelves spot
    → 1 ≤ spot.shelf.bucket_width → IsInRow spot.number spot.bucket.tag.number stored.shelves stored.buckets
spot-stands frame stored unused shelves spot valid spells at some =
    let records = spot-records frame stored unused shelves spot valid spells at in
    let width = spot.shelf.bucket_width in
    let buckets = spot.shelf.buckets in
    let n = spot.bucket.tag.number in
    let begin = column_place frame spot.shelf.column in
    let own : AreBucketsSpelled stored.buckets (0 + spot.number) width buckets = spelled-at stored.buckets 0 shelves spot.number spot.shelf spells.buckets records.at in
    let few : length buckets ≤ most_buckets = omega (arith, few-at shelves spot.number spot.shelf records.at, valid.few) in
    let first : first_bucket_of stored.shelves spot.number ≡ first_link buckets =
    ap (λ (r : Option KeptShelf). option_map_or (λ (one : KeptShelf). one.shelf.first_bucket) r None) (records.shelf frame spells.shelves) in
    let stands : Stands most_buckets stored.buckets (first_link buckets) n =
    subst (λ (bs : List Bucket). Stands most_buckets stored.buckets (first_link bs) n) (sym at.buckets)
    (stands-spelled stored.buckets (0 + spot.number) width most_buckets at.left spot.bucket at.right (omega (arith, few, ap (λ (bs : List Bucket). length bs) at.buckets))
    (subst (AreBucketsSpelled stored.buckets (0 + spot.number) width) at.buckets own)) in
    let down : LeadDown most_buckets stored.buckets (first_link buckets) =
    down-spelled (alignment_along frame) width begin (begin + frame.column_width) (0 + spot.number) stored.buckets most_buckets buckets some (spot-valid frame shelves spot at valid).0.stand own in
    subst (λ (at : Option ℕ). IsIn stored.buckets at n) (sym first) (record { stands = stands; down = down })

-- the shelf of a spot has the widest room that is kept
pub spot-widest : (frame : Frame) (stored : Stored) (unused : List ℕ) (shelves : List BucketShelf) (spot : Spot) (item : ℕ) → AreShelves frame shelves → Spells frame stored unused shelves → IsSpot shelves spot
    → IsWidest spot.number spot.bucket.tag.number item stored
spot-widest frame stored unused shelves spot item valid spells at =
    let records = spot-records frame stored unused shelves spot valid spells at in
    let kept = records.shelf frame spells.shelves in
    let width = spot.shelf.bucket_width in
    let n = spot.bucket.tag.number in
    let number = 0 + spot.number in
    let own : AreBucketsSpelled stored.buckets number width spot.shelf.buckets = spelled-at stored.buckets 0 shelves spot.number spot.shelf spells.buckets records.at in
    let first : first_bucket_of stored.shelves spot.number ≡ first_link spot.shelf.buckets =
    ap (λ (r : Option KeptShelf). option_map_or (λ (one : KeptShelf). one.shelf.first_bucket) r None) kept in
    let few : length spot.shelf.buckets ≤ most_buckets = omega (arith, few-at shelves spot.number spot.shelf records.at, valid.few) in
    let tail = spelled-back stored.buckets number width at.left (spot.bucket ∷ at.right) (subst (AreBucketsSpelled stored.buckets number width) at.buckets own) in
    let next : next_of stored.buckets n ≡ first_link at.right = ap (option_and_then (λ (bucket : LinkedBucket). bucket.next)) tail.0 in
    let long : length spot.shelf.buckets ≡ length at.left + suc (length at.right) = ap (λ (bs : List Bucket). length bs) at.buckets ∙ length-append at.left (spot.bucket ∷ at.right) in
    let all = widest-taken stored.buckets n item number width spot.shelf.buckets few own in
    let some = widest-taken stored.buckets n item number width at.right (omega (arith, few, long)) tail.1 in
    let part : widest_room width (map (changed_at n (taken_bucket item)) at.right) ≤ widest_room width (map (changed_at n (taken_bucket item)) spot.shelf.buckets) =
    subst (λ (bs : List Bucket). widest_room width (map (changed_at n (taken_bucket item)) at.right) ≤ widest_room width bs)
    (sym (ap (map (changed_at n (taken_bucket item))) at.buckets ∙ map-back (changed_at n (taken_bucket item)) at.left (spot.bucket ∷ at.right)))
    (omega (arith, widest-back width (map (changed_at n (taken_bucket item)) at.left) (map (changed_at n (taken_bucket item)) (spot.bucket ∷ at.right)))) in
    let with_it = widest-taken stored.buckets n item number width (spot.bucket ∷ at.right) (omega (arith, few, long)) tail in
    let whole : widest_room width (map (changed_at n (taken_bucket item)) (spot.bucket ∷ at.right)) ≤ widest_room width (map (changed_at n (taken_bucket item)) spot.shelf.buckets) =
    subst (λ (bs : List Bucket). widest_room width (map (changed_at n (taken_bucket item)) (spot.bucket ∷ at.right)) ≤ widest_room width bs)
    (sym (ap (map (changed_at n (taken_bucket item))) at.buckets ∙ map-back (changed_at n (taken_bucket item)) at.left (spot.bucket ∷ at.right)))
    (widest-back width (map (changed_at n (taken_bucket item)) at.left) (map (changed_at n (taken_bucket item)) (spot.bucket ∷ at.right))) in
    let after = changed_by (Some n) (taken_record item) stored.buckets in
    record {
      one = omega (arith, widest-first after n, ap (widest_from most_buckets after) first, all, with_it, whole);
      exact = shelf-knows frame stored unused shelves spot.number spot.shelf valid spells records.at;
      behind = omega (arith, ap (widest_from most_buckets after) next, ap (widest_from most_buckets after) first, all, some, part);
    }
