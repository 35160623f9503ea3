-- Making buckets takes no record away.
use Rattle.std.proofs.Common.{◌≡◌, ℕ, zero, suc, ◌+◌, ◌-◌, ◌%◌, ◌≤◌, Option, None, Some, [], ◌∷◌, length, arith, subst, sym, length-append}
use Rattle.std.specs.Option.{option_map_or}
use Rattle.std.specs.Prelude.{slice_get}
use Rattle.etagere_base.specs.declared.frames.Frame.{Frame}
use Rattle.etagere_links.proofs.RecordChanges.{length-changed_by}
use Rattle.bucketed_model.specs.Adding.{NewShelf, NewShelves, news_of, width_of_share}
use Rattle.bucketed_model.specs.State.{column_place}
use Rattle.bucketed_records.specs.declared.records.LinkedBucket.{LinkedBucket}
use Rattle.bucketed_records.specs.Private.Store.{Stored}
use Rattle.bucketed_store.specs.Private.Grows.{share, shelf_widened, shelves_widened}
use Rattle.bucketed_store.specs.Private.Returns.{width_of}
use Rattle.bucketed_store.specs.Private.StoreEdits.{Made, after_first, first_bucket_of, made_again, made_many, made_new, made_one, new_record, stored_shelf, stored_shelves}
use Rattle.bucketed_store.specs.declared.making.NewBuckets.{NewBuckets}

-- one more bucket takes no record away
pub made_one-keeps : (new : NewBuckets) (made : Made) → length made.buckets ≤ length (made_one new made).buckets
made_one-keeps new made = by_link made.unused
  where
    by_record : (number : ℕ) (found : Option LinkedBucket) → length made.buckets ≤ length (option_map_or (made_again new made number) found (made_new new made)).buckets
    by_record number None = omega (arith, length-append made.buckets (new_record new made.first 0 ∷ []))
    by_record number (Some old) =
        omega (arith, length-changed_by (λ (_ : LinkedBucket). new_record new made.first ((old.generation + 1) % 256)) made.buckets (Some number))

    by_link : (link : Option ℕ)
        → length made.buckets ≤ length (option_map_or (λ (number : ℕ). option_map_or (made_again new made number) (slice_get made.buckets number) (made_new new made)) link (made_new new made)).buckets
    by_link None = by_record 0 None
    by_link (Some number) = by_record number (slice_get made.buckets number)

-- nor do more
pub made_many-keeps : (count : ℕ) (new : NewBuckets) (made : Made) → length made.buckets ≤ length (made_many count new made).buckets
made_many-keeps zero new made = omega arith
made_many-keeps (suc count) new made = omega (arith, made_one-keeps new made, made_many-keeps count (after_first new) (made_one new made))

-- nor does a shelf that is made
stored_shelf-keeps : (frame : Frame) (new : NewShelf) (stored : Stored) → length stored.buckets ≤ length (stored_shelf frame new stored).buckets
stored_shelf-keeps frame new stored =
    let buckets : NewBuckets = record { shelf = length stored.shelves; width = width_of_share frame new.count; x = column_place frame new.column } in
    let made : Made = record { buckets = stored.buckets; unused = stored.unused; first = None } in
    made_many-keeps new.count buckets made

-- a filler has no more records behind it than there are with the shelf asked for
pub filler-keeps : (frame : Frame) (filler : NewShelf) (news : NewShelves) (stored : Stored) → news.filler ≡ Some filler
    → length (stored_shelf frame filler stored).buckets ≤ length (stored_shelves frame (news_of news) stored).buckets
filler-keeps frame filler news stored fills =
    subst (λ (found : Option NewShelf). length (stored_shelf frame filler stored).buckets ≤ length (stored_shelves frame (news_of (with_filler found)) stored).buckets) (sym fills)
    (stored_shelf-keeps frame news.asked (stored_shelf frame filler stored))
  where
    with_filler : Option NewShelf → NewShelves
    with_filler found = record { filler = found; asked = news.asked }

-- nor do shelves that get more
pub widened-keeps : (count number place added left : ℕ) (stored : Stored) → length stored.buckets ≤ length (shelves_widened count number place added left stored).buckets
widened-keeps zero number place added left stored = omega arith
widened-keeps (suc count) number place added left stored =
    let width = width_of stored.shelves number in
    let more = share added width left in
    let new : NewBuckets = record { shelf = number; width = width; x = place } in
    let made : Made = record { buckets = stored.buckets; unused = stored.unused; first = first_bucket_of stored.shelves number } in
    omega (
      arith,
      made_many-keeps more new made,
      widened-keeps count (suc number) place added (left - more) (shelf_widened number place more stored),
    )
