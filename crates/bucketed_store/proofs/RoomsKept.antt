-- What is counted of the widths that records can give, once items are taken or come back, shelves are made or dropped.
use Rattle.std.proofs.Common.{◌≡◌, ℕ, zero, suc, ◌+◌, ◌%◌, ◌<◌, ◌≤◌, Bool, true, false, cond, Option, None, Some, List, [], ◌∷◌, length, refl, ap, subst, sym, ◌∙◌, arith, ◌==◌}
use Rattle.std.specs.Option.{option_map_or}
use Rattle.std.specs.Prelude.{option_map, slice_get}
use Rattle.etagere_links.specs.Edits.{changed_by}
use Rattle.etagere_links.proofs.RecordChanges.{get-changed_by}
use Rattle.bucketed_records.specs.declared.records.LinkedBucket.{LinkedBucket}
use Rattle.bucketed_records.specs.declared.records.KeptShelf.{KeptShelf}
use Rattle.bucketed_records.specs.Private.Store.{last_kept, record_room}
use Rattle.bucket_index.specs.Private.Rooms.{AreCounted, AreMore, IsOneChanged, one_in, slot_of, tally}
use Rattle.bucket_index.specs.declared.rooms.Rooms.{Rooms}
use Rattle.bucket_index.proofs.CountedRooms.{tally-changed, tally-kept, tally-more}
use Rattle.bucketed_store.specs.Private.Returns.{Dropping, end_dropped, last_dropped, linked_to, row_end, row_unused}
use Rattle.bucketed_store.specs.Private.StoreEdits.{Made, after_first, made_again, made_many, made_new, made_one, new_record}
use Rattle.bucketed_store.specs.declared.making.NewBuckets.{NewBuckets}

-- a record that changed can give another width
one-changed : (k before after : ℕ) (change : LinkedBucket → LinkedBucket) (buckets : List LinkedBucket) (bucket : LinkedBucket) → slice_get buckets k ≡ Some bucket → before ≡ record_room bucket → after ≡ record_room (change bucket)
    → IsOneChanged before after buckets (changed_by (Some k) change buckets)
one-changed k before after change buckets bucket is b a = λ slot.
    omega (arith, ap (one_in slot) b, ap (one_in slot) a, tally-changed slot k change buckets bucket is)

-- what is read where a record changed
read-changed : (k : ℕ) (change : LinkedBucket → LinkedBucket) (buckets : List LinkedBucket) (bucket : LinkedBucket) → slice_get buckets k ≡ Some bucket → slice_get (changed_by (Some k) change buckets) k ≡ Some (change bucket)
read-changed k change buckets bucket is = get-changed_by change buckets (Some k) k refl ∙ ap (option_map change) is

-- what is counted is enough once a record that changed was followed
pub followed : (k before : ℕ) (change : LinkedBucket → LinkedBucket) (buckets others : List LinkedBucket) (bucket : LinkedBucket) (rooms new : Rooms) → others ≡ changed_by (Some k) change buckets → slice_get buckets k ≡ Some bucket
    → before ≡ record_room bucket → AreCounted rooms buckets
    → ((earlier : List LinkedBucket) (one : LinkedBucket) → slice_get others k ≡ Some one → AreCounted rooms earlier → IsOneChanged before (record_room one) earlier others → AreCounted new others)
    → AreCounted new (changed_by (Some k) change buckets)
followed k before change buckets others bucket rooms new same is b counted follows =
    subst (AreCounted new) same
    (follows buckets (change bucket) (ap (λ (bs : List LinkedBucket). slice_get bs k) same ∙ read-changed k change buckets bucket is) counted
    (subst (IsOneChanged before (record_room (change bucket)) buckets) (sym same) (one-changed k before (record_room (change bucket)) change buckets bucket is b refl)))

-- one more bucket is one more record of its width at most
made-one : (slot : ℕ) (new : NewBuckets) (made : Made) → tally slot (made_one new made).buckets ≤ tally slot made.buckets + one_in slot new.width
made-one slot new made = by_link made.unused
  where
    by_record : (number : ℕ) (found : Option LinkedBucket) → slice_get made.buckets number ≡ found
        → tally slot (option_map_or (made_again new made number) found (made_new new made)).buckets ≤ tally slot made.buckets + one_in slot new.width
    by_record number None is = omega (arith, tally-more slot made.buckets (new_record new made.first 0))
    by_record number (Some old) is =
        omega (arith, tally-changed slot number (λ (_ : LinkedBucket). new_record new made.first ((old.generation + 1) % 256)) made.buckets old is)

    by_link : (link : Option ℕ)
        → tally slot (option_map_or (λ (number : ℕ). option_map_or (made_again new made number) (slice_get made.buckets number) (made_new new made)) link (made_new new made)).buckets ≤ tally slot made.buckets + one_in slot new.width
    by_link None = omega (arith, tally-more slot made.buckets (new_record new made.first 0))
    by_link (Some number) = by_record number (slice_get made.buckets number) refl

-- so many buckets are as many records of their width at most
pub made-many : (count : ℕ) (new : NewBuckets) (made : Made) → AreMore new.width count made.buckets (made_many count new made).buckets
made-many zero new made = λ slot. omega arith
made-many (suc count) new made = λ slot.
    omega (arith, sum (slot_of new.width == slot), made-one slot new made, made-many count (after_first new) (made_one new made) slot)
  where
    sum : (t : Bool) → cond t (suc count) 0 ≡ cond t 1 0 + cond t count 0
    sum true = omega arith
    sum false = omega arith

-- links change nothing
row-kept : (slot : ℕ) (first unused : Option ℕ) (buckets : List LinkedBucket) → tally slot (row_unused first unused buckets) ≡ tally slot buckets
row-kept slot None unused buckets = refl
row-kept slot (Some first) unused buckets = tally-kept slot (row_end buckets first).last (linked_to unused) buckets (λ b. refl)

-- dropping shelves changes links alone
pub dropped-kept : (slot steps : ℕ) (done : Dropping) → tally slot (end_dropped steps done).stored.buckets ≡ tally slot done.stored.buckets
dropped-kept slot zero done = refl
dropped-kept slot (suc steps) done = by_last (λ next. dropped-kept slot steps next) (last_kept done.stored.shelves)
  where
    by_test : ((next : Dropping) → tally slot (end_dropped steps next).stored.buckets ≡ tally slot next.stored.buckets) → (one : KeptShelf) (t : Bool)
        → tally slot (cond t (end_dropped steps (last_dropped one done)) done).stored.buckets ≡ tally slot done.stored.buckets
    by_test later one true = later (last_dropped one done) ∙ row-kept slot one.shelf.first_bucket done.stored.unused done.stored.buckets
    by_test later one false = refl

    by_last : ((next : Dropping) → tally slot (end_dropped steps next).stored.buckets ≡ tally slot next.stored.buckets) → (last : Option KeptShelf)
        → tally slot (option_map_or (λ (one : KeptShelf). cond (one.live_items == 0) (end_dropped steps (last_dropped one done)) done) last done).stored.buckets ≡ tally slot done.stored.buckets
    by_last later None = refl
    by_last later (Some one) = by_test later one (one.live_items == 0)

-- what is counted of records is enough for those that can give no more
pub counted-same : (rooms : Rooms) (buckets others : List LinkedBucket) → AreCounted rooms buckets → ((slot : ℕ) → tally slot others ≡ tally slot buckets) → AreCounted rooms others
counted-same rooms buckets others counted same = λ are slot count is small. omega (arith, same slot, counted are slot count is small)

-- the record of a number that is there
pub record IsThere (k : ℕ) (buckets : List LinkedBucket) : Type 0 where
  pub bucket : LinkedBucket
  pub at : slice_get buckets k ≡ Some bucket

pub is-there : (k : ℕ) (buckets : List LinkedBucket) → k < length buckets → IsThere k buckets
is-there k [] below = absurd (omega (arith, below))
is-there zero (x ∷ xs) below = record { bucket = x; at = refl }
is-there (suc k) (x ∷ xs) below =
    let rest = is-there k xs (omega (arith, below)) in
    record { bucket = rest.bucket; at = rest.at }
