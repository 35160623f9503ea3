-- Records spell the shelves after an item was returned to its bucket.
use Rattle.std.proofs.Common.{◌≡◌, ℕ, zero, suc, ◌-◌, ◌≤◌, Bool, true, false, cond, Option, None, Some, List, [], ◌∷◌, ◌++◌, length, refl, ap, arith, subst, sym, ◌∙◌}
use Rattle.std.proofs.lemmas.Bool.{cond_both}
use Rattle.std.proofs.lemmas.List.{map-append}
use Rattle.std.specs.Option.{option_map_or}
use Rattle.std.specs.Prelude.{slice_get, nat_le}
use Rattle.etagere_base.proofs.EachLemmas.{Each-weaken}
use Rattle.etagere_base.proofs.ReplacedLists.{slice_get-append}
use Rattle.etagere_base.specs.declared.frames.Frame.{Frame}
use Rattle.etagere_base.specs.Lists.{times}
use Rattle.etagere_links.specs.Edits.{changed_by}
use Rattle.etagere_links.proofs.Chains.{Leads-frame}
use Rattle.etagere_links.proofs.RecordChanges.{length-changed_by, link_at-same, map-changed_by}
use Rattle.bucketed_model.specs.Returning.{emptied_bucket, lessened_bucket, returned_bucket}
use Rattle.bucketed_model.specs.State.{Bucket, BucketShelf, bucket_numbers, changed_bucket, changed_in}
use Rattle.bucketed_model.proofs.Ledger.EntriesSeen.{same-shelves, shelf-here}
use Rattle.bucketed_model.proofs.Shelving.Shelves.{column_height-append}
use Rattle.bucketed_model.proofs.Validity.Changed.{bucket_numbers-changed}
use Rattle.bucketed_model.proofs.Validity.EmptiedValid.{return-keeps}
use Rattle.bucketed_model.proofs.Validity.Spots.{each-numbered, others-buckets, others-shelves, spot-alone}
use Rattle.bucketed_records.specs.declared.records.LinkedBucket.{LinkedBucket}
use Rattle.bucketed_records.specs.BucketRecords.{next_of}
use Rattle.bucketed_records.specs.Private.Store.{AreShelvesSpelled, HasUnused, Spells, Stored, first_link, kept_shelf, kept_shelves, live_items, record_of, widest_room}
use Rattle.bucketed_records.specs.declared.records.KeptShelf.{KeptShelf}
use Rattle.bucketed_records.specs.StandsFor.{live_of, shelf_of}
use Rattle.bucketed_records.proofs.Spelling.KeptShelves.{kept-append, kept-heights, length-kept}
use Rattle.bucketed_store.specs.Private.Returns.{emptied_record, item_returned, lessened_record, returned_kept, returned_record, width_of}
use Rattle.bucketed_store.proofs.Emptying.SpelledSpots.{HasBucket, is-spot, record-at, spot_at}
use Rattle.bucketed_store.proofs.Emptying.SpelledReturns.{first-changed, live-less, returned-spelled, shelves-changed-spelled, widest-all, widest-same}

-- the element between a front and a back is changed by its number
pub changed-middle : {X : Type 0} (change : X → X) (front : List X) (x : X) (back : List X) (n : ℕ) → length front ≡ n
    → changed_by (Some n) change (front ++ x ∷ back) ≡ front ++ change x ∷ back
changed-middle change [] x back zero long = refl
changed-middle change [] x back (suc n) long = absurd (omega (arith, long))
changed-middle change (y ∷ front) x back zero long = absurd (omega (arith, long))
changed-middle change (y ∷ front) x back (suc n) long = ap (λ (zs : List _). y ∷ zs) (changed-middle change front x back n (omega (arith, long)))

-- no record gets more live items
live-le : (edit : LinkedBucket → LinkedBucket) → ((r : LinkedBucket) → (edit r).refcount ≤ r.refcount) → (records : List LinkedBucket) (n k : ℕ)
    → live_of (changed_by (Some n) edit records) k ≤ live_of records k
live-le edit less [] n k = omega arith
live-le edit less (r ∷ rs) zero zero = less r
live-le edit less (r ∷ rs) zero (suc k) = omega arith
live-le edit less (r ∷ rs) (suc n) zero = omega arith
live-le edit less (r ∷ rs) (suc n) (suc k) = live-le edit less rs n k

-- a return leaves the link of a record, and no more of it live
next-returned : (width : ℕ) (r : LinkedBucket) → (returned_record width r).next ≡ r.next
next-returned width r = cond_both (nat_le r.refcount 1) (emptied_record width r) (lessened_record r) (λ (s : LinkedBucket). s.next ≡ r.next) (λ _. refl) (λ _. refl)

less-returned : (width : ℕ) (r : LinkedBucket) → (returned_record width r).refcount ≤ r.refcount
less-returned width r = cond_both (nat_le r.refcount 1) (emptied_record width r) (lessened_record r) (λ (s : LinkedBucket). s.refcount ≤ r.refcount) (λ _. omega arith) (λ _. omega arith)

-- the records in use and the unused ones after a return
has_unused-returned : (records : List LinkedBucket) (top : Option ℕ) (used unused : List ℕ) (width n : ℕ) → HasUnused records top used unused
    → HasUnused (changed_by (Some n) (returned_record width) records) top used unused
has_unused-returned records top used unused width n has_unused =
    let edit = returned_record width in
    let new = changed_by (Some n) edit records in
    let long : length new ≡ length records = length-changed_by edit records (Some n) in
    record {
      list = Leads-frame (next_of records) (next_of new) unused top None
          (λ k stands. link_at-same (λ (r : LinkedBucket). r.next) records new k (map-changed_by (λ (r : LinkedBucket). r.next) edit records (Some n) (next-returned width))) has_unused.list;
      once = rw long has_unused.once;
      count = long ∙ has_unused.count;
      few = rw long has_unused.few;
      idle = Each-weaken (λ (k : ℕ). live_of records k ≡ 0) (λ (k : ℕ). live_of new k ≡ 0) unused (λ k h. omega (arith, h, live-le edit (less-returned width) records n k)) has_unused.idle;
    }

-- a return takes one live item
live-returned : (b : Bucket) → 1 ≤ b.live → (returned_bucket b).live ≡ b.live - 1
live-returned b some = cond_both (nat_le b.live 1) (emptied_bucket b) (lessened_bucket b) (λ (c : Bucket). c.live ≡ b.live - 1)
    (λ (h : nat_le b.live 1 ≡ true). none b.live h) (λ _. refl)
  where
    none : (n : ℕ) → nat_le n 1 ≡ true → 0 ≡ n - 1
    none n h = grind arith

-- the greatest room after a return
widest-returned : (t : Bool) (width : ℕ) (left : List Bucket) (b : Bucket) (right : List Bucket)
    → cond t width (widest_room width (left ++ b ∷ right)) ≡ widest_room width (left ++ cond t (emptied_bucket b) (lessened_bucket b) ∷ right)
widest-returned true width left b right = sym (widest-all width left (emptied_bucket b) right (omega arith))
widest-returned false width left b right = sym (widest-same width left b (lessened_bucket b) right refl)

-- what is kept of the shelf after a return
kept-returned : (frame : Frame) (front : List BucketShelf) (x : BucketShelf) (left : List Bucket) (b : Bucket) (right : List Bucket) → x.buckets ≡ left ++ b ∷ right
    → (changed_in b.tag.number returned_bucket x).buckets ≡ left ++ returned_bucket b ∷ right → 1 ≤ b.live
    → returned_kept (nat_le b.live 1) (kept_shelf frame front x) ≡ kept_shelf frame front (changed_in b.tag.number returned_bucket x)
kept-returned frame front x left b right old new some =
    let n = b.tag.number in
    let buckets = (changed_in n returned_bucket x).buckets in
    let first : first_link buckets ≡ first_link x.buckets = first-changed n returned_bucket return-keeps x.buckets in
    let live : live_items x.buckets - 1 ≡ live_items buckets = ap (λ (bs : List Bucket). live_items bs - 1) old ∙ live-less left b (returned_bucket b) right (live-returned b some) some ∙ ap live_items (sym new) in
    let widest : cond (nat_le b.live 1) x.bucket_width (widest_room x.bucket_width x.buckets) ≡ widest_room x.bucket_width buckets =
    ap (λ (bs : List Bucket). cond (nat_le b.live 1) x.bucket_width (widest_room x.bucket_width bs)) old
    ∙ widest-returned (nat_le b.live 1) x.bucket_width left b right ∙ ap (widest_room x.bucket_width) (sym new) in
    rw (first, live, widest) refl

-- records spell the shelves after an item was returned to a bucket that holds something live
pub item-spells : (frame : Frame) (stored : Stored) (unused : List ℕ) (xs : List BucketShelf) (number : ℕ) (has : HasBucket number xs)
    → ((n : ℕ) → times n (bucket_numbers xs) ≤ 1) → 1 ≤ has.bucket.live → Spells frame stored unused xs
    → Spells frame (item_returned number stored) unused (changed_bucket number returned_bucket xs)
item-spells frame stored unused xs number has once some spells =
    let x = has.shelf in
    let b = has.bucket in
    let n = b.tag.number in
    let i = length has.front in
    let records = stored.buckets in
    let width = width_of stored.shelves (shelf_of records n) in
    let at : slice_get records n ≡ Some (record_of i x.bucket_width (first_link has.right) b) =
    subst (λ (m : ℕ). slice_get records m ≡ Some (record_of i x.bucket_width (first_link has.right) b)) (sym has.same) (record-at records number xs has spells.buckets) in
    let shelf : shelf_of records n ≡ i = ap (λ (r : Option LinkedBucket). option_map_or (λ (s : LinkedBucket). s.shelf) r 0) at in
    let live : live_of records n ≡ b.live = ap (λ (r : Option LinkedBucket). option_map_or (λ (s : LinkedBucket). s.refcount) r 0) at in
    let A = kept_shelves frame [] has.front in
    let kept = kept_shelf frame has.front x in
    let B = kept_shelves frame (has.front ++ x ∷ []) has.back in
    let long : length A ≡ i = length-kept frame [] has.front in
    let whole : stored.shelves ≡ A ++ kept ∷ B = spells.shelves ∙ ap (kept_shelves frame []) has.whole ∙ kept-append frame [] has.front (x ∷ has.back) in
    let wide : width ≡ x.bucket_width =
    ap (width_of stored.shelves) shelf ∙ ap (λ (ks : List KeptShelf). width_of ks i) whole
    ∙ ap (λ (r : Option KeptShelf). option_map_or (λ (k : KeptShelf). k.shelf.bucket_width) r 0) (slice_get-append A kept B i long) in
    let spot = is-spot number xs has in
    let alone = spot-alone xs (spot_at has) spot once in
    let x' = changed_in n returned_bucket x in
    let others_front = others-shelves n has.front alone.before in
    let others_back = others-shelves n has.back alone.behind in
    let new_buckets = shelf-here returned_bucket x has.left b has.right has.buckets (others-buckets n has.left alone.beside) (others-buckets n has.right alone.past) in
    let changed : changed_bucket n returned_bucket xs ≡ has.front ++ x' ∷ has.back =
    ap (changed_bucket n returned_bucket) has.whole ∙ map-append (changed_in n returned_bucket) has.front (x ∷ has.back)
    ∙ ap (λ (ys : List BucketShelf). ys ++ x' ∷ changed_bucket n returned_bucket has.back) (same-shelves n returned_bucket has.front others_front)
    ∙ ap (λ (ys : List BucketShelf). has.front ++ x' ∷ ys) (same-shelves n returned_bucket has.back others_back) in
    let edit = returned_kept (nat_le (live_of records n) 1) in
    let one : edit kept ≡ kept_shelf frame has.front x' =
    ap (λ (m : ℕ). returned_kept (nat_le m 1) kept) live ∙ kept-returned frame has.front x has.left b has.right has.buckets new_buckets some in
    let behind : B ≡ kept_shelves frame (has.front ++ x' ∷ []) has.back =
    kept-heights frame (has.front ++ x ∷ []) (has.front ++ x' ∷ []) has.back
    (λ c. column_height-append c has.front (x ∷ []) ∙ sym (column_height-append c has.front (x' ∷ []))) in
    let each = each-numbered
    (λ (s : BucketShelf) (c : Bucket). (m : ℕ) (next : Option ℕ) → returned_record x.bucket_width (record_of m s.bucket_width next c) ≡ record_of m s.bucket_width next (returned_bucket c))
    xs (spot_at has) spot once (λ m next. returned-spelled m x.bucket_width next b) in
    let after : Spells frame (item_returned n stored) unused (changed_bucket n returned_bucket xs) = record {
      shelves = ap (changed_by (Some (shelf_of records n)) edit) whole
          ∙ changed-middle edit A kept B (shelf_of records n) (long ∙ sym shelf)
          ∙ ap (λ (k : KeptShelf). A ++ k ∷ B) one
          ∙ ap (λ (ks : List KeptShelf). A ++ kept_shelf frame has.front x' ∷ ks) behind
          ∙ sym (ap (kept_shelves frame []) changed ∙ kept-append frame [] has.front (x' ∷ has.back));
      buckets = subst (λ (w : ℕ). AreShelvesSpelled (changed_by (Some n) (returned_record w) records) 0 (changed_bucket n returned_bucket xs)) (sym wide)
          (shelves-changed-spelled records 0 n (returned_record x.bucket_width) returned_bucket return-keeps xs each spells.buckets);
      has_unused = rw (bucket_numbers-changed n returned_bucket return-keeps xs) (has_unused-returned records stored.unused (bucket_numbers xs) unused width n spells.has_unused);
    } in
    subst (λ (m : ℕ). Spells frame (item_returned m stored) unused (changed_bucket m returned_bucket xs)) has.same after
