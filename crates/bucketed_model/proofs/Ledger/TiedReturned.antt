-- A ledger and a state stay tied when an entry is returned and taken out of the ledger; and each entry's id is known.
use Rattle.std.proofs.Common.{◌≡◌, ℕ, Bool, true, false, cond, List, [], ◌∷◌, ◌++◌, length, take, refl, ap, sym, ◌∙◌, subst, ⊎_elim}
use Rattle.std.proofs.Math.Seq.{take-append_seam}
use Rattle.etagere_base.proofs.EachLemmas.{Each-middle}
use Rattle.etagere_base.specs.declared.ids.Allocation.{Allocation}
use Rattle.bucketed_model.specs.Picking.{Spot}
use Rattle.bucketed_model.specs.Returning.{bucket_returned, returned_bucket, tag_of}
use Rattle.bucketed_model.specs.State.{Bucket, BucketShelf, BucketedState, Tag, changed_bucket, column_height, is_idle_bucket}
use Rattle.bucketed_model.specs.Tied.{AreInBuckets, AreTied, BusyBucket, IsInABucket, StandsIn, busy_after, busy_along, busy_buckets}
use Rattle.bucketed_model.proofs.Ledger.Busy.{busy-dropped}
use Rattle.bucketed_model.proofs.Validity.EmptiedValid.{returned-valid}
use Rattle.bucketed_model.proofs.Ledger.Entries.{stands-parts}
use Rattle.bucketed_model.proofs.Ledger.EntriesReturned.{in_buckets-returned}
use Rattle.bucketed_model.proofs.Ledger.EntriesSeen.{spot-view}
use Rattle.bucketed_model.proofs.Validity.Spots.{IsSpot}

-- a busy bucket is one of buckets
pub record IsOneOf (bs : List Bucket) (busy : BusyBucket) : Type 0 where
  pub left : List Bucket
  pub right : List Bucket
  pub whole : bs ≡ left ++ busy.bucket ∷ right

-- a busy one of buckets is one of them
one-of : (across height : ℕ) (bs : List Bucket) (busy : BusyBucket) → StandsIn busy (busy_along across height bs) → IsOneOf bs busy
one-of across height [] busy h = absurd h
one-of across height (b ∷ bs) busy h = by_test (is_idle_bucket b) h (one-of across height bs busy)
  where
    later : IsOneOf bs busy → IsOneOf (b ∷ bs) busy
    later one = record { left = b ∷ one.left; right = one.right; whole = ap (λ (cs : List Bucket). b ∷ cs) one.whole }

    by_test : (i : Bool) → StandsIn busy (cond i (busy_along across height bs) (record { bucket = b; across = across; height = height } ∷ busy_along across height bs))
        → (StandsIn busy (busy_along across height bs) → IsOneOf bs busy) → IsOneOf (b ∷ bs) busy
    by_test true h rest = later (rest h)
    by_test false h rest =
        ⊎_elim
        (λ (here : record { bucket = b; across = across; height = height } ≡ busy).
        let one : IsOneOf (b ∷ bs) busy = record { left = []; right = bs; whole = ap (λ (c : BusyBucket). c.bucket ∷ bs) here } in one)
        (λ (behind : StandsIn busy (busy_along across height bs)). later (rest behind)) h

-- a busy bucket stands at a spot
pub record HasSpot (shelves : List BucketShelf) (busy : BusyBucket) : Type 0 where
  pub front : List BucketShelf
  pub shelf : BucketShelf
  pub back : List BucketShelf
  pub whole : shelves ≡ front ++ shelf ∷ back
  pub one : IsOneOf shelf.buckets busy

-- a busy bucket of shelves stands at one
pub has-spot : (before xs : List BucketShelf) (busy : BusyBucket) → StandsIn busy (busy_after before xs) → HasSpot xs busy
has-spot before [] busy h = absurd h
has-spot before (x ∷ xs) busy h =
    ⊎_elim
    (λ (here : StandsIn busy (busy_along (column_height x.column before) x.height x.buckets)).
    let spot : HasSpot (x ∷ xs) busy = record { front = []; shelf = x; back = xs; whole = refl; one = one-of (column_height x.column before) x.height x.buckets busy here } in spot)
    (λ (later : StandsIn busy (busy_after (before ++ x ∷ []) xs)).
    let rest = has-spot (before ++ x ∷ []) xs busy later in
    let spot : HasSpot (x ∷ xs) busy = record { front = x ∷ rest.front; shelf = rest.shelf; back = rest.back; whole = ap (λ (ys : List BucketShelf). x ∷ ys) rest.whole; one = rest.one } in spot)
    (stands-parts busy (busy_along (column_height x.column before) x.height x.buckets) (busy_after (before ++ x ∷ []) xs) h)

-- the spot of a busy bucket
pub spot-of : (shelves : List BucketShelf) (busy : BusyBucket) (at : HasSpot shelves busy) → IsSpot shelves (record { number = length at.front; shelf = at.shelf; bucket = busy.bucket })
spot-of shelves busy at = record {
  front = at.front;
  back = at.back;
  left = at.one.left;
  right = at.one.right;
  before = ap (take (length at.front)) at.whole ∙ take-append_seam at.front (at.shelf ∷ at.back);
  whole = at.whole;
  buckets = at.one.whole;
}

-- an entry is returned
pub tied-returned : (one : List Allocation) (e : Allocation) (other : List Allocation) (state : BucketedState) → AreTied (one ++ e ∷ other) state → AreTied (one ++ other) (bucket_returned state e.id)
tied-returned one e other state tied =
    let in_buckets = Each-middle (IsInABucket state.frame (busy_buckets state.shelves)) one e other tied.in_buckets.placed in
    let at = has-spot [] state.shelves in_buckets.bucket in_buckets.stands in
    let b = in_buckets.bucket.bucket in
    let spot : Spot = record { number = length at.front; shelf = at.shelf; bucket = b } in
    let number : (tag_of e.id).number ≡ b.tag.number = ap (λ (tag : Tag). tag.number) in_buckets.lies.tag in
    let view = spot-view state.shelves spot returned_bucket (spot-of state.shelves in_buckets.bucket at) tied.valid.shelves.numbers in
    let before = subst (λ (bs : List BusyBucket). AreInBuckets state.frame bs (one ++ e ∷ other)) {x = busy_buckets state.shelves} view.old tied.in_buckets in
    let after = in_buckets-returned state.frame view.front view.back view.across at.shelf.height b one e other view.before_none view.behind_none in_buckets.lies.tag before in
    record {
      valid = returned-valid state e.id tied.valid;
      in_buckets = subst (λ (bs : List BusyBucket). AreInBuckets state.frame bs (one ++ other))
          (sym (busy-dropped (changed_bucket (tag_of e.id).number returned_bucket state.shelves)
          ∙ ap (λ (n : ℕ). busy_buckets (changed_bucket n returned_bucket state.shelves)) number ∙ view.after)) after;
    }
