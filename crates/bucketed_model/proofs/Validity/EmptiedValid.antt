-- A return leads from a valid state to a valid one.
use Rattle.std.proofs.Common.{◌≡◌, ℕ, ◌≤◌, false, refl, arith, subst}
use Rattle.std.proofs.lemmas.Bool.{cond_both}
use Rattle.std.proofs.Math.Nat.{zero-mod}
use Rattle.std.specs.Prelude.{nat_le}
use Rattle.std.specs.List.{AllByRecursion}
use Rattle.etagere_base.proofs.EachLemmas.{Each-weaken}
use Rattle.etagere_base.specs.Frames.{alignment_along}
use Rattle.bucketed_model.specs.Returning.{bucket_returned, emptied_bucket, lessened_bucket, returned_bucket, tag_of, without_idle_end}
use Rattle.bucketed_model.specs.State.{Bucket, BucketShelf, BucketedState, changed_bucket}
use Rattle.bucketed_model.specs.Valid.{AreShelves, IsBucket, IsShelf, IsValid}
use Rattle.bucketed_model.proofs.Validity.Changed.{FitsShelf, Keeps, shelves-changed}
use Rattle.bucketed_model.proofs.Shelving.Ends.{drops-end, ends_busy}
use Rattle.bucketed_model.proofs.Shelving.Shelves.{shelves-front}

-- a return keeps where a bucket stands, and its number
pub return-keeps : Keeps returned_bucket
return-keeps = record {
  place = λ b. cond_both (nat_le b.live 1) (emptied_bucket b) (lessened_bucket b) (λ (c : Bucket). c.place ≡ b.place) (λ _. refl) (λ _. refl);
  number = λ b. cond_both (nat_le b.live 1) (emptied_bucket b) (lessened_bucket b) (λ (c : Bucket). c.tag.number ≡ b.tag.number) (λ _. refl) (λ _. refl);
}

-- an emptied bucket is as a bucket must be
bucket-emptied : (al width height : ℕ) (b : Bucket) → IsBucket al width height b → IsBucket al width height (emptied_bucket b)
bucket-emptied al width height b is_bucket = record {
  tag = record { number = is_bucket.tag.number; generation = omega arith };
  used = omega arith;
  aligned = zero-mod al;
  live = omega arith;
  given = omega arith;
  idle = λ _. (refl, refl);
  busy = λ h. absurd (omega (arith, h));
}

-- a bucket with one live item less, but not the last one, is as a bucket must be
bucket-lessened : (al width height : ℕ) (b : Bucket) → 2 ≤ b.live → IsBucket al width height b → IsBucket al width height (lessened_bucket b)
bucket-lessened al width height b many is_bucket = record {
  tag = is_bucket.tag;
  used = is_bucket.used;
  aligned = is_bucket.aligned;
  live = omega (arith, is_bucket.live);
  given = is_bucket.given;
  idle = λ h. absurd (omega (arith, h));
  busy = λ _. is_bucket.busy (omega arith);
}

-- a bucket after a return is as a bucket must be
pub bucket-returned : (al width height : ℕ) (b : Bucket) → IsBucket al width height b → IsBucket al width height (returned_bucket b)
bucket-returned al width height b is_bucket =
    cond_both (nat_le b.live 1) (emptied_bucket b) (lessened_bucket b) (IsBucket al width height)
    (λ _. bucket-emptied al width height b is_bucket)
    (λ (h : nat_le b.live 1 ≡ false). bucket-lessened al width height b (grind arith) is_bucket)

-- the state after a return is valid
pub returned-valid : (state : BucketedState) (id : ℕ) → IsValid state → IsValid (bucket_returned state id)
returned-valid state id valid =
    let n = (tag_of id).number in
    let drops = drops-end (changed_bucket n returned_bucket state.shelves) in
    record {
      frame = valid.frame;
      shelves = shelves-front state.frame (without_idle_end (changed_bucket n returned_bucket state.shelves)) drops.back
          (subst (AreShelves state.frame) drops.whole
          (shelves-changed state.frame n returned_bucket return-keeps state.shelves valid.shelves
          (Each-weaken (IsShelf state.frame) (λ (x : BucketShelf). AllByRecursion (FitsShelf state.frame n returned_bucket x) x.buckets) state.shelves
          (λ (x : BucketShelf) (is_shelf : IsShelf state.frame x). Each-weaken _ (FitsShelf state.frame n returned_bucket x) x.buckets
          (λ (b : Bucket) (is_bucket : IsBucket (alignment_along state.frame) x.bucket_width x.height b) (_ : b.tag.number ≡ n). bucket-returned _ _ _ b is_bucket)
          is_shelf.buckets)
          valid.shelves.each)));
      ends = ends_busy (changed_bucket n returned_bucket state.shelves);
    }
