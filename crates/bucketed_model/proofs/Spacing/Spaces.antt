-- What space is allocated after an item was taken or returned, or the atlas grew.
use Rattle.std.proofs.Common.{◌≡◌, ℕ, ◌+◌, ◌*◌, Bool, true, false, cond, None, List, [], ◌∷◌, ◌++◌, refl, ap, arith, sym, ◌∙◌, add-zero}
use Rattle.std.proofs.Math.Nat.{add-mul, zero-mul}
use Rattle.std.proofs.lemmas.Bool.{eqb-true}
use Rattle.std.specs.List.{AllByRecursion}
use Rattle.etagere_base.specs.declared.frames.Frame.{Frame}
use Rattle.etagere_base.specs.declared.geometry.Size.{Size}
use Rattle.etagere_base.specs.Frames.{alignment_along}
use Rattle.bucketed_model.specs.Adding.{AreNewTags}
use Rattle.bucketed_model.specs.Growing.{grow_fault, grown, grow_counts, total}
use Rattle.bucketed_model.specs.Picking.{Spot}
use Rattle.bucketed_model.specs.Placing.{BucketPlacement}
use Rattle.bucketed_model.specs.Returning.{bucket_returned, returned_bucket, tag_of}
use Rattle.bucketed_model.specs.Space.{allocated_space, space_in, used_width}
use Rattle.bucketed_model.specs.State.{Bucket, BucketShelf, BucketedState, Tag, changed_bucket, column_height, is_idle_bucket}
use Rattle.bucketed_model.specs.Taking.{bucket_taken, prepared, taken_bucket}
use Rattle.bucketed_model.specs.Tied.{BusyBucket, busy_after, busy_along, busy_buckets}
use Rattle.bucketed_model.specs.Valid.{IsBucket, IsShelf, IsValid}
use Rattle.bucketed_model.proofs.Ledger.Busy.{busy-dropped}
use Rattle.bucketed_model.proofs.Validity.EmptiedValid.{bucket-returned, returned-valid}
use Rattle.bucketed_model.proofs.Shelving.GrownShelves.{busy-widened}
use Rattle.bucketed_model.proofs.Validity.GrownValid.{grown-valid}
use Rattle.bucketed_model.proofs.Ledger.EntriesSeen.{IsView, spot-view}
use Rattle.bucketed_model.proofs.Validity.Placed.{IsPlaced}
use Rattle.bucketed_model.proofs.Validity.Spots.{IsSpot}
use Rattle.bucketed_model.proofs.Validity.Taken.{bucket-taken, spot-valid}
use Rattle.bucketed_model.proofs.Validity.TakenValid.{taken-shelves, taken-valid}

-- the areas that busy buckets have used, added up
abbrev pub busy_space : List BusyBucket → ℕ
busy_space [] = 0
busy_space (busy ∷ others) = busy.bucket.used * busy.height + busy_space others

-- busy buckets end to end
busy_space-append : (xs ys : List BusyBucket) → busy_space (xs ++ ys) ≡ busy_space xs + busy_space ys
busy_space-append [] ys = omega arith
busy_space-append (x ∷ xs) ys = omega (arith, busy_space-append xs ys)

-- what the busy ones of buckets have used
space-along : (al width across height : ℕ) (bs : List Bucket) → AllByRecursion (IsBucket al width height) bs → busy_space (busy_along across height bs) ≡ used_width bs * height
space-along al width across height [] each = sym (zero-mul height)
space-along al width across height (b ∷ bs) each = by_test (is_idle_bucket b) refl (space-along al width across height bs each.1)
  where
    by_test : (i : Bool) → is_idle_bucket b ≡ i → busy_space (busy_along across height bs) ≡ used_width bs * height
        → busy_space (cond i (busy_along across height bs) (record { bucket = b; across = across; height = height } ∷ busy_along across height bs)) ≡ (b.used + used_width bs) * height
    by_test true e h = let none : b.used ≡ 0 = (each.0.idle (eqb-true b.live 0 e)).1 in rw none (omega (arith, h))
    by_test false e h = omega (arith, h, add-mul b.used (used_width bs) height)

-- what the busy buckets of shelves have used is all the space that they have allocated
pub space-after : (frame : Frame) (before xs : List BucketShelf) → AllByRecursion (IsShelf frame) xs → busy_space (busy_after before xs) ≡ space_in xs
space-after frame before [] each = refl
space-after frame before (x ∷ xs) each =
    omega (
      arith,
      busy_space-append (busy_along (column_height x.column before) x.height x.buckets) (busy_after (before ++ x ∷ []) xs),
      space-along (alignment_along frame) x.bucket_width (column_height x.column before) x.height x.buckets each.0.buckets,
      space-after frame (before ++ x ∷ []) xs each.1,
    )

-- the space of a valid state
pub space-busy : (state : BucketedState) → IsValid state → busy_space (busy_buckets state.shelves) ≡ allocated_space state
space-busy state valid = space-after state.frame [] state.shelves valid.shelves.each

-- what one bucket has used
space-one : (al width height across : ℕ) (b : Bucket) → IsBucket al width height b → busy_space (busy_along across height (b ∷ [])) ≡ b.used * height
space-one al width height across b is_bucket = space-along al width across height (b ∷ []) (is_bucket, tt) ∙ ap (λ (n : ℕ). n * height) (add-zero b.used)

-- the space around a bucket that was changed
space-changed : (al width : ℕ) (shelves changed : List BucketShelf) (spot : Spot) (new : Bucket) (view : IsView shelves changed spot new)
    → IsBucket al width spot.shelf.height spot.bucket → IsBucket al width spot.shelf.height new
    → busy_space (busy_buckets changed) + spot.bucket.used * spot.shelf.height ≡ busy_space (busy_buckets shelves) + new.used * spot.shelf.height
space-changed al width shelves changed spot new view is_old is_new =
    let one = busy_along view.across spot.shelf.height (spot.bucket ∷ []) in
    let other = busy_along view.across spot.shelf.height (new ∷ []) in
    omega (
      arith,
      ap busy_space view.old,
      ap busy_space view.after,
      busy_space-append view.front (one ++ view.back),
      busy_space-append one view.back,
      busy_space-append view.front (other ++ view.back),
      busy_space-append other view.back,
      space-one al width spot.shelf.height view.across spot.bucket is_old,
      space-one al width spot.shelf.height view.across new is_new,
    )

-- taking adds the area that was given
pub space-taken : (state : BucketedState) (size : Size) (placement : BucketPlacement) (tags : List Tag) (placed : IsPlaced state size placement tags) → IsValid state
    → allocated_space (bucket_taken state placement tags) ≡ allocated_space state + placed.sides.along * placed.ready.spot.shelf.height
space-taken state size placement tags placed valid =
    let shelves = prepared state.frame state.shelves tags placement.destination in
    let ready = placed.ready in
    let spot = ready.spot in
    let item = placed.sides.along in
    let al = alignment_along state.frame in
    let old = (spot-valid state.frame shelves spot ready.can.at ready.valid).1 in
    let new = bucket-taken al spot.shelf.bucket_width spot.shelf.height item spot.bucket ready.can.width ready.can.room ready.can.few ready.can.tall old in
    let changed = space-changed al spot.shelf.bucket_width shelves (changed_bucket spot.bucket.tag.number (taken_bucket item) shelves) spot (taken_bucket item spot.bucket)
    (spot-view shelves spot (taken_bucket item) ready.can.at ready.valid.numbers) old new in
    let same = ap (λ (xs : List BucketShelf). busy_space (busy_buckets xs)) (taken-shelves state size placement tags placed) in
    omega (
      arith,
      changed,
      same,
      ap busy_space ready.busy,
      space-busy state valid,
      space-busy (bucket_taken state placement tags) (taken-valid state size placement tags valid placed),
      add-mul spot.bucket.used item spot.shelf.height,
    )

-- a return gives back what its bucket has used where that is emptied, and else nothing
pub space-returned : (state : BucketedState) (id : ℕ) (spot : Spot) → IsValid state → IsSpot state.shelves spot → (tag_of id).number ≡ spot.bucket.tag.number
    → allocated_space (bucket_returned state id) + spot.bucket.used * spot.shelf.height ≡ allocated_space state + (returned_bucket spot.bucket).used * spot.shelf.height
space-returned state id spot valid at number =
    let al = alignment_along state.frame in
    let old = (spot-valid state.frame state.shelves spot at valid.shelves).1 in
    let new = bucket-returned al spot.shelf.bucket_width spot.shelf.height spot.bucket old in
    let changed = space-changed al spot.shelf.bucket_width state.shelves (changed_bucket spot.bucket.tag.number returned_bucket state.shelves) spot (returned_bucket spot.bucket)
    (spot-view state.shelves spot returned_bucket at valid.shelves.numbers) old new in
    let dropped = ap busy_space (busy-dropped (changed_bucket (tag_of id).number returned_bucket state.shelves)) in
    let same = ap (λ (n : ℕ). busy_space (busy_buckets (changed_bucket n returned_bucket state.shelves))) number in
    omega (arith, changed, dropped, same, space-busy state valid, space-busy (bucket_returned state id) (returned-valid state id valid))

-- a grow changes nothing
pub space-grown : (state : BucketedState) (size : Size) (tags : List Tag) → IsValid state → grow_fault state.frame size ≡ None
    → AreNewTags state.shelves (total (grow_counts state.frame size state.shelves)) tags → allocated_space (grown state size tags) ≡ allocated_space state
space-grown state size tags valid h are_new =
    sym (space-busy (grown state size tags) (grown-valid state size tags valid h are_new))
    ∙ ap busy_space (busy-widened state.frame.column_width (grow_counts state.frame size state.shelves) tags [] state.shelves)
    ∙ space-busy state valid
