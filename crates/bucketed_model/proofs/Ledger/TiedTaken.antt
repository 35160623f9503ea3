-- A ledger and a state stay tied when a size is placed and its allocation is added to the ledger.
use Rattle.std.proofs.Common.{ℕ, ◌+◌, List, [], ◌∷◌, ◌++◌, refl, ap, sym, ◌∙◌, subst}
use Rattle.etagere_base.specs.declared.frames.Frame.{Frame}
use Rattle.etagere_base.specs.declared.geometry.Size.{Size}
use Rattle.etagere_base.specs.declared.ids.Allocation.{Allocation}
use Rattle.etagere_base.specs.Places.{rectangle_at}
use Rattle.bucketed_model.specs.Placing.{BucketPlacement}
use Rattle.bucketed_model.specs.State.{BucketedState, Tag, fresh}
use Rattle.bucketed_model.specs.Taking.{allocation_in, bucket_taken, prepared, taken_bucket}
use Rattle.bucketed_model.specs.Tied.{AreInBuckets, AreTied, BusyBucket, busy_buckets}
use Rattle.bucketed_model.specs.Frames.{IsBucketedFrame}
use Rattle.bucketed_model.proofs.Ledger.EntriesTaken.{IsNext, in_buckets-given}
use Rattle.bucketed_model.proofs.Ledger.EntriesSeen.{spot-view}
use Rattle.bucketed_model.proofs.Validity.Placed.{IsPlaced}
use Rattle.bucketed_model.proofs.Validity.Taken.{spot-valid}
use Rattle.bucketed_model.proofs.Validity.TakenValid.{fresh-valid, taken-shelves, taken-valid}

-- an empty ledger and a new atlas
pub tied-fresh : (frame : Frame) → IsBucketedFrame frame → AreTied [] (fresh frame)
tied-fresh frame is_frame = record { valid = fresh-valid frame is_frame; in_buckets = record { counted = λ tag. refl; placed = tt; ordered = tt } }

-- a size that is placed
pub tied-taken : (entries : List Allocation) (state : BucketedState) (size : Size) (placement : BucketPlacement) (tags : List Tag) (placed : IsPlaced state size placement tags) → AreTied entries state
    → AreTied (entries ++ allocation_in state.frame placed.sides.along (prepared state.frame state.shelves tags placement.destination) placed.ready.spot ∷ []) (bucket_taken state placement tags)
tied-taken entries state size placement tags placed tied =
    let shelves = prepared state.frame state.shelves tags placement.destination in
    let ready = placed.ready in
    let spot = ready.spot in
    let item = placed.sides.along in
    let a = allocation_in state.frame item shelves spot in
    let view = spot-view shelves spot (taken_bucket item) ready.can.at ready.valid.numbers in
    let is_bucket = (spot-valid state.frame shelves spot ready.can.at ready.valid).1 in
    let next : IsNext state.frame view.across spot.shelf.height item spot.bucket a = record {
      id = refl;
      rectangle = ap (λ (across : ℕ). rectangle_at state.frame (spot.bucket.place + spot.bucket.used) across item spot.shelf.height) (sym view.across_is);
      wide = placed.asks.along;
      least = is_bucket.tag.number;
      few = ready.can.few;
    } in
    let before = subst (λ (bs : List BusyBucket). AreInBuckets state.frame bs entries) (sym ready.busy ∙ view.old) tied.in_buckets in
    let after = in_buckets-given state.frame view.front view.back view.across spot.shelf.height item spot.bucket entries a
    view.before_none view.behind_none view.before_busy view.behind_busy next before in
    record {
      valid = taken-valid state size placement tags tied.valid placed;
      in_buckets = subst (λ (bs : List BusyBucket). AreInBuckets state.frame bs (entries ++ a ∷ []))
          (sym (ap busy_buckets (taken-shelves state size placement tags placed) ∙ view.after)) after;
    }
