-- A new atlas is valid, and taking leads from a valid state to a valid one and gives what the ready bucket has next.
use Rattle.std.proofs.Common.{◌≡◌, ℕ, Option, Some, List, false, refl, ap, arith, sym, ◌∙◌, subst}
use Rattle.std.specs.Option.{option_map_or}
use Rattle.std.specs.Prelude.{option_map}
use Rattle.etagere_base.specs.declared.frames.Frame.{Frame}
use Rattle.etagere_base.specs.declared.geometry.Size.{Size}
use Rattle.bucketed_model.specs.Frames.{IsBucketedFrame}
use Rattle.bucketed_model.specs.Picking.{Spot}
use Rattle.bucketed_model.specs.Placing.{BucketPlacement}
use Rattle.bucketed_model.specs.State.{BucketShelf, BucketedState, Tag, changed_bucket, fresh}
use Rattle.bucketed_model.specs.Taking.{allocation_in, bucket_taken, given, prepared, taken_bucket}
use Rattle.bucketed_model.specs.Valid.{AreShelves, IsValid, ends_idle}
use Rattle.bucketed_model.proofs.Validity.Placed.{IsPlaced}
use Rattle.bucketed_model.proofs.Validity.Taken.{shelves-taken}

-- a new atlas is valid
pub fresh-valid : (frame : Frame) → IsBucketedFrame frame → IsValid (fresh frame)
fresh-valid frame is_frame = record {
  frame = is_frame;
  shelves = record { each = tt; columns = tt; heights = λ column. omega arith; numbers = λ n. omega arith; few = omega arith };
  ends = refl;
}

-- the shelves after a placement was taken are those that were made ready, with the item taken
pub taken-shelves : (state : BucketedState) (size : Size) (placement : BucketPlacement) (tags : List Tag) (placed : IsPlaced state size placement tags)
    → (bucket_taken state placement tags).shelves
    ≡ changed_bucket placed.ready.spot.bucket.tag.number (taken_bucket placed.sides.along) (prepared state.frame state.shelves tags placement.destination)
taken-shelves state size placement tags placed =
    let shelves = prepared state.frame state.shelves tags placement.destination in
    ap (λ (o : Option Spot). option_map_or (λ (spot : Spot). changed_bucket spot.bucket.tag.number (taken_bucket placement.width) shelves) o shelves) placed.ready.found
    ∙ ap (λ (width : ℕ). changed_bucket placed.ready.spot.bucket.tag.number (taken_bucket width) shelves) placed.width

-- a placement gives what its bucket gives next
pub given-is : (state : BucketedState) (size : Size) (placement : BucketPlacement) (tags : List Tag) (placed : IsPlaced state size placement tags)
    → given state placement tags ≡ Some (allocation_in state.frame placed.sides.along (prepared state.frame state.shelves tags placement.destination) placed.ready.spot)
given-is state size placement tags placed =
    let shelves = prepared state.frame state.shelves tags placement.destination in
    ap (option_map (allocation_in state.frame placement.width shelves)) placed.ready.found
    ∙ ap (λ (width : ℕ). Some (allocation_in state.frame width shelves placed.ready.spot)) placed.width

-- a valid state after a placement was taken
pub taken-valid : (state : BucketedState) (size : Size) (placement : BucketPlacement) (tags : List Tag) → IsValid state → IsPlaced state size placement tags
    → IsValid (bucket_taken state placement tags)
taken-valid state size placement tags valid placed =
    let same = sym (taken-shelves state size placement tags placed) in
    record {
      frame = valid.frame;
      shelves = subst (AreShelves state.frame) same
          (shelves-taken state.frame (prepared state.frame state.shelves tags placement.destination) placed.sides.along placed.ready.spot placed.ready.valid placed.ready.can);
      ends = subst (λ (xs : List BucketShelf). ends_idle xs ≡ false) same placed.ready.ends;
    }
