-- A ledger and a state stay tied when the atlas grows.
use Rattle.std.proofs.Common.{◌≡◌, None, List, [], ◌∷◌, sym, subst}
use Rattle.etagere_base.proofs.EachLemmas.{Each-weaken}
use Rattle.etagere_base.specs.declared.frames.Frame.{Frame}
use Rattle.etagere_base.specs.declared.geometry.Size.{Size}
use Rattle.etagere_base.specs.declared.ids.Allocation.{Allocation}
use Rattle.bucketed_model.specs.Adding.{AreNewTags}
use Rattle.bucketed_model.specs.Atlas.{Grows}
use Rattle.bucketed_model.specs.Growing.{grow_fault, grown, grown_frame, grow_counts, total}
use Rattle.bucketed_model.specs.Returning.{tag_of}
use Rattle.bucketed_model.specs.State.{BucketedState, Tag}
use Rattle.bucketed_model.specs.Tied.{AreInBuckets, AreInOrder, AreTied, BusyBucket, IsInABucket, Precedes, busy_buckets}
use Rattle.bucketed_model.proofs.Shelving.GrownFrames.{grow-fits}
use Rattle.bucketed_model.proofs.Shelving.GrownShelves.{busy-widened}
use Rattle.bucketed_model.proofs.Validity.GrownValid.{grown-valid, shelves-grown}

-- an entry that is in_buckets is so in a frame of the same direction
in_buckets-swapped : (frame other : Frame) (busy : List BusyBucket) (e : Allocation) → other.vertical ≡ frame.vertical → IsInABucket frame busy e → IsInABucket other busy e
in_buckets-swapped frame other busy e same in_buckets =
    let lies = in_buckets.lies in
    record {
      bucket = in_buckets.bucket;
      stands = in_buckets.stands;
      lies = record {
        along = lies.along;
        width = lies.width;
        tag = lies.tag;
        given = lies.given;
        rectangle = rw same lies.rectangle;
        wide = lies.wide;
        begins = lies.begins;
        ends = lies.ends;
      };
    }

-- and so is an order
order-swapped : (frame other : Frame) (entries : List Allocation) → other.vertical ≡ frame.vertical → AreInOrder frame entries → AreInOrder other entries
order-swapped frame other [] same order = tt
order-swapped frame other (e ∷ es) same order = (
  Each-weaken (λ (a : Allocation). tag_of e.id ≡ tag_of a.id → Precedes frame e a) (λ (a : Allocation). tag_of e.id ≡ tag_of a.id → Precedes other e a) es
      (λ (a : Allocation) (h : tag_of e.id ≡ tag_of a.id → Precedes frame e a) (k : tag_of e.id ≡ tag_of a.id).
      let before = h k in
      let now : Precedes other e a = record { given = before.given; place = rw same before.place } in now) order.0,
  order-swapped frame other es same order.1,
)

-- the atlas grows
pub tied-grown : (entries : List Allocation) (state : BucketedState) (size : Size) (tags : List Tag) → AreTied entries state → grow_fault state.frame size ≡ None
    → AreNewTags state.shelves (total (grow_counts state.frame size state.shelves)) tags → AreTied entries (grown state size tags)
tied-grown entries state size tags tied h are_new =
    let is_grown = shelves-grown state.frame size tags state.shelves tied.valid.frame (grow-fits state.frame size h) tied.valid.shelves are_new.each are_new.numbers in
    let frame = grown_frame state.frame size in
    let busy = busy_buckets state.shelves in
    let swapped : AreInBuckets frame busy entries = record {
      counted = tied.in_buckets.counted;
      placed = Each-weaken (IsInABucket state.frame busy) (IsInABucket frame busy) entries (λ (e : Allocation) (in_buckets : IsInABucket state.frame busy e). in_buckets-swapped state.frame frame busy e is_grown.vertical in_buckets) tied.in_buckets.placed;
      ordered = order-swapped state.frame frame entries is_grown.vertical tied.in_buckets.ordered;
    } in
    record {
      valid = grown-valid state size tags tied.valid h are_new;
      in_buckets = subst (λ (bs : List BusyBucket). AreInBuckets frame bs entries)
          (sym (busy-widened state.frame.column_width (grow_counts state.frame size state.shelves) tags [] state.shelves)) swapped;
    }

-- a grow keeps a ledger tied
pub grows-tied : (entries : List Allocation) (old : BucketedState) (size : Size) (new : BucketedState) → AreTied entries old → Grows old size new → AreTied entries new
grows-tied entries old size new tied h = subst (AreTied entries) (sym h.after) (tied-grown entries old size h.tags tied h.fits h.new_tags)
