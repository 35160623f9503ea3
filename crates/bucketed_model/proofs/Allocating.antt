-- An allocation leads from a valid state to a valid one, keeps a ledger tied, and gives a rectangle that lies inside, is
-- large enough and aligned.
use Rattle.std.proofs.Common.{◌≡◌, ℕ, ◌+◌, ◌*◌, ◌/◌, ◌%◌, ◌≤◌, List, [], ◌∷◌, ◌++◌, pos, refl, ap, arith, sym, ◌∙◌, subst, take}
use Rattle.std.proofs.Math.Nat.{add-mul}
use Rattle.std.proofs.lemmas.Nat.{div-add-mod'}
use Rattle.std.specs.Prelude.{slice_get, Some}
use Rattle.etagere_base.specs.declared.frames.Frame.{Frame}
use Rattle.etagere_base.specs.declared.geometry.Size.{Size}
use Rattle.etagere_base.specs.declared.ids.Allocation.{Allocation}
use Rattle.etagere_base.specs.declared.sides.Sides.{Sides}
use Rattle.etagere_base.specs.Frames.{across_side, alignment_along, along_side}
use Rattle.etagere_base.specs.Places.{rectangle_at}
use Rattle.etagere_base.specs.Rectangles.{IsAligned, IsInside, IsLarge}
use Rattle.etagere_base.proofs.Boxes.{LiesIn, inside-from_lies}
use Rattle.etagere_base.proofs.ReplacedLists.{split-at}
use Rattle.etagere_base.proofs.AskedSides.{asked-is, large-at}
use Rattle.bucketed_model.specs.Adding.{AreNewTags}
use Rattle.bucketed_model.specs.Atlas.{Allocates, Grows}
use Rattle.bucketed_model.specs.Laws.{CountsArea, CountsReturn}
use Rattle.bucketed_model.specs.Returning.{bucket_returned, tag_of}
use Rattle.bucketed_model.specs.Space.{allocated_space}
use Rattle.bucketed_model.proofs.Spacing.Spaces.{space-grown, space-returned, space-taken}
use Rattle.bucketed_model.proofs.Validity.Spots.{IsSpot}
use Rattle.bucketed_model.specs.State.{Bucket, BucketShelf, BucketedState, column_height, column_place}
use Rattle.bucketed_model.specs.Placing.{BucketPlacement, placement_of}
use Rattle.bucketed_model.specs.Taking.{allocation_in, bucket_taken, needed_buckets, prepared}
use Rattle.bucketed_model.specs.Tied.{AreTied}
use Rattle.bucketed_model.specs.Valid.{IsValid, StandBetween}
use Rattle.bucketed_model.proofs.Ledger.BusyApart.{height-own}
use Rattle.bucketed_model.proofs.Ledger.EntriesApart.{column-within}
use Rattle.bucketed_model.proofs.Ledger.EntriesTaken.{begins-along, ends-along}
use Rattle.bucketed_model.proofs.Validity.Placed.{IsPlaced, placement-placed}
use Rattle.bucketed_model.proofs.Shelving.Shares.{aligned-sum}
use Rattle.bucketed_model.proofs.Shelving.Shelves.{column_height-append}
use Rattle.bucketed_model.proofs.Validity.Taken.{spot-valid}
use Rattle.bucketed_model.proofs.Validity.TakenValid.{given-is, taken-valid}
use Rattle.bucketed_model.proofs.Ledger.TiedTaken.{tied-taken}

-- the placement of an allocation is ready
pub allocates-placed : (old : BucketedState) (size : Size) (allocation : Allocation) (new : BucketedState) → IsValid old → (h : Allocates old size allocation new) → IsPlaced old size h.placement h.tags
allocates-placed old size allocation new valid h = placement-placed old size h.placement h.tags valid h.placed h.new_tags

-- the next state is valid
pub allocates-valid : (old : BucketedState) (size : Size) (allocation : Allocation) (new : BucketedState) → IsValid old → Allocates old size allocation new → IsValid new
allocates-valid old size allocation new valid h =
    subst IsValid (sym h.after) (taken-valid old size h.placement h.tags valid (allocates-placed old size allocation new valid h))

-- what was given is what the bucket of the placement gives next
pub allocates-is : (old : BucketedState) (size : Size) (allocation : Allocation) (new : BucketedState) (h : Allocates old size allocation new) (placed : IsPlaced old size h.placement h.tags)
    → allocation_in old.frame placed.sides.along (prepared old.frame old.shelves h.tags h.placement.destination) placed.ready.spot ≡ allocation
allocates-is old size allocation new h placed = let is = given-is old size h.placement h.tags placed in let gave = h.gives in cc

-- a ledger stays tied with one entry more
pub allocates-tied : (entries : List Allocation) (old : BucketedState) (size : Size) (allocation : Allocation) (new : BucketedState) → AreTied entries old → Allocates old size allocation new
    → AreTied (entries ++ allocation ∷ []) new
allocates-tied entries old size allocation new tied h =
    let placed = allocates-placed old size allocation new tied.valid h in
    subst (AreTied (entries ++ allocation ∷ [])) (sym h.after)
    (subst (λ (a : Allocation). AreTied (entries ++ a ∷ []) (bucket_taken old h.placement h.tags)) (allocates-is old size allocation new h placed)
    (tied-taken entries old size h.placement h.tags placed tied))

-- no tags for no new buckets
pub no-tags : (state : BucketedState) (needed : ℕ) → IsValid state → needed ≡ 0 → AreNewTags state.shelves needed []
no-tags state needed valid none =
    record { count = sym none; each = tt; numbers = λ n. omega (arith, valid.shelves.numbers n) }

-- a destination that needs no new buckets can be taken
pub placed-allocates : (state : BucketedState) (size : Size) (placement : BucketPlacement) → IsValid state
    → placement_of state size ≡ Some placement → needed_buckets placement.destination ≡ 0
    → (allocation : Allocation) × Allocates state size allocation (bucket_taken state placement [])
placed-allocates state size placement valid placed_is none =
    let new_tags = no-tags state (needed_buckets placement.destination) valid none in
    let placed = placement-placed state size placement [] valid placed_is new_tags in (
      allocation_in state.frame placed.sides.along (prepared state.frame state.shelves [] placement.destination) placed.ready.spot,
      record {
        placement = placement;
        tags = [];
        placed = placed_is;
        new_tags = new_tags;
        gives = given-is state size placement [] placed;
        after = refl;
      },
    )

-- what is given is as large as the size
pub allocates-large : (old : BucketedState) (size : Size) (allocation : Allocation) (new : BucketedState) → IsValid old → Allocates old size allocation new → IsLarge old.frame size allocation.rectangle
allocates-large old size allocation new valid h =
    let placed = allocates-placed old size allocation new valid h in
    let spot = placed.ready.spot in
    let shelves = prepared old.frame old.shelves h.tags h.placement.destination in
    let is = asked-is old.frame size placed.sides placed.asked_is in
    subst (λ (a : Allocation). IsLarge old.frame size a.rectangle) (allocates-is old size allocation new h placed)
    (large-at old.frame size (spot.bucket.place + spot.bucket.used) (column_height spot.shelf.column (take spot.number shelves)) placed.sides.along spot.shelf.height
    (omega (arith, ap (λ (s : Sides). s.along) is)) (omega (arith, ap (λ (s : Sides). s.across) is, placed.ready.tall)))

-- a bucket between others stands at an aligned place
stand-aligned : (al width begin end : ℕ) (left : List Bucket) (b : Bucket) (right : List Bucket) → StandBetween al width begin end (left ++ b ∷ right) → b.place % al ≡ 0
stand-aligned al width begin end [] b right stand = stand.0
stand-aligned al width begin end (x ∷ left) b right stand = stand-aligned al width begin x.place left b right stand.2

-- and ends where the first of them ends, or before
stand-ends : (al width begin end : ℕ) (left : List Bucket) (b : Bucket) (right : List Bucket) → StandBetween al width begin end (left ++ b ∷ right) → b.place + width ≤ end
stand-ends al width begin end [] b right stand = stand.1
stand-ends al width begin end (x ∷ left) b right stand = omega (arith, stand-ends al width begin x.place left b right stand.2, stand.1)

-- what is given lies inside
pub allocates-inside : (old : BucketedState) (size : Size) (allocation : Allocation) (new : BucketedState) → IsValid old → Allocates old size allocation new → IsInside old.frame allocation.rectangle
allocates-inside old size allocation new valid h =
    let placed = allocates-placed old size allocation new valid h in
    let frame = old.frame in
    let spot = placed.ready.spot in
    let shelf = spot.shelf in
    let can = placed.ready.can in
    let at = can.at in
    let shelves = prepared frame old.shelves h.tags h.placement.destination in
    let is_shelf = (spot-valid frame shelves spot at placed.ready.valid).0 in
    let begin = column_place frame shelf.column in
    let end = begin + frame.column_width in
    let right = stand-ends (alignment_along frame) shelf.bucket_width begin end at.left spot.bucket at.right (subst (StandBetween (alignment_along frame) shelf.bucket_width begin end) at.buckets is_shelf.stand) in
    let above = ap (column_height shelf.column) at.before in
    let whole = ap (column_height shelf.column) at.whole ∙ column_height-append shelf.column at.front (shelf ∷ at.back) in
    let lies : LiesIn frame 0 (along_side frame) 0 (across_side frame) (allocation_in frame placed.sides.along shelves spot).rectangle = record {
      along = spot.bucket.place + spot.bucket.used;
      across = column_height shelf.column (take spot.number shelves);
      width = placed.sides.along;
      height = shelf.height;
      is = refl;
      wide = placed.asks.along;
      tall = can.tall;
      from_left = omega arith;
      to_right = omega (arith, right, can.room, column-within frame shelf.column valid.frame is_shelf.column);
      from_top = omega arith;
      to_bottom = omega (arith, above, whole, height-own shelf at.back, placed.ready.valid.heights shelf.column);
    } in
    subst (λ (a : Allocation). IsInside frame a.rectangle) (allocates-is old size allocation new h placed)
    (inside-from_lies frame (allocation_in frame placed.sides.along shelves spot).rectangle lies)

-- a length without a remainder is so many alignments
multiple : (length alignment : ℕ) → length % alignment ≡ 0 → length ≡ length / alignment * alignment
multiple length alignment even = omega (arith, div-add-mod' length alignment)

-- a rectangle is aligned whose place and width are
aligned-at : (frame : Frame) (along across width height : ℕ) → along % alignment_along frame ≡ 0 → width % alignment_along frame ≡ 0 → IsAligned frame (rectangle_at frame along across width height)
aligned-at frame along across width height even even_width =
    let al = alignment_along frame in
    let begins = multiple along al even in
    let wide = multiple width al even_width in
    record {
      place = along / al;
      extent = width / al;
      begins = begins-along frame along across width height ∙ ap pos begins;
      ends = ends-along frame along across width height ∙ ap pos (omega (arith, begins, wide, add-mul (along / al) (width / al) al));
    }

-- what is given is aligned
pub allocates-aligned : (old : BucketedState) (size : Size) (allocation : Allocation) (new : BucketedState) → IsValid old → Allocates old size allocation new → IsAligned old.frame allocation.rectangle
allocates-aligned old size allocation new valid h =
    let placed = allocates-placed old size allocation new valid h in
    let frame = old.frame in
    let al = alignment_along frame in
    let spot = placed.ready.spot in
    let at = placed.ready.can.at in
    let shelves = prepared frame old.shelves h.tags h.placement.destination in
    let parts = spot-valid frame shelves spot at placed.ready.valid in
    let begin = column_place frame spot.shelf.column in
    let end = begin + frame.column_width in
    let place = stand-aligned al spot.shelf.bucket_width begin end at.left spot.bucket at.right (subst (StandBetween al spot.shelf.bucket_width begin end) at.buckets parts.0.stand) in
    subst (λ (a : Allocation). IsAligned frame a.rectangle) (allocates-is old size allocation new h placed)
    (aligned-at frame (spot.bucket.place + spot.bucket.used) (column_height spot.shelf.column (take spot.number shelves)) placed.sides.along spot.shelf.height
    (aligned-sum spot.bucket.place spot.bucket.used al place parts.1.aligned) placed.asks.aligned)

-- an allocation adds the area that it gives
pub allocates-space : (old : BucketedState) (size : Size) (allocation : Allocation) (new : BucketedState) → IsValid old → Allocates old size allocation new → CountsArea old allocation new
allocates-space old size allocation new valid h =
    let placed = allocates-placed old size allocation new valid h in
    let spot = placed.ready.spot in
    let shelves = prepared old.frame old.shelves h.tags h.placement.destination in
    record {
      along = spot.bucket.place + spot.bucket.used;
      across = column_height spot.shelf.column (take spot.number shelves);
      width = placed.sides.along;
      height = spot.shelf.height;
      rectangle = ap (λ (a : Allocation). a.rectangle) (sym (allocates-is old size allocation new h placed));
      space = ap allocated_space h.after ∙ space-taken old size h.placement h.tags placed valid;
    }

-- a grow changes no space
pub grows-space : (old : BucketedState) (size : Size) (new : BucketedState) → IsValid old → Grows old size new → allocated_space new ≡ allocated_space old
grows-space old size new valid h = ap allocated_space h.after ∙ space-grown old size h.tags valid h.fits h.new_tags

-- a bucket that is read stands at a spot
read-spot : (shelves : List BucketShelf) (number : ℕ) (shelf : BucketShelf) (index : ℕ) (bucket : Bucket) → slice_get shelves number ≡ Some shelf → slice_get shelf.buckets index ≡ Some bucket
    → IsSpot shelves (record { number = number; shelf = shelf; bucket = bucket })
read-spot shelves number shelf index bucket h k =
    let one = split-at shelves number shelf h in
    let other = split-at shelf.buckets index bucket k in
    record { front = one.front; back = one.back; left = other.front; right = other.back; before = one.before; whole = one.whole; buckets = other.whole }

-- a return gives back what its bucket has used where that is emptied
pub returns-space : (state : BucketedState) (id number : ℕ) (shelf : BucketShelf) (index : ℕ) (bucket : Bucket) → IsValid state
    → slice_get state.shelves number ≡ Some shelf → slice_get shelf.buckets index ≡ Some bucket → bucket.tag.number ≡ (tag_of id).number
    → CountsReturn state (record { number = number; shelf = shelf; bucket = bucket }) (bucket_returned state id)
returns-space state id number shelf index bucket valid h k same =
    space-returned state id (record { number = number; shelf = shelf; bucket = bucket }) valid (read-spot state.shelves number shelf index bucket h k) (sym same)
