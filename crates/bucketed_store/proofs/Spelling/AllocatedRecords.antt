-- An allocation among records that spell a valid state: what it needs, what it gives, and the state that the records spell
-- after it.
use Rattle.std.proofs.Common.{◌≡◌, ℕ, ◌+◌, ◌*◌, ◌<◌, ◌≤◌, Option, None, Some, List, length, take, refl, ap, arith, sym, ◌∙◌, subst}
use Rattle.std.proofs.lemmas.Option.{slice_get_within}
use Rattle.std.specs.Option.{option_map_or}
use Rattle.std.specs.Prelude.{option_and_then, option_map, slice_get, ◌^◌}
use Rattle.etagere_base.proofs.AskedSides.{IsAsked, asked-sides}
use Rattle.etagere_base.specs.declared.frames.Frame.{Frame}
use Rattle.etagere_base.specs.declared.geometry.Size.{Size}
use Rattle.etagere_base.specs.declared.ids.Allocation.{Allocation}
use Rattle.etagere_base.specs.declared.sides.Sides.{Sides}
use Rattle.etagere_base.specs.Frames.{asked}
use Rattle.etagere_base.specs.Lists.{times}
use Rattle.bucketed_model.specs.Adding.{left_to}
use Rattle.bucketed_model.specs.Atlas.{Allocates, NeedsShelf}
use Rattle.bucketed_model.specs.Placing.{Destination, BucketPlacement, destination_of, placement_of}
use Rattle.bucketed_model.specs.Placing as placing
use Rattle.bucketed_model.specs.Space.{allocated_space}
use Rattle.bucketed_model.specs.State.{BucketedState, available_height, bucket_numbers, buckets_in_use, changed_bucket, current_column}
use Rattle.bucketed_model.specs.Taking.{bucket_taken, prepared, taken_bucket}
use Rattle.bucketed_model.specs.Valid.{IsValid}
use Rattle.bucketed_model.proofs.Validity.Placed.{IsPlaced, IsReady}
use Rattle.bucketed_model.proofs.Validity.Placed as placed
use Rattle.bucketed_model.proofs.Validity.TakenValid.{given-is, taken-shelves, taken-valid}
use Rattle.bucketed_model.proofs.Validity.Changed.{buckets_in_use-changed}
use Rattle.bucketed_model.proofs.Validity.Picked.{map-parts}
use Rattle.bucketed_model.proofs.Validity.Taken.{spot-valid}
use Rattle.bucketed_model.proofs.Spacing.Spaces.{space-taken}
use Rattle.bucketed_records.specs.declared.records.LinkedBucket.{LinkedBucket}
use Rattle.bucketed_records.specs.declared.records.KeptShelf.{KeptShelf}
use Rattle.bucketed_records.specs.Private.Store.{Spells, Stored, kept_shelf, record_of, stored_state}
use Rattle.bucketed_records.specs.Private.Witnessed.{Witnessed}
use Rattle.bucketed_records.proofs.Spelling.Fresh.{witnessed-read}
use Rattle.bucket_index.specs.declared.searching.FoundBucket.{FoundBucket}
use Rattle.bucketed_store.specs.Private.Placing.{Placement, kept_placement}
use Rattle.bucketed_store.specs.Private.StoreEdits.{CanGive, CanPrepare, HasFirst, IsAdding, IsInRow, IsShort, IsWidest, end_of, first_bucket_of, found_first, found_of, height_of, kept_allocation, live_items_of, needed_for, stored_ready, stored_taken}
use Rattle.bucketed_store.specs.Private.StoreEdits as store
use Rattle.bucketed_store.proofs.Spelling.FoundBucket.{found_seen}
use Rattle.bucketed_store.proofs.Spelling.PlacedRecords.{AreReady, CanReady, found-is, destination-is, destination-ready, placement_by}
use Rattle.bucketed_store.proofs.Spelling.Ends.{end-kept, short-kept}
use Rattle.bucketed_store.proofs.Spelling.SpotRecords.{spot-few, spot-given, spot-gives, spot-height, spot-records, spot-takes, spot-within, used-not_unused}
use Rattle.bucketed_store.proofs.Spelling.WidestSpots.{spot-stands, spot-widest}
use Rattle.bucketed_store.proofs.Spelling.TakenRecords.{part-at, spells-taken}

-- a placement of these sides
abbrev pub placement_at : Sides → Destination → BucketPlacement
placement_at sides destination = record { width = sides.along; destination = destination }

-- the destination of a size is ready among records
pub record Prepares (state : BucketedState) (size : Size) (sides : Sides) (destination : Destination) (stored : Stored) : Type 0 where
  pub ready : AreReady state.frame destination stored state.shelves
  pub asked_is : asked state.frame size ≡ Some sides
  pub asks : IsAsked state.frame sides
  pub is_ready : IsReady state.frame state.shelves sides destination (prepared state.frame state.shelves ready.tags destination)
  pub is : placement_of state size ≡ Some (placement_at sides destination)
  pub found : found_of (placement_by destination) (stored_ready state.frame (placement_by destination) stored) ≡ Some (found_seen is_ready.spot)

-- its placement
abbrev placed_of : (state : BucketedState) (size : Size) (sides : Sides) (destination : Destination) (stored : Stored) (p : Prepares state size sides destination stored)
    → IsPlaced state size (placement_at sides destination) p.ready.tags
placed_of state size sides destination stored p = record { sides = sides; asked_is = p.asked_is; asks = p.asks; width = refl; ready = p.is_ready }

-- the destination of a size becomes ready
pub prepares : (state : BucketedState) (size : Size) (sides : Sides) (destination : Destination) (stored : Stored) (unused : List ℕ) → IsValid state → Spells state.frame stored unused state.shelves
    → asked state.frame size ≡ Some sides → destination_of state.frame state.shelves sides ≡ Some destination → Prepares state size sides destination stored
prepares state size sides destination stored unused valid spells asks h =
    let is_asked : IsAsked state.frame sides = asked-sides 65534 state.frame size sides valid.frame asks in
    let ready : AreReady state.frame destination stored state.shelves = destination-ready state.frame sides stored unused state.shelves destination valid.frame is_asked valid.shelves spells h in
    let is_ready : IsReady state.frame state.shelves sides destination (prepared state.frame state.shelves ready.tags destination) =
    placed.destination-ready state.frame state.shelves sides ready.tags destination valid.frame is_asked valid.shelves valid.ends h ready.new_tags in
    record {
      ready = ready;
      asked_is = asks;
      asks = is_asked;
      is_ready = is_ready;
      is = ap (option_and_then (λ (s : Sides). option_map (placement_at s) (destination_of state.frame state.shelves s))) asks ∙ ap (option_map (placement_at sides)) h;
      found = found-is state.frame destination (stored_ready state.frame (placement_by destination) stored) ready.unused (prepared state.frame state.shelves ready.tags destination) ready.spells
          ∙ ap (option_map found_seen) is_ready.found;
    }

-- a shelf whose first bucket is found has one
first-has : (n : ℕ) (kept : List KeptShelf) (found : FoundBucket) → found_first n kept ≡ Some found → HasFirst n kept
first-has n kept found h = by_shelf (slice_get kept n) refl
  where
    by_link : (one : KeptShelf) (link : Option ℕ) → slice_get kept n ≡ Some one → one.shelf.first_bucket ≡ link
        → option_map (λ (bucket : ℕ). let f : FoundBucket = record { shelf = n; bucket = bucket } in f) link ≡ Some found → HasFirst n kept
    by_link one None at e k = absurd (cc)
    by_link one (Some b) at e k =
        let first : first_bucket_of kept n ≡ Some b = ap (λ (r : Option KeptShelf). option_map_or (λ (one : KeptShelf). one.shelf.first_bucket) r None) at ∙ e in
        record { within = slice_get_within kept n one at; some = rw first refl }

    by_shelf : (o : Option KeptShelf) → slice_get kept n ≡ o → HasFirst n kept
    by_shelf None e = absurd (none (sym (ap (λ (r : Option KeptShelf). option_map (λ (bucket : ℕ). let f : FoundBucket = record { shelf = n; bucket = bucket } in f) (option_map_or (λ (one : KeptShelf). one.shelf.first_bucket) r None)) e) ∙ h))
      where
        none : None ≡ Some found → ⊥
        none k = cc
    by_shelf (Some one) e =
        by_link one one.shelf.first_bucket e refl
        (sym (ap (λ (r : Option KeptShelf). option_map (λ (bucket : ℕ). let f : FoundBucket = record { shelf = n; bucket = bucket } in f) (option_map_or (λ (one : KeptShelf). one.shelf.first_bucket) r None)) e) ∙ h)

-- records can be made ready
pub can-prepare : (frame : Frame) (destination : Destination) (in_use : ℕ) (stored : Stored) (found : FoundBucket) → CanReady frame (placement_by destination) in_use stored
    → found_of (placement_by destination) (stored_ready frame (placement_by destination) stored) ≡ Some found → CanPrepare frame (placement_by destination) in_use stored
can-prepare frame (placing.InBucket spot) in_use stored found can h = tt
can-prepare frame (placing.InAdded news) in_use stored found can h = (can, first-has _ _ found h)
can-prepare frame (placing.InMerged group) in_use stored found can h = (can, first-has _ _ found h)

-- the records after a placement was made ready and its item was taken
abbrev pub taken_from : Frame → Sides → Placement → FoundBucket → Stored → Stored
taken_from frame sides placement found stored = stored_taken found.shelf found.bucket sides.along (stored_ready frame placement stored)

-- all that an allocation at a placement needs and leaves
pub record IsAllocation (state : BucketedState) (size : Size) (sides : Sides) (stored : Stored) (placement : Placement) (found : FoundBucket) : Type 0 where
  pub give : CanGive state.frame sides.along found (stored_ready state.frame placement stored)
  pub shelf : found.shelf < length (stored_ready state.frame placement stored).shelves
  pub take : store.CanTake found.bucket sides.along (stored_ready state.frame placement stored).buckets
  pub few : live_items_of (stored_ready state.frame placement stored).shelves found.shelf + 1 < 2 ^ 32
  pub widest : IsWidest found.shelf found.bucket sides.along (stored_ready state.frame placement stored)
  pub row : IsInRow found.shelf found.bucket (stored_ready state.frame placement stored).shelves (stored_ready state.frame placement stored).buckets
  pub new : BucketedState
  pub unused : List ℕ
  pub allocates : (allocation : Allocation)
      → ((kept : KeptShelf) (bucket : LinkedBucket) → slice_get (stored_ready state.frame placement stored).shelves found.shelf ≡ Some kept
      → slice_get (stored_ready state.frame placement stored).buckets found.bucket ≡ Some bucket → allocation ≡ kept_allocation state.frame sides.along found kept bucket)
      → Allocates state size allocation new
  pub witnessed : Witnessed (taken_from state.frame sides placement found stored) unused (stored_state state.frame (taken_from state.frame sides placement found stored))
  pub read : stored_state state.frame (taken_from state.frame sides placement found stored) ≡ new
  pub valid : IsValid new
  pub short : IsShort state.frame (taken_from state.frame sides placement found stored).shelves
  pub end : end_of state.frame (taken_from state.frame sides placement found stored).shelves
      ≡ record { along = current_column new.shelves; across = available_height state.frame new.shelves }
  pub frame : new.frame ≡ state.frame
  pub in_use : buckets_in_use new.shelves ≡ buckets_in_use state.shelves + needed_for placement
  pub space : allocated_space new ≡ allocated_space state + sides.along * height_of (stored_ready state.frame placement stored).shelves found.shelf

-- an allocation at the bucket of a destination
allocation-at : (state : BucketedState) (size : Size) (sides : Sides) (destination : Destination) (stored : Stored) → IsValid state → (p : Prepares state size sides destination stored)
    → IsAllocation state size sides stored (placement_by destination) (found_seen p.is_ready.spot)
allocation-at state size sides destination stored valid p =
    let spot = p.is_ready.spot in
    let ready = p.is_ready in
    let frame = state.frame in
    let placed_ = placed_of state size sides destination stored p in
    let placement = placement_at sides destination in
    let shelves = prepared frame state.shelves p.ready.tags destination in
    let after = stored_ready frame (placement_by destination) stored in
    let records = spot-records frame after p.ready.unused shelves spot ready.valid p.ready.spells ready.can.at in
    let stands : 1 ≤ times spot.bucket.tag.number (bucket_numbers shelves) = omega (arith, records.once, part-at spot.bucket.tag.number shelves spot.number spot.shelf records.at) in
    let new = bucket_taken state placement p.ready.tags in
    let changed : new.shelves ≡ changed_bucket spot.bucket.tag.number (taken_bucket sides.along) shelves = taken-shelves state size placement p.ready.tags placed_ in
    let is_valid : IsValid new = taken-valid state size placement p.ready.tags valid placed_ in
    let spells : Spells frame (taken_from frame sides (placement_by destination) (found_seen spot) stored) p.ready.unused new.shelves =
    subst (Spells frame (taken_from frame sides (placement_by destination) (found_seen spot) stored) p.ready.unused) (sym changed)
    (spells-taken frame after p.ready.unused shelves spot.number spot.bucket.tag.number sides.along spot.shelf records.at records.once
    (ready.valid.numbers spot.bucket.tag.number) ready.valid.few
    (used-not_unused after.buckets after.unused (bucket_numbers shelves) p.ready.unused spot.bucket.tag.number p.ready.spells.has_unused stands) p.ready.spells) in
    let read = witnessed-read frame (taken_from frame sides (placement_by destination) (found_seen spot) stored) p.ready.unused new.shelves is_valid spells in
    let fits = (spot-valid frame shelves spot ready.can.at ready.valid).1.used in
    record {
      give = spot-gives frame after p.ready.unused shelves spot sides.along valid.frame ready.valid p.ready.spells ready.can;
      shelf = spot-within frame after p.ready.unused shelves spot ready.valid p.ready.spells ready.can.at;
      take = spot-takes frame after p.ready.unused shelves spot sides.along valid.frame ready.valid p.ready.spells ready.can;
      few = spot-few frame after p.ready.unused shelves spot ready.valid p.ready.spells ready.can.at;
      widest = spot-widest frame after p.ready.unused shelves spot sides.along ready.valid p.ready.spells ready.can.at;
      row = spot-stands frame after p.ready.unused shelves spot ready.valid p.ready.spells ready.can.at (omega (arith, ready.can.room, p.asks.along));
      new = new;
      unused = p.ready.unused;
      allocates = λ allocation is. record {
        placement = placement;
        tags = p.ready.tags;
        placed = p.is;
        new_tags = p.ready.new_tags;
        gives = given-is state size placement p.ready.tags placed_
            ∙ ap (λ (a : Allocation). Some a) (sym (is (kept_shelf frame (take spot.number shelves) spot.shelf) (record_of (0 + spot.number) spot.shelf.bucket_width records.next spot.bucket) (records.shelf frame p.ready.spells.shelves) records.bucket
            ∙ spot-given frame shelves spot sides.along (0 + spot.number) records.next fits));
        after = refl;
      };
      witnessed = read.0;
      read = read.1;
      valid = is_valid;
      short = subst (IsShort frame) (sym spells.shelves) (short-kept frame new.shelves is_valid.shelves);
      end = ap (end_of frame) spells.shelves ∙ end-kept frame new.shelves valid.frame.column_width;
      frame = refl;
      in_use = ap buckets_in_use changed ∙ buckets_in_use-changed spot.bucket.tag.number (taken_bucket sides.along) shelves ∙ p.ready.in_use;
      space = space-taken state size placement p.ready.tags placed_ valid
          ∙ ap (λ (height : ℕ). allocated_space state + sides.along * height) (sym (spot-height frame after p.ready.unused shelves spot ready.valid p.ready.spells ready.can.at));
    }

-- a size has this placement among records
pub record Makes (state : BucketedState) (size : Size) (sides : Sides) (stored : Stored) (placement : Placement) : Type 0 where
  pub at : Destination
  pub seen : placement_by at ≡ placement
  pub prepares : Prepares state size sides at stored
  pub can : CanPrepare state.frame placement (buckets_in_use state.shelves) stored

-- what is found among records is the placement of the size
pub makes : (state : BucketedState) (size : Size) (sides : Sides) (stored : Stored) (unused : List ℕ) (placement : Placement) → IsValid state → Spells state.frame stored unused state.shelves
    → asked state.frame size ≡ Some sides → kept_placement state.frame (left_to state.frame state.shelves) sides stored.shelves stored.buckets ≡ Some placement → Makes state size sides stored placement
makes state size sides stored unused placement valid spells asks h =
    let is_asked = asked-sides 65534 state.frame size sides valid.frame asks in
    let is = destination-is state.frame sides stored unused state.shelves valid.frame.column_width is_asked.along valid.shelves.few spells in
    let parts = map-parts placement_by (destination_of state.frame state.shelves sides) placement (sym is ∙ h) in
    let p = prepares state size sides parts.0 stored unused valid spells asks parts.1 in
    record {
      at = parts.0;
      seen = parts.2;
      prepares = p;
      can = subst (λ (q : Placement). CanPrepare state.frame q (buckets_in_use state.shelves) stored) parts.2 (can-prepare state.frame parts.0 (buckets_in_use state.shelves) stored (found_seen p.is_ready.spot) p.ready.can p.found);
    }

-- where nothing is found the size is refused
pub refused : (state : BucketedState) (size : Size) (sides : Sides) (stored : Stored) (unused : List ℕ) → IsValid state → Spells state.frame stored unused state.shelves
    → asked state.frame size ≡ Some sides → kept_placement state.frame (left_to state.frame state.shelves) sides stored.shelves stored.buckets ≡ None → placement_of state size ≡ None
refused state size sides stored unused valid spells asks h =
    let is_asked = asked-sides 65534 state.frame size sides valid.frame asks in
    let is = destination-is state.frame sides stored unused state.shelves valid.frame.column_width is_asked.along valid.shelves.few spells in
    ap (option_and_then (λ (s : Sides). option_map (placement_at s) (destination_of state.frame state.shelves s))) asks
    ∙ ap (option_map (placement_at sides)) (none (destination_of state.frame state.shelves sides) (sym is ∙ h))
  where
    none : (o : Option Destination) → option_map placement_by o ≡ None → o ≡ None
    none None h = refl
    none (Some p) h = absurd (cc)

-- an allocation at the bucket that was found
pub allocation-is : (state : BucketedState) (size : Size) (sides : Sides) (stored : Stored) (placement : Placement) (found : FoundBucket) → IsValid state → Makes state size sides stored placement
    → found_of placement (stored_ready state.frame placement stored) ≡ Some found → IsAllocation state size sides stored placement found
allocation-is state size sides stored placement found valid makes h =
    let first : found_of (placement_by makes.at) (stored_ready state.frame (placement_by makes.at) stored) ≡ Some found =
    ap (λ (p : Placement). found_of p (stored_ready state.frame p stored)) makes.seen ∙ h in
    let same : found_seen makes.prepares.is_ready.spot ≡ found = some-same (sym makes.prepares.found ∙ first) in
    subst (λ (p : Placement). IsAllocation state size sides stored p found) makes.seen
    (subst (IsAllocation state size sides stored (placement_by makes.at)) same (allocation-at state size sides makes.at stored valid makes.prepares))
  where
    some-same : {f g : FoundBucket} → Some f ≡ Some g → f ≡ g
    some-same {f} {g} h = cc

-- where the placement is in shelves to be added the size needs a shelf
pub needs-shelf : (state : BucketedState) (size : Size) (sides : Sides) (stored : Stored) (placement : Placement) → Makes state size sides stored placement → IsAdding placement → NeedsShelf state size
needs-shelf state size sides stored placement makes adds = by_place makes.at makes.seen makes.prepares.is
  where
    by_place : (at : Destination) → placement_by at ≡ placement → placement_of state size ≡ Some (placement_at sides at) → NeedsShelf state size
    by_place (placing.InBucket spot) seen is = absurd (subst IsAdding (sym seen) adds)
    by_place (placing.InAdded news) seen is = record { placement = placement_at sides (placing.InAdded news); news = news; placed = is; adds = refl }
    by_place (placing.InMerged group) seen is = absurd (subst IsAdding (sym seen) adds)

-- few buckets are made for a placement
pub needed-few : (state : BucketedState) (size : Size) (sides : Sides) (stored : Stored) (placement : Placement) → IsValid state → Makes state size sides stored placement
    → buckets_in_use state.shelves + needed_for placement ≤ 4095
needed-few state size sides stored placement valid makes =
    subst (λ (p : Placement). buckets_in_use state.shelves + needed_for p ≤ 4095) makes.seen
    (omega (arith, makes.prepares.ready.in_use, makes.prepares.is_ready.valid.few))
