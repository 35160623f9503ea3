use Rattle.std.specs.Prelude.{OnErr, Result, Ok, Err, option_map, slice_get, ◌^◌}
use Rattle.std.proofs.Common.{◌≡◌, ℕ, ◌+◌, ◌-◌, ◌*◌, ◌<◌, Option, Some, List, [], ◌∷◌, ◌++◌, length, ap, sym, subst, ◌∙◌, arith}
use Rattle.std.proofs.Math.Nat.{le-mul_of_pos_right}
use Rattle.std.specs.List.{AllByRecursion}
use Rattle.etagere_base.proofs.FrameSides.{sides_low}
use Rattle.etagere_base.specs.declared.frames.Frame.{Frame}
use Rattle.etagere_base.specs.declared.geometry.Size.{Size}
use Rattle.etagere_base.specs.declared.sides.Sides.{Sides}
use Rattle.etagere_base.specs.declared.ids.Allocation.{Allocation}
use Rattle.etagere_base.proofs.EachLemmas.{Each-middle}
use Rattle.etagere_base.specs.Frames.{asked}
use Rattle.etagere_base.specs.Rectangles.{AreApart, IsAligned, IsInside, IsLarge, SharesNone}
use Rattle.bucketed_model.specs.Adding.{Remaining, left_to}
use Rattle.bucketed_model.specs.Atlas.{Allocates, KeepsPromises, NeedsShelf}
use Rattle.bucketed_model.specs.Ledgers.{KeepsKnown}
use Rattle.bucketed_model.specs.Placing.{IsBucketRefused}
use Rattle.bucketed_model.specs.State.{BucketedState, available_height, current_column, most_buckets}
use Rattle.bucketed_model.proofs.Allocating.{allocates-aligned, allocates-inside, allocates-large, allocates-tied, allocates-valid}
use Rattle.bucketed_model.proofs.Ledger.KnownBusy.{allocates-known}
use Rattle.bucketed_model.proofs.Promises.{valid-promises}
use Rattle.bucketed_model.proofs.Shelving.Added.{current-below}
use Rattle.bucketed_model.proofs.Ledger.EntriesApart.{tied-apart}
use Rattle.bucketed_records.specs.Private.Store.{Stored, stored_state}
use Rattle.bucketed_records.specs.Private.Witnessed.{HasTotals, Witnessed}
use Rattle.bucketed_records.proofs.Spelling.Fresh.{space-small}
use Rattle.bucket_index.specs.declared.searching.FoundBucket.{FoundBucket}
use Rattle.bucketed_store.specs.declared.placing.Placement as code
use Rattle.bucketed_store.specs.Private.Placing.{Placement, kept_placement, placement_seen}
use Rattle.bucketed_store.specs.Private.StoreEdits.{CanGive, IsShort, end_of, found_of, height_of, live_items_of, stored_ready, stored_taken}
use Rattle.bucketed_store.specs.Private.StoreEdits as store
use Rattle.bucketed_store.proofs.Spelling.AllocatedRecords.{IsAllocation, Makes, allocation-is, makes, needed-few, needs-shelf, refused}
use Rattle.etagere_bucketed.specs.declared.atlas.BucketedAtlasAllocator.TheInside.{Inside}
use Rattle.etagere_bucketed.specs.Private.Consistent.{IsConsistent, state_in}
use Rattle.etagere_bucketed.proofs.AtlasReturns.{end-allocated}
use Rattle.etagere_bucketed.proofs.atlas.BucketedAtlasAllocator.allocate.Goals as goal

-- the last of allocations that are apart is apart from each other
last-apart : (entries : List Allocation) (last : Allocation) → AreApart (entries ++ last ∷ []) → AllByRecursion (λ (entry : Allocation). SharesNone entry.rectangle last.rectangle) entries
last-apart [] last apart = tt
last-apart (e ∷ es) last apart =
    (Each-middle (λ (other : Allocation). SharesNone e.rectangle other.rectangle) es last [] apart.0, last-apart es last apart.1)

on_err : {T E P : Type 0} (r : Result T E) → P → OnErr r P
on_err (Ok x) p = tt
on_err (Err e) p = p

-- what the shelves leave, by the totals
abbrev left_in : Inside → Remaining
left_in inside =
    record { column = inside.current_column; height = inside.available_height; buckets = most_buckets - inside.buckets_in_use }

left-is : (inside : Inside) → IsConsistent inside → left_in inside ≡ left_to inside.frame (state_in inside).shelves
left-is inside is =
    ap (λ (n : ℕ). let left : Remaining = record { column = n; height = inside.available_height; buckets = most_buckets - inside.buckets_in_use } in left) is.totals.column
    ∙ ap (λ (n : ℕ). let left : Remaining = record { column = current_column (state_in inside).shelves; height = n; buckets = most_buckets - inside.buckets_in_use } in left) is.totals.height
    ∙ ap (λ (n : ℕ). let left : Remaining = record { column = current_column (state_in inside).shelves; height = (left_to inside.frame (state_in inside).shelves).height; buckets = most_buckets - n } in left) is.totals.in_use

-- the place that is found is the one before what is known of shelves was made exact
in_old : (inside : Inside) → (sides : Sides) (result : Option code.Placement) (settled : Stored) → settled ≡ inside.store
    → option_map placement_seen result ≡ kept_placement inside.frame (left_in inside) sides settled.shelves settled.buckets
    → option_map placement_seen result ≡ kept_placement inside.frame (left_in inside) sides inside.store.shelves inside.store.buckets
in_old inside sides result settled same found = found ∙ ap (λ (stored : Stored). kept_placement inside.frame (left_in inside) sides stored.shelves stored.buckets) same

-- the place that is found
made : (inside : Inside) → IsConsistent inside → (size : Size) (sides : Sides) (result : Option code.Placement) (placement : code.Placement) → asked inside.frame size ≡ Some sides
    → option_map placement_seen result ≡ kept_placement inside.frame (left_in inside) sides inside.store.shelves inside.store.buckets → result ≡ Some placement
    → Makes (state_in inside) size sides inside.store (placement_seen placement)
made inside is size sides result placement asks found some =
    makes (state_in inside) size sides inside.store is.unused (placement_seen placement) is.witnessed.valid is.witnessed.spells asks
    (ap (λ (left : Remaining). kept_placement inside.frame left sides inside.store.shelves inside.store.buckets) (sym (left-is inside is)) ∙ sym found ∙ ap (option_map placement_seen) some)

-- the bucket that is made ready
allocation : (inside : Inside) → IsConsistent inside → (size : Size) (sides : Sides) (placement : Placement) (after : Stored) (found : FoundBucket) → Makes (state_in inside) size sides inside.store placement
    → after ≡ stored_ready inside.frame placement inside.store → found_of placement after ≡ Some found → IsAllocation (state_in inside) size sides inside.store placement found
allocation inside is size sides placement after found makes_ ready h =
    allocation-is (state_in inside) size sides inside.store placement found is.witnessed.valid makes_ (ap (found_of placement) (sym ready) ∙ h)

pub returns-in_default-clause-promises : goal.returns-in_default-clause-promises
returns-in_default-clause-promises c = subst KeepsPromises c.self.view_is (valid-promises (state_in c.self.inside) c.self.invariant.witnessed.valid)

pub placement_of-requires-clause-column : goal.placement_of-requires-clause-column
placement_of-requires-clause-column c =
    let valid = c.self.invariant.witnessed.valid in
    let frame = c.self.inside.frame in
    omega (
      arith,
      c.self.invariant.totals.column,
      current-below frame 0 (state_in c.self.inside).shelves valid.frame.columns.0 valid.shelves.each,
      valid.frame.columns.1,
      (sides_low 65534 frame valid.frame).0,
      le-mul_of_pos_right frame.columns valid.frame.column_width,
    )

pub returns-in_default-placement_of-clause-refused : goal.returns-in_default-placement_of-clause-refused
returns-in_default-placement_of-clause-refused c =
    let inside = c.self.inside in
    let is = c.self.invariant in
    subst (λ (state : BucketedState). IsBucketRefused state c.args.size) c.self.view_is
    (refused (state_in inside) c.args.size c.in-Some.sides inside.store is.unused is.witnessed.valid is.witnessed.spells (sym c.asked.ensures ∙ c.in-Some.is)
    (ap (λ (left : Remaining). kept_placement inside.frame left c.in-Some.sides inside.store.shelves inside.store.buckets) (sym (left-is inside is)) ∙ sym (in_old c.self.inside c.in-Some.sides c.placement_of.result c.settle.new.self c.settle.ensures c.placement_of.ensures.placement) ∙ ap (option_map placement_seen) c.in_default-placement_of.is))

pub returns-in_default-placement_of-clause-promises : goal.returns-in_default-placement_of-clause-promises
returns-in_default-placement_of-clause-promises c =
    subst (λ (stored : Stored). KeepsPromises (stored_state c.self.inside.frame stored)) (sym (c.placement_of.ensures.same ∙ c.settle.ensures)) (valid-promises (state_in c.self.inside) c.self.invariant.witnessed.valid)

pub prepare-requires-clause-placement : goal.prepare-requires-clause-placement
prepare-requires-clause-placement c =
    subst (store.CanPrepare c.self.inside.frame (placement_seen c.in-Some-placement_of.placement) c.self.inside.buckets_in_use) (sym (c.placement_of.ensures.same ∙ c.settle.ensures))
    (subst (λ (in_use : ℕ). store.CanPrepare c.self.inside.frame (placement_seen c.in-Some-placement_of.placement) in_use c.self.inside.store) (sym c.self.invariant.totals.in_use)
    (made c.self.inside c.self.invariant c.args.size c.in-Some.sides c.placement_of.result c.in-Some-placement_of.placement (sym c.asked.ensures ∙ c.in-Some.is) (in_old c.self.inside c.in-Some.sides c.placement_of.result c.settle.new.self c.settle.ensures c.placement_of.ensures.placement) c.in-Some-placement_of.is).can)

pub returns-in_err-found-clause-shelf : goal.returns-in_err-found-clause-shelf
returns-in_err-found-clause-shelf c =
    let m = made c.self.inside c.self.invariant c.args.size c.in-Some.sides c.placement_of.result c.in-Some-placement_of.placement (sym c.asked.ensures ∙ c.in-Some.is) (in_old c.self.inside c.in-Some.sides c.placement_of.result c.settle.new.self c.settle.ensures c.placement_of.ensures.placement) c.in-Some-placement_of.is in
    on_err c.from_residual.result
    (subst (λ (state : BucketedState). NeedsShelf state c.args.size) c.self.view_is
    (needs-shelf (state_in c.self.inside) c.args.size c.in-Some.sides c.self.inside.store (placement_seen c.in-Some-placement_of.placement) m c.in_err-found.ensures.adds))

pub returns-in_err-found-clause-promises : goal.returns-in_err-found-clause-promises
returns-in_err-found-clause-promises c =
    subst (λ (stored : Stored). KeepsPromises (stored_state c.self.inside.frame stored)) (sym (c.in_err-found.ensures.err ∙ c.placement_of.ensures.same ∙ c.settle.ensures)) (valid-promises (state_in c.self.inside) c.self.invariant.witnessed.valid)

pub allocation-allocation-requires : goal.allocation-allocation-requires
allocation-allocation-requires c =
    let m = made c.self.inside c.self.invariant c.args.size c.in-Some.sides c.placement_of.result c.in-Some-placement_of.placement (sym c.asked.ensures ∙ c.in-Some.is) (in_old c.self.inside c.in-Some.sides c.placement_of.result c.settle.new.self c.settle.ensures c.placement_of.ensures.placement) c.in-Some-placement_of.is in
    let ready = (c.in_ok-found.ensures.ok ∙ ap (stored_ready c.self.inside.frame (placement_seen c.in-Some-placement_of.placement)) (c.placement_of.ensures.same ∙ c.settle.ensures)) in
    let a = allocation c.self.inside c.self.invariant c.args.size c.in-Some.sides (placement_seen c.in-Some-placement_of.placement) c.prepare.new.self c.in_ok-found.found m ready c.in_ok-found.ensures.found in
    subst (CanGive c.self.inside.frame c.in-Some.sides.along c.in_ok-found.found) (sym ready) a.give

pub take-area-requires-clause-shelf : goal.take-area-requires-clause-shelf
take-area-requires-clause-shelf c =
    let m = made c.self.inside c.self.invariant c.args.size c.in-Some.sides c.placement_of.result c.in-Some-placement_of.placement (sym c.asked.ensures ∙ c.in-Some.is) (in_old c.self.inside c.in-Some.sides c.placement_of.result c.settle.new.self c.settle.ensures c.placement_of.ensures.placement) c.in-Some-placement_of.is in
    let ready = (c.in_ok-found.ensures.ok ∙ ap (stored_ready c.self.inside.frame (placement_seen c.in-Some-placement_of.placement)) (c.placement_of.ensures.same ∙ c.settle.ensures)) in
    let a = allocation c.self.inside c.self.invariant c.args.size c.in-Some.sides (placement_seen c.in-Some-placement_of.placement) c.prepare.new.self c.in_ok-found.found m ready c.in_ok-found.ensures.found in
    subst (λ (stored : Stored). c.in_ok-found.found.shelf < length stored.shelves) (sym ready) a.shelf

pub take-area-requires-clause-fits : goal.take-area-requires-clause-fits
take-area-requires-clause-fits c =
    let m = made c.self.inside c.self.invariant c.args.size c.in-Some.sides c.placement_of.result c.in-Some-placement_of.placement (sym c.asked.ensures ∙ c.in-Some.is) (in_old c.self.inside c.in-Some.sides c.placement_of.result c.settle.new.self c.settle.ensures c.placement_of.ensures.placement) c.in-Some-placement_of.is in
    let ready = (c.in_ok-found.ensures.ok ∙ ap (stored_ready c.self.inside.frame (placement_seen c.in-Some-placement_of.placement)) (c.placement_of.ensures.same ∙ c.settle.ensures)) in
    let a = allocation c.self.inside c.self.invariant c.args.size c.in-Some.sides (placement_seen c.in-Some-placement_of.placement) c.prepare.new.self c.in_ok-found.found m ready c.in_ok-found.ensures.found in
    subst (λ (stored : Stored). store.CanTake c.in_ok-found.found.bucket c.in-Some.sides.along stored.buckets) (sym ready) a.take

pub take-area-requires-clause-few : goal.take-area-requires-clause-few
take-area-requires-clause-few c =
    let m = made c.self.inside c.self.invariant c.args.size c.in-Some.sides c.placement_of.result c.in-Some-placement_of.placement (sym c.asked.ensures ∙ c.in-Some.is) (in_old c.self.inside c.in-Some.sides c.placement_of.result c.settle.new.self c.settle.ensures c.placement_of.ensures.placement) c.in-Some-placement_of.is in
    let ready = (c.in_ok-found.ensures.ok ∙ ap (stored_ready c.self.inside.frame (placement_seen c.in-Some-placement_of.placement)) (c.placement_of.ensures.same ∙ c.settle.ensures)) in
    let a = allocation c.self.inside c.self.invariant c.args.size c.in-Some.sides (placement_seen c.in-Some-placement_of.placement) c.prepare.new.self c.in_ok-found.found m ready c.in_ok-found.ensures.found in
    subst (λ (stored : Stored). live_items_of stored.shelves c.in_ok-found.found.shelf + 1 < 2 ^ 32) (sym ready) a.few

pub take-area-requires-clause-widest : goal.take-area-requires-clause-widest
take-area-requires-clause-widest c =
    let m = made c.self.inside c.self.invariant c.args.size c.in-Some.sides c.placement_of.result c.in-Some-placement_of.placement (sym c.asked.ensures ∙ c.in-Some.is) (in_old c.self.inside c.in-Some.sides c.placement_of.result c.settle.new.self c.settle.ensures c.placement_of.ensures.placement) c.in-Some-placement_of.is in
    let ready = (c.in_ok-found.ensures.ok ∙ ap (stored_ready c.self.inside.frame (placement_seen c.in-Some-placement_of.placement)) (c.placement_of.ensures.same ∙ c.settle.ensures)) in
    let a = allocation c.self.inside c.self.invariant c.args.size c.in-Some.sides (placement_seen c.in-Some-placement_of.placement) c.prepare.new.self c.in_ok-found.found m ready c.in_ok-found.ensures.found in
    subst (store.IsWidest c.in_ok-found.found.shelf c.in_ok-found.found.bucket c.in-Some.sides.along) (sym ready) a.widest

pub take-area-requires-clause-row : goal.take-area-requires-clause-row
take-area-requires-clause-row c =
    let m = made c.self.inside c.self.invariant c.args.size c.in-Some.sides c.placement_of.result c.in-Some-placement_of.placement (sym c.asked.ensures ∙ c.in-Some.is) (in_old c.self.inside c.in-Some.sides c.placement_of.result c.settle.new.self c.settle.ensures c.placement_of.ensures.placement) c.in-Some-placement_of.is in
    let ready = (c.in_ok-found.ensures.ok ∙ ap (stored_ready c.self.inside.frame (placement_seen c.in-Some-placement_of.placement)) (c.placement_of.ensures.same ∙ c.settle.ensures)) in
    let a = allocation c.self.inside c.self.invariant c.args.size c.in-Some.sides (placement_seen c.in-Some-placement_of.placement) c.prepare.new.self c.in_ok-found.found m ready c.in_ok-found.ensures.found in
    subst (λ (stored : Stored). store.IsInRow c.in_ok-found.found.shelf c.in_ok-found.found.bucket stored.shelves stored.buckets) (sym ready) a.row

pub follow_placement-requires-clause-short : goal.follow_placement-requires-clause-short
follow_placement-requires-clause-short c =
    let m = made c.self.inside c.self.invariant c.args.size c.in-Some.sides c.placement_of.result c.in-Some-placement_of.placement (sym c.asked.ensures ∙ c.in-Some.is) (in_old c.self.inside c.in-Some.sides c.placement_of.result c.settle.new.self c.settle.ensures c.placement_of.ensures.placement) c.in-Some-placement_of.is in
    let ready = (c.in_ok-found.ensures.ok ∙ ap (stored_ready c.self.inside.frame (placement_seen c.in-Some-placement_of.placement)) (c.placement_of.ensures.same ∙ c.settle.ensures)) in
    let a = allocation c.self.inside c.self.invariant c.args.size c.in-Some.sides (placement_seen c.in-Some-placement_of.placement) c.prepare.new.self c.in_ok-found.found m ready c.in_ok-found.ensures.found in
    let after = c.take-area.ensures.records ∙ ap (stored_taken c.in_ok-found.found.shelf c.in_ok-found.found.bucket c.in-Some.sides.along) ready in
    subst (λ (stored : Stored). IsShort c.self.inside.frame stored.shelves) (sym after) a.short

pub follow_placement-requires-clause-kept : goal.follow_placement-requires-clause-kept
follow_placement-requires-clause-kept c = λ there.
    end-allocated c.self.inside (placement_seen c.in-Some-placement_of.placement) c.prepare.new.self c.take-area.new.self c.in_ok-found.found.shelf c.in_ok-found.found.bucket c.in-Some.sides.along
    c.self.invariant (c.in_ok-found.ensures.ok ∙ ap (stored_ready c.self.inside.frame (placement_seen c.in-Some-placement_of.placement)) (c.placement_of.ensures.same ∙ c.settle.ensures)) c.take-area.ensures.records there

pub follow_placement-requires-clause-few : goal.follow_placement-requires-clause-few
follow_placement-requires-clause-few c =
    let m = made c.self.inside c.self.invariant c.args.size c.in-Some.sides c.placement_of.result c.in-Some-placement_of.placement (sym c.asked.ensures ∙ c.in-Some.is) (in_old c.self.inside c.in-Some.sides c.placement_of.result c.settle.new.self c.settle.ensures c.placement_of.ensures.placement) c.in-Some-placement_of.is in
    omega (
      arith,
      c.self.invariant.totals.in_use,
      needed-few (state_in c.self.inside) c.args.size c.in-Some.sides c.self.inside.store (placement_seen c.in-Some-placement_of.placement) c.self.invariant.witnessed.valid m,
    )

pub overflow_add-self : goal.overflow_add-self
overflow_add-self c =
    let m = made c.self.inside c.self.invariant c.args.size c.in-Some.sides c.placement_of.result c.in-Some-placement_of.placement (sym c.asked.ensures ∙ c.in-Some.is) (in_old c.self.inside c.in-Some.sides c.placement_of.result c.settle.new.self c.settle.ensures c.placement_of.ensures.placement) c.in-Some-placement_of.is in
    let ready = (c.in_ok-found.ensures.ok ∙ ap (stored_ready c.self.inside.frame (placement_seen c.in-Some-placement_of.placement)) (c.placement_of.ensures.same ∙ c.settle.ensures)) in
    let a = allocation c.self.inside c.self.invariant c.args.size c.in-Some.sides (placement_seen c.in-Some-placement_of.placement) c.prepare.new.self c.in_ok-found.found m ready c.in_ok-found.ensures.found in
    let area = c.take-area.ensures.area ∙ ap (λ (stored : Stored). c.in-Some.sides.along * height_of stored.shelves c.in_ok-found.found.shelf) ready in
    omega (arith, area, a.space, c.self.invariant.totals.space, space-small a.new a.valid)

pub invariant_of-self-2 : goal.invariant_of-self-2
invariant_of-self-2 c =
    let m = made c.self.inside c.self.invariant c.args.size c.in-Some.sides c.placement_of.result c.in-Some-placement_of.placement (sym c.asked.ensures ∙ c.in-Some.is) (in_old c.self.inside c.in-Some.sides c.placement_of.result c.settle.new.self c.settle.ensures c.placement_of.ensures.placement) c.in-Some-placement_of.is in
    let ready = (c.in_ok-found.ensures.ok ∙ ap (stored_ready c.self.inside.frame (placement_seen c.in-Some-placement_of.placement)) (c.placement_of.ensures.same ∙ c.settle.ensures)) in
    let a = allocation c.self.inside c.self.invariant c.args.size c.in-Some.sides (placement_seen c.in-Some-placement_of.placement) c.prepare.new.self c.in_ok-found.found m ready c.in_ok-found.ensures.found in
    let frame = c.self.inside.frame in
    let after = c.take-area.ensures.records ∙ ap (stored_taken c.in_ok-found.found.shelf c.in_ok-found.found.bucket c.in-Some.sides.along) ready in
    let area = c.take-area.ensures.area ∙ ap (λ (stored : Stored). c.in-Some.sides.along * height_of stored.shelves c.in_ok-found.found.shelf) ready in
    let ends = ap (λ (stored : Stored). end_of frame stored.shelves) after ∙ a.end in
    let totals : HasTotals c.follow_placement.new.column c.follow_placement.new.height c.follow_placement.new.in_use (c.self.inside.allocated_space + c.take-area.result) a.new =
    record {
      column = c.follow_placement.ensures.column ∙ ap (λ (sides : Sides). sides.along) ends;
      height = c.follow_placement.ensures.height ∙ ap (λ (sides : Sides). sides.across) ends ∙ ap (λ (f : Frame). available_height f a.new.shelves) (sym a.frame);
      in_use = omega (arith, c.follow_placement.ensures.in_use, c.self.invariant.totals.in_use, a.in_use);
      space = omega (arith, area, a.space, c.self.invariant.totals.space);
    } in
    record {
      unused = a.unused;
      witnessed = subst (λ (stored : Stored). Witnessed stored a.unused (stored_state frame stored)) (sym after) a.witnessed;
      totals = subst (HasTotals c.follow_placement.new.column c.follow_placement.new.height c.follow_placement.new.in_use (c.self.inside.allocated_space + c.take-area.result))
          (sym (ap (stored_state frame) after ∙ a.read)) totals;
    }

-- what is given, and the state after it
allocates : (c : goal.After-self-1) → Allocates (state_in c.self.inside) c.args.size c.allocation-allocation.result (stored_state c.self.inside.frame c.take-area.new.self)
allocates c =
    let m = made c.self.inside c.self.invariant c.args.size c.in-Some.sides c.placement_of.result c.in-Some-placement_of.placement (sym c.asked.ensures ∙ c.in-Some.is) (in_old c.self.inside c.in-Some.sides c.placement_of.result c.settle.new.self c.settle.ensures c.placement_of.ensures.placement) c.in-Some-placement_of.is in
    let ready = (c.in_ok-found.ensures.ok ∙ ap (stored_ready c.self.inside.frame (placement_seen c.in-Some-placement_of.placement)) (c.placement_of.ensures.same ∙ c.settle.ensures)) in
    let a = allocation c.self.inside c.self.invariant c.args.size c.in-Some.sides (placement_seen c.in-Some-placement_of.placement) c.prepare.new.self c.in_ok-found.found m ready c.in_ok-found.ensures.found in
    let after = c.take-area.ensures.records ∙ ap (stored_taken c.in_ok-found.found.shelf c.in_ok-found.found.bucket c.in-Some.sides.along) ready in
    subst (Allocates (state_in c.self.inside) c.args.size c.allocation-allocation.result) (sym (ap (stored_state c.self.inside.frame) after ∙ a.read))
    (a.allocates c.allocation-allocation.result
    (λ kept bucket k b. c.allocation-allocation.ensures kept bucket (ap (λ (stored : Stored). slice_get stored.shelves c.in_ok-found.found.shelf) ready ∙ k) (ap (λ (stored : Stored). slice_get stored.buckets c.in_ok-found.found.bucket) ready ∙ b)))

pub returns-clause-placed : goal.returns-clause-placed
returns-clause-placed c =
    subst (λ (state : BucketedState). Allocates state c.args.size c.allocation-allocation.result (stored_state c.self.inside.frame c.take-area.new.self)) c.self.view_is (allocates c)

pub returns-clause-inside : goal.returns-clause-inside
returns-clause-inside c =
    subst (λ (state : BucketedState). IsInside state.frame c.allocation-allocation.result.rectangle) c.self.view_is
    (allocates-inside (state_in c.self.inside) c.args.size c.allocation-allocation.result (stored_state c.self.inside.frame c.take-area.new.self) c.self.invariant.witnessed.valid (allocates c))

pub returns-clause-large : goal.returns-clause-large
returns-clause-large c =
    subst (λ (state : BucketedState). IsLarge state.frame c.args.size c.allocation-allocation.result.rectangle) c.self.view_is
    (allocates-large (state_in c.self.inside) c.args.size c.allocation-allocation.result (stored_state c.self.inside.frame c.take-area.new.self) c.self.invariant.witnessed.valid (allocates c))

pub returns-clause-aligned : goal.returns-clause-aligned
returns-clause-aligned c =
    subst (λ (state : BucketedState). IsAligned state.frame c.allocation-allocation.result.rectangle) c.self.view_is
    (allocates-aligned (state_in c.self.inside) c.args.size c.allocation-allocation.result (stored_state c.self.inside.frame c.take-area.new.self) c.self.invariant.witnessed.valid (allocates c))

pub returns-clause-promises : goal.returns-clause-promises
returns-clause-promises c =
    valid-promises (stored_state c.self.inside.frame c.take-area.new.self) (allocates-valid (state_in c.self.inside) c.args.size c.allocation-allocation.result (stored_state c.self.inside.frame c.take-area.new.self) c.self.invariant.witnessed.valid (allocates c))

pub returns-clause-allocated : goal.returns-clause-allocated
returns-clause-allocated c = λ entries tied.
    allocates-tied entries c.args.self.now c.args.size c.allocation-allocation.result (stored_state c.self.inside.frame c.take-area.new.self) tied (returns-clause-placed c)

pub returns-clause-clear : goal.returns-clause-clear
returns-clause-clear c = λ entries tied.
    last-apart entries c.allocation-allocation.result
    (tied-apart (entries ++ c.allocation-allocation.result ∷ []) (stored_state c.self.inside.frame c.take-area.new.self) (returns-clause-allocated c entries tied))

pub returns-clause-found : goal.returns-clause-found
returns-clause-found c =
    (allocates-known (state_in c.self.inside) c.args.size c.allocation-allocation.result (stored_state c.self.inside.frame c.take-area.new.self) c.self.invariant.witnessed.valid (allocates c)).0

pub returns-clause-kept : goal.returns-clause-kept
returns-clause-kept c =
    subst (λ (state : BucketedState). KeepsKnown state (stored_state c.self.inside.frame c.take-area.new.self)) c.self.view_is
    (allocates-known (state_in c.self.inside) c.args.size c.allocation-allocation.result (stored_state c.self.inside.frame c.take-area.new.self) c.self.invariant.witnessed.valid (allocates c)).1
