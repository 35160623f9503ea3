-- An atlas after a return: what its fields stand for, and that they keep it.
use Rattle.std.proofs.Common.{◌≡◌, ℕ, ◌+◌, true, List, length, ap, arith, refl, subst, sym, ◌∙◌}
use Rattle.std.specs.Prelude.{nat_le}
use Rattle.etagere_base.specs.declared.sides.Sides.{Sides}
use Rattle.bucketed_model.specs.Returning.{bucket_returned, is_known, tag_of}
use Rattle.bucketed_model.specs.Space.{allocated_space}
use Rattle.bucketed_model.specs.State.{available_height, buckets_in_use, most_buckets}
use Rattle.bucketed_records.specs.Private.Store.{Stored}
use Rattle.bucketed_records.specs.Private.Witnessed.{Witnessed}
use Rattle.bucketed_records.specs.StandsFor.{live_of, shelf_of}
use Rattle.bucket_index.specs.Private.Searching.{widest_from}
use Rattle.bucketed_store.specs.Private.Placing.{Placement, InBucket, InAdded, InMerged}
use Rattle.bucketed_store.specs.Private.Returns.{Dropping, dropping_from, end_dropped, is_known_in, item_returned, returned_area, returned_kept}
use Rattle.bucketed_store.specs.Private.StoreEdits.{IsThere, end_of, first_bucket_of, given_from, stored_ready, stored_taken}
use Rattle.bucketed_store.proofs.Emptying.EndTotals.{TellsEnd, tells-end}
use Rattle.bucketed_store.proofs.Emptying.SpelledDrops.{leaves-dropped}
use Rattle.bucketed_store.proofs.Spelling.Ends.{end-changed, end-kept}
use Rattle.bucketed_store.proofs.Emptying.Returned.{IsReturned, known-is, returned-is, stored_returned}
use Rattle.etagere_bucketed.specs.declared.atlas.BucketedAtlasAllocator.TheInside.{Inside}
use Rattle.etagere_bucketed.specs.Private.Consistent.{IsConsistent, state_in}

-- the records of an atlas say whether an id is known
pub atlas-known : (inside : Inside) (id : ℕ) → IsConsistent inside → is_known_in inside.store.buckets id ≡ is_known (state_in inside) id
atlas-known inside id consistent = known-is inside.store consistent.unused (state_in inside) id consistent.witnessed

-- the return of an id that the records know
pub atlas-returned : (inside : Inside) (id : ℕ) → IsConsistent inside → is_known_in inside.store.buckets id ≡ true → IsReturned inside.store (state_in inside) id
atlas-returned inside id consistent known =
    returned-is inside.store consistent.unused (state_in inside) id consistent.witnessed (sym (atlas-known inside id consistent) ∙ known)

-- what holds of the records that a return leaves
pub record AfterReturn (inside : Inside) (id : ℕ) (new : Stored) (dropped area : ℕ) : Type 0 where
  pub unused : List ℕ
  pub witnessed : Witnessed new unused (bucket_returned (state_in inside) id)
  pub tells : TellsEnd inside.frame new (bucket_returned (state_in inside) id)
  pub in_use : dropped + buckets_in_use (bucket_returned (state_in inside) id).shelves ≡ inside.buckets_in_use
  pub space : allocated_space (bucket_returned (state_in inside) id) + area ≡ inside.allocated_space

pub after-return : (inside : Inside) (id : ℕ) (middle new : Stored) (number dropped area : ℕ) → IsConsistent inside → is_known_in inside.store.buckets id ≡ true
    → number ≡ (tag_of id).number → middle ≡ item_returned number inside.store → area ≡ returned_area number inside.store.shelves inside.store.buckets
    → dropping_from new dropped ≡ end_dropped (length middle.shelves) (dropping_from middle 0) → AfterReturn inside id new dropped area
after-return inside id middle new number dropped area consistent known named returned given drops =
    let r = atlas-returned inside id consistent known in
    let same : dropping_from new dropped ≡ stored_returned id inside.store =
    drops ∙ ap (λ (s : Stored). end_dropped (length s.shelves) (dropping_from s 0)) (returned ∙ ap (λ (n : ℕ). item_returned n inside.store) named) in
    let stored : new ≡ (stored_returned id inside.store).stored = ap (λ (d : Dropping). d.stored) same in
    let count : dropped ≡ (stored_returned id inside.store).count = ap (λ (d : Dropping). d.count) same in
    let witnessed : Witnessed new r.unused (bucket_returned (state_in inside) id) =
    subst (λ (s : Stored). Witnessed s r.unused (bucket_returned (state_in inside) id)) (sym stored) r.witnessed in
    record {
      unused = r.unused;
      witnessed = witnessed;
      tells = tells-end new r.unused (bucket_returned (state_in inside) id) witnessed;
      in_use = omega (arith, count, r.in_use, consistent.totals.in_use);
      space = omega (arith, r.space, given, ap (λ (n : ℕ). returned_area n inside.store.shelves inside.store.buckets) named, consistent.totals.space);
    }

-- the end as an atlas keeps it
abbrev pub end_in : Inside → Sides
end_in inside = record { along = inside.current_column; across = inside.available_height }

-- it is that of the shelves
pub atlas-end : (inside : Inside) → IsConsistent inside → end_of inside.frame inside.store.shelves ≡ end_in inside
atlas-end inside consistent =
    let state = state_in inside in
    ap (end_of inside.frame) consistent.witnessed.spells.shelves ∙ end-kept inside.frame state.shelves consistent.witnessed.valid.frame.column_width
    ∙ ap (λ (n : ℕ). let sides : Sides = record { along = n; across = available_height inside.frame state.shelves } in sides) (sym consistent.totals.column)
    ∙ ap (λ (n : ℕ). let sides : Sides = record { along = inside.current_column; across = n } in sides) (sym consistent.totals.height)

-- where as many shelves are left none was dropped
pub none-dropped : (middle new : Stored) (dropped : ℕ) → dropping_from new dropped ≡ end_dropped (length middle.shelves) (dropping_from middle 0) → length new.shelves ≡ length middle.shelves
    → dropping_from new dropped ≡ dropping_from middle 0
none-dropped middle new dropped drops same =
    drops ∙ (leaves-dropped (length middle.shelves) (dropping_from middle 0)).same (sym (ap (λ (d : Dropping). length d.stored.shelves) drops) ∙ same)

-- a return that drops no shelf leaves it
pub end-returned : (inside : Inside) (middle new : Stored) (number dropped : ℕ) → IsConsistent inside → middle ≡ item_returned number inside.store
    → dropping_from new dropped ≡ end_dropped (length middle.shelves) (dropping_from middle 0) → length new.shelves ≡ length middle.shelves → end_of inside.frame new.shelves ≡ end_in inside
end-returned inside middle new number dropped consistent returned drops same =
    let all : new.shelves ≡ middle.shelves = ap (λ (d : Dropping). d.stored.shelves) (none-dropped middle new dropped drops same) in
    ap (end_of inside.frame) (all ∙ ap (λ (s : Stored). s.shelves) returned)
    ∙ end-changed inside.frame (shelf_of inside.store.buckets number) (returned_kept (nat_le (live_of inside.store.buckets number) 1)) inside.store.shelves (λ kept. refl)
    ∙ atlas-end inside consistent

-- an allocation in a bucket that is there leaves it
pub end-allocated : (inside : Inside) (placement : Placement) (ready new : Stored) (shelf bucket width : ℕ) → IsConsistent inside → ready ≡ stored_ready inside.frame placement inside.store
    → new ≡ stored_taken shelf bucket width ready → IsThere placement → end_of inside.frame new.shelves ≡ end_in inside
end-allocated inside placement ready new shelf bucket width consistent is_ready taken there =
    let same : ready ≡ inside.store = is_ready ∙ by_place placement there in
    ap (λ (s : Stored). end_of inside.frame s.shelves) taken
    ∙ end-changed inside.frame shelf (given_from (widest_from most_buckets (stored_taken shelf bucket width ready).buckets (first_bucket_of ready.shelves shelf))) ready.shelves (λ kept. refl)
    ∙ ap (λ (s : Stored). end_of inside.frame s.shelves) same ∙ atlas-end inside consistent
  where
    by_place : (p : Placement) → IsThere p → stored_ready inside.frame p inside.store ≡ inside.store
    by_place (InBucket found) is = refl
    by_place (InAdded news) is = absurd is
    by_place (InMerged group) is = absurd is
