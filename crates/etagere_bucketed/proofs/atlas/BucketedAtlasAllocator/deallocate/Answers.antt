use Rattle.std.proofs.Common.{◌≡◌, ℕ, ◌-◌, true, false, refl, ap, sym, ◌∙◌, subst, arith}
use Rattle.etagere_base.specs.declared.sides.Sides.{Sides}
use Rattle.bucketed_model.specs.Atlas.{KeepsPromises}
use Rattle.bucketed_model.specs.Ledgers.{SameOthers}
use Rattle.bucketed_model.specs.Returning.{bucket_returned, is_known, tag_of}
use Rattle.bucketed_model.specs.State.{BucketedState}
use Rattle.bucketed_model.proofs.Promises.{valid-promises}
use Rattle.bucketed_model.proofs.Ledger.KnownBusy.{returned-known}
use Rattle.bucketed_model.proofs.Ledger.TiedReturned.{tied-returned}
use Rattle.bucketed_records.specs.Private.Store.{Stored}
use Rattle.bucketed_records.specs.Private.Witnessed.{HasTotals, Witnessed}
use Rattle.etagere_bucketed.specs.declared.atlas.BucketedAtlasAllocator.TheInside.{Inside}
use Rattle.etagere_bucketed.specs.Private.Consistent.{IsConsistent, state_in}
use Rattle.etagere_bucketed.proofs.AtlasReturns.{AfterReturn, after-return, atlas-known, atlas-returned, end-returned, none-dropped}
use Rattle.bucketed_store.specs.Private.Returns.{Dropping, is_known_in, item_returned, returned_area}
use Rattle.bucketed_store.proofs.Emptying.Returned.{IsReturned, buckets-returned, shelves-returned}
use Rattle.etagere_bucketed.proofs.atlas.BucketedAtlasAllocator.deallocate.Goals as goal
use Rattle.etagere_bucketed.proofs.atlas.BucketedAtlasAllocator.deallocate.Goals.{After-return_item-returned, In-Some, In_default}

-- the store is as it was where the item isn't the only one of its shelf
same-store : (c : In_default) → c.return_only.new.self ≡ c.self.inside.store
same-store c = rw c.in_default.is at c.return_only.ensures.same

-- so that the return of the id is asked of it
asked : (c : In_default) → IsReturned c.return_only.new.self (state_in c.self.inside) c.args.id
asked c =
    subst (λ (s : Stored). IsReturned s (state_in c.self.inside) c.args.id) (sym (same-store c))
    (atlas-returned c.self.inside c.args.id c.self.invariant (sym c.is_known.ensures ∙ c.if-not-is_known.false))

-- what a return leaves where shelves may be dropped
after : (c : After-return_item-returned) → AfterReturn c.self.inside c.args.id c.return_item-returned.new.self c.return_item-returned.result.dropped c.return_item-returned.result.area
after c =
    let number = c.bucket_number-number.result in
    let same : c.return_only.new.self ≡ c.self.inside.store = rw c.in_default.is at c.return_only.ensures.same in
    after-return c.self.inside c.args.id (item_returned number c.return_only.new.self) c.return_item-returned.new.self number c.return_item-returned.result.dropped c.return_item-returned.result.area
    c.self.invariant (sym c.is_known.ensures ∙ c.if-not-is_known.false) c.bucket_number-number.ensures (ap (item_returned number) same)
    (c.return_item-returned.ensures.area ∙ ap (λ (s : Stored). returned_area number s.shelves s.buckets) same) c.return_item-returned.ensures.records

-- what one leaves that drops none
after-only : (c : In-Some) → AfterReturn c.self.inside c.args.id c.return_only.new.self 0 c.in-Some.area
after-only c =
    let number = c.bucket_number-number.result in
    after-return c.self.inside c.args.id c.return_only.new.self c.return_only.new.self number 0 c.in-Some.area
    c.self.invariant (sym c.is_known.ensures ∙ c.if-not-is_known.false) c.bucket_number-number.ensures (rw c.in-Some.is at c.return_only.ensures.returned)
    (rw c.in-Some.is at c.return_only.ensures.area) (sym (rw c.in-Some.is at c.return_only.ensures.stays))

-- other ids are known as before
others : (inside : Inside) (old new : BucketedState) (id : ℕ) → IsConsistent inside → is_known_in inside.store.buckets id ≡ true → state_in inside ≡ old → new ≡ bucket_returned old id → SameOthers old id new
others inside old new id consistent known view returned =
    let same : SameOthers old id (bucket_returned old id) =
    subst (λ (state : BucketedState). SameOthers state id (bucket_returned state id)) view
    (returned-known (state_in inside) id consistent.witnessed.valid (sym (atlas-known inside id consistent) ∙ known)) in
    λ other differs. ap (λ (state : BucketedState). is_known state other) returned ∙ same other differs

pub returns-then-not-is_known-clause-unknown : goal.returns-then-not-is_known-clause-unknown
returns-then-not-is_known-clause-unknown c =
    let unknown = sym (atlas-known c.self.inside c.args.id c.self.invariant) ∙ sym c.is_known.ensures ∙ c.if-not-is_known.true in
    (λ _. subst (λ (state : BucketedState). is_known state c.args.id ≡ false) c.self.view_is unknown, λ _. refl)

pub returns-then-not-is_known-clause-promises : goal.returns-then-not-is_known-clause-promises
returns-then-not-is_known-clause-promises c = subst KeepsPromises c.self.view_is (valid-promises (state_in c.self.inside) c.self.invariant.witnessed.valid)

pub return_only-requires-clause-number : goal.return_only-requires-clause-number
return_only-requires-clause-number c =
    rw c.bucket_number-number.ensures (atlas-returned c.self.inside c.args.id c.self.invariant (sym c.is_known.ensures ∙ c.if-not-is_known.false)).number

pub return_only-requires-clause-shelf : goal.return_only-requires-clause-shelf
return_only-requires-clause-shelf c =
    rw c.bucket_number-number.ensures (atlas-returned c.self.inside c.args.id c.self.invariant (sym c.is_known.ensures ∙ c.if-not-is_known.false)).shelf

pub return_only-requires-clause-free : goal.return_only-requires-clause-free
return_only-requires-clause-free c =
    rw c.bucket_number-number.ensures (atlas-returned c.self.inside c.args.id c.self.invariant (sym c.is_known.ensures ∙ c.if-not-is_known.false)).free

pub overflow_sub-self : goal.overflow_sub-self
overflow_sub-self c =
    let a = after-only (goal.at.overflow_sub-self c).In-Some in
    omega (arith, a.space)

pub invariant_of-self : goal.invariant_of-self
invariant_of-self c =
    let a = after-only (goal.at.invariant_of-self c).In-Some in
    let new = c.return_only.new.self in
    let end = end-returned c.self.inside new new c.bucket_number-number.result 0 c.self.invariant (rw c.in-Some.is at c.return_only.ensures.returned)
    (sym (rw c.in-Some.is at c.return_only.ensures.stays)) refl in
    record {
      unused = a.unused;
      witnessed = subst (Witnessed new a.unused) (sym a.tells.read) a.witnessed;
      totals = subst
          (HasTotals c.self.inside.current_column c.self.inside.available_height c.self.inside.buckets_in_use
          (c.self.inside.allocated_space - c.in-Some.area)) (sym a.tells.read)
          (record {
            column = sym (ap (λ (s : Sides). s.along) end) ∙ a.tells.column;
            height = sym (ap (λ (s : Sides). s.across) end) ∙ a.tells.height;
            in_use = omega (arith, a.in_use);
            space = omega (arith, a.space);
          });
    }

pub returns-in-Some-clause-ok : goal.returns-in-Some-clause-ok
returns-in-Some-clause-ok c =
    let a = after-only (goal.at.returns-in-Some-clause-ok c).In-Some in
    a.tells.read ∙ ap (λ (state : BucketedState). bucket_returned state c.args.id) c.self.view_is

pub returns-in-Some-clause-unknown : goal.returns-in-Some-clause-unknown
returns-in-Some-clause-unknown c =
    let found = subst (λ (state : BucketedState). is_known state c.args.id ≡ true) c.self.view_is
    (sym (atlas-known c.self.inside c.args.id c.self.invariant) ∙ sym c.is_known.ensures ∙ c.if-not-is_known.false) in
    (λ wrong. absurd (cc), λ none. cc)

pub returns-in-Some-clause-promises : goal.returns-in-Some-clause-promises
returns-in-Some-clause-promises c =
    let a = after-only (goal.at.returns-in-Some-clause-promises c).In-Some in
    subst KeepsPromises (sym a.tells.read) (valid-promises (bucket_returned (state_in c.self.inside) c.args.id) a.witnessed.valid)

pub returns-in-Some-clause-allocated : goal.returns-in-Some-clause-allocated
returns-in-Some-clause-allocated c = λ one entry other same tied.
    rw (returns-in-Some-clause-ok c, ← same) (tied-returned one entry other c.args.self.now tied)

pub returns-in-Some-clause-others : goal.returns-in-Some-clause-others
returns-in-Some-clause-others c =
    others c.self.inside c.args.self.now _ c.args.id c.self.invariant (sym c.is_known.ensures ∙ c.if-not-is_known.false) c.self.view_is (returns-in-Some-clause-ok c)

pub return_item-returned-requires-clause-number : goal.return_item-returned-requires-clause-number
return_item-returned-requires-clause-number c =
    rw c.bucket_number-number.ensures (asked (goal.at.return_item-returned-requires-clause-number c).In_default).number

pub return_item-returned-requires-clause-shelf : goal.return_item-returned-requires-clause-shelf
return_item-returned-requires-clause-shelf c =
    rw c.bucket_number-number.ensures (asked (goal.at.return_item-returned-requires-clause-shelf c).In_default).shelf

pub return_item-returned-requires-clause-free : goal.return_item-returned-requires-clause-free
return_item-returned-requires-clause-free c =
    rw c.bucket_number-number.ensures (asked (goal.at.return_item-returned-requires-clause-free c).In_default).free

pub return_item-returned-requires-clause-few_shelves : goal.return_item-returned-requires-clause-few_shelves
return_item-returned-requires-clause-few_shelves c =
    omega (arith, (asked (goal.at.return_item-returned-requires-clause-few_shelves c).In_default).few_shelves, shelves-returned (tag_of c.args.id).number c.return_only.new.self)

pub return_item-returned-requires-clause-few_buckets : goal.return_item-returned-requires-clause-few_buckets
return_item-returned-requires-clause-few_buckets c =
    omega (arith, (asked (goal.at.return_item-returned-requires-clause-few_buckets c).In_default).few_buckets, buckets-returned (tag_of c.args.id).number c.return_only.new.self)

pub return_item-returned-requires-clause-widest : goal.return_item-returned-requires-clause-widest
return_item-returned-requires-clause-widest c =
    rw c.bucket_number-number.ensures (asked (goal.at.return_item-returned-requires-clause-widest c).In_default).widest

pub return_item-returned-requires-clause-row : goal.return_item-returned-requires-clause-row
return_item-returned-requires-clause-row c =
    rw c.bucket_number-number.ensures (asked (goal.at.return_item-returned-requires-clause-row c).In_default).row

pub end-end-requires-clause-short : goal.end-end-requires-clause-short
end-end-requires-clause-short c = (after (goal.at.end-end-requires-clause-short c).After-return_item-returned).tells.short

pub overflow_sub-self-2 : goal.overflow_sub-self-2
overflow_sub-self-2 c =
    let a = after (goal.at.overflow_sub-self-2 c).After-return_item-returned in
    omega (arith, a.space)

pub overflow_sub-self-then-returned : goal.overflow_sub-self-then-returned
overflow_sub-self-then-returned c =
    let a = after (goal.at.overflow_sub-self-then-returned c).After-return_item-returned in
    omega (arith, a.in_use)

pub invariant_of-self-then-returned : goal.invariant_of-self-then-returned
invariant_of-self-then-returned c =
    let a = after (goal.at.invariant_of-self-then-returned c).After-return_item-returned in
    record {
      unused = a.unused;
      witnessed = subst (Witnessed c.return_item-returned.new.self a.unused) (sym a.tells.read) a.witnessed;
      totals = subst
          (HasTotals c.end-end.result.along c.end-end.result.across (c.self.inside.buckets_in_use - c.return_item-returned.result.dropped)
          (c.self.inside.allocated_space - c.return_item-returned.result.area)) (sym a.tells.read)
          (record {
            column = ap (λ (s : Sides). s.along) c.end-end.ensures ∙ a.tells.column;
            height = ap (λ (s : Sides). s.across) c.end-end.ensures ∙ a.tells.height;
            in_use = omega (arith, a.in_use);
            space = omega (arith, a.space);
          });
    }

pub invariant_of-self-else-returned : goal.invariant_of-self-else-returned
invariant_of-self-else-returned c =
    let a = after (goal.at.invariant_of-self-else-returned c).After-return_item-returned in
    let number = c.bucket_number-number.result in
    let store = same-store (goal.at.invariant_of-self-else-returned c).In_default in
    let same = c.return_item-returned.ensures.stays c.if-returned.false ∙ sym (shelves-returned number c.return_only.new.self) in
    let end = end-returned c.self.inside (item_returned number c.return_only.new.self) c.return_item-returned.new.self number c.return_item-returned.result.dropped c.self.invariant
    (ap (item_returned number) store) c.return_item-returned.ensures.records same in
    let none = none-dropped (item_returned number c.return_only.new.self) c.return_item-returned.new.self c.return_item-returned.result.dropped c.return_item-returned.ensures.records same in
    record {
      unused = a.unused;
      witnessed = subst (Witnessed c.return_item-returned.new.self a.unused) (sym a.tells.read) a.witnessed;
      totals = subst
          (HasTotals c.self.inside.current_column c.self.inside.available_height c.self.inside.buckets_in_use
          (c.self.inside.allocated_space - c.return_item-returned.result.area)) (sym a.tells.read)
          (record {
            column = sym (ap (λ (s : Sides). s.along) end) ∙ a.tells.column;
            height = sym (ap (λ (s : Sides). s.across) end) ∙ a.tells.height;
            in_use = omega (arith, a.in_use, ap (λ (d : Dropping). d.count) none);
            space = omega (arith, a.space);
          });
    }

pub returns-then-returned-clause-ok : goal.returns-then-returned-clause-ok
returns-then-returned-clause-ok c =
    let a = after (goal.at.returns-then-returned-clause-ok c).After-return_item-returned in
    a.tells.read ∙ ap (λ (state : BucketedState). bucket_returned state c.args.id) c.self.view_is

pub returns-then-returned-clause-unknown : goal.returns-then-returned-clause-unknown
returns-then-returned-clause-unknown c =
    let found = subst (λ (state : BucketedState). is_known state c.args.id ≡ true) c.self.view_is
    (sym (atlas-known c.self.inside c.args.id c.self.invariant) ∙ sym c.is_known.ensures ∙ c.if-not-is_known.false) in
    (λ wrong. absurd (cc), λ none. cc)

pub returns-then-returned-clause-promises : goal.returns-then-returned-clause-promises
returns-then-returned-clause-promises c =
    let a = after (goal.at.returns-then-returned-clause-promises c).After-return_item-returned in
    subst KeepsPromises (sym a.tells.read) (valid-promises (bucket_returned (state_in c.self.inside) c.args.id) a.witnessed.valid)

pub returns-then-returned-clause-allocated : goal.returns-then-returned-clause-allocated
returns-then-returned-clause-allocated c = λ one entry other same tied.
    rw (returns-then-returned-clause-ok c, ← same) (tied-returned one entry other c.args.self.now tied)

pub returns-then-returned-clause-others : goal.returns-then-returned-clause-others
returns-then-returned-clause-others c =
    others c.self.inside c.args.self.now _ c.args.id c.self.invariant (sym c.is_known.ensures ∙ c.if-not-is_known.false) c.self.view_is (returns-then-returned-clause-ok c)

pub returns-else-returned-clause-ok : goal.returns-else-returned-clause-ok
returns-else-returned-clause-ok c =
    let a = after (goal.at.returns-else-returned-clause-ok c).After-return_item-returned in
    a.tells.read ∙ ap (λ (state : BucketedState). bucket_returned state c.args.id) c.self.view_is

pub returns-else-returned-clause-unknown : goal.returns-else-returned-clause-unknown
returns-else-returned-clause-unknown c =
    let found = subst (λ (state : BucketedState). is_known state c.args.id ≡ true) c.self.view_is
    (sym (atlas-known c.self.inside c.args.id c.self.invariant) ∙ sym c.is_known.ensures ∙ c.if-not-is_known.false) in
    (λ wrong. absurd (cc), λ none. cc)

pub returns-else-returned-clause-promises : goal.returns-else-returned-clause-promises
returns-else-returned-clause-promises c =
    let a = after (goal.at.returns-else-returned-clause-promises c).After-return_item-returned in
    subst KeepsPromises (sym a.tells.read) (valid-promises (bucket_returned (state_in c.self.inside) c.args.id) a.witnessed.valid)

pub returns-else-returned-clause-allocated : goal.returns-else-returned-clause-allocated
returns-else-returned-clause-allocated c = λ one entry other same tied.
    rw (returns-else-returned-clause-ok c, ← same) (tied-returned one entry other c.args.self.now tied)

pub returns-else-returned-clause-others : goal.returns-else-returned-clause-others
returns-else-returned-clause-others c =
    others c.self.inside c.args.self.now _ c.args.id c.self.invariant (sym c.is_known.ensures ∙ c.if-not-is_known.false) c.self.view_is (returns-else-returned-clause-ok c)
