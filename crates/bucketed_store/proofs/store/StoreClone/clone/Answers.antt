use Rattle.std.proofs.Common.{◌≡◌, List, [], ◌∷◌, refl, ap, subst, sym, ◌∙◌}
use Rattle.std.specs.List.{AllZip}
use Rattle.bucketed_records.specs.declared.records.LinkedBucket.{LinkedBucket}
use Rattle.bucketed_records.specs.declared.records.KeptShelf.{KeptShelf}
use Rattle.bucketed_records.specs.Private.Store.{Stored}
use Rattle.bucket_index.specs.Private.Blocks.{AreKnown}
use Rattle.bucket_index.specs.Private.Heights.{AreBelow}
use Rattle.bucket_index.specs.Private.Missed.{IsMissed}
use Rattle.bucket_index.specs.Private.Rest.{IsRest}
use Rattle.bucket_index.specs.Private.Rooms.{AreCounted}
use Rattle.bucket_index.specs.Private.Spans.{AreSpans}
use Rattle.bucketed_store.proofs.store.StoreClone.clone.Goals as goal

-- a list of copies is the list
copied : {X : Type 0} (xs ys : List X) → AllZip (λ x y. y ≡ x) xs ys → ys ≡ xs
copied [] [] same = refl
copied [] (y ∷ ys) same = absurd same
copied (x ∷ xs) [] same = absurd same
copied (x ∷ xs) (y ∷ ys) same = ap (λ z. z ∷ ys) same.0 ∙ ap (λ zs. x ∷ zs) (copied xs ys same.1)

pub invariant_of-result : goal.invariant_of-result
invariant_of-result c = (
  subst (AreKnown c.self.inside.blocks) (sym (copied c.self.inside.shelves.items c.in_ok-clone.field-0.items c.in_ok-clone.ensures.cases.0)) c.self.invariant.0,
  subst (AreSpans c.self.inside.spans) (sym (copied c.self.inside.buckets.items c.in_ok-clone-2.field-0.items c.in_ok-clone-2.ensures.cases.0)) c.self.invariant.1,
  subst (IsRest c.self.inside.rest) (sym (copied c.self.inside.buckets.items c.in_ok-clone-2.field-0.items c.in_ok-clone-2.ensures.cases.0)) c.self.invariant.2,
  subst (AreCounted c.self.inside.rooms) (sym (copied c.self.inside.buckets.items c.in_ok-clone-2.field-0.items c.in_ok-clone-2.ensures.cases.0)) c.self.invariant.3,
  subst (AreBelow c.self.inside.heights) (sym (copied c.self.inside.shelves.items c.in_ok-clone.field-0.items c.in_ok-clone.ensures.cases.0)) c.self.invariant.4,
  subst (IsMissed c.self.inside.missed) (sym (copied c.self.inside.shelves.items c.in_ok-clone.field-0.items c.in_ok-clone.ensures.cases.0)) c.self.invariant.5,
)

pub returns : goal.returns
returns c =
    let inside = c.self.inside in
    let shelves = copied inside.shelves.items c.in_ok-clone.field-0.items c.in_ok-clone.ensures.cases.0 in
    let buckets = copied inside.buckets.items c.in_ok-clone-2.field-0.items c.in_ok-clone-2.ensures.cases.0 in
    record {
      cases = ap (λ (xs : List KeptShelf). let stored : Stored = record { shelves = xs; buckets = c.in_ok-clone-2.field-0.items; unused = inside.unused } in stored) shelves
          ∙ ap (λ (bs : List LinkedBucket). let stored : Stored = record { shelves = inside.shelves.items; buckets = bs; unused = inside.unused } in stored) buckets
          ∙ c.self.view_is;
    }
