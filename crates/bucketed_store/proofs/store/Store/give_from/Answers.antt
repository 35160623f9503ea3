use Rattle.std.proofs.Common.{◌≡◌, ◌≤◌, Option, List, Some, length, refl, ap, subst, sym, ◌∙◌, arith}
use Rattle.std.proofs.lemmas.List.{with_items_is}
use Rattle.std.proofs.lemmas.Option.{slice_get-get_or}
use Rattle.std.specs.Option.{option_map_or}
use Rattle.std.specs.Prelude.{slice_get}
use Rattle.std.specs.Vec.{with_items}
use Rattle.bucketed_model.specs.State.{most_buckets}
use Rattle.bucketed_records.specs.declared.records.LinkedBucket.{LinkedBucket}
use Rattle.bucketed_records.specs.declared.records.KeptShelf.{KeptShelf}
use Rattle.bucketed_records.specs.Private.Store.{Stored}
use Rattle.bucket_index.specs.declared.blocks.Block.{Block}
use Rattle.bucket_index.specs.Private.Blocks.{AreKnown, AreOthersKnown, height_at}
use Rattle.bucket_index.specs.Private.Heights.{AreBelow}
use Rattle.bucket_index.specs.Private.Missed.{IsMissed}
use Rattle.bucket_index.specs.Private.Rest.{IsRest}
use Rattle.bucket_index.proofs.TallestShelves.{below-kept}
use Rattle.bucket_index.specs.Private.Searching.{widest_from}
use Rattle.bucket_index.specs.Private.Spans.{AreSpans}
use Rattle.bucket_index.proofs.MissedShelves.{missed-changed, narrower-without}
use Rattle.bucket_index.proofs.KnownBlocks.{followed-stays, known-at, known-others}
use Rattle.bucketed_store.proofs.KnownShelves.{height-kept}
use Rattle.bucketed_store.specs.Private.StoreEdits.{IsInRow, IsWidestKept, first_bucket_of, given_from, shelves_given, widest_of}
use Rattle.bucketed_store.proofs.store.Store.give_from.Goals as goal

-- what holds of some shelves and buckets holds of the same
of-same : (P : List KeptShelf → List LinkedBucket → Type 0) (xs ys : List KeptShelf) (bs cs : List LinkedBucket) → xs ≡ ys → bs ≡ cs → P ys cs → P xs bs
of-same P xs ys bs cs shelves buckets h = subst (λ (zs : List KeptShelf). P zs bs) (sym shelves) (subst (P ys) (sym buckets) h)

pub give_from-requires-clause-widest : goal.give_from-requires-clause-widest
give_from-requires-clause-widest c =
    let Widest = IsWidestKept c.args.found.now.shelf c.args.found.now.bucket c.args.room in
    of-same Widest _ _ _ _ c.deref_mut.ensures.value c.deref.ensures.value
    (subst (λ (stored : Stored). Widest stored.shelves stored.buckets) (sym c.self.view_is) c.requires.widest)

pub give_from-requires-clause-row : goal.give_from-requires-clause-row
give_from-requires-clause-row c =
    let In = IsInRow c.args.found.now.shelf c.args.found.now.bucket in
    of-same In _ _ _ _ c.deref_mut.ensures.value c.deref.ensures.value (subst (λ (stored : Stored). In stored.shelves stored.buckets) (sym c.self.view_is) c.requires.row)

pub give_from-requires-clause-spans : goal.give_from-requires-clause-spans
give_from-requires-clause-spans c = subst (AreSpans c.self.inside.spans) (sym c.deref.ensures.value) c.self.invariant.1

pub give_from-requires-clause-rest : goal.give_from-requires-clause-rest
give_from-requires-clause-rest c = subst (IsRest c.self.inside.rest) (sym c.deref.ensures.value) c.self.invariant.2

pub returns : goal.returns
returns c =
    let shelves = c.self.inside.shelves in
    let items : (with_items shelves c.give_from.new.shelves).items ≡ c.give_from.new.shelves =
    with_items_is shelves c.give_from.new.shelves (omega (arith, c.give_from.auto.shelves, c.deref_mut.ensures.len)) in
    let given : (with_items shelves c.give_from.new.shelves).items ≡ shelves_given c.args.found.now.shelf shelves.items c.self.inside.buckets.items =
    items
    ∙ c.give_from.ensures.shelves
    ∙ ap (λ (xs : List KeptShelf). shelves_given c.args.found.now.shelf xs c.deref.result.now) c.deref_mut.ensures.value
    ∙ ap (λ (bs : List LinkedBucket). shelves_given c.args.found.now.shelf shelves.items bs) c.deref.ensures.value in
    ap (λ (xs : List KeptShelf). let stored : Stored = record { shelves = xs; buckets = c.self.inside.buckets.items; unused = c.self.inside.unused } in stored) given
    ∙ ap (λ (stored : Stored). record stored { shelves = shelves_given c.args.found.now.shelf stored.shelves stored.buckets }) c.self.view_is

pub follow-requires-clause-before : goal.follow-requires-clause-before
follow-requires-clause-before c =
    let shelves = c.self.inside.shelves.items in
    let shelf = c.args.found.now.shelf in
    let before = c.index.result.now in
    let there : slice_get shelves shelf ≡ Some before =
    slice_get-get_or shelves shelf before (omega (arith, c.requires.shelf, ap (λ (stored : Stored). length stored.shelves) c.self.view_is)) ∙ ap (λ (kept : KeptShelf). Some kept) (sym c.index.ensures) in
    let items : (with_items c.self.inside.shelves c.give_from.new.shelves).items ≡ c.give_from.new.shelves =
    with_items_is c.self.inside.shelves c.give_from.new.shelves (omega (arith, c.give_from.auto.shelves, c.deref_mut.ensures.len)) in
    let given : c.give_from.new.shelves ≡ shelves_given shelf shelves c.self.inside.buckets.items =
    c.give_from.ensures.shelves
    ∙ ap (λ (xs : List KeptShelf). shelves_given shelf xs c.deref.result.now) c.deref_mut.ensures.value
    ∙ ap (λ (bs : List LinkedBucket). shelves_given shelf shelves bs) c.deref.ensures.value in
    let tall : height_at c.deref-2.result.now shelf ≡ before.shelf.height =
    ap (λ (xs : List KeptShelf). height_at xs shelf) (c.deref-2.ensures.value ∙ items ∙ given)
    ∙ height-kept shelf (given_from (widest_from most_buckets c.self.inside.buckets.items (first_bucket_of shelves shelf))) shelves before (λ x. refl) there in
    λ counts kept as_tall narrow busy. followed-stays shelf before kept c.self.inside.blocks (as_tall ∙ tall) (omega (arith, narrow, ap (λ (b : Block). b.widest_room) c.known_of-before.ensures)) busy (known-at shelf before c.self.inside.blocks shelves there c.self.invariant.0 counts)

pub follow-requires-clause-others : goal.follow-requires-clause-others
follow-requires-clause-others c =
    let inside = c.self.inside in
    let shelf = c.args.found.now.shelf in
    let items : (with_items inside.shelves c.give_from.new.shelves).items ≡ c.give_from.new.shelves =
    with_items_is inside.shelves c.give_from.new.shelves (omega (arith, c.give_from.auto.shelves, c.deref_mut.ensures.len)) in
    let given : c.give_from.new.shelves ≡ shelves_given shelf inside.shelves.items inside.buckets.items =
    c.give_from.ensures.shelves
    ∙ ap (λ (xs : List KeptShelf). shelves_given shelf xs c.deref.result.now) c.deref_mut.ensures.value
    ∙ ap (λ (bs : List LinkedBucket). shelves_given shelf inside.shelves.items bs) c.deref.ensures.value in
    subst (AreOthersKnown shelf inside.blocks) (sym (c.deref-2.ensures.value ∙ items ∙ given))
    (known-others shelf (given_from (widest_from most_buckets inside.buckets.items (first_bucket_of inside.shelves.items shelf))) inside.blocks inside.shelves.items (λ x. refl) c.self.invariant.0)

pub invariant_of-self : goal.invariant_of-self
invariant_of-self c =
    let inside = c.self.inside in
    let shelf = c.args.found.now.shelf in
    let items : (with_items inside.shelves c.give_from.new.shelves).items ≡ c.give_from.new.shelves =
    with_items_is inside.shelves c.give_from.new.shelves (omega (arith, c.give_from.auto.shelves, c.deref_mut.ensures.len)) in
    let given : c.give_from.new.shelves ≡ shelves_given shelf inside.shelves.items inside.buckets.items =
    c.give_from.ensures.shelves
    ∙ ap (λ (xs : List KeptShelf). shelves_given shelf xs c.deref.result.now) c.deref_mut.ensures.value
    ∙ ap (λ (bs : List LinkedBucket). shelves_given shelf inside.shelves.items bs) c.deref.ensures.value in
    let most : widest_from most_buckets inside.buckets.items (first_bucket_of inside.shelves.items shelf) ≤ widest_of inside.shelves.items shelf =
    subst (λ (stored : Stored). widest_from most_buckets stored.buckets (first_bucket_of stored.shelves shelf) ≤ widest_of stored.shelves shelf) (sym c.self.view_is) c.requires.widest.most in
    let less : (kept : KeptShelf) → slice_get inside.shelves.items shelf ≡ Some kept → widest_from most_buckets inside.buckets.items (first_bucket_of inside.shelves.items shelf) ≤ kept.widest_room =
    λ kept there. subst (λ (o : Option KeptShelf). widest_from most_buckets inside.buckets.items (first_bucket_of inside.shelves.items shelf) ≤ option_map_or (λ (one : KeptShelf). one.widest_room) o 0) there most in (
      subst (AreKnown c.follow.new.self) c.deref-2.ensures.value c.follow.ensures,
      subst (AreSpans c.give_from.new.spans) c.deref.ensures.value c.give_from.ensures.spans,
      subst (IsRest c.give_from.new.rest) c.deref.ensures.value c.give_from.ensures.rest,
      c.self.invariant.3,
      subst (AreBelow inside.heights) (sym (items ∙ given))
          (below-kept shelf (given_from (widest_from most_buckets inside.buckets.items (first_bucket_of inside.shelves.items shelf))) inside.heights inside.shelves.items (λ x _. refl) c.self.invariant.4),
      subst (IsMissed inside.missed) (sym (items ∙ given))
          (missed-changed (λ number. Unit {0}) shelf (given_from (widest_from most_buckets inside.buckets.items (first_bucket_of inside.shelves.items shelf))) inside.missed inside.shelves.items (λ sides kept some there none. narrower-without inside.missed.adds sides kept (given_from (widest_from most_buckets inside.buckets.items (first_bucket_of inside.shelves.items shelf)) kept) refl (less kept there) none) c.self.invariant.5),
    )

pub give_from-requires-clause-bucket : goal.give_from-requires-clause-bucket
give_from-requires-clause-bucket c =
    omega (arith, c.requires.bucket, ap (λ (stored : Stored). length stored.buckets) c.self.view_is, ap length c.deref.ensures.value)
