use Rattle.std.proofs.Common.{◌≡◌, ◌<◌, ℕ, Some, length, ap, subst, sym, ◌∙◌, arith}
use Rattle.std.proofs.lemmas.List.{with_items_is}
use Rattle.std.proofs.lemmas.Option.{slice_get-get_or}
use Rattle.std.specs.Prelude.{slice_get}
use Rattle.std.specs.Vec.{with_items}
use Rattle.bucketed_model.specs.Merging.{Group}
use Rattle.bucketed_records.specs.declared.records.KeptShelf.{KeptShelf}
use Rattle.bucketed_records.specs.Private.Store.{Stored}
use Rattle.bucket_index.specs.declared.heights.Heights.{Heights}
use Rattle.bucket_index.specs.Private.Blocks.{AreKnown, AreOthersKnown}
use Rattle.bucket_index.specs.Private.Heights.{AreBelow, with_height}
use Rattle.bucket_index.specs.Private.Missed.{IsMissed, IsMissedBeside}
use Rattle.bucket_index.proofs.KnownBlocks.{some-same}
use Rattle.bucketed_store.specs.Private.StoreEdits.{group_height, kept_merged}
use Rattle.bucketed_store.proofs.KnownShelves.{below-merged, known-merged, missed-merged, others-merged}
use Rattle.bucketed_store.proofs.store.Store.merge.Goals as goal
use Rattle.bucketed_store.proofs.store.Store.merge.Goals.{After-add}

-- the shelves are merged
merged : (c : After-add) → (with_items c.self.inside.shelves c.merge-height.new.shelves).items ≡ kept_merged c.args.group.now c.self.inside.shelves.items
merged c =
    with_items_is c.self.inside.shelves c.merge-height.new.shelves (omega (arith, c.merge-height.auto.shelves, c.deref_mut.ensures.len))
    ∙ c.merge-height.ensures.shelves
    ∙ ap (kept_merged c.args.group.now) c.deref_mut.ensures.value

-- and no taller than is known
below : (c : After-add) → AreBelow c.add.new.self (with_items c.self.inside.shelves c.merge-height.new.shelves).items
below c =
    let shelves = c.self.inside.shelves.items in
    let heights = c.self.inside.heights in
    let group = c.args.group.now in
    let height : c.merge-height.result ≡ group_height group shelves = c.merge-height.ensures.height ∙ ap (group_height group) c.deref_mut.ensures.value in
    let known : c.add.new.self ≡ with_height group.first (group_height group shelves) heights =
    c.add.ensures ∙ ap (λ (g : Group). with_height g.first c.merge-height.result heights) c.group.view_is ∙ ap (λ (h : ℕ). with_height group.first h heights) height in
    subst (λ (h : Heights). AreBelow h (with_items c.self.inside.shelves c.merge-height.new.shelves).items) (sym known)
    (subst (AreBelow (with_height group.first (group_height group shelves) heights)) (sym (merged c)) (below-merged group heights shelves c.self.invariant.4))

-- the sides that no shelf had a place for are missed by all but the first
pub follow-requires : goal.follow-requires
follow-requires c =
    let missed = c.self.inside.missed in
    let group = c.args.group.now in
    let first : c.group.inside.first ≡ group.first = ap (λ (g : Group). g.first) c.group.view_is in
    subst (IsMissedBeside c.group.inside.first missed) (sym (c.deref.ensures.value ∙ merged (goal.at.follow-requires c).After-add))
    (subst (λ (n : ℕ). IsMissedBeside n missed (kept_merged group c.self.inside.shelves.items)) (sym first) (missed-merged group missed c.self.inside.shelves.items c.self.invariant.5))

-- the first of them was read
there : (c : After-add) → slice_get c.self.inside.shelves.items c.args.group.now.first ≡ Some c.index.result.now
there c =
    let shelves = c.self.inside.shelves.items in
    let first : c.group.inside.first ≡ c.args.group.now.first = ap (λ (g : Group). g.first) c.group.view_is in
    ap (slice_get shelves) (sym first)
    ∙ slice_get-get_or shelves c.group.inside.first c.index.result.now (omega (arith, first, c.requires.within, ap (λ (stored : Stored). length stored.shelves) c.self.view_is))
    ∙ ap (λ (kept : KeptShelf). Some kept) (sym c.index.ensures)

pub know_anew-requires-clause-others : goal.know_anew-requires-clause-others
know_anew-requires-clause-others c =
    let before = (goal.at.know_anew-requires-clause-others c).After-add in
    let blocks = c.self.inside.blocks in
    let group = c.args.group.now in
    let first : c.group.inside.first ≡ group.first = ap (λ (g : Group). g.first) c.group.view_is in
    subst (AreOthersKnown c.group.inside.first blocks) (sym (c.deref-then-is_flat.ensures.value ∙ merged before))
    (subst (λ (n : ℕ). AreOthersKnown n blocks (kept_merged group c.self.inside.shelves.items)) (sym first) (others-merged group blocks c.self.inside.shelves.items c.self.invariant.0))

pub invariant_of-self : goal.invariant_of-self
invariant_of-self c = (
  subst (AreKnown c.know_anew.new.self) c.deref-then-is_flat.ensures.value c.know_anew.ensures,
  c.self.invariant.1,
  c.self.invariant.2,
  c.self.invariant.3,
  below (goal.at.invariant_of-self c).After-add,
  subst (IsMissed c.follow.new.self) c.deref.ensures.value c.follow.ensures,
)

pub invariant_of-self-else-is_flat : goal.invariant_of-self-else-is_flat
invariant_of-self-else-is_flat c =
    let before = (goal.at.invariant_of-self-else-is_flat c).After-add in
    let shelves = c.self.inside.shelves.items in
    let group = c.args.group.now in
    let tall : (x : KeptShelf) → slice_get shelves group.first ≡ Some x → 0 < x.shelf.height = λ x at.
    omega (arith, c.if-is_flat.false, ap (λ (kept : KeptShelf). kept.shelf.height) (some-same (slice_get shelves group.first) x c.index.result.now at (there before))) in (
      subst (AreKnown c.self.inside.blocks) (sym (merged before)) (known-merged group c.self.inside.blocks shelves tall c.self.invariant.0),
      c.self.invariant.1,
      c.self.invariant.2,
      c.self.invariant.3,
      below before,
      subst (IsMissed c.follow.new.self) c.deref.ensures.value c.follow.ensures,
    )
