use Rattle.std.proofs.Common.{◌≡◌, ℕ, List, Some, ap, refl, subst, sym, ◌∙◌, arith}
use Rattle.std.proofs.lemmas.List.{with_items_is}
use Rattle.std.specs.Vec.{with_items}
use Rattle.etagere_links.specs.Edits.{changed_by}
use Rattle.bucketed_records.specs.declared.records.LinkedBucket.{LinkedBucket}
use Rattle.bucket_index.specs.Private.Rest.{IsRest}
use Rattle.bucket_index.specs.Private.Rooms.{AreCounted}
use Rattle.bucket_index.specs.Private.Spans.{AreSpans, AreSpansExcept}
use Rattle.bucketed_records.specs.Private.Store.{Stored}
use Rattle.std.specs.Prelude.{slice_get}
use Rattle.bucketed_store.proofs.RoomsKept.{followed}
use Rattle.bucket_index.proofs.RestOfRows.{bounded-lowered, known-beside, rest-lowered}
use Rattle.bucket_index.proofs.KnownSpans.{spans-changed-room}
use Rattle.bucket_index.proofs.StandingBuckets.{row-changed}
use Rattle.bucketed_store.specs.Private.StoreEdits.{taken_record}
use Rattle.bucketed_store.proofs.Spelling.WidestRooms.{room-lowered}
use Rattle.bucketed_store.proofs.store.Store.take_from.Goals as goal

pub track-requires-clause-others : goal.track-requires-clause-others
track-requires-clause-others c =
    let inside = c.self.inside in
    let bucket = c.args.bucket in
    let change = taken_record c.args.width in
    let items : (with_items inside.buckets c.take_from.new.buckets).items ≡ c.take_from.new.buckets =
    with_items_is inside.buckets c.take_from.new.buckets (omega (arith, c.take_from.auto.buckets, c.deref_mut.ensures.len)) in
    let taken : c.take_from.new.buckets ≡ changed_by (Some bucket) change inside.buckets.items =
    c.take_from.ensures ∙ ap (λ (bs : List LinkedBucket). changed_by (Some bucket) change bs) c.deref_mut.ensures.value in
    subst (AreSpansExcept bucket inside.spans) (sym (c.deref.ensures.value ∙ items ∙ taken))
    (spans-changed-room bucket change inside.spans inside.buckets.items (λ b. refl) c.self.invariant.1)

pub invariant_of-self : goal.invariant_of-self
invariant_of-self c =
    let inside = c.self.inside in
    let bucket = c.args.bucket in
    let change = taken_record c.args.width in
    let one = c.requires.fits.bucket in
    let here : slice_get inside.buckets.items bucket ≡ Some one =
    subst (λ (stored : Stored). slice_get stored.buckets bucket ≡ Some one) (sym c.self.view_is) c.requires.fits.here in
    let items : (with_items inside.buckets c.take_from.new.buckets).items ≡ c.take_from.new.buckets =
    with_items_is inside.buckets c.take_from.new.buckets (omega (arith, c.take_from.auto.buckets, c.deref_mut.ensures.len)) in
    let taken : c.take_from.new.buckets ≡ changed_by (Some bucket) change inside.buckets.items =
    c.take_from.ensures ∙ ap (λ (bs : List LinkedBucket). changed_by (Some bucket) change bs) c.deref_mut.ensures.value in
    let known : IsRest c.lower.new.self (changed_by (Some bucket) change inside.buckets.items) = c.lower.ensures (changed_by (Some bucket) change inside.buckets.items)
    (omega (arith, rest-lowered bucket inside.rest.bucket change inside.rest.first inside.buckets.items (λ b. refl) (room-lowered c.args.width), c.self.invariant.2.most))
    (bounded-lowered bucket change inside.rest inside.buckets.items (λ b. refl) (room-lowered c.args.width) c.self.invariant.2.bound)
    (row-changed bucket change inside.rest inside.buckets.items (λ b. refl) (λ b. refl) c.self.invariant.2.row)
    (λ same. subst (λ (n : ℕ). IsRest inside.rest (changed_by (Some n) change inside.buckets.items)) (sym same) (known-beside change inside.rest inside.buckets.items (λ b. refl) (λ b. refl) c.self.invariant.2)) in (
      c.self.invariant.0,
      subst (AreSpans c.track.new.self) c.deref.ensures.value c.track.ensures,
      subst (IsRest c.lower.new.self) (sym (items ∙ taken)) known,
      subst (AreCounted c.follow_record.new.self) (sym (items ∙ taken))
          (followed bucket c.args.room change inside.buckets.items c.deref-2.result.now one inside.rooms c.follow_record.new.self (c.deref-2.ensures.value ∙ items ∙ taken) here
          (c.requires.room one c.requires.fits.here) c.self.invariant.3 c.follow_record.ensures),
      c.self.invariant.4,
      c.self.invariant.5,
    )
