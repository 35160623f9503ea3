use Rattle.std.proofs.Common.{◌≡◌, ◌<◌, List, Some, ap, length, refl, sym, subst, ◌∙◌, arith}
use Rattle.std.proofs.lemmas.Option.{slice_get_within}
use Rattle.std.specs.Prelude.{slice_get}
use Rattle.bucket_index.specs.Private.Rooms.{AreCounted}
use Rattle.bucketed_records.specs.Private.Store.{Stored}
use Rattle.bucketed_records.specs.declared.records.LinkedBucket.{LinkedBucket}
use Rattle.etagere_links.specs.Edits.{changed_by}
use Rattle.etagere_links.proofs.RecordChanges.{length-changed_by}
use Rattle.bucketed_store.specs.Private.StoreEdits.{CanTake, IsInRow, IsWidestKept, first_bucket_of, shelves_given, taken_record}
use Rattle.bucket_index.proofs.StandingBuckets.{in-changed}
use Rattle.bucketed_store.proofs.Spelling.WidestRooms.{widest-kept}
use Rattle.bucketed_store.proofs.store.Store.take.Goals as goal

pub returns-clause-records : goal.returns-clause-records
returns-clause-records c =
    c.give_from.ensures
    ∙ ap (λ (stored : Stored). record stored { shelves = shelves_given c.args.found.now.shelf stored.shelves stored.buckets }) (c.take_from.ensures ∙ ap (λ (stored : Stored). record stored { buckets = changed_by (Some c.args.found.now.bucket) (taken_record c.args.width) stored.buckets }) c.self.view_is)

pub give_from-requires-clause-widest : goal.give_from-requires-clause-widest
give_from-requires-clause-widest c =
    let found = c.args.found.now in
    let records : c.deref-2.result.now ≡ c.args.self.now.buckets = c.deref-2.ensures.value ∙ ap (λ (stored : Stored). stored.buckets) c.self.view_is in
    let here = c.requires.fits.here in
    let room = c.room_of-room.ensures c.requires.fits.bucket (ap (λ (bs : List LinkedBucket). slice_get bs found.bucket) records ∙ here) in
    subst (λ (stored : Stored). IsWidestKept found.shelf found.bucket c.room_of-room.result stored.shelves stored.buckets) (sym (c.take_from.ensures ∙ ap (λ (stored : Stored). record stored { buckets = changed_by (Some c.args.found.now.bucket) (taken_record c.args.width) stored.buckets }) c.self.view_is))
    (widest-kept found.shelf found.bucket c.args.width c.room_of-room.result c.args.self.now c.requires.fits.bucket here room c.requires.widest)

pub take_from-requires-clause-room : goal.take_from-requires-clause-room
take_from-requires-clause-room c = λ one there. c.room_of-room.ensures one (ap (λ (bs : List LinkedBucket). slice_get bs c.args.found.now.bucket) c.deref-2.ensures.value ∙ there)

pub room_of-room-requires : goal.room_of-room-requires
room_of-room-requires c =
    let bucket = c.args.found.now.bucket in
    let records : c.deref-2.result.now ≡ c.args.self.now.buckets = c.deref-2.ensures.value ∙ ap (λ (stored : Stored). stored.buckets) c.self.view_is in
    let within : bucket < length c.args.self.now.buckets = slice_get_within c.args.self.now.buckets bucket c.requires.fits.bucket c.requires.fits.here in
    omega (arith, within, ap (λ (bs : List LinkedBucket). length bs) records)

pub count_unless_exact-requires : goal.count_unless_exact-requires
count_unless_exact-requires c = subst (AreCounted c.self.inside.rooms) (sym c.deref-3.ensures.value) c.self.invariant.3

pub invariant_of-self : goal.invariant_of-self
invariant_of-self c = (c.self.invariant.0, c.self.invariant.1, c.self.invariant.2, subst (AreCounted c.count_unless_exact.new.self) c.deref-3.ensures.value c.count_unless_exact.ensures, c.self.invariant.4, c.self.invariant.5)

pub take_from-requires-clause-fits : goal.take_from-requires-clause-fits
take_from-requires-clause-fits c = subst (λ (stored : Stored). CanTake c.args.found.now.bucket c.args.width stored.buckets) (sym c.self.view_is) c.requires.fits

pub give_from-requires-clause-bucket : goal.give_from-requires-clause-bucket
give_from-requires-clause-bucket c =
    let bucket = c.args.found.now.bucket in
    let change = taken_record c.args.width in
    let records = c.take_from.ensures ∙ ap (λ (stored : Stored). record stored { buckets = changed_by (Some bucket) change stored.buckets }) c.self.view_is in
    let long = length-changed_by change c.args.self.now.buckets (Some bucket) in
    let within : bucket < length c.args.self.now.buckets = slice_get_within c.args.self.now.buckets bucket c.requires.fits.bucket c.requires.fits.here in
    omega (arith, within, long, ap (λ (stored : Stored). length stored.buckets) records)

pub give_from-requires-clause-row : goal.give_from-requires-clause-row
give_from-requires-clause-row c =
    let found = c.args.found.now in
    let old = c.args.self.now in
    let change = taken_record c.args.width in
    subst (λ (stored : Stored). IsInRow found.shelf found.bucket stored.shelves stored.buckets) (sym (c.take_from.ensures ∙ ap (λ (stored : Stored). record stored { buckets = changed_by (Some c.args.found.now.bucket) (taken_record c.args.width) stored.buckets }) c.self.view_is))
    (in-changed found.bucket change old.buckets (first_bucket_of old.shelves found.shelf) found.bucket (λ b. refl) (λ b. refl) c.requires.row)
