use Rattle.std.proofs.Common.{◌≡◌, Bool, false, Some, length, ap, subst, sym, ◌∙◌}
use Rattle.std.specs.Prelude.{nat_le}
use Rattle.etagere_links.specs.Edits.{changed_by}
use Rattle.etagere_links.proofs.RecordChanges.{length-changed_by}
use Rattle.bucketed_records.specs.StandsFor.{live_of, shelf_of}
use Rattle.bucketed_records.specs.Private.Store.{Stored}
use Rattle.bucketed_store.specs.Private.Returns.{dropping_from, ends_idle, item_returned, returned_kept}
use Rattle.bucketed_store.specs.Private.StoreEdits.{IsInRow, KnowsWidest}
use Rattle.bucketed_store.proofs.LeftShelves.{ends-left, none-dropped}
use Rattle.bucketed_store.proofs.store.Store.return_item.Goals as goal

pub returns-then-lessen-clause-records : goal.returns-then-lessen-clause-records
returns-then-lessen-clause-records c =
    let old = c.args.self.now in
    let number = c.args.number in
    let leaves = c.lessen.ensures.leaves c.if-lessen.true in
    let shelf = shelf_of old.buckets number in
    let last : ends_idle (item_returned number old).shelves ≡ false =
    ap (λ (t : Bool). ends_idle (changed_by (Some shelf) (returned_kept t) old.shelves)) leaves.bucket ∙ ends-left shelf old.shelves leaves.shelf leaves.last in
    ap (λ (stored : Stored). dropping_from stored 0) (c.lessen.ensures.returned c.if-lessen.true)
    ∙ sym (none-dropped (length (item_returned number old).shelves) (dropping_from (item_returned number old) 0) last)

pub returns-then-lessen-clause-stays : goal.returns-then-lessen-clause-stays
returns-then-lessen-clause-stays c = λ _.
    let old = c.args.self.now in
    let number = c.args.number in
    ap (λ (stored : Stored). length stored.shelves) (c.lessen.ensures.returned c.if-lessen.true)
    ∙ length-changed_by (returned_kept (nat_le (live_of old.buckets number) 1)) old.shelves (Some (shelf_of old.buckets number))

pub return_apart-requires-clause-widest : goal.return_apart-requires-clause-widest
return_apart-requires-clause-widest c =
    subst (λ (stored : Stored). KnowsWidest (shelf_of stored.buckets c.args.number) stored.shelves stored.buckets) (sym (c.lessen.ensures.same c.if-lessen.false)) c.requires.widest

pub return_apart-requires-clause-row : goal.return_apart-requires-clause-row
return_apart-requires-clause-row c =
    subst (λ (stored : Stored). IsInRow (shelf_of stored.buckets c.args.number) c.args.number stored.shelves stored.buckets) (sym (c.lessen.ensures.same c.if-lessen.false)) c.requires.row
