use Rattle.std.proofs.Common.{◌≡◌, false, ap, sym, ◌∙◌}
use Rattle.shelf_records.specs.declared.records.LinkedItem.{LinkedItem}
use Rattle.shelf_records.specs.AtlasRecords.{is_allocated_at}
use Rattle.shelf_store.proofs.Recorded.RecordedListing.{next-passed}
use Rattle.shelf_records.proofs.Recorded.RecordsOfIds.{field_at-read}
use Rattle.etagere_shelves.proofs.listing.next_allocated.Goals as goal

pub loop-number-preserved : goal.loop-number-preserved
loop-number-preserved c =
    let items = c.args.items.now in
    let number = c.loop-number.number in
    let fails : is_allocated_at items number ≡ false =
    field_at-read (λ (x : LinkedItem). x.allocated) false items number c.index-items-number.result c.loop-number-test.true c.index-items-number.is
    ∙ ap (λ (x : LinkedItem). x.allocated) c.index-items-number.is ∙ c.if-items-number.false in
    sym (next-passed items number c.loop-number-test.true fails) ∙ c.loop-number.invariant
