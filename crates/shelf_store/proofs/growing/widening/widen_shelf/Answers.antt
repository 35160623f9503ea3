use Rattle.std.proofs.Common.{◌+◌, ap, sym, ◌∙◌}
use Rattle.shelf_records.specs.AtlasRecords.{is_allocated_at, width_of}
use Rattle.shelf_store.proofs.Grown.GrowSteps.{widened-free}
use Rattle.shelf_store.proofs.growing.widening.widen_shelf.Goals as goal

pub returns-then-not-is_allocated-clause-records : goal.returns-then-not-is_allocated-clause-records
returns-then-not-is_allocated-clause-records c =
    let records = c.args.records.now in
    let last = c.in-Some.last in
    widened-free c.args.shelf c.args.place c.args.width last (c.width.result + c.args.width) (record { records = records; made = c.args.made.now }) c.set_width.new.self
    (sym c.last_item.ensures.value ∙ c.in-Some.is)
    (ap (λ items. is_allocated_at items last) (sym c.items.ensures) ∙ sym c.if-not-is_allocated.ensures)
    (ap (λ width. width + c.args.width) (c.width.ensures ∙ ap (λ items. width_of items last) c.items-then-not-is_allocated.ensures))
    c.set_width.ensures
