use Rattle.std.proofs.Common.{◌≡◌, ◌+◌, ◌*◌, ◌<◌, ◌∙◌, ap, arith, get_or, length, sym}
use Rattle.etagere_base.specs.Ids.{index_modulus}
use Rattle.etagere_links.specs.Edits.{field_at}
use Rattle.shelf_records.specs.declared.records.LinkedItem.{LinkedItem}
use Rattle.shelf_records.specs.Private.Reading.{recorded_id}
use Rattle.shelf_records.proofs.Recorded.RecordsOfIds.{field_at-read, marked-within}
use Rattle.shelf_records.proofs.Spelled.StandsKept.{witnesses}
use Rattle.etagere_shelves.proofs.listing.recorded_allocation.Goals as goal

pub overflow_cast-number : goal.overflow_cast-number
overflow_cast-number c =
    omega (arith, marked-within c.args.records.now.items c.args.number c.requires.allocated, (witnesses c.requires.kept).counts.items.1)

pub overflow_add-number : goal.overflow_add-number
overflow_add-number c =
    omega (
      arith,
      marked-within c.args.records.now.items c.args.number c.requires.allocated,
      (witnesses c.requires.kept).counts.items.1,
      c.from.ensures,
      c.index-items-number.element_fits.fits,
    )

pub returns : goal.returns
returns c =
    let records = c.args.records.now in
    let item : LinkedItem = c.index-items-number.result in
    let within : c.args.number < length records.items = marked-within records.items c.args.number c.requires.allocated in
    let read : item ≡ get_or records.items c.args.number item = rw c.items.ensures at c.index-items-number.is in
    let generation : field_at (λ (x : LinkedItem). x.generation) 0 records.items c.args.number ≡ c.from.result =
    field_at-read (λ (x : LinkedItem). x.generation) 0 records.items c.args.number item within read
    ∙ ap (λ (x : LinkedItem). x.generation) c.index-items-number.is ∙ sym c.from.ensures in
    ap (λ id. record { id = id; rectangle = c.recorded_rectangle.result })
    (c.deserialize.ensures ∙ ap (λ g. c.args.number + index_modulus * g) (sym generation))
    ∙ ap (λ r. record { id = recorded_id records.items c.args.number; rectangle = r }) c.recorded_rectangle.ensures
