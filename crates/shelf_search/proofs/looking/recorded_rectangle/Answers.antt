use Rattle.std.proofs.Common.{◌≡◌, ◌<◌, length, get_or, ap, sym, ◌∙◌, arith}
use Rattle.etagere_base.specs.Places.{rectangle_at}
use Rattle.shelf_records.specs.declared.records.LinkedItem.{LinkedItem}
use Rattle.shelf_records.specs.AtlasRecords.{shelf_of}
use Rattle.shelf_records.proofs.Recorded.RecordsOfIds.{field_at-read, kept-shelf, marked-within, rectangle-read}
use Rattle.shelf_search.proofs.looking.recorded_rectangle.Goals as goal

pub bounds-shelves-from : goal.bounds-shelves-from
bounds-shelves-from c =
    let records = c.args.records.now in
    let item : LinkedItem = c.index-items-number.result in
    let within : c.args.number < length records.items = marked-within records.items c.args.number c.requires.allocated in
    let read : item ≡ get_or records.items c.args.number item = rw c.items.ensures at c.index-items-number.is in
    let names : shelf_of records.items c.args.number ≡ item.shelf = field_at-read (λ (x : LinkedItem). x.shelf) 0 records.items c.args.number item within read in
    omega (arith, names, c.from.ensures, ap length c.shelves.ensures, kept-shelf c.args.frame.now records c.args.number c.requires.kept c.requires.allocated)

pub returns : goal.returns
returns c =
    let records = c.args.records.now in
    let item = c.index-items-number.result in
    let shelf = c.index-shelves-from.result in
    let within : c.args.number < length records.items = marked-within records.items c.args.number c.requires.allocated in
    let read : item ≡ get_or records.items c.args.number item = rw c.items.ensures at c.index-items-number.is in
    let names : shelf_of records.items c.args.number ≡ c.from.result =
    field_at-read (λ (x : LinkedItem). x.shelf) 0 records.items c.args.number item within read ∙ sym c.from.ensures in
    let shelf_within : c.from.result < length records.shelves =
    omega (arith, names, kept-shelf c.args.frame.now records c.args.number c.requires.kept c.requires.allocated) in
    c.rectangle_at.ensures
    ∙ ap (λ x. rectangle_at c.args.frame.now x c.from-3.result c.from-4.result c.from-5.result) c.from-2.ensures
    ∙ ap (λ y. rectangle_at c.args.frame.now item.x y c.from-4.result c.from-5.result) c.from-3.ensures
    ∙ ap (λ w. rectangle_at c.args.frame.now item.x shelf.y w c.from-5.result) c.from-4.ensures
    ∙ ap (λ h. rectangle_at c.args.frame.now item.x shelf.y item.width h) c.from-5.ensures
    ∙ rectangle-read c.args.frame.now records c.args.number c.from.result item shelf within read c.from.ensures shelf_within (rw c.shelves.ensures at c.index-shelves-from.is)
