use Rattle.std.proofs.Common.{ap, length, refl, sym, ◌∙◌}
use Rattle.std.proofs.lemmas.Option.{slice_get_read}
use Rattle.std.specs.Prelude.{option_and_then}
use Rattle.shelf_records.specs.declared.records.LinkedShelf.{LinkedShelf}
use Rattle.shelf_records.specs.Records.{shelf_chain}
use Rattle.shelf_store.proofs.returning.previous_link.Goals as goal

pub returns : goal.returns
returns c =
    let shelf : LinkedShelf = c.index-shelves-shelf.result in
    ap (λ (s : LinkedShelf). s.prev) (sym c.index-shelves-shelf.is)
    ∙ sym (ap (option_and_then shelf_chain.previous) (slice_get_read c.args.shelves.now (length c.args.shelves.now) c.args.shelf shelf refl c.requires c.index-shelves-shelf.is))
