use Rattle.std.proofs.Common.{ap, ◌∙◌}
use Rattle.shelf_model.specs.Places.{index_of}
use Rattle.shelf_model.specs.State.{AtlasState}
use Rattle.shelf_records.proofs.Recorded.RecordsOfIds.{kept-index}
use Rattle.etagere_shelves.proofs.atlas.AtlasAllocator.get_index.Goals as goal

pub returns : goal.returns
returns c =
    let inside = c.self.inside in
    c.index_of.ensures ∙ kept-index inside.frame inside.records c.args.id c.self.invariant.kept ∙ ap (λ (s : AtlasState). index_of s c.args.id) c.self.view_is
