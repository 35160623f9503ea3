use Rattle.std.proofs.Common.{ap, ◌∙◌}
use Rattle.shelf_model.specs.Usage.{largest_free}
use Rattle.etagere_shelves.proofs.atlas.AtlasAllocator.largest_free.Goals as goal

pub returns : goal.returns
returns c = c.largest_free.ensures ∙ ap largest_free c.self.view_is
