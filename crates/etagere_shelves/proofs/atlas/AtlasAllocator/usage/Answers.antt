use Rattle.std.proofs.Common.{ap, ◌∙◌}
use Rattle.shelf_model.specs.Usage.{usage}
use Rattle.etagere_shelves.proofs.atlas.AtlasAllocator.usage.Goals as goal

pub returns : goal.returns
returns c = c.usage.ensures ∙ ap usage c.self.view_is
