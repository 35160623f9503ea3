use Rattle.std.proofs.Common.{ap, ◌∙◌}
use Rattle.shelf_model.specs.Refusal.{refusal}
use Rattle.shelf_model.specs.State.{AtlasState}
use Rattle.etagere_shelves.proofs.atlas.AtlasAllocator.refusal.Goals as goal

pub returns : goal.returns
returns c = c.refusal.ensures ∙ ap (λ (s : AtlasState). refusal s c.args.size) c.self.view_is
