use Rattle.std.proofs.Common.{ap, ◌∙◌}
use Rattle.bucketed_model.specs.Usage.{largest_free, size_of}
use Rattle.bucketed_store.proofs.Refused.{largest-kept}
use Rattle.etagere_bucketed.specs.Private.Consistent.{state_in}
use Rattle.etagere_bucketed.proofs.atlas.BucketedAtlasAllocator.largest_free.Goals as goal

pub returns : goal.returns
returns c =
    let inside = c.self.inside in
    let is = c.self.invariant in
    c.largest_free.ensures
    ∙ ap (size_of inside.frame) (largest-kept inside.frame inside.store is.unused (state_in inside).shelves is.witnessed.spells)
    ∙ ap largest_free c.self.view_is
