use Rattle.std.proofs.Common.{◌≡◌, [], take}
use Rattle.std.specs.List.{AllByRecursion}
use Rattle.shelf_model.specs.Places.{allocations}
use Rattle.shelf_model.specs.State.{AtlasState}
use Rattle.atlas_pages.proofs.open_pages.are_empty.Given as goal

abbrev pub invariant-loop-page : goal.invariant-loop-page
invariant-loop-page l = AllByRecursion (λ (page : AtlasState). allocations page ≡ []) (take l.page-index l.pages)
