use Rattle.shelf_model.specs.Space as space
use Rattle.atlas_pages.proofs.PageSpaces.{space-more}
use Rattle.atlas_pages.proofs.open_pages.allocated_space.Goals as goal

pub loop-page-preserved : goal.loop-page-preserved
loop-page-preserved c =
    space-more space.allocated_space c.args.pages.now c.loop-page.page-index c.page-item.result c.loop-page.space c.allocated_space.result
    c.loop-page-test.true c.page-item.is c.loop-page.invariant.0 c.loop-page.invariant.1 c.allocated_space.ensures.space c.allocated_space.type_inv
