use Rattle.atlas_pages.specs.Choosing as choosing
use Rattle.atlas_pages.proofs.PageSpaces.{space-more}
use Rattle.atlas_pages.proofs.open_pages.free_space.Goals as goal

pub loop-page-preserved : goal.loop-page-preserved
loop-page-preserved c =
    space-more choosing.free_space c.args.pages.now c.loop-page.page-index c.page-item.result c.loop-page.space c.free_space.result
    c.loop-page-test.true c.page-item.is c.loop-page.invariant.0 c.loop-page.invariant.1 c.free_space.ensures.free c.free_space.type_inv
