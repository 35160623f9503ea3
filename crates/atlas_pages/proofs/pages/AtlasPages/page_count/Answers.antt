use Rattle.std.proofs.Common.{arith}
use Rattle.atlas_pages.proofs.pages.AtlasPages.page_count.Goals as goal

pub overflow_cast-result : goal.overflow_cast-result
overflow_cast-result c = omega (arith, c.self.invariant.few, c.self.invariant.most)
