use Rattle.std.proofs.Common.{arith, ap, length}
use Rattle.atlas_pages.proofs.pages.AtlasPages.allocated_space.Goals as goal

pub allocated_space-requires : goal.allocated_space-requires
allocated_space-requires c = omega (arith, c.self.invariant.few, c.self.invariant.most, ap length c.deref.ensures.value)
