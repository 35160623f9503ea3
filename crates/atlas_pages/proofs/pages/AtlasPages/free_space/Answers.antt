use Rattle.std.proofs.Common.{arith, ap, length}
use Rattle.atlas_pages.proofs.pages.AtlasPages.free_space.Goals as goal

pub free_space-requires : goal.free_space-requires
free_space-requires c = omega (arith, c.self.invariant.few, c.self.invariant.most, ap length c.deref.ensures.value)
