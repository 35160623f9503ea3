use Rattle.shelf_records.proofs.Spelled.StandsKept.{witnesses}
use Rattle.etagere_shelves.proofs.atlas.AtlasAllocator.fits_when_empty.Goals as goal

pub fits_when_empty-requires : goal.fits_when_empty-requires
fits_when_empty-requires c = (witnesses c.self.invariant.kept).valid.frame
