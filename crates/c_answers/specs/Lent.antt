-- What a handle ends as whose content was lent: it holds what is left behind the reference, or is as it was.
use Rattle.std.specs.Borrow.{LendsIf, MutBor, Fml}
use Rattle.std.specs.declared.option.Option.{Option}
use Rattle.std.specs.declared.option.Option.TheVariants.{Some}
use Rattle.etagere_shelves.specs.contracts.atlas.AtlasAllocator as Atlas
use Rattle.glyph_shelf.specs.contracts.cache.GlyphCache as Cache
use Rattle.etagere_bucketed.specs.contracts.atlas.BucketedAtlasAllocator as Bucketed
use Rattle.c_answers.specs.declared.atlas_handle.EtagereAtlas.{EtagereAtlas}
use Rattle.c_answers.specs.declared.bucketed_handle.EtagereBucketed.{EtagereBucketed}
use Rattle.c_answers.specs.declared.cache_handle.EtagereCache.{EtagereCache}
use Rattle.c_answers.specs.contracts.atlas_handle.EtagereAtlas as AtlasHandle
use Rattle.c_answers.specs.contracts.bucketed_handle.EtagereBucketed as BucketedHandle
use Rattle.c_answers.specs.contracts.cache_handle.EtagereCache as CacheHandle

abbrev pub LendsAtlas : MutBor EtagereAtlas → Option (MutBor Atlas.the_row.Denot) → Fml
LendsAtlas handle lent =
    LendsIf AtlasHandle.the_row Atlas.the_row handle lent (λ left. record handle.now { state = Some left }) handle.now

abbrev pub LendsBucketed : MutBor EtagereBucketed → Option (MutBor Bucketed.the_row.Denot) → Fml
LendsBucketed handle lent =
    LendsIf BucketedHandle.the_row Bucketed.the_row handle lent (λ left. record handle.now { state = Some left }) handle.now

abbrev pub LendsCache : MutBor EtagereCache → Option (MutBor Cache.the_row.Denot) → Fml
LendsCache handle lent =
    LendsIf CacheHandle.the_row Cache.the_row handle lent (λ left. record handle.now { state = Some left }) handle.now
