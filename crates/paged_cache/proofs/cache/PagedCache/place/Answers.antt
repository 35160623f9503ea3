use Rattle.std.proofs.Common.{subst}
use Rattle.std.specs.Prelude.{IfOk}
use Rattle.etagere_base.specs.Rectangles.{IsLarge}
use Rattle.atlas_pages.specs.Pages.{page_frame}
use Rattle.paged_cache.specs.Keyed.{IsNew}
use Rattle.paged_cache.specs.Paged.{PagedCacheState}
use Rattle.paged_cache.proofs.PagedLemmas.{placed-ok}
use Rattle.paged_cache.proofs.cache.PagedCache.place.Goals as goal

pub returns-clause-large : goal.returns-clause-large
returns-clause-large c =
    subst (λ (s : PagedCacheState). IsNew s c.args.key
    → IfOk c.place.result (λ placed. IsLarge (page_frame s.allocator.options) c.args.size placed.allocation.allocation.rectangle))
    c.self.view_is
    (λ new. placed-ok c.place.result c.self.inside.kept c.args.key c.args.size c.place.new.self (c.place.ensures.placed new))
