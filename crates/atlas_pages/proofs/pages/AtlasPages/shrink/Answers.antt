use Rattle.std.proofs.Common.{◌≡◌, ap, arith, length}
use Rattle.atlas_pages.specs.Pages.{PagesState}
use Rattle.atlas_pages.specs.Private.Kept.{state_in}
use Rattle.atlas_pages.proofs.Keeping.{keeps-shrunk}
use Rattle.atlas_pages.proofs.Used.{length-used_pages}
use Rattle.atlas_pages.proofs.pages.AtlasPages.shrink.Goals as goal

pub invariant_of-self : goal.invariant_of-self
invariant_of-self c = rw c.drop_empty_end.ensures (keeps-shrunk (state_in c.self.inside) c.self.invariant)

pub overflow_sub-result : goal.overflow_sub-result
overflow_sub-result c =
    let same : length c.self.inside.pages.items ≡ length c.args.self.now.pages = ap (λ (s : PagesState). length s.pages) c.self.view_is in
    omega (
      arith,
      same,
      c.page_count.ensures.count,
      c.page_count-before.ensures.count,
      ap length c.drop_empty_end.ensures,
      length-used_pages c.self.inside.pages.items,
    )

pub returns-clause-count : goal.returns-clause-count
returns-clause-count c =
    let same : length c.self.inside.pages.items ≡ length c.args.self.now.pages = ap (λ (s : PagesState). length s.pages) c.self.view_is in
    omega (
      arith,
      same,
      c.page_count.ensures.count,
      c.page_count-before.ensures.count,
      ap length c.drop_empty_end.ensures,
      length-used_pages c.self.inside.pages.items,
    )
