use Rattle.std.proofs.Common.{refl, subst}
use Rattle.atlas_pages.specs.Pages.{PagesState}
use Rattle.atlas_pages.specs.Private.Kept.{state_in}
use Rattle.atlas_pages.specs.Saved.{EachStandsFor, PagesStandFor}
use Rattle.atlas_pages.proofs.SavedLemmas.{stands-saved}
use Rattle.atlas_pages.proofs.pages.AtlasPages.snapshot.Goals as goal

pub returns : goal.returns
returns c =
    subst (λ (s : PagesState). PagesStandFor (record { options = c.self.inside.options; pages = c.in_ok-pages.pages }) s) c.self.view_is
    (stands-saved (state_in c.self.inside) (record { options = c.self.inside.options; pages = c.in_ok-pages.pages }) c.self.invariant refl
    (subst (EachStandsFor c.in_ok-pages.pages.items) c.deref.ensures.value c.in_ok-pages.ensures))
