use Rattle.std.proofs.Common.{subst, sym}
use Rattle.etagere_base.specs.declared.geometry.Size.{Size}
use Rattle.etagere_base.specs.Rectangles.{IsLarge}
use Rattle.padding.specs.Padding.{HasSize, padded}
use Rattle.atlas_pages.specs.declared.paged_allocation.PagedAllocation.{PagedAllocation}
use Rattle.atlas_pages.specs.Choosing.{IsRefusedByAll}
use Rattle.padding.specs.Pages.Padded.{PaddedState, PlacesPadded}
use Rattle.atlas_pages.specs.Allocated.{Places}
use Rattle.atlas_pages.specs.Pages.{page_frame}
use Rattle.padding.proofs.PaddedPages.PaddedLemmas.{given-near, has-size, keeps-padding, places-padded, refused-all}
use Rattle.padding.proofs.pages.padded_pages.PaddedPages.allocate.Goals as goal

pub returns-in_default-clause-refused : goal.returns-in_default-clause-refused
returns-in_default-clause-refused c =
    subst (λ (s : PaddedState). IsRefusedByAll s.pages (padded s.padding c.args.size)) c.self.view_is
    (refused-all c.self.inside.pages c.self.inside.padding c.args.size c.in_default.field-0 c.in_default.ensures.refused)

pub trimmed_paged-requires : goal.trimmed_paged-requires
trimmed_paged-requires c =
    given-near c.self.inside.pages c.allocate.new.self c.in-Ok.asked c.in-Some.paged c.self.invariant.pages
    c.allocate.ensures.promises (rw c.in-Some.is at c.in_ok-paged.ensures.placed)

pub invariant_of-self-2 : goal.invariant_of-self-2
invariant_of-self-2 c = keeps-padding c.self.inside.padding c.allocate.new.self c.allocate.ensures.promises

pub returns-clause-promises : goal.returns-clause-promises
returns-clause-promises c = keeps-padding c.self.inside.padding c.allocate.new.self c.allocate.ensures.promises

pub returns-clause-placed : goal.returns-clause-placed
returns-clause-placed c =
    let new : PaddedState = record { padding = c.self.inside.padding; pages = c.allocate.new.self } in
    let taken : Places c.self.inside.pages (padded c.self.inside.padding c.args.size) c.in-Some.paged c.allocate.new.self =
    subst (λ (s : Size). Places c.self.inside.pages s c.in-Some.paged c.allocate.new.self) c.in-Ok.ensures.ok
    (rw c.in-Some.is at c.in_ok-paged.ensures.placed) in
    subst (λ (s : PaddedState). PlacesPadded s c.args.size c.trimmed_paged.result new) c.self.view_is
    (subst (λ (p : PagedAllocation). PlacesPadded (record { padding = c.self.inside.padding; pages = c.self.inside.pages }) c.args.size p new)
    (sym c.trimmed_paged.ensures)
    (places-padded c.self.inside.pages c.allocate.new.self c.self.inside.padding c.args.size c.in-Some.paged taken))

pub returns-clause-large : goal.returns-clause-large
returns-clause-large c =
    let frame = page_frame c.self.inside.pages.options in
    let large : IsLarge frame (padded c.self.inside.padding c.args.size) c.in-Some.paged.allocation.rectangle =
    subst (λ (s : Size). IsLarge frame s c.in-Some.paged.allocation.rectangle) c.in-Ok.ensures.ok
    (rw c.in-Some.is at c.in_ok-paged.ensures.large) in
    subst (λ (p : PagedAllocation). HasSize c.args.size p.allocation.rectangle) (sym c.trimmed_paged.ensures)
    (has-size c.self.inside.pages c.self.inside.padding c.args.size c.in-Some.paged.allocation.rectangle c.self.invariant.pages
    c.in-Ok.ensures.accepted large)
