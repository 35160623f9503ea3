use Rattle.std.proofs.Common.{[], ◌∷◌, ◌++◌, sym, subst}
use Rattle.etagere_base.specs.declared.geometry.Size.{Size}
use Rattle.etagere_base.specs.Rectangles.{IsLarge}
use Rattle.atlas_pages.specs.Allocated.{Places}
use Rattle.atlas_pages.specs.Choosing.{IsRefusedByAll}
use Rattle.atlas_pages.specs.Pages.{PagesState, page_frame}
use Rattle.moves.specs.Pages.Arranging.{Arranges, moved, refused}
use Rattle.moves.proofs.pages.rearrangement.allocate_next.Goals as goal

pub returns-in_ok-push-in-Some : goal.returns-in_ok-push-in-Some
returns-in_ok-push-in-Some c = λ start asked so_far.
    let pages = c.args.done.now.pages in
    let placed = rw c.in-Some.is at c.in_ok-after.ensures.placed in
    let large = rw c.in-Some.is at c.in_ok-after.ensures.large in
    rw c.in_ok-push-in-Some.ensures.items
    (moved c.args.before so_far
    (subst (λ (size : Size). Places pages size c.in-Some.after c.allocate.new.self) c.size.ensures placed)
    (subst (λ (size : Size). IsLarge (page_frame pages.options) size c.in-Some.after.allocation.rectangle) c.size.ensures large)
    c.allocate.ensures.promises)

pub returns-in_ok-push-in-None : goal.returns-in_ok-push-in-None
returns-in_ok-push-in-None c = λ start asked so_far.
    let has_none = rw c.in-None.is at c.in_ok-after.ensures.refused in
    let stays = rw c.in-None.is at c.in_ok-after.ensures.none in
    let before = c.args.before in
    let done = c.args.done.now in
    rw c.in_ok-push-in-None.ensures.items
    (subst (λ (state : PagesState). Arranges start (asked ++ before ∷ []) done.moves.items (done.unplaced.items ++ before ∷ []) state) (sym stays)
    (refused before so_far (subst (λ (size : Size). IsRefusedByAll done.pages size) c.size.ensures has_none)))
