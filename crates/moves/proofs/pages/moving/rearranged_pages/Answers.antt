use Rattle.std.proofs.Common.{◌≡◌, List, ◌++◌, ap, sym, ◌∙◌, subst}
use Rattle.std.proofs.lemmas.Result.{IfOk-weaker}
use Rattle.std.specs.List.{AllByRecursion}
use Rattle.atlas_pages.specs.declared.options.PageOptions.{PageOptions}
use Rattle.atlas_pages.specs.declared.paged_allocation.PagedAllocation.{PagedAllocation}
use Rattle.atlas_pages.specs.Pages.{no_pages}
use Rattle.atlas_pages.specs.Promises.{KeepsPagesPromises}
use Rattle.moves.specs.Atlases.Private.Sides.{HasSides}
use Rattle.moves.proofs.MovedPages.Arranged.{tied-sides}
use Rattle.moves.proofs.MovedPages.Done.{IsDone, arranged-done}
use Rattle.moves.proofs.MovedPages.TiedLists.{tied-listed, tied-permuted}
use Rattle.moves.specs.Pages.Arranging.{Arranges, HasRoom, IsRearranged, moved_from, moved_to}
use Rattle.moves.specs.Pages.Order.{AreTallestFirst}
use Rattle.moves.specs.Pages.Tied.{AreTiedOn}
use Rattle.moves.specs.declared.pages.rearrangement.RearrangedPages.{RearrangedPages}
use Rattle.moves.proofs.pages.moving.rearranged_pages.Goals as goal

pub allocate_each-requires : goal.allocate_each-requires
allocate_each-requires c =
    let old = c.args.pages.now in
    let keeps = c.iter-allocated.ensures.promises in
    let listed = subst (λ (l : List PagedAllocation). AreTiedOn l old) (sym c.iter-allocated.ensures.listed) (tied-listed old keeps) in
    subst (AllByRecursion (λ (paged : PagedAllocation). HasSides paged.allocation)) (sym c.deref.ensures.value)
    (tied-sides old c.in_ok-asked.asked.items keeps
    (tied-permuted c.iter-allocated.result c.in_ok-asked.asked.items old listed c.in_ok-asked.ensures.same))

-- what was arranged
abbrev Arranged : goal.After-drop-asked → RearrangedPages → Type 0
Arranged c done = Arranges c.in-Ok.new c.deref.result.now done.moves.items done.unplaced.items done.pages

-- has all clauses
is-done : (c : goal.After-drop-asked) (done : RearrangedPages) → Arranged c done
    → IsDone c.args.pages.now done.moves.items done.unplaced.items done.pages
is-done c done arranged =
    let asked = c.in_ok-asked.asked.items in
    arranged-done c.args.pages.now c.in-Ok.new done.pages c.iter-allocated.result asked done.unplaced.items done.moves.items
    c.iter-allocated.ensures.promises (c.in-Ok.ensures.ok ∙ ap no_pages c.options-options.ensures) c.in-Ok.ensures.promises
    c.iter-allocated.ensures.listed c.in_ok-asked.ensures.same
    (subst (λ (o : PageOptions). AreTallestFirst o.atlas.vertical_shelves asked) c.options-options.ensures c.in_ok-asked.ensures.ordered)
    (subst (λ (l : List PagedAllocation). Arranges c.in-Ok.new l done.moves.items done.unplaced.items done.pages) c.deref.ensures.value arranged)

pub returns-clause-rearranged : goal.returns-clause-rearranged
returns-clause-rearranged c =
    IfOk-weaker c.allocate_each.result (Arranged c)
    (λ (done : RearrangedPages). IsRearranged c.args.pages.now done.moves.items done.unplaced.items done.pages)
    (λ done arranged. (is-done c done arranged).rearranged) c.allocate_each.ensures

pub returns-clause-each : goal.returns-clause-each
returns-clause-each c =
    IfOk-weaker c.allocate_each.result (Arranged c)
    (λ (done : RearrangedPages). AreTiedOn (moved_from done.moves.items ++ done.unplaced.items) c.args.pages.now)
    (λ done arranged. (is-done c done arranged).each) c.allocate_each.ensures

pub returns-clause-whole : goal.returns-clause-whole
returns-clause-whole c =
    IfOk-weaker c.allocate_each.result (Arranged c) (λ (done : RearrangedPages). AreTiedOn (moved_to done.moves.items) done.pages)
    (λ done arranged. (is-done c done arranged).whole) c.allocate_each.ensures

pub returns-clause-room : goal.returns-clause-room
returns-clause-room c =
    IfOk-weaker c.allocate_each.result (Arranged c) (λ (done : RearrangedPages). AllByRecursion HasRoom done.moves.items)
    (λ done arranged. (is-done c done arranged).room) c.allocate_each.ensures

pub returns-clause-options : goal.returns-clause-options
returns-clause-options c =
    IfOk-weaker c.allocate_each.result (Arranged c) (λ (done : RearrangedPages). done.pages.options ≡ c.args.pages.now.options)
    (λ done arranged. (is-done c done arranged).options) c.allocate_each.ensures

pub returns-clause-promises : goal.returns-clause-promises
returns-clause-promises c =
    IfOk-weaker c.allocate_each.result (Arranged c) (λ (done : RearrangedPages). KeepsPagesPromises done.pages)
    (λ done arranged. (is-done c done arranged).kept) c.allocate_each.ensures
