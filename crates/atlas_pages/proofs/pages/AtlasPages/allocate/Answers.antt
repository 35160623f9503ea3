use Rattle.std.proofs.Common.{◌≡◌, ◌∙◌, None, List, true, false, ap, subst, sym}
use Rattle.etagere_base.specs.Rectangles.{IsLarge}
use Rattle.shelf_model.specs.State.{AtlasState}
use Rattle.atlas_pages.specs.Allocated.{Places}
use Rattle.atlas_pages.specs.Choosing.{IsRefusedByAll, chosen_of, chosen_page, may_open}
use Rattle.atlas_pages.specs.Pages.{PagesState, page_frame}
use Rattle.atlas_pages.specs.Promises.{KeepsPagesPromises}
use Rattle.atlas_pages.specs.Private.Kept.{state_in}
use Rattle.atlas_pages.proofs.Keeping.{each-keeps, large-taken, keeps-allocated, keeps-opened_with}
use Rattle.atlas_pages.proofs.Ready.{opens-few, places-opened, refused_by_all}
use Rattle.atlas_pages.proofs.pages.AtlasPages.allocate.Goals as goal

pub allocate_open-requires-clause-kept : goal.allocate_open-requires-clause-kept
allocate_open-requires-clause-kept c = each-keeps (state_in c.self.inside) c.self.invariant

pub invariant_of-self-in-Some : goal.invariant_of-self-in-Some
invariant_of-self-in-Some c =
    let takes = rw c.in-Some.is at c.in_ok-paged.ensures.placed in
    keeps-allocated (state_in c.self.inside) c.args.size c.in-Some.paged c.allocate_open.new.pages.items c.self.invariant takes.allocates takes.promises

pub returns-in-Some-clause-promises : goal.returns-in-Some-clause-promises
returns-in-Some-clause-promises c = invariant_of-self-in-Some c

pub returns-then-not-may_open-clause-refused : goal.returns-then-not-may_open-clause-refused
returns-then-not-may_open-clause-refused c =
    let state = state_in c.self.inside in
    let stay = rw c.in_default.is at c.in_ok-paged.ensures.stay in
    let none = rw c.in_default.is at c.in_ok-paged.ensures.none in
    let closed : may_open state c.args.size ≡ false =
    ap (λ (l : List AtlasState). may_open (record { options = state.options; pages = l }) c.args.size) (sym stay)
    ∙ sym c.may_open.ensures ∙ c.if-not-may_open.true in
    subst (λ (s : PagesState). IsRefusedByAll s c.args.size) c.self.view_is (refused_by_all state c.args.size none closed)

pub invariant_of-self-3 : goal.invariant_of-self-3
invariant_of-self-3 c =
    let state : PagesState = record { options = c.self.inside.options; pages = c.allocate_open.new.pages.items } in
    let stay = rw c.in_default.is at c.in_ok-paged.ensures.stay in
    let opens : may_open state c.args.size ≡ true = sym c.may_open.ensures ∙ c.if-not-may_open.false in
    let keeps : KeepsPagesPromises state =
    subst (λ (l : List AtlasState). KeepsPagesPromises (record { options = c.self.inside.options; pages = l })) (sym stay) c.self.invariant in
    keeps-opened_with state c.args.size c.in_ok-paged-2.paged c.open_with.new.pages.items keeps (opens-few state c.args.size opens)
    c.in_ok-paged-2.ensures.placed c.in_ok-paged-2.ensures.page c.in_ok-paged-2.ensures.kept

pub returns-clause-promises : goal.returns-clause-promises
returns-clause-promises c = invariant_of-self-3 c

pub returns-clause-placed : goal.returns-clause-placed
returns-clause-placed c =
    let state : PagesState = record { options = c.self.inside.options; pages = c.allocate_open.new.pages.items } in
    let stay = rw c.in_default.is at c.in_ok-paged.ensures.stay in
    let opens : may_open state c.args.size ≡ true = sym c.may_open.ensures ∙ c.if-not-may_open.false in
    let none : chosen_page state c.args.size ≡ None = ap (chosen_of state.options.choice c.args.size) stay ∙ (rw c.in_default.is at c.in_ok-paged.ensures.none) in
    let same : state ≡ c.args.self.now =
    ap (λ (l : List AtlasState). record { options = c.self.inside.options; pages = l }) stay ∙ c.self.view_is in
    subst (λ (s : PagesState). Places s c.args.size c.in_ok-paged-2.paged (record { options = c.self.inside.options; pages = c.open_with.new.pages.items })) same
    (places-opened state c.args.size c.in_ok-paged-2.paged c.open_with.new.pages.items none opens c.in_ok-paged-2.ensures.page c.in_ok-paged-2.ensures.placed)

pub returns-in-Some-clause-large : goal.returns-in-Some-clause-large
returns-in-Some-clause-large c =
    subst (λ (s : PagesState). IsLarge (page_frame s.options) c.args.size c.in-Some.paged.allocation.rectangle) c.self.view_is
    (large-taken (state_in c.self.inside) c.args.size c.in-Some.paged c.allocate_open.new.pages.items c.self.invariant
    (rw c.in-Some.is at c.in_ok-paged.ensures.placed))

pub returns-clause-large : goal.returns-clause-large
returns-clause-large c =
    subst (λ (s : PagesState). IsLarge (page_frame s.options) c.args.size c.in_ok-paged-2.paged.allocation.rectangle) c.self.view_is
    c.in_ok-paged-2.ensures.large
