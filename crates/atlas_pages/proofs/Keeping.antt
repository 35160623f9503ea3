-- Pages keep their promises: new ones do, and so does what becomes of those that do.
use Rattle.std.proofs.Common.{◌≡◌, ℕ, ◌^◌, ◌<◌, ◌≤◌, Some, List, [], ◌∷◌, ◌++◌, length, ap, sym, ◌∙◌, subst, arith, Result, Ok, Err, OnOk, OnErr}
use Rattle.std.proofs.lemmas.List.{length-append, length-map, length-set}
use Rattle.std.specs.List.{AllByRecursion}
use Rattle.std.specs.Prelude.{IfSome, slice_get}
use Rattle.etagere_base.specs.declared.frames.Frame.{Frame}
use Rattle.etagere_base.specs.declared.geometry.Size.{Size}
use Rattle.etagere_base.specs.Rectangles.{IsLarge}
use Rattle.etagere_base.specs.Frames.{longest_side, options_fault}
use Rattle.etagere_base.proofs.EachLemmas.{Each-append, Each-get, Each-weaken}
use Rattle.etagere_base.proofs.ReplacedLists.{slice_get-append}
use Rattle.shelf_model.specs.Atlas.{Allocates, KeepsPromises}
use Rattle.shelf_model.specs.Fresh.{fresh}
use Rattle.shelf_model.specs.Returning.{returned}
use Rattle.shelf_model.specs.State.{AtlasState}
use Rattle.shelf_model.proofs.Callers.{promises-cleared, promises-returned}
use Rattle.atlas_pages.specs.declared.options.PageOptions.{PageOptions}
use Rattle.atlas_pages.specs.declared.paged_allocation.PagedAllocation.{PagedAllocation}
use Rattle.atlas_pages.specs.Allocated.{AllocatesOn, at_page, cleared, returned_on, shrunk, with_most}
use Rattle.atlas_pages.specs.Pages.{ArePageOptions, PagesState, empty_page, no_pages, page_frame}
use Rattle.atlas_pages.specs.Promises.{IsPage, KeepsPagesPromises}
use Rattle.atlas_pages.specs.Private.Taking.{TakesRoom}
use Rattle.atlas_pages.proofs.Accepted.{or_no_pages-more}
use Rattle.atlas_pages.proofs.PageLists.{Each-at_page, Each-map, Each-set, length-at_page, slice_set-last}
use Rattle.atlas_pages.proofs.Used.{Each-used_pages, length-used_pages}

-- a page on which a size was allocated
pub page-allocated : (options : PageOptions) (size : Size) (paged : PagedAllocation) (before after : AtlasState) → IsPage options before
    → Allocates before size paged.allocation after → KeepsPromises after → IsPage options after
page-allocated options size paged before after page allocates promises =
    record { promises = promises; frame = ap (λ (s : AtlasState). s.frame) allocates.after ∙ page.frame }

-- pages of which one was allocated on
pub keeps-allocated : (state : PagesState) (size : Size) (paged : PagedAllocation) (pages : List AtlasState) → KeepsPagesPromises state
    → (allocates : AllocatesOn state.pages size paged pages) → KeepsPromises allocates.after
    → KeepsPagesPromises (record { options = state.options; pages = pages })
keeps-allocated state size paged pages keeps allocates promises =
    let few = keeps.few in
    record {
      options = keeps.options;
      most = keeps.most;
      few = omega (arith, few, ap length allocates.others, length-set state.pages paged.page allocates.after);
      pages = subst (AllByRecursion (IsPage state.options)) (sym allocates.others)
          (Each-set (IsPage state.options) state.pages paged.page allocates.after keeps.pages
          (page-allocated state.options size paged allocates.before allocates.after
          (Each-get (IsPage state.options) state.pages paged.page allocates.before allocates.is_open keeps.pages) allocates.allocates promises));
    }

-- what is allocated is given back
pub keeps-returned : (state : PagesState) (page id : ℕ) → KeepsPagesPromises state → KeepsPagesPromises (returned_on state page id)
keeps-returned state page id keeps =
    let few = keeps.few in
    record {
      options = keeps.options;
      most = keeps.most;
      few = omega (arith, few, length-at_page (λ atlas. returned atlas id) state.pages page);
      pages = Each-at_page (IsPage state.options) (λ atlas. returned atlas id) state.pages page
          (λ atlas is. record { promises = promises-returned atlas id is.promises.valid; frame = is.frame }) keeps.pages;
    }

-- all pages are emptied
pub keeps-cleared : (state : PagesState) → KeepsPagesPromises state → KeepsPagesPromises (cleared state)
keeps-cleared state keeps =
    let few = keeps.few in
    let emptied : AtlasState → AtlasState = λ page. fresh page.frame in
    record {
      options = keeps.options;
      most = keeps.most;
      few = omega (arith, few, length-map state.pages emptied);
      pages = Each-map (IsPage state.options) (IsPage state.options) emptied state.pages
          (λ atlas is. record { promises = promises-cleared atlas is.promises.valid; frame = is.frame }) keeps.pages;
    }

-- there may be more pages
pub keeps-most : (state : PagesState) (most : ℕ) → KeepsPagesPromises state → state.options.most_pages ≤ most → most < 2 ^ 32
    → KeepsPagesPromises (with_most state most)
keeps-most state most keeps more short =
    let few = keeps.few in
    record {
      options = or_no_pages-more state.options.most_pages most
          (options_fault longest_side state.options.size state.options.atlas) more keeps.options;
      most = short;
      few = omega (arith, few, more);
      pages = Each-weaken (IsPage state.options) (IsPage (record state.options { most_pages = most })) state.pages
          (λ atlas is. record { promises = is.promises; frame = is.frame }) keeps.pages;
    }

-- empty pages at the end go
pub keeps-shrunk : (state : PagesState) → KeepsPagesPromises state → KeepsPagesPromises (shrunk state)
keeps-shrunk state keeps =
    let few = keeps.few in
    record {
      options = keeps.options;
      most = keeps.most;
      few = omega (arith, few, length-used_pages state.pages);
      pages = Each-used_pages (IsPage state.options) state.pages keeps.pages;
    }

-- each page keeps the promises of an atlas
pub each-keeps : (state : PagesState) → KeepsPagesPromises state → AllByRecursion KeepsPromises state.pages
each-keeps state keeps = Each-weaken (IsPage state.options) KeepsPromises state.pages (λ page is. is.promises) keeps.pages

-- pages of which one was opened and allocated on
pub keeps-opened_with : (state : PagesState) (size : Size) (paged : PagedAllocation) (pages : List AtlasState) → KeepsPagesPromises state
    → length state.pages < state.options.most_pages
    → (allocates : AllocatesOn (state.pages ++ empty_page state.options ∷ []) size paged pages) → paged.page ≡ length state.pages
    → IfSome (slice_get pages paged.page) KeepsPromises
    → KeepsPagesPromises (record { options = state.options; pages = pages })
keeps-opened_with state size paged pages keeps fewer allocates number promises =
    let is : pages ≡ state.pages ++ allocates.after ∷ [] =
    allocates.others ∙ slice_set-last state.pages (empty_page state.options) allocates.after paged.page number in
    let last : slice_get pages paged.page ≡ Some allocates.after =
    ap (λ (l : List AtlasState). slice_get l paged.page) is ∙ slice_get-append state.pages allocates.after [] paged.page (sym number) in
    let before : Some (empty_page state.options) ≡ Some allocates.before =
    sym (slice_get-append state.pages (empty_page state.options) [] paged.page (sym number)) ∙ allocates.is_open in
    let was : empty_page state.options ≡ allocates.before = cc in
    let after : KeepsPromises allocates.after = rw last at promises in
    record {
      options = keeps.options;
      most = keeps.most;
      few = omega (arith, fewer, ap length is, length-append state.pages (allocates.after ∷ []));
      pages = subst (AllByRecursion (IsPage state.options)) (sym is)
          (Each-append (IsPage state.options) state.pages (allocates.after ∷ []) keeps.pages
          (record { promises = after; frame = ap (λ (s : AtlasState). s.frame) allocates.allocates.after ∙ ap (λ (s : AtlasState). s.frame) (sym was) }, tt));
    }

-- new pages
pub keeps-new : (options : PageOptions) → ArePageOptions options → options.most_pages < 2 ^ 32 → KeepsPagesPromises (no_pages options)
keeps-new options accepted short = record { options = accepted; most = short; few = omega arith; pages = tt }

-- what a return leaves, whatever it answers
pub keeps-answered : {A B : Type 0} (answer : Result A B) (state : PagesState) (page id : ℕ) (pages : List AtlasState) → KeepsPagesPromises state
    → OnOk answer (pages ≡ at_page page (λ atlas. returned atlas id) state.pages) → OnErr answer (pages ≡ state.pages)
    → KeepsPagesPromises (record { options = state.options; pages = pages })
keeps-answered (Ok a) state page id pages keeps ok err = rw ok (keeps-returned state page id keeps)
keeps-answered (Err b) state page id pages keeps ok err = rw err keeps

-- what was given is large enough for a page
pub large-taken : (state : PagesState) (size : Size) (paged : PagedAllocation) (pages : List AtlasState) → KeepsPagesPromises state
    → TakesRoom state.options.choice state.pages size paged pages → IsLarge (page_frame state.options) size paged.allocation.rectangle
large-taken state size paged pages keeps takes =
    let page = Each-get (IsPage state.options) state.pages paged.page takes.allocates.before takes.allocates.is_open keeps.pages in
    subst (λ (frame : Frame). IsLarge frame size paged.allocation.rectangle) page.frame takes.large
