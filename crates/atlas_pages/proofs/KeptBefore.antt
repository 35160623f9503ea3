-- The page that a size went to, before and after: it is one of those that were open, or was opened for it.
use Rattle.std.proofs.Common.{◌≡◌, ◌⊎◌, ℕ, zero, suc, Bool, true, false, cond, ◌==◌, Option, Some, List, [], ◌∷◌, ◌++◌, inl, inr, refl, ap, sym, ◌∙◌, subst, ⊎_elim}
use Rattle.std.specs.Prelude.{None, is_some, option_and_then, option_map, slice_get, slice_set}
use Rattle.std.specs.List.{AllByRecursion, find}
use Rattle.etagere_base.specs.declared.frames.Frame.{Frame}
use Rattle.etagere_base.specs.declared.geometry.Rectangle.{Rectangle}
use Rattle.etagere_base.specs.declared.geometry.Size.{Size}
use Rattle.etagere_base.specs.declared.ids.Allocation.{Allocation}
use Rattle.etagere_base.specs.Rectangles.{IsInside}
use Rattle.etagere_base.proofs.EachLemmas.{Each-get, Each-middle}
use Rattle.etagere_base.proofs.FirstFound.{find-first}
use Rattle.shelf_model.proofs.Callers.{allocates-adds, promises-cleared}
use Rattle.shelf_model.specs.Atlas.{KeepsPromises}
use Rattle.shelf_model.specs.Fresh.{fresh}
use Rattle.shelf_model.specs.Places.{allocations, rectangle_of}
use Rattle.shelf_model.specs.State.{AtlasState}
use Rattle.atlas_pages.specs.declared.options.PageOptions.{PageOptions}
use Rattle.atlas_pages.specs.declared.paged_allocation.PagedAllocation.{PagedAllocation}
use Rattle.atlas_pages.specs.Allocated.{AllocatesOn, Places, rectangle_on}
use Rattle.atlas_pages.specs.Choosing.{chosen_page, may_open, opened, ready_for}
use Rattle.atlas_pages.specs.Pages.{PagesState, empty_page, page_frame}
use Rattle.atlas_pages.specs.Promises.{IsPage, KeepsPagesPromises}

-- a page written among others is found under its number
pub get-set : (pages : List AtlasState) (n : ℕ) (before after : AtlasState) → slice_get pages n ≡ Some before
    → slice_get (slice_set pages n after) n ≡ Some after
get-set [] n before after at = absurd (cc)
get-set (x ∷ pages) zero before after at = refl
get-set (x ∷ pages) (suc n) before after at = get-set pages n before after at

-- a page among those with one more is one of them or that one
pub get-opened : (pages : List AtlasState) (last : AtlasState) (n : ℕ) (page : AtlasState) → slice_get (pages ++ last ∷ []) n ≡ Some page
    → slice_get pages n ≡ Some page ⊎ last ≡ page
get-opened [] last zero page at = inr (cc)
get-opened [] last (suc n) page at = absurd (cc)
get-opened (x ∷ pages) last zero page at = inl at
get-opened (x ∷ pages) last (suc n) page at = get-opened pages last n page at

-- pages that are ready for a size are those that were, or one is opened
pub ready-or_opened : (state : PagesState) (size : Size) → ready_for state size ≡ state ⊎ ready_for state size ≡ opened state
ready-or_opened state size = by_tests (is_some (chosen_page state size)) (may_open state size)
  where
    by_tests : (a b : Bool) → cond a state (cond b (opened state) state) ≡ state ⊎ cond a state (cond b (opened state) state) ≡ opened state
    by_tests true b = inl refl
    by_tests false true = inr refl
    by_tests false false = inl refl

-- a page on which a size was allocated kept the promises before, where all pages do before and after
pub kept-before : (old new : PagesState) (size : Size) (paged : PagedAllocation) → KeepsPagesPromises old → KeepsPagesPromises new
    → new.options ≡ old.options → (allocates : AllocatesOn (ready_for old size).pages size paged new.pages)
    → KeepsPromises allocates.before
kept-before old new size paged was is same allocates =
    ⊎_elim (λ here. open_before (ap (λ (s : PagesState). slice_get s.pages paged.page) (sym here) ∙ allocates.is_open))
    (λ opens. ⊎_elim open_before new_before
    (get-opened old.pages (empty_page old.options) paged.page allocates.before
    (ap (λ (s : PagesState). slice_get s.pages paged.page) (sym opens) ∙ allocates.is_open)))
    (ready-or_opened old size)
  where
    open_before : slice_get old.pages paged.page ≡ Some allocates.before → KeepsPromises allocates.before
    open_before at = (Each-get (IsPage old.options) old.pages paged.page allocates.before at was.pages).promises

    new_before : empty_page old.options ≡ allocates.before → KeepsPromises allocates.before
    new_before empty =
        let at : slice_get new.pages paged.page ≡ Some allocates.after =
        ap (λ (l : List AtlasState). slice_get l paged.page) allocates.others
        ∙ get-set (ready_for old size).pages paged.page allocates.before allocates.after allocates.is_open in
        let after = Each-get (IsPage new.options) new.pages paged.page allocates.after at is.pages in
        subst KeepsPromises
        (ap (λ (o : PageOptions). fresh (page_frame o)) same ∙ empty)
        (subst (λ (f : Frame). KeepsPromises (fresh f)) after.frame (promises-cleared allocates.after after.promises.valid))

-- what was given lies inside its page
pub placed-inside : (old new : PagesState) (size : Size) (paged : PagedAllocation) → KeepsPagesPromises old → KeepsPagesPromises new
    → Places old size paged new → IsInside (page_frame new.options) paged.allocation.rectangle
placed-inside old new size paged was is places =
    let there = places.allocates in
    let before = kept-before old new size paged was is places.options there in
    let adds = allocates-adds there.before size paged.allocation there.after before.valid there.allocates in
    let at : slice_get new.pages paged.page ≡ Some there.after =
    ap (λ (l : List AtlasState). slice_get l paged.page) there.others
    ∙ get-set (ready_for old size).pages paged.page there.before there.after there.is_open in
    let after = Each-get (IsPage new.options) new.pages paged.page there.after at is.pages in
    subst (λ (frame : Frame). IsInside frame paged.allocation.rectangle) after.frame
    (Each-middle (λ (a : Allocation). IsInside there.after.frame a.rectangle) adds.front paged.allocation adds.back
    (subst (AllByRecursion (λ (a : Allocation). IsInside there.after.frame a.rectangle)) adds.after after.promises.inside))

-- so does what is allocated under an id
pub allocated-inside : (state : PagesState) (page id : ℕ) (rectangle : Rectangle) → KeepsPagesPromises state
    → rectangle_on state page id ≡ Some rectangle → IsInside (page_frame state.options) rectangle
allocated-inside state page id rectangle keeps is = by_page (slice_get state.pages page) refl is
  where
    on_page : (atlas : AtlasState) → IsPage state.options atlas → (found : Option Allocation)
        → find (λ (a : Allocation). a.id == id) (allocations atlas) ≡ found
        → option_map (λ (a : Allocation). a.rectangle) found ≡ Some rectangle → IsInside (page_frame state.options) rectangle
    on_page atlas is None at none = absurd (cc)
    on_page atlas is (Some allocation) at same =
        let first = find-first (λ (a : Allocation). a.id == id) (allocations atlas) allocation at in
        let rectangle_is : allocation.rectangle ≡ rectangle = cc in
        subst (IsInside (page_frame state.options)) rectangle_is
        (subst (λ (frame : Frame). IsInside frame allocation.rectangle) is.frame
        (Each-middle (λ (a : Allocation). IsInside atlas.frame a.rectangle) first.front allocation first.back
        (subst (AllByRecursion (λ (a : Allocation). IsInside atlas.frame a.rectangle)) first.whole is.promises.inside)))

    by_page : (o : Option AtlasState) → slice_get state.pages page ≡ o
        → option_and_then (λ (atlas : AtlasState). rectangle_of atlas id) o ≡ Some rectangle → IsInside (page_frame state.options) rectangle
    by_page None at none = absurd (cc)
    by_page (Some atlas) at some =
        on_page atlas (Each-get (IsPage state.options) state.pages page atlas at keeps.pages)
        (find (λ (a : Allocation). a.id == id) (allocations atlas)) refl some
