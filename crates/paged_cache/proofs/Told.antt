-- What an allocation on pages tells of whether there was a place.
use Rattle.std.proofs.Common.{◌≡◌, ℕ, Bool, true, false, cond, Option, Some, None, Result, Ok, Err, inl, inr, ap, sym, ◌∙◌}
use Rattle.std.specs.Prelude.{IfNone, IfOk, IfSome, OnErr, is_some}
use Rattle.std.specs.declared.alloc.AllocError.{AllocError}
use Rattle.etagere_base.specs.declared.geometry.Size.{Size}
use Rattle.etagere_base.specs.Rectangles.{IsLarge}
use Rattle.atlas_pages.specs.declared.paged_allocation.PagedAllocation.{PagedAllocation}
use Rattle.atlas_pages.specs.Allocated.{NeedsMemory, Places}
use Rattle.atlas_pages.specs.Choosing.{IsRefusedByAll, chosen_page, may_open, opened, ready_for}
use Rattle.atlas_pages.specs.Pages.{PagesState, page_frame}
use Rattle.atlas_pages.proofs.Chosen.{chosen-refused}
use Rattle.atlas_pages.proofs.Ready.{page_for-chosen, page_for-opened}
use Rattle.paged_cache.specs.Held.{GivesPaged, has_page}

pages-placed : (old new : PagesState) (size : Size) (paged : PagedAllocation) → Places old size paged new → has_page old size ≡ true
pages-placed old new size paged given = ap is_some given.chosen

pages-refused : (state : PagesState) (size : Size) → IsRefusedByAll state size → has_page state size ≡ false
pages-refused state size refused =
    let none = chosen-refused state.options.choice size state.pages refused.pages in
    let stays : ready_for state size ≡ state =
    ap (λ (o : Option ℕ). cond (is_some o) state (cond (may_open state size) (opened state) state)) none
    ∙ ap (λ (b : Bool). cond b (opened state) state) refused.none_opened in
    ap (λ (s : PagesState). is_some (chosen_page s size)) stays ∙ ap is_some none

pages-needing : (state : PagesState) (size : Size) → NeedsMemory state size → has_page state size ≡ true
pages-needing state size (inl split) = ap is_some (page_for-chosen state size split.number split.chosen)
pages-needing state size (inr page) = ap is_some (page_for-opened state size page.none page.opens)

pub pages-have : (told : Result (Option PagedAllocation) AllocError) (old new : PagesState) (size : Size)
    → IfOk told (λ answer. IfSome answer (λ paged. Places old size paged new)) → IfOk told (λ answer. IfNone answer (IsRefusedByAll old size))
    → IfOk told (λ answer. is_some answer ≡ has_page old size)
pages-have (Ok (Some paged)) old new size placed refused = sym (pages-placed old new size paged placed)
pages-have (Ok None) old new size placed refused = sym (pages-refused old size refused)
pages-have (Err e) old new size placed refused = tt

pub pages-have_had : (told : Result (Option PagedAllocation) AllocError) (old : PagesState) (size : Size) → OnErr told (NeedsMemory old size)
    → OnErr told (has_page old size ≡ true)
pages-have_had (Ok answer) old size needs = tt
pages-have_had (Err e) old size needs = pages-needing old size needs

pub pages-give : (told : Result (Option PagedAllocation) AllocError) (old new : PagesState) (size : Size)
    → IfOk told (λ answer. IfSome answer (λ paged. Places old size paged new))
    → IfOk told (λ answer. IfSome answer (λ paged. IsLarge (page_frame old.options) size paged.allocation.rectangle))
    → IfOk told (λ answer. IfSome answer (λ paged. GivesPaged old size paged new))
pages-give (Ok (Some paged)) old new size placed large = record { places = placed; large = large }
pages-give (Ok None) old new size placed large = tt
pages-give (Err e) old new size placed large = tt
