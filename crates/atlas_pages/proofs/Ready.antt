-- Pages that are ready for a size: the page that is chosen among the open ones, or the one that is opened.
use Rattle.std.proofs.Common.{◌≡◌, ℕ, ◌<◌, Bool, true, false, cond, Option, None, Some, List, [], ◌∷◌, ◌++◌, length, refl, ap, sym, ◌∙◌, subst, arith}
use Rattle.std.specs.Prelude.{is_some, option_map, nat_lt, ◌&&◌}
use Rattle.std.proofs.lemmas.Bool.Decides.{nat_tests}
use Rattle.etagere_base.specs.Least.{Found}
use Rattle.etagere_base.specs.declared.geometry.Size.{Size}
use Rattle.shelf_model.specs.State.{AtlasState}
use Rattle.atlas_pages.specs.declared.paged_allocation.PagedAllocation.{PagedAllocation}
use Rattle.atlas_pages.specs.Allocated.{AllocatesOn, Places}
use Rattle.atlas_pages.specs.Choosing.{IsRefusedByAll, chosen_page, has_place, may_open, opened, page_for, ready_for}
use Rattle.atlas_pages.specs.Pages.{PagesState, empty_page}
use Rattle.atlas_pages.proofs.Chosen.{chosen-last, refused-chosen}

-- where an open page is chosen, none is opened
pub ready-chosen : (state : PagesState) (size : Size) (n : ℕ) → chosen_page state size ≡ Some n → ready_for state size ≡ state
ready-chosen state size n chosen =
    ap (λ (o : Option ℕ). cond (is_some o) state (cond (may_open state size) (opened state) state)) chosen

-- where none is chosen and one may be opened, it is
pub ready-opened : (state : PagesState) (size : Size) → chosen_page state size ≡ None → may_open state size ≡ true
    → ready_for state size ≡ opened state
ready-opened state size none opens =
    ap (λ (o : Option ℕ). cond (is_some o) state (cond (may_open state size) (opened state) state)) none
    ∙ ap (λ (b : Bool). cond b (opened state) state) opens

-- an empty page has a place where one may be opened, and there are fewer than there may be
pub opens-fits : (state : PagesState) (size : Size) → may_open state size ≡ true → has_place size (empty_page state.options) ≡ true
opens-fits state size opens = second (nat_lt (length state.pages) state.options.most_pages) (has_place size (empty_page state.options)) opens
  where
    second : (a b : Bool) → (a && b) ≡ true → b ≡ true
    second true b h = h
    second false b h = absurd (cc)

pub opens-few : (state : PagesState) (size : Size) → may_open state size ≡ true → length state.pages < state.options.most_pages
opens-few state size opens = few (has_place size (empty_page state.options)) opens
  where
    few : (b : Bool) → (nat_lt (length state.pages) state.options.most_pages && b) ≡ true → length state.pages < state.options.most_pages
    few b h = grind (arith, nat_tests)

-- the page that is opened is chosen
pub page_for-opened : (state : PagesState) (size : Size) → chosen_page state size ≡ None → may_open state size ≡ true
    → page_for state size ≡ Some (length state.pages)
page_for-opened state size none opens =
    ap (λ (s : PagesState). chosen_page s size) (ready-opened state size none opens)
    ∙ ap (option_map (λ (found : Found). found.number))
    (chosen-last state.options.choice size state.pages (empty_page state.options)
    (refused-chosen state.options.choice size state.pages none) (opens-fits state size opens))

-- the open page that is chosen gets the size
pub page_for-chosen : (state : PagesState) (size : Size) (n : ℕ) → chosen_page state size ≡ Some n → page_for state size ≡ Some n
page_for-chosen state size n chosen = ap (λ (s : PagesState). chosen_page s size) (ready-chosen state size n chosen) ∙ chosen

-- so did one that took a place on a page that was opened
pub places-opened : (state : PagesState) (size : Size) (paged : PagedAllocation) (pages : List AtlasState)
    → chosen_page state size ≡ None → may_open state size ≡ true → paged.page ≡ length state.pages
    → AllocatesOn (state.pages ++ empty_page state.options ∷ []) size paged pages
    → Places state size paged (record { options = state.options; pages = pages })
places-opened state size paged pages none opens number allocates =
    record {
      chosen = page_for-opened state size none opens ∙ ap Some (sym number);
      allocates = subst (λ (s : PagesState). AllocatesOn s.pages size paged pages) (sym (ready-opened state size none opens)) allocates;
      options = refl;
    }

-- where no open page is chosen and none may be opened, all refuse
pub refused_by_all : (state : PagesState) (size : Size) → chosen_page state size ≡ None → may_open state size ≡ false → IsRefusedByAll state size
refused_by_all state size none opens =
    record { pages = refused-chosen state.options.choice size state.pages none; none_opened = opens }
