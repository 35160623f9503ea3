-- Which page gets a size: of the pages that have a place for it the first, or the fullest.
use Rattle.std.specs.Prelude.{◌≡◌, ℕ, ◌-◌, ◌*◌, Bool, ◌&&◌, false, is_some, nat_lt, Option, None, Some, option_map, List, [], ◌∷◌, ◌++◌, length, map, if◌then◌else◌}
use Rattle.std.specs.List.{AllByRecursion}
use Rattle.etagere_base.specs.Least.{first_least}
use Rattle.etagere_base.specs.declared.geometry.Size.{Size}
use Rattle.shelf_model.specs.Choice.{IsRefused, placement_of}
use Rattle.shelf_model.specs.Space.{allocated_space}
use Rattle.shelf_model.specs.State.{AtlasState}
use Rattle.atlas_pages.specs.declared.options.PageChoice.{PageChoice}
use Rattle.atlas_pages.specs.declared.options.PageChoice.TheVariants.{FirstFit, FullestFirst}
use Rattle.atlas_pages.specs.Pages.{PagesState, empty_page}

-- a page has a place for a size
abbrev pub has_place : Size → AtlasState → Bool
has_place size page = is_some (placement_of page size)

-- what is free on a page, in square pixels
abbrev pub free_space : AtlasState → ℕ
free_space page = page.frame.width * page.frame.height - allocated_space page

-- how far behind a page stands, where pages may have a place: all stand alike, or each by what is free on it, which is
-- least on the fullest
abbrev pub order_by : PageChoice → AtlasState → ℕ
order_by FirstFit page = 0
order_by FullestFirst page = free_space page

-- the order of a page for a size; none where it has no place for it
abbrev pub page_order : PageChoice → Size → AtlasState → Option ℕ
page_order choice size page = if has_place size page then Some (order_by choice page) else None

-- of some pages the number of the one that gets a size, the first of least order; none where no page has a place
abbrev pub chosen_of : PageChoice → Size → List AtlasState → Option ℕ
chosen_of choice size pages =
    option_map (λ found. found.number) (first_least (map (page_order choice size) pages))

-- the number of the open page that gets a size
abbrev pub chosen_page : PagesState → Size → Option ℕ
chosen_page state size = chosen_of state.options.choice size state.pages

-- a page may be opened for a size: there are fewer than there may be, and an empty one has a place
abbrev pub may_open : PagesState → Size → Bool
may_open state size =
    nat_lt (length state.pages) state.options.most_pages && has_place size (empty_page state.options)

-- with one page more, which is empty
abbrev pub opened : PagesState → PagesState
opened state = record { options = state.options; pages = state.pages ++ empty_page state.options ∷ [] }

-- with one page more where no open one has a place for a size and one may be opened for it
abbrev pub ready_for : PagesState → Size → PagesState
ready_for state size =
    if is_some (chosen_page state size) then state
    else (if may_open state size then opened state else state)

-- the number of the page that gets a size; none where no page has a place and none may be opened
abbrev pub page_for : PagesState → Size → Option ℕ
page_for state size = chosen_page (ready_for state size) size

-- no page has a place for a size, and none may be opened for it
pub record IsRefusedByAll (state : PagesState) (size : Size) : Type 0 where
  pub pages : AllByRecursion (λ (page : AtlasState). IsRefused page size) state.pages
  pub none_opened : may_open state size ≡ false
