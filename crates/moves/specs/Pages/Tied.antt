-- When places are all that is allocated on pages.
use Rattle.std.specs.Prelude.{◌≡◌, ℕ, Some, List, if◌then◌else◌}
use Rattle.std.specs.List.{AllByRecursion}
use Rattle.etagere_base.specs.Lists.{total}
use Rattle.atlas_pages.specs.declared.paged_allocation.PagedAllocation.{PagedAllocation}
use Rattle.atlas_pages.specs.Allocated.{is_allocated_on, rectangle_on}
use Rattle.atlas_pages.specs.Pages.{PagesState}
use Rattle.atlas_pages.specs.Runs.Told.{are}

-- how often a page and an id stand among places
abbrev pub times_on : ℕ → ℕ → List PagedAllocation → ℕ
times_on page id allocations =
    total (λ (paged : PagedAllocation). if are paged.page paged.allocation.id page id then 1 else 0) allocations

-- the rectangle of a place is what is allocated there
abbrev pub IsFoundOn : PagesState → PagedAllocation → Type 0
IsFoundOn state paged = rectangle_on state paged.page paged.allocation.id ≡ Some paged.allocation.rectangle

-- each of some places is found on pages, and each page and id under which something is allocated stands there once, and no
-- other
pub record AreTiedOn (allocations : List PagedAllocation) (state : PagesState) : Type 0 where
  pub found : AllByRecursion (IsFoundOn state) allocations
  pub counted : (page id : ℕ) → times_on page id allocations ≡ (if is_allocated_on state page id then 1 else 0)
