-- The model of a cache over several pages, as callers see it, and what becomes of it.
use Rattle.std.specs.Prelude.{◌≡◌, ℕ, false, List}
use Rattle.etagere_base.specs.declared.geometry.Size.{Size}
use Rattle.atlas_pages.specs.declared.options.PageOptions.{PageOptions}
use Rattle.atlas_pages.specs.declared.paged_allocation.PagedAllocation.{PagedAllocation}
use Rattle.atlas_pages.specs.Allocated.{cleared}
use Rattle.atlas_pages.specs.Pages.{PagesState, no_pages}
use Rattle.atlas_pages.specs.Promises.{KeepsPagesPromises}
use Rattle.paged_cache.specs.declared.faults.PlacingFault.{PlacingFault}
use Rattle.paged_cache.specs.Held.{AreAllPaged, GivesPaged, fits_page, has_page, paged_returned}
use Rattle.paged_cache.specs.Keyed as keyed

-- a cache: keys with their allocations, the most recently used first; how many there may be; and the pages
abbrev pub PagedCacheState : Type 0
PagedCacheState = keyed.KeyedState PagesState PagedAllocation

-- a new one: no page is open
abbrev pub empty_cache : PageOptions → ℕ → PagedCacheState
empty_cache options capacity = keyed.no_keys (no_pages options) capacity

-- without its keys: each open page is empty, and stays open
abbrev pub emptied_cache : PagedCacheState → PagedCacheState
emptied_cache state = keyed.no_keys (cleared state.allocator) state.capacity

-- without a key, whose allocation is given back
abbrev pub without_key : PagedCacheState → ℕ → PagedCacheState
without_key state key = keyed.without_key paged_returned state key

-- the size is too large for an empty page
abbrev pub IsTooLarge : PagedCacheState → Size → Type 0
IsTooLarge state size = fits_page state.allocator size ≡ false

-- a new key was placed: just the evictions that its size needs went, the least recently used first, and then it entered
abbrev pub PlacesKey : PagedCacheState → ℕ → Size → PagedAllocation → List ℕ → PagedCacheState → Type 0
PlacesKey old key size paged evicted new =
    keyed.Places paged_returned has_page GivesPaged old key size paged evicted new

-- what a fault of a new key left: all, or what memory running out did
abbrev pub IsLeft : PagedCacheState → Size → PlacingFault → PagedCacheState → Type 0
IsLeft old size fault new = keyed.IsLeft paged_returned has_page GivesPaged old size fault new

-- the pages keep their promises, by which what is allocated lies inside and apart; there are at most as many keys as
-- there may be, none stands twice, and theirs are all allocations
abbrev pub KeepsPagedPromises : PagedCacheState → Type 0
KeepsPagedPromises state = keyed.IsKeyed KeepsPagesPromises AreAllPaged state
