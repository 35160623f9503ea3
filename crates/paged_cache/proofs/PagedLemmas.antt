-- A cache over pages: the options stay through evictions, and a new key gets a rectangle that is large enough.
use Rattle.std.proofs.Common.{◌≡◌, ℕ, zero, suc, ◌-◌, Option, Some, None, Result, Ok, Err, List, length, take, refl, ◌∙◌, subst}
use Rattle.std.specs.Prelude.{IfOk}
use Rattle.std.specs.Option.{option_map_or}
use Rattle.lru.specs.LruCache.{last_entry}
use Rattle.etagere_base.specs.declared.geometry.Size.{Size}
use Rattle.etagere_base.specs.Rectangles.{IsLarge}
use Rattle.atlas_pages.specs.declared.options.PageOptions.{PageOptions}
use Rattle.atlas_pages.specs.declared.paged_allocation.PagedAllocation.{PagedAllocation}
use Rattle.atlas_pages.specs.Pages.{page_frame}
use Rattle.paged_cache.specs.declared.faults.PlacingFault.{PlacingFault}
use Rattle.paged_cache.specs.declared.keyed.PlacedKey.{PlacedKey}
use Rattle.paged_cache.specs.Held.{paged_returned}
use Rattle.paged_cache.specs.Keyed.{after_dropping, without_last}
use Rattle.paged_cache.specs.Paged.{PagedCacheState, PlacesKey}
use Rattle.paged_cache.proofs.Keeping.{keyed}

options-without_last : (state : PagedCacheState) → (without_last paged_returned state).allocator.options ≡ state.allocator.options
options-without_last state = by_last (last_entry state.entries)
  where
    by_last : (o : Option (ℕ × PagedAllocation))
        → (option_map_or (λ entry. keyed (take (length state.entries - 1) state.entries) state.capacity (paged_returned state.allocator entry.1)) o state).allocator.options
        ≡ state.allocator.options
    by_last None = refl
    by_last (Some e) = refl

options-after_dropping : (state : PagedCacheState) (n : ℕ) → (after_dropping paged_returned state n).allocator.options ≡ state.allocator.options
options-after_dropping state zero = refl
options-after_dropping state (suc n) =
    options-without_last (after_dropping paged_returned state n) ∙ options-after_dropping state n

pub placed-large : (old : PagedCacheState) (key : ℕ) (size : Size) (paged : PagedAllocation) (evicted : List ℕ) (new : PagedCacheState)
    → PlacesKey old key size paged evicted new → IsLarge (page_frame old.allocator.options) size paged.allocation.rectangle
placed-large old key size paged evicted new placed =
    subst (λ (o : PageOptions). IsLarge (page_frame o) size paged.allocation.rectangle)
    (options-after_dropping old (length evicted)) placed.entered.given.large

-- so does one that was placed, where it was
pub placed-ok : (told : Result (PlacedKey PagedAllocation) PlacingFault) (old : PagedCacheState) (key : ℕ) (size : Size) (new : PagedCacheState)
    → IfOk told (λ placed. PlacesKey old key size placed.allocation placed.evicted.items new)
    → IfOk told (λ placed. IsLarge (page_frame old.allocator.options) size placed.allocation.allocation.rectangle)
placed-ok (Ok placed) old key size new is = placed-large old key size placed.allocation placed.evicted.items new is
placed-ok (Err fault) old key size new is = tt
