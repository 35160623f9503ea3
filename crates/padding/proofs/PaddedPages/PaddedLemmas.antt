-- Pages with a padding keep their promises where the pages do, and what is given has its size.
use Rattle.std.proofs.Common.{◌≡◌, ℕ, ◌+◌, Bool, true, false, Some, List, [], ◌∷◌, ◌==◌, refl, ap, sym, subst, arith}
use Rattle.std.specs.Prelude.{None, is_some, nat_lt, ◌&&◌, length}
use Rattle.std.specs.List.{AllByRecursion, flat_map, range_with_len}
use Rattle.etagere_base.specs.declared.frames.Frame.{Frame}
use Rattle.etagere_base.specs.declared.geometry.Rectangle.{Rectangle}
use Rattle.etagere_base.specs.declared.geometry.Size.{Size}
use Rattle.etagere_base.specs.declared.ids.Allocation.{Allocation}
use Rattle.etagere_base.specs.Rectangles.{IsInside, IsLarge}
use Rattle.etagere_base.specs.Frames.{longest_side}
use Rattle.etagere_base.proofs.AcceptedFrames.{accepted}
use Rattle.etagere_base.proofs.EachLemmas.{Each-all, Each-append, Each-filter, Each-weaken}
use Rattle.padding.specs.declared.sides.Padding.{Padding}
use Rattle.padding.specs.Padding.{HasSize, IsNear, padded, padding_refusal, trimmed}
use Rattle.padding.proofs.Refused.{positive-sides, refuses}
use Rattle.padding.proofs.Trimmed.{are-padded, makes-room, near-inside, taken-back}
use Rattle.shelf_model.specs.declared.faults.Refusal.{Refusal}
use Rattle.shelf_model.specs.Choice.{IsRefused, placement_of}
use Rattle.shelf_model.specs.Listing.{allocations_at, listed}
use Rattle.shelf_model.specs.Places.{allocations, record_number}
use Rattle.shelf_model.specs.State.{AtlasState}
use Rattle.atlas_pages.specs.declared.paged_allocation.PagedAllocation.{PagedAllocation}
use Rattle.atlas_pages.specs.Choosing.{IsRefusedByAll}
use Rattle.atlas_pages.specs.Listing.{allocations_from, listed_allocations, on_page}
use Rattle.padding.specs.Pages.Padded.{IsPaddedPage, KeepsPadding, PlacesPadded, trimmed_paged}
use Rattle.atlas_pages.specs.Allocated.{Places, rectangle_on}
use Rattle.atlas_pages.specs.Pages.{PagesState, empty_page, page_frame}
use Rattle.atlas_pages.specs.Promises.{IsPage, KeepsPagesPromises}
use Rattle.atlas_pages.proofs.Accepted.{atlas-accepted}
use Rattle.atlas_pages.proofs.KeptBefore.{allocated-inside, placed-inside}

-- what pages keep, they keep with a padding
pub keeps-padding : (padding : Padding) (state : PagesState) → KeepsPagesPromises state
    → KeepsPadding (record { padding = padding; pages = state })
keeps-padding padding state keeps =
    record {
      pages = keeps;
      padded = Each-weaken (IsPage state.options) (IsPaddedPage padding) state.pages
          (λ page is. are-padded padding page.frame (allocations page) is.promises.inside is.promises.apart) keeps.pages;
    }

-- what lies inside a page of accepted options is near
page-near : (state : PagesState) (rectangle : Rectangle) → KeepsPagesPromises state
    → IsInside (page_frame state.options) rectangle → IsNear rectangle
page-near state rectangle keeps inside =
    let frame = accepted longest_side state.options.size state.options.atlas (atlas-accepted state.options keeps.options) in
    near-inside (page_frame state.options) rectangle frame.width.1 frame.height.1 inside

-- so what is given is near, and what is found
pub given-near : (old new : PagesState) (size : Size) (paged : PagedAllocation) → KeepsPagesPromises old → KeepsPagesPromises new
    → Places old size paged new → IsNear paged.allocation.rectangle
given-near old new size paged was is places =
    page-near new paged.allocation.rectangle is (placed-inside old new size paged was is places)

pub found-near : (state : PagesState) (page id : ℕ) (rectangle : Rectangle) → KeepsPagesPromises state
    → Some rectangle ≡ rectangle_on state page id → IsNear rectangle
found-near state page id rectangle keeps is =
    page-near state rectangle keeps (allocated-inside state page id rectangle keeps (sym is))

-- what holds of each allocation, holds of each that is listed
each-listed : (P : Allocation → Type 0) (page : AtlasState) → AllByRecursion P (allocations page) → AllByRecursion P (listed page)
each-listed P page each = by_numbers (range_with_len 0 page.peak_items)
  where
    by_numbers : (numbers : List ℕ) → AllByRecursion P (flat_map (allocations_at page) numbers)
    by_numbers [] = tt
    by_numbers (n ∷ numbers) =
        Each-append P (allocations_at page n) (flat_map (allocations_at page) numbers)
        (Each-filter P (λ (a : Allocation). record_number a.id == n) (allocations page) each) (by_numbers numbers)

-- so is everything that is listed
pub listed-near : (state : PagesState) → KeepsPagesPromises state
    → AllByRecursion (λ (paged : PagedAllocation). IsNear paged.allocation.rectangle) (listed_allocations state)
listed-near state keeps = from 0 state.pages keeps.pages
  where
    numbered : (number : ℕ) (given : List Allocation) → AllByRecursion (λ (a : Allocation). IsNear a.rectangle) given
        → AllByRecursion (λ (paged : PagedAllocation). IsNear paged.allocation.rectangle) (on_page number given)
    numbered number [] near = tt
    numbered number (a ∷ given) near = (near.0, numbered number given near.1)

    near_on : (page : AtlasState) → IsPage state.options page → AllByRecursion (λ (a : Allocation). IsNear a.rectangle) (listed page)
    near_on page is =
        each-listed (λ (a : Allocation). IsNear a.rectangle) page
        (Each-weaken (λ (a : Allocation). IsInside page.frame a.rectangle) (λ (a : Allocation). IsNear a.rectangle) (allocations page)
        (λ a inside. page-near state a.rectangle keeps (subst (λ (frame : Frame). IsInside frame a.rectangle) is.frame inside))
        is.promises.inside)

    from : (number : ℕ) (pages : List AtlasState) → AllByRecursion (IsPage state.options) pages
        → AllByRecursion (λ (paged : PagedAllocation). IsNear paged.allocation.rectangle) (allocations_from number pages)
    from number [] is = tt
    from number (page ∷ pages) is =
        Each-append (λ (paged : PagedAllocation). IsNear paged.allocation.rectangle) (on_page number (listed page)) (allocations_from (number + 1) pages)
        (numbered number (listed page) (near_on page is.0)) (from (number + 1) pages is.1)

-- with its padding a place that was trimmed is what the pages gave
pub places-padded : (old new : PagesState) (padding : Padding) (size : Size) (paged : PagedAllocation)
    → Places old (padded padding size) paged new
    → PlacesPadded (record { padding = padding; pages = old }) size (trimmed_paged padding paged) (record { padding = padding; pages = new })
places-padded old new padding size paged places =
    record {
      places = rw (taken-back padding paged.allocation.rectangle) places;
      padding = refl;
    }

-- and it has the size that was asked for
pub has-size : (state : PagesState) (padding : Padding) (size : Size) (rectangle : Rectangle) → KeepsPagesPromises state
    → padding_refusal padding size ≡ None → IsLarge (page_frame state.options) (padded padding size) rectangle
    → HasSize size (trimmed padding rectangle)
has-size state padding size rectangle keeps none large =
    let frame = accepted longest_side state.options.size state.options.atlas (atlas-accepted state.options keeps.options) in
    let positive = positive-sides padding size none in
    makes-room padding (page_frame state.options) size rectangle (omega (arith, frame.alignment_width)) (omega (arith, frame.alignment_height)) large positive.0 positive.1

-- no page has a place for what padding refuses, and none is opened
pub refused-all : (state : PagesState) (padding : Padding) (size : Size) (reason : Refusal) → padding_refusal padding size ≡ Some reason
    → IsRefusedByAll state (padded padding size)
refused-all state padding size reason is =
    record {
      pages = Each-all (λ (page : AtlasState). IsRefused page (padded padding size)) (λ page. (refuses padding size reason page is).1) state.pages;
      none_opened = closed (nat_lt (length state.pages) state.options.most_pages) ((refuses padding size reason (empty_page state.options) is).1);
    }
  where
    closed : (b : Bool) → placement_of (empty_page state.options) (padded padding size) ≡ None
        → (b && is_some (placement_of (empty_page state.options) (padded padding size))) ≡ false
    closed true none = ap is_some none
    closed false none = refl
