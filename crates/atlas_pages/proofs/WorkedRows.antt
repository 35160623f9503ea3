-- The definitions alone, with no program, give the pages and rectangles of worked examples.
use Rattle.std.specs.Prelude.{◌≡◌, ℕ, ◌+◌, ◌-◌, false, None, Some, [], ◌∷◌, refl, length}
use Rattle.std.specs.Option.{option_map_or}
use Rattle.shelf_model.proofs.WorkedRows.{allocated, options, rectangle, size}
use Rattle.etagere_base.specs.declared.geometry.Size.{Size}
use Rattle.atlas_pages.specs.declared.faults.PagesFault.TheVariants.{NoPages}
use Rattle.atlas_pages.specs.declared.options.PageChoice.{PageChoice}
use Rattle.atlas_pages.specs.declared.options.PageChoice.TheVariants.{FirstFit, FullestFirst}
use Rattle.atlas_pages.specs.declared.options.PageOptions.{PageOptions}
use Rattle.etagere_base.specs.declared.geometry.Rectangle.{Rectangle}
use Rattle.atlas_pages.specs.declared.paged_allocation.PagedAllocation.{PagedAllocation}
use Rattle.atlas_pages.specs.Allocated.{at_page, allocated_space_of, cleared, free_space_of, rectangle_on, returned_on, shrunk, with_most}
use Rattle.atlas_pages.specs.Choosing.{page_for, ready_for}
use Rattle.atlas_pages.specs.Listing.{listed_allocations}
use Rattle.atlas_pages.specs.Pages.{PagesState, no_pages, page_frame, pages_fault}
use Rattle.atlas_pages.specs.Picture.{page_area, pages_width}
use Rattle.shelf_model.specs.State.{AtlasState}

-- pages of 64 by 64
abbrev pub page_options : PageChoice → ℕ → PageOptions
page_options choice most =
    record { size = size 64 64; atlas = options 1 1 false 1; most_pages = most; choice = choice }

-- the pages after a size was asked for, under an id
abbrev pub placed : PagesState → Size → ℕ → PagesState
placed state asked id =
    option_map_or
    (λ page. record {
      options = state.options;
      pages = at_page page (λ (atlas : AtlasState). allocated atlas asked id) (ready_for state asked).pages;
    })
    (page_for state asked) state

-- a page is opened where no open one has a place
abbrev first_two : PageChoice → ℕ → PagesState
first_two choice most =
    placed (placed (no_pages (page_options choice most)) (size 60 60) 1) (size 30 20) 1

a_page_is_opened-first : rectangle_on (first_two FirstFit 2) 0 1 ≡ Some (rectangle 0 0 64 64)
a_page_is_opened-first = refl

a_page_is_opened-second : rectangle_on (first_two FirstFit 2) 1 1 ≡ Some (rectangle 0 0 30 24)
a_page_is_opened-second = refl

-- and none where there may be no more, or an empty one has no place either
none_is_opened-most : page_for (first_two FirstFit 2) (size 60 60) ≡ None
none_is_opened-most = refl

none_is_opened-fewer : page_for (first_two FirstFit 3) (size 60 60) ≡ Some 2
none_is_opened-fewer = refl

none_is_opened-too_large : page_for (first_two FirstFit 3) (size 65 1) ≡ None
none_is_opened-too_large = refl

more_may_be_opened : page_for (with_most (first_two FirstFit 2) 3) (size 60 60) ≡ Some 2
more_may_be_opened = refl

-- once the first page is empty, a small size goes to it by first fit, and to the fuller one by fullest first
abbrev first_empty : PageChoice → PagesState
first_empty choice = returned_on (first_two choice 2) 0 1

first_fit : page_for (first_empty FirstFit) (size 10 10) ≡ Some 0
first_fit = refl

fullest_first : page_for (first_empty FullestFirst) (size 10 10) ≡ Some 1
fullest_first = refl

first_fit-rectangle : rectangle_on (placed (first_empty FirstFit) (size 10 10) 2) 0 2 ≡ Some (rectangle 0 0 10 16)
first_fit-rectangle = refl

fullest_first-rectangle : rectangle_on (placed (first_empty FullestFirst) (size 10 10) 2) 1 2 ≡ Some (rectangle 30 0 40 24)
fullest_first-rectangle = refl

-- of equally full pages the first gets the size
abbrev both_empty : PageChoice → PagesState
both_empty choice = cleared (first_two choice 2)

equally_full : page_for (both_empty FullestFirst) (size 10 10) ≡ Some 0
equally_full = refl

-- spaces are added up
spaces-allocated : allocated_space_of (first_two FirstFit 2) ≡ 4096 + 720
spaces-allocated = refl

spaces-free : free_space_of (first_two FirstFit 2) ≡ 4096 - 720
spaces-free = refl

-- empty pages go at the end alone
shrunk-end : length (shrunk (returned_on (first_two FirstFit 2) 1 1)).pages ≡ 1
shrunk-end = refl

shrunk-front : length (shrunk (first_empty FirstFit)).pages ≡ 2
shrunk-front = refl

shrunk-all : shrunk (both_empty FirstFit) ≡ no_pages (page_options FirstFit 2)
shrunk-all = refl

-- there has to be a page
no_page : pages_fault (page_options FirstFit 0) ≡ Some NoPages
no_page = refl

-- what is listed: page after page, without what was given back
abbrev paged_on : ℕ → ℕ → Rectangle → PagedAllocation
paged_on page id rectangle = record { page = page; allocation = record { id = id; rectangle = rectangle } }

abbrev two_listed : PagesState
two_listed = placed (placed (no_pages (page_options FirstFit 2)) (size 60 60) 0) (size 30 20) 0

listed-both : listed_allocations two_listed ≡ paged_on 0 0 (rectangle 0 0 64 64) ∷ paged_on 1 0 (rectangle 0 0 30 24) ∷ []
listed-both = refl

listed-second : listed_allocations (returned_on two_listed 0 0) ≡ paged_on 1 0 (rectangle 0 0 30 24) ∷ []
listed-second = refl

-- in a picture 16 pixels stay free between two pages
picture-width : pages_width 64 2 ≡ 144
picture-width = refl

picture-none : pages_width 64 0 ≡ 0
picture-none = refl

picture-second : page_area (page_frame (page_options FirstFit 2)) 1 ≡ rectangle 80 0 144 64
picture-second = refl
