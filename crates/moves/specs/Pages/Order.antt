-- The order in which rectangles of pages ask for new places: the tallest first, and of equally tall ones in the order of
-- pages, and on one page of ids.
use Rattle.std.specs.Prelude.{Bool, ◌&&◌, ◌||◌, ◌==◌, nat_lt, List}
use Rattle.etagere_base.specs.Lists.{NoNeighbours}
use Rattle.moves.specs.Atlases.Order.{height_across}
use Rattle.atlas_pages.specs.declared.paged_allocation.PagedAllocation.{PagedAllocation}

-- a place comes after another one: it is on a later page, or on the same one under a higher id
abbrev pub comes_after : PagedAllocation → PagedAllocation → Bool
comes_after one other =
    nat_lt other.page one.page || (one.page == other.page && nat_lt other.allocation.id one.allocation.id)

-- the second of two places ought to be the first: it is taller, or as tall and the first comes after it
abbrev pub is_out_of_turn : Bool → PagedAllocation → PagedAllocation → Bool
is_out_of_turn vertical one next =
    let height = height_across vertical one.allocation.rectangle in
    let next_height = height_across vertical next.allocation.rectangle in
    nat_lt height next_height || (height == next_height && comes_after one next)

-- the tallest stand first, and of equally tall ones in the order of pages and ids
abbrev pub AreTallestFirst : Bool → List PagedAllocation → Type 0
AreTallestFirst vertical allocations = NoNeighbours (is_out_of_turn vertical) allocations
