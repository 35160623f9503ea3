-- How full an atlas is: counts, and the widest of what is free.
use Rattle.std.specs.Prelude.{ℕ, ◌-◌, Bool, ◌&&◌, filter, length, nat_lt, List, ◌==◌}
use Rattle.etagere_base.specs.Lists.{total}
use Rattle.etagere_base.specs.Places.{size_at}
use Rattle.etagere_base.specs.declared.geometry.Size.{Size}
use Rattle.shelf_model.specs.declared.usage.Usage.{Usage}
use Rattle.shelf_model.specs.Choice.{most_items}
use Rattle.shelf_model.specs.Places.{allocations}
use Rattle.shelf_model.specs.State.{Shelf, AtlasState, is_empty, is_free, items_in_use}
use Rattle.shelf_model.specs.Widest.{greatest, widest_free, widest_in}

-- how many free items the shelves have
abbrev pub free_items : List Shelf → ℕ
free_items shelves = total (λ shelf. length (filter is_free shelf.items)) shelves

-- the widest free item of a shelf has this width
abbrev pub is_as_wide : ℕ → Shelf → Bool
is_as_wide width shelf = nat_lt 0 width && widest_in shelf == width

-- the height of the tallest of the shelves whose widest free item has this width; 0 where there is none
abbrev pub tallest_with : ℕ → List Shelf → ℕ
tallest_with width shelves = greatest (λ (shelf : Shelf). shelf.height) (filter (is_as_wide width) shelves)

-- of all free items the widest along the shelves, and of equally wide ones the tallest; no size where none is free
abbrev pub largest_free : AtlasState → Size
largest_free state =
    let width = widest_free 0 state.shelves in
    size_at state.frame width (tallest_with width state.shelves)

-- how full an atlas is
abbrev pub usage : AtlasState → Usage
usage state =
    record {
      shelves = length state.shelves;
      empty_shelves = length (filter is_empty state.shelves);
      items = length (allocations state);
      free_items = free_items state.shelves;
      unused_records = most_items - items_in_use state.shelves;
      largest_free = largest_free state;
    }
