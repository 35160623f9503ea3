-- The widths of allocated items and the space of shelves: by a front and a back, freed, merged and written.
use Rattle.std.proofs.Common.{◌≡◌, ℕ, ◌+◌, Bool, true, cond, None, List, [], ◌∷◌, ◌++◌, refl, arith, zero, suc, ◌*◌, false, Some, ◌≤◌}
use Rattle.std.specs.Prelude.{slice_get, slice_set}
use Rattle.shelf_model.specs.Merging.{merged_items, merged_shelves}
use Rattle.shelf_model.specs.Returning.{is_free_at, freed}
use Rattle.shelf_model.specs.Space.{allocated_width, space_in}
use Rattle.shelf_model.specs.State.{Item, is_free, is_one_free, Shelf, total_width}
use Rattle.shelf_model.proofs.Allocations.InShelves.{width_of}
use Rattle.etagere_base.proofs.EachLemmas.{Each-all}
use Rattle.etagere_base.proofs.Totals.{total-append, total-le, total-set}
use Rattle.shelf_model.proofs.Allocations.AllocatedTotals.{IsOfAllocated, allocated_total-merged, allocated_total-one_free, shelf_total-merged, where_allocated}

-- the width that an item allocates
abbrev pub width_allocated : Item → ℕ
width_allocated item = cond (is_free item) 0 item.width

-- free items allocate no width
of_allocated : IsOfAllocated width_allocated
of_allocated = where_allocated (λ item. item.width)

-- the area that a shelf allocates
abbrev pub space_of : Shelf → ℕ
space_of shelf = allocated_width shelf.items * shelf.height

-- the allocated widths of items, by a front and a back
pub allocated_width-append : (front back : List Item) → allocated_width (front ++ back) ≡ allocated_width front + allocated_width back
allocated_width-append front back = total-append width_allocated front back

-- a free item adds no allocated width
pub allocated_width-free : (item : Item) (items : List Item) → item.id ≡ None → allocated_width (item ∷ items) ≡ allocated_width items
allocated_width-free item items free = omega (arith, of_allocated.none item free)

-- one free item allocates no width
pub allocated_width-one_free : (items : List Item) → is_one_free items ≡ true → allocated_width items ≡ 0
allocated_width-one_free items h = allocated_total-one_free width_allocated of_allocated items h

-- the allocated items are no wider than all
pub allocated_width-le : (items : List Item) → allocated_width items ≤ total_width items
allocated_width-le items = total-le width_allocated (λ item. item.width) items (Each-all _ (λ item. step (is_free item) item.width) items)
  where
    step : (b : Bool) (width : ℕ) → cond b 0 width ≤ width
    step b width = grind arith

-- freeing an allocated item takes its width
pub allocated_width-freed : (n : ℕ) (items : List Item) → is_free_at n items ≡ false → allocated_width (freed n items) + width_of items n ≡ allocated_width items
allocated_width-freed n [] h = refl
allocated_width-freed zero (item ∷ items) h = rw h (omega arith)
allocated_width-freed (suc n) (item ∷ items) h = omega (arith, allocated_width-freed n items h)

-- merging items changes no allocated width
pub allocated_width-merged : (items : List Item) → allocated_width (merged_items items) ≡ allocated_width items
allocated_width-merged items = allocated_total-merged width_allocated of_allocated items

-- a shelf that allocates no width holds no area
pub no_width-no_area : (shelf : Shelf) → allocated_width shelf.items ≡ 0 → space_of shelf ≡ 0
no_width-no_area shelf h = rw h (omega arith)

-- merging empty shelves changes no allocated space
pub space_in-merged : (shelves : List Shelf) → space_in (merged_shelves shelves) ≡ space_in shelves
space_in-merged shelves = shelf_total-merged space_of (λ shelf h. no_width-no_area shelf (allocated_width-one_free shelf.items h)) shelves

-- writing a shelf over another changes the allocated space by theirs
pub space_in-set : (n : ℕ) (shelves : List Shelf) (shelf new : Shelf) → slice_get shelves n ≡ Some shelf
    → space_in (slice_set shelves n new) + allocated_width shelf.items * shelf.height ≡ space_in shelves + allocated_width new.items * new.height
space_in-set n shelves shelf new h = total-set space_of n shelves shelf new h
