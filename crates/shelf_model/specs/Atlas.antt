-- What the public calls of an atlas answer and change, and the promises that each state keeps.
use Rattle.std.specs.Prelude.{◌≡◌, ℕ, ◌<◌, ◌≤◌, false, not, Some, List, [], ◌∷◌, ◌++◌, filter, length, map, ◌==◌}
use Rattle.etagere_base.specs.declared.geometry.Size.{Size}
use Rattle.etagere_base.specs.declared.ids.Allocation.{Allocation}
use Rattle.shelf_model.specs.Bounds.{record_bound}
use Rattle.shelf_model.specs.Choice.{Placement, placement_of, rectangle_of_placement, splits}
use Rattle.shelf_model.specs.Fresh.{fresh, without_peak_items}
use Rattle.shelf_model.specs.Layout.{layout}
use Rattle.std.specs.List.{AllByRecursion}
use Rattle.etagere_base.specs.Lists.{times}
use Rattle.shelf_model.specs.Places.{allocated_numbers, allocations, is_allocated, record_number}
use Rattle.etagere_base.specs.Rectangles.{AreApart, IsAligned, IsInside}
use Rattle.shelf_model.specs.State.{AtlasState, items_in_use}
use Rattle.shelf_model.specs.Taking.{taken}
use Rattle.shelf_model.specs.Valid.{IsValid}

-- an allocation of a size leads from one state to the next: the place of the size was taken by an
-- id that was not allocated, and its rectangle was given
pub record Allocates (old : AtlasState) (size : Size) (allocation : Allocation) (new : AtlasState)
    : Type 0 where
  pub placement : Placement
  pub placed : placement_of old size ≡ Some placement
  pub rectangle : rectangle_of_placement old.frame placement ≡ allocation.rectangle
  pub fresh_id : is_allocated old allocation.id ≡ false
  pub after : new ≡ taken old placement allocation.id

-- the place of a size needs a split, and where no shelf is split for it, all item records are in use
pub record NeedsSplit (state : AtlasState) (size : Size) : Type 0 where
  pub placement : Placement
  pub placed : placement_of state size ≡ Some placement
  pub split : 0 < splits placement
  pub short : placement.splits_shelf ≡ false → state.peak_items ≤ items_in_use state.shelves

-- what is allocated after is what was allocated before and one more
pub record Adds (old : List Allocation) (allocation : Allocation) (new : List Allocation)
    : Type 0 where
  pub front : List Allocation
  pub back : List Allocation
  pub before : old ≡ front ++ back
  pub after : new ≡ front ++ allocation ∷ back

-- the allocations but for the one of an id
abbrev pub without_id : ℕ → List Allocation → List Allocation
without_id id allocations = filter (λ allocation. not (allocation.id == id)) allocations

-- where a state is that in which the place of a size was just taken by an id, returning the id gave
-- the layout back
abbrev pub Restores : AtlasState → ℕ → AtlasState → Type 0
Restores old id new =
    (before : AtlasState) (size : Size) (placement : Placement) → IsValid before
    → placement_of before size ≡ Some placement → is_allocated before id ≡ false
    → old ≡ taken before placement id
    → layout new ≡ layout before

-- what each state of an atlas keeps: it is valid; what is allocated has ids that differ and record
-- numbers that differ and are below the records, and lies inside, aligned and apart; it has few
-- items for what is allocated; and where nothing is, it is that of a new atlas but for its records
pub record KeepsPromises (state : AtlasState) : Type 0 where
  pub valid : IsValid state
  pub ids : (id : ℕ) → times id (map (λ allocation. allocation.id) (allocations state)) ≤ 1
  pub numbers : (number : ℕ) → times number (allocated_numbers state) ≤ 1
  pub below : AllByRecursion (λ (allocation : Allocation). record_number allocation.id < state.peak_items)
      (allocations state)
  pub inside : AllByRecursion (λ (allocation : Allocation). IsInside state.frame allocation.rectangle)
      (allocations state)
  pub aligned : AllByRecursion (λ (allocation : Allocation). IsAligned state.frame allocation.rectangle)
      (allocations state)
  pub apart : AreApart (allocations state)
  pub few : items_in_use state.shelves
      ≤ record_bound (length (allocations state)) state.frame.columns
  pub empty : allocations state ≡ [] → without_peak_items state ≡ without_peak_items (fresh state.frame)
