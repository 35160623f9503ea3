-- A shelf with an item returned is as a shelf must be.
use Rattle.std.proofs.Common.{◌≡◌, ℕ, zero, suc, ◌+◌, ◌≤◌, true, false, None, Some, List, [], ◌∷◌, length, refl, ap, ◌∙◌, arith}
use Rattle.etagere_base.proofs.AlignedPlaces.{sum_aligned}
use Rattle.std.specs.Prelude.{slice_get}
use Rattle.etagere_base.specs.Frames.{alignment_along}
use Rattle.etagere_base.specs.declared.frames.Frame.{Frame}
use Rattle.shelf_model.specs.Merging.{both_free, combined_items, merged_items, merged_shelf}
use Rattle.std.specs.List.{AllByRecursion}
use Rattle.shelf_model.specs.Places.{column_place}
use Rattle.shelf_model.specs.Returning.{freed, freed_shelf}
use Rattle.shelf_model.specs.State.{Item, Shelf, is_free, total_width}
use Rattle.shelf_model.specs.Valid.{IsItem, IsShelf}
use Rattle.etagere_base.proofs.EachLemmas.{Each-weaken}
use Rattle.etagere_base.proofs.Merged.{apart-merged}
use Rattle.etagere_base.proofs.MergedKeeps.{Each-merged}
use Rattle.etagere_base.proofs.Totals.{total-merged, total-merged-le, total-ones}
use Rattle.shelf_model.proofs.Places.ItemLemmas.{width_of_item}
use Rattle.shelf_model.proofs.Returned.MergedNear.{items-merge}
use Rattle.shelf_model.proofs.Returned.ReturnedFreeList.{times-returned_free_list}

-- a fact of each item that doesn't speak of ids stays when one is freed
Each-freed : (P : Item → Type 0) → ((item : Item) → P item → P (record { width = item.width; id = None }))
    → (n : ℕ) (items : List Item) → AllByRecursion P items → AllByRecursion P (freed n items)
Each-freed P keeps n [] h = tt
Each-freed P keeps zero (item ∷ items) h = (keeps item h.0, h.1)
Each-freed P keeps (suc n) (item ∷ items) h = (h.0, Each-freed P keeps n items h.1)

-- freeing an item changes no width
pub total_width-freed : (n : ℕ) (items : List Item) → total_width (freed n items) ≡ total_width items
total_width-freed n [] = refl
total_width-freed zero (item ∷ items) = refl
total_width-freed (suc n) (item ∷ items) = ap (λ (w : ℕ). item.width + w) (total_width-freed n items)

-- merging items changes no width
total_width-merged : (items : List Item) → total_width (merged_items items) ≡ total_width items
total_width-merged items = total-merged width_of_item both_free combined_items (λ x y t. refl) items

-- merging makes no items more
pub length-merged-le : (items : List Item) → length (merged_items items) ≤ length items
length-merged-le items =
    omega (arith, total-merged-le (λ (_ : Item). 1) both_free combined_items (λ x y. omega arith) items, total-ones items, total-ones (merged_items items))

-- a merged item is as an item must be
combined-item : (frame : Frame) (x y : Item) → both_free x y ≡ true → IsItem frame x → IsItem frame y → IsItem frame (combined_items x y)
combined-item frame x y t h k = record {
  width = omega (arith, h.width);
  aligned = sum_aligned x.width y.width (alignment_along frame) h.aligned k.aligned;
}

-- a freed item is as an item must be
freed-item : (frame : Frame) (item : Item) → IsItem frame item → IsItem frame (record { width = item.width; id = None })
freed-item frame item h = record { width = h.width; aligned = h.aligned }

-- a shelf with an allocated item returned is a shelf of the same column, height and width
pub freed_shelf-valid : (frame : Frame) (n : ℕ) (shelf : Shelf) (item : Item) → IsShelf frame shelf
    → slice_get shelf.items n ≡ Some item → is_free item ≡ false → IsShelf frame (merged_shelf (freed_shelf frame n shelf))
freed_shelf-valid frame n shelf item valid get allocations = record {
  column = valid.column;
  height = valid.height;
  items = Each-merged both_free combined_items (IsItem frame) (combined-item frame) (freed n shelf.items)
      (Each-freed (IsItem frame) (freed-item frame) n shelf.items valid.items);
  width = total_width-merged (freed n shelf.items) ∙ total_width-freed n shelf.items ∙ valid.width;
  apart = apart-merged both_free combined_items items-merge (freed n shelf.items);
  free_list = times-returned_free_list (column_place frame shelf) n shelf.items (Each-weaken (IsItem frame) _ shelf.items (λ (r : Item) (h : IsItem frame r). h.width) valid.items) shelf.free_list valid.free_list item valid.apart get allocations;
}
