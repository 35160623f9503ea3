-- Freeing one item, or writing one shelf, merges by two merges at that number.
use Rattle.std.proofs.Common.{◌≡◌, ℕ, Bool, true, ◌&&◌, ◌==◌, List, refl, arith}
use Rattle.std.specs.Prelude.{None, slice_set}
use Rattle.shelf_model.specs.Merging.{both_free, combined_items, merged_items, both_empty, combined_shelves, merged_shelves}
use Rattle.etagere_base.specs.Lists.{NoNeighbours}
use Rattle.etagere_base.specs.MergingAt.{merged_at, merged_before}
use Rattle.shelf_model.specs.Returning.{freed}
use Rattle.shelf_model.specs.State.{Item, Shelf, is_free, is_empty}
use Rattle.etagere_base.proofs.Merged.{Merges, merged-near_set}
use Rattle.shelf_model.proofs.Places.ItemLemmas.{freed-set}

-- next to a free item the test is the other item's alone
free_next : (a b c : Bool) → (a && b) ≡ true → (true && c) ≡ (b && c)
free_next a b c h = grind arith

-- before a free item the test is the other item's alone
free_before : (a b c : Bool) → (b && c) ≡ true → (a && true) ≡ (a && b)
free_before a b c h = grind arith

-- a merged item is free, as its parts were
pub items-merge : Merges both_free combined_items
items-merge = record {
  next = λ x y z h. free_next (is_free x) (is_free y) (is_free z) h;
  before = λ w x y h. free_before (is_free w) (is_free x) (is_free y) h;
}

-- two empty shelves of one column test alike against a third
empty_next : (a b c : ℕ) (x y z : Bool) → (a == b && (x && y)) ≡ true → (a == c && (x && z)) ≡ (b == c && (y && z))
empty_next a b c x y z h = grind arith

-- a merged shelf stands in the column of its parts and is empty, as they were
pub shelves-merge : Merges both_empty combined_shelves
shelves-merge = record {
  next = λ x y z h. empty_next x.column y.column z.column (is_empty x) (is_empty y) (is_empty z) h;
  before = λ w x y h. refl;
}

-- merging after one item was freed merges it with the next one and then with the one before
pub merged_items-freed : (n : ℕ) (items : List Item) → NoNeighbours both_free items
    → merged_items (freed n items) ≡ merged_before both_free combined_items n (merged_at both_free combined_items n (freed n items))
merged_items-freed n items apart =
    let none : Item = record { width = 0; id = None } in
    rw (freed-set n items none) (merged-near_set both_free combined_items items-merge n items _ apart)

-- merging after one shelf was written merges it with the next one and then with the one before
pub merged_shelves-near : (n : ℕ) (shelves : List Shelf) (shelf : Shelf) → NoNeighbours both_empty shelves
    → merged_shelves (slice_set shelves n shelf)
    ≡ merged_before both_empty combined_shelves n (merged_at both_empty combined_shelves n (slice_set shelves n shelf))
merged_shelves-near n shelves shelf apart = merged-near_set both_empty combined_shelves shelves-merge n shelves shelf apart
