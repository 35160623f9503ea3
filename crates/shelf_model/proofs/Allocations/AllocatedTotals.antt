-- Totals over the allocated items: free items come to nothing, so merging leaves such a total as it is.
use Rattle.std.proofs.Common.{◌≡◌, ℕ, ◌+◌, true, cond, ◌==◌, ◌&&◌, Option, None, Some, List, [], ◌∷◌, refl, ap, arith}
use Rattle.std.proofs.lemmas.Bool.{and_parts}
use Rattle.std.specs.Prelude.{is_none}
use Rattle.shelf_model.specs.Merging.{both_free, combined_items, merged_items, both_empty, combined_shelves, merged_shelves}
use Rattle.etagere_base.specs.Lists.{total}
use Rattle.shelf_model.specs.State.{Item, Shelf, is_free, is_empty, is_one_free}
use Rattle.etagere_base.proofs.Totals.{total-merged}

-- a free item has no id
pub no_id : (item : Item) → is_free item ≡ true → item.id ≡ None
no_id item h = of_option item.id h
  where
    of_option : (owner : Option ℕ) → is_free (record { width = item.width; id = owner }) ≡ true → owner ≡ None
    of_option None h = refl
    of_option (Some id) h = absurd (cc)

-- a measure of what is allocated: free items come to nothing
pub record IsOfAllocated (measure : Item → ℕ) : Type 0 where
  pub none : (item : Item) → item.id ≡ None → measure item ≡ 0

-- a measure where it is allocated is such a measure
pub where_allocated : (measure : Item → ℕ) → IsOfAllocated (λ item. cond (is_free item) 0 (measure item))
where_allocated measure = record { none = λ item h. ap (λ (owner : Option ℕ). cond (is_none owner) 0 (measure item)) h }

module _ (measure : Item → ℕ) (of : IsOfAllocated measure) where
  -- a merged item comes to as much as its parts
  total-combined : (x y : Item) → both_free x y ≡ true → measure (combined_items x y) ≡ measure x + measure y
  total-combined x y t =
      let free = and_parts (is_free x) (is_free y) t in
      omega (arith, of.none (combined_items x y) refl, of.none x (no_id x free.0), of.none y (no_id y free.1))

  -- merging items changes nothing of what is allocated
  pub allocated_total-merged : (items : List Item) → total measure (merged_items items) ≡ total measure items
  allocated_total-merged items = total-merged measure both_free combined_items total-combined items

  -- the one free item comes to nothing
  pub allocated_total-one_free : (items : List Item) → is_one_free items ≡ true → total measure items ≡ 0
  allocated_total-one_free [] h = refl
  allocated_total-one_free (item ∷ []) h = omega (arith, of.none item (no_id item h))
  allocated_total-one_free (item ∷ next ∷ items) h = absurd (cc)

-- both of two shelves that are merged are empty
pub both_empty-parts : (x y : Shelf) → both_empty x y ≡ true → (is_empty x ≡ true) × (is_empty y ≡ true)
both_empty-parts x y t = and_parts (is_empty x) (is_empty y) (and_parts (x.column == y.column) (is_empty x && is_empty y) t).1

-- merging shelves changes no total that is nothing of empty shelves
pub shelf_total-merged : (measure : Shelf → ℕ) → ((shelf : Shelf) → is_empty shelf ≡ true → measure shelf ≡ 0)
    → (shelves : List Shelf) → total measure (merged_shelves shelves) ≡ total measure shelves
shelf_total-merged measure none shelves = total-merged measure both_empty combined_shelves combined shelves
  where
    combined : (x y : Shelf) → both_empty x y ≡ true → measure (combined_shelves x y) ≡ measure x + measure y
    combined x y t =
        let empty = both_empty-parts x y t in
        omega (arith, none (combined_shelves x y) empty.0, none x empty.0, none y empty.1)
