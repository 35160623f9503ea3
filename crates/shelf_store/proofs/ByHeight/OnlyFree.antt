-- The only free item of a shelf, by its free list.
use Rattle.std.proofs.Common.{◌≡◌, ℕ, ◌≤◌, None, Some, List, [], ◌∷◌, ap, arith, ◌∙◌}
use Rattle.etagere_base.specs.Lists.{times}
use Rattle.etagere_links.specs.Edits.{link_at}
use Rattle.std.specs.List.{AllByRecursion}
use Rattle.shelf_records.specs.AtlasRecords.{item_at}
use Rattle.shelf_records.specs.RecordLists.{IsLinked, Records, first_free_of, free_walk, shelf_walk, walked_lists}
use Rattle.shelf_records.specs.Records.{free_list}
use Rattle.shelf_records.specs.declared.records.LinkedItem.{LinkedItem}
use Rattle.shelf_records.proofs.AllLists.Following.{none-left, step-left}
use Rattle.shelf_records.proofs.AllLists.LinkedParts.{free-left}
use Rattle.shelf_store.specs.Private.Settling.{width_of_only}

-- what is alone in a list is the widest of it
pub only-bound : (items : List LinkedItem) (free : List ℕ) (widest : ℕ) → width_of_only items free ≡ Some widest → AllByRecursion (λ item. (item_at items item).width ≤ widest) free
only-bound items [] widest is = tt
only-bound items (item ∷ []) widest is = (omega (arith, inner is), tt)
  where
    inner : Some (item_at items item).width ≡ Some widest → (item_at items item).width ≡ widest
    inner h = cc
only-bound items (item ∷ other ∷ others) widest is = absurd (cc)

module _ (records : Records) (shelf : ℕ) (linked : IsLinked records (walked_lists records)) (stands : 1 ≤ times shelf (shelf_walk records).met) where
  -- a shelf that has no free item
  pub none-free : first_free_of records.shelves shelf ≡ None → width_of_only records.items (free_walk records shelf).met ≡ Some 0
  none-free none =
      ap (width_of_only records.items) (none-left free_list.next records.items (first_free_of records.shelves shelf) 0 (free_walk records shelf).met (free-left records shelf linked stands) none)

  -- one that has one
  pub one-free : (number : ℕ) → first_free_of records.shelves shelf ≡ Some number → link_at free_list.next records.items number ≡ None
      → width_of_only records.items (free_walk records shelf).met ≡ Some (item_at records.items number).width
  one-free number first ends =
      let step = step-left free_list.next records.items (first_free_of records.shelves shelf) number 0 (free_walk records shelf).met (free-left records shelf linked stands) first in
      let left : step.others ≡ [] = none-left free_list.next records.items (link_at free_list.next records.items number) 1 step.others step.left ends in
      ap (width_of_only records.items) (step.whole ∙ ap (λ (xs : List ℕ). number ∷ xs) left)

  -- one that has more
  pub more-free : (number other : ℕ) → first_free_of records.shelves shelf ≡ Some number → link_at free_list.next records.items number ≡ Some other
      → width_of_only records.items (free_walk records shelf).met ≡ None
  more-free number other first goes_on =
      let step = step-left free_list.next records.items (first_free_of records.shelves shelf) number 0 (free_walk records shelf).met (free-left records shelf linked stands) first in
      let next = step-left free_list.next records.items (link_at free_list.next records.items number) other 1 step.others step.left goes_on in
      ap (width_of_only records.items) (step.whole ∙ ap (λ (xs : List ℕ). number ∷ xs) next.whole)
