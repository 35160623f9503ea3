-- Counts of records that are made or missing, one by one.
use Rattle.std.proofs.Common.{◌≡◌, ℕ, zero, suc, Option, None, Some, List, [], ◌∷◌, ◌++◌, refl}
use Rattle.shelf_records.specs.declared.records.LinkedItem.{LinkedItem}
use Rattle.shelf_records.specs.declared.records.LinkedShelf.{LinkedShelf}
use Rattle.etagere_links.specs.Edits.{link_at}
use Rattle.shelf_records.specs.Families.{Family}
use Rattle.shelf_records.specs.RecordMaking.{with_new_items, with_new_shelves}
use Rattle.shelf_records.specs.RecordUses.{missing, new_item, new_shelf}

-- the first of item records that are made
pub items-next : (n m : ℕ) (items made : List LinkedItem) → n ≡ suc m → made ≡ items ++ new_item ∷ [] → with_new_items m made ≡ with_new_items n items
items-next n m items made h is = rw (h, is) refl

-- the first of shelf records that are made
pub shelves-next : (n m : ℕ) (shelves made : List LinkedShelf) → n ≡ suc m → made ≡ shelves ++ new_shelf ∷ [] → with_new_shelves m made ≡ with_new_shelves n shelves
shelves-next n m shelves made h is = rw (h, is) refl

-- where none was unused all are missing
pub missing-none : {T : Type 0} (family : Family T) (n : ℕ) (at : Option ℕ) (records : List T) → at ≡ None → missing family n at records ≡ n
missing-none family zero at records h = refl
missing-none family (suc n) at records h = rw h refl

-- one that became unused isn't missing
pub missing-next : {T : Type 0} (family : Family T) (n m number : ℕ) (at next : Option ℕ) (records : List T) → n ≡ suc m → at ≡ Some number
    → next ≡ link_at family.next records number → missing family m next records ≡ missing family n at records
missing-next family n m number at next records h is follows = rw (h, is, follows) refl
