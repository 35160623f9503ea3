-- Putting an item record to use makes none, puts no shelf that was made to use, and changes no other record.
use Rattle.std.proofs.Common.{◌≡◌, ◌≢◌, ℕ, suc, ◌≤◌, Option, None, Some, List, [], ◌∷◌, length, refl, arith}
use Rattle.std.specs.Option.{option_map_or}
use Rattle.std.specs.Prelude.{is_some, slice_get}
use Rattle.shelf_records.specs.declared.records.LinkedItem.{LinkedItem}
use Rattle.shelf_records.specs.RecordUses.{items_used, used_again}
use Rattle.shelf_records.proofs.AllLists.LinkedUses.{but_first}
use Rattle.etagere_links.proofs.RecordChanges.{get-changed_by-other, length-changed_by}
use Rattle.shelf_store.specs.Private.RecordsGrown.{Growing, after_item, made_after_item}
use Rattle.shelf_store.specs.declared.growing.Made.{Made}

-- records are the same after one was put to use, but for it
pub used-other : (unused : Option ℕ) (items : List LinkedItem) (made k : ℕ) → option_map_or (λ n. n) unused made ≢ k
    → slice_get (items_used (is_some unused) unused items) k ≡ slice_get items k
used-other None items made k other = refl
used-other (Some n) items made k other = get-changed_by-other used_again items (Some n) k (λ e. let same : n ≡ k = cc in other same)

-- none was made for that
length-used : (unused : Option ℕ) (items : List LinkedItem) → length (items_used (is_some unused) unused items) ≡ length items
length-used None items = refl
length-used (Some n) items = length-changed_by used_again items (Some n)

-- putting an item record to use makes none
pub used-length : (growing : Growing) → length (after_item growing).records.items ≡ length growing.records.items
used-length growing = length-used growing.records.unused_items growing.records.items

-- no shelf that was made is put to use
made-shelf : (unused : Option ℕ) (made : Made) → (made_after_item unused made).shelf ≡ made.shelf
made-shelf None made = refl
made-shelf (Some n) made = refl

-- putting an item record to use puts no shelf that was made to use
pub shelf-unused : (growing : Growing) → (after_item growing).made.shelf ≡ growing.made.shelf
shelf-unused growing = made-shelf growing.records.unused_items growing.made

-- one fewer is left once the first of those that became unused is put to use
pub fewer-left : (xs : List ℕ) (n : ℕ) → length xs ≤ suc n → length (but_first xs) ≤ n
fewer-left [] n few = omega arith
fewer-left (x ∷ xs) n few = omega (arith, few)
