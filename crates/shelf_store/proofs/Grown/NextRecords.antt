-- Linked records stay linked when a grow puts one to use: one that became unused, and then one that was made for it.
use Rattle.std.proofs.Common.{◌≡◌, ℕ, zero, suc, ◌+◌, ◌-◌, ◌≤◌, Bool, true, Option, None, Some, List, [], ◌∷◌, ◌++◌, length, refl, ap, sym, subst, ◌∙◌, arith}
use Rattle.std.specs.Prelude.{is_some}
use Rattle.std.specs.Option.{option_map_or}
use Rattle.shelf_records.specs.RecordLists.{Entry, IsLinkedExcept}
use Rattle.shelf_records.specs.RecordUses.{item_used, number_used, shelf_used}
use Rattle.shelf_records.proofs.AllLists.LinkedUnused.{lists_of}
use Rattle.shelf_records.proofs.AllLists.LinkedUses.{but_first, uses-item, uses-shelf}
use Rattle.shelf_store.specs.Private.RecordsGrown.{Growing, after_item, after_shelf, made_after_item, made_after_shelf, next_item, next_shelf}
use Rattle.shelf_store.specs.declared.growing.Made.{Made}
use Rattle.shelf_store.proofs.Grown.MadeLinked.{numbers_from}

-- the number that is put to use is that which became unused last
used-number : {T : Type 0} (unused : Option ℕ) (records : List T) (x number : ℕ) → unused ≡ Some x → number_used true unused records ≡ Some number → x ≡ number
used-number None records x number e is = absurd (cc)
used-number (Some y) records x number e is = cc

-- the first of some numbers, and the others
numbers-first : (from count : ℕ) → 1 ≤ count → numbers_from from count ≡ from ∷ numbers_from (from + 1) (count - 1)
numbers-first from zero some = absurd (omega (arith, some))
numbers-first from (suc count) some =
    let next : suc from ≡ from + 1 = omega arith in
    let left : count ≡ suc count - 1 = omega arith in
    ap (λ (n : ℕ). from ∷ numbers_from n count) next ∙ ap (λ (n : ℕ). from ∷ numbers_from (from + 1) n) left

-- the number that was made and comes next, once a record was put to use
abbrev made_next : Option ℕ → ℕ → ℕ
made_next None made = made + 1
made_next (Some number) made = made

items-left : (unused : Option ℕ) (made : Made) → (made_after_item unused made).item ≡ made_next unused made.item
items-left None made = refl
items-left (Some number) made = refl

shelves-left : (unused : Option ℕ) (made : Made) → (made_after_shelf unused made).shelf ≡ made_next unused made.shelf
shelves-left None made = refl
shelves-left (Some number) made = refl

module _ (unused : Option ℕ) (made after needed : ℕ) (held : List ℕ) (is : after ≡ made_next unused made) where
  -- the numbers in no list once one that was made is put to use
  next-made : unused ≡ None → 1 ≤ needed
      → numbers_from made (needed - 0) ++ held ≡ option_map_or (λ n. n) unused made ∷ (numbers_from after (needed - 1 - 0) ++ held)
  next-made none some =
      let first : numbers_from made (needed - 0) ++ held ≡ made ∷ (numbers_from (made + 1) (needed - 1 - 0) ++ held) =
      ap (λ (l : List ℕ). l ++ held) (numbers-first made (needed - 0) (omega (arith, some)))
      ∙ ap (λ (n : ℕ). made ∷ (numbers_from (made + 1) n ++ held)) (omega arith) in
      first ∙ rw (is, none) refl

  -- and once one that became unused is
  next-used : (x number : ℕ) (xs : List ℕ) → unused ≡ Some x → x ≡ number
      → number ∷ (numbers_from made (needed - length (x ∷ xs)) ++ held) ≡ option_map_or (λ n. n) unused made ∷ (numbers_from after (needed - 1 - length xs) ++ held)
  next-used x number xs top same =
      let left : needed - length (x ∷ xs) ≡ needed - 1 - length xs = omega arith in
      rw (left, is, top, same) refl

-- an item record is put to use, where some are still needed
pub item-next : (growing : Growing) (entries : List Entry) (unused_items unused_shelves held loose_shelves : List ℕ) (needed : ℕ) → 1 ≤ needed
    → IsLinkedExcept growing.records (lists_of entries unused_items unused_shelves) (numbers_from growing.made.item (needed - length unused_items) ++ held) loose_shelves
    → IsLinkedExcept (after_item growing).records (lists_of entries (but_first unused_items) unused_shelves)
    (next_item growing ∷ (numbers_from (after_item growing).made.item (needed - 1 - length (but_first unused_items)) ++ held)) loose_shelves
item-next growing entries [] unused_shelves held loose_shelves needed some linked =
    let unused : Option ℕ = growing.records.unused_items in
    let none : unused ≡ None = linked.unused_items in
    subst (λ (b : Bool). IsLinkedExcept (item_used b growing.records) (lists_of entries [] unused_shelves)
    (next_item growing ∷ (numbers_from (after_item growing).made.item (needed - 1 - 0) ++ held)) loose_shelves) (sym (ap is_some none))
    (subst (λ (l : List ℕ). IsLinkedExcept growing.records (lists_of entries [] unused_shelves) l loose_shelves)
    (next-made unused growing.made.item (after_item growing).made.item needed held (items-left unused growing.made) none some) linked)
item-next growing entries (x ∷ xs) unused_shelves held loose_shelves needed some linked =
    let unused : Option ℕ = growing.records.unused_items in
    let top : unused ≡ Some x = linked.unused_items.0 in
    let uses = uses-item linked in
    subst (λ (l : List ℕ). IsLinkedExcept (after_item growing).records (lists_of entries xs unused_shelves) l loose_shelves)
    (next-used unused growing.made.item (after_item growing).made.item needed held (items-left unused growing.made) x uses.number xs top
    (used-number unused growing.records.items x uses.number top uses.is))
    (subst (λ (b : Bool). IsLinkedExcept (item_used b growing.records) (lists_of entries xs unused_shelves)
    (uses.number ∷ (numbers_from growing.made.item (needed - length (x ∷ xs)) ++ held)) loose_shelves) (sym (ap is_some top)) uses.linked)

-- a shelf record is put to use, where some are still needed
pub shelf-next : (growing : Growing) (entries : List Entry) (unused_items unused_shelves loose held : List ℕ) (needed : ℕ) → 1 ≤ needed
    → IsLinkedExcept growing.records (lists_of entries unused_items unused_shelves) loose (numbers_from growing.made.shelf (needed - length unused_shelves) ++ held)
    → IsLinkedExcept (after_shelf growing).records (lists_of entries unused_items (but_first unused_shelves)) loose
    (next_shelf growing ∷ (numbers_from (after_shelf growing).made.shelf (needed - 1 - length (but_first unused_shelves)) ++ held))
shelf-next growing entries unused_items [] loose held needed some linked =
    let unused : Option ℕ = growing.records.unused_shelves in
    let none : unused ≡ None = linked.unused_shelves in
    subst (λ (b : Bool). IsLinkedExcept (shelf_used b growing.records) (lists_of entries unused_items []) loose
    (next_shelf growing ∷ (numbers_from (after_shelf growing).made.shelf (needed - 1 - 0) ++ held))) (sym (ap is_some none))
    (subst (λ (l : List ℕ). IsLinkedExcept growing.records (lists_of entries unused_items []) loose l)
    (next-made unused growing.made.shelf (after_shelf growing).made.shelf needed held (shelves-left unused growing.made) none some) linked)
shelf-next growing entries unused_items (x ∷ xs) loose held needed some linked =
    let unused : Option ℕ = growing.records.unused_shelves in
    let top : unused ≡ Some x = linked.unused_shelves.0 in
    let uses = uses-shelf linked in
    subst (λ (l : List ℕ). IsLinkedExcept (after_shelf growing).records (lists_of entries unused_items xs) loose l)
    (next-used unused growing.made.shelf (after_shelf growing).made.shelf needed held (shelves-left unused growing.made) x uses.number xs top
    (used-number unused growing.records.shelves x uses.number top uses.is))
    (subst (λ (b : Bool). IsLinkedExcept (shelf_used b growing.records) (lists_of entries unused_items xs) loose
    (uses.number ∷ (numbers_from growing.made.shelf (needed - length (x ∷ xs)) ++ held))) (sym (ap is_some top)) uses.linked)
