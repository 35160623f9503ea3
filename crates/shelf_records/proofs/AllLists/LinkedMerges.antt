-- Linked records stay linked when items and shelves are merged, freed, given and split.
use Rattle.std.proofs.Common.{◌≡◌, ℕ, ◌≤◌, Bool, true, false, List, [], ◌∷◌, ◌++◌, refl, subst, arith, sym, append_assoc}
use Rattle.etagere_base.proofs.EachLemmas.{Each-middle}
use Rattle.etagere_base.proofs.TimesLemmas.{times-append}
use Rattle.etagere_base.specs.Lists.{times}
use Rattle.shelf_records.specs.declared.records.LinkedItem.{LinkedItem}
use Rattle.shelf_records.specs.declared.records.LinkedShelf.{LinkedShelf}
use Rattle.shelf_records.specs.RecordEdits.{item_unlinked, shelf_unlinked}
use Rattle.shelf_records.specs.RecordLists.{Records, Entry, IsEntry, IsLinkedExcept}
use Rattle.shelf_records.specs.RecordMerges.{free_absorbed, allocated_absorbed, item_freed, shelf_absorbed, item_given, front_given}
use Rattle.shelf_records.proofs.AllLists.LinkedEdits.{Around, with_entry, IsApart, linked-apart}
use Rattle.shelf_records.proofs.AllLists.LinkedFields.{KeepsItemLinks, KeepsShelfLinks, item_changed-linked, shelf_changed-linked}
use Rattle.shelf_records.proofs.AllLists.LinkedItems.{entry_of, item_unlinked-linked, item_inserted_after-linked, free_unlinked-linked, free_inserted_front-linked, free_inserted_after-linked}
use Rattle.shelf_records.proofs.AllLists.LinkedShelves.{shelf_unlinked-linked}
use Rattle.shelf_records.proofs.AllLists.LinkedUnused.{lists_of, item_made_unused-linked, shelf_made_unused-linked}
use Rattle.etagere_links.proofs.ListEnds.{times-here}

-- changing the width keeps the links
keeps-width : (width : ℕ) → KeepsItemLinks (λ (item : LinkedItem). record item { width = width })
keeps-width width = record { next = λ x. refl; prev = λ x. refl; next_unallocated = λ x. refl; prev_unallocated = λ x. refl }

-- saying whether an item is allocated keeps the links
keeps-allocated : (allocated : Bool) → KeepsItemLinks (λ (item : LinkedItem). record item { allocated = allocated })
keeps-allocated allocated = record { next = λ x. refl; prev = λ x. refl; next_unallocated = λ x. refl; prev_unallocated = λ x. refl }

-- changing both keeps the links
keeps-given : (width : ℕ) → KeepsItemLinks (λ (item : LinkedItem). record item { width = width; allocated = true })
keeps-given width = record { next = λ x. refl; prev = λ x. refl; next_unallocated = λ x. refl; prev_unallocated = λ x. refl }

-- changing the height keeps the links
pub keeps-height : (height : ℕ) → KeepsShelfLinks (λ (shelf : LinkedShelf). record shelf { height = height })
keeps-height height = record { next = λ x. refl; prev = λ x. refl; first_item = λ x. refl; first_unallocated = λ x. refl }

-- a member that stands once in a list does not stand in the rest of it
absent-rest : (front back : List ℕ) (n : ℕ) → times n (front ++ n ∷ back) ≤ 1 → times n (front ++ back) ≡ 0
absent-rest front back n once = omega (arith, once, times-append n front (n ∷ back), times-append n front back, times-here n back)

-- an item became unused too
abbrev pub unused_too : ℕ → Around → Around
unused_too number around = record around { unused_items = number ∷ around.unused_items }

module _ {records : Records} (around : Around) {loose loose_shelves : List ℕ} where
  -- the item after another one was taken out of its shelf
  next_unlinked-linked : (shelf number next : ℕ) (front back free : List ℕ) → times next free ≡ 0 → IsLinkedExcept records (with_entry around (entry_of shelf (front ++ number ∷ next ∷ back) free)) loose loose_shelves → IsLinkedExcept (item_unlinked shelf next records) (with_entry around (entry_of shelf (front ++ number ∷ back) free)) (next ∷ loose) loose_shelves
  next_unlinked-linked shelf number next front back free absent linked =
      let regrouped : (zs : List ℕ) → (front ++ number ∷ []) ++ zs ≡ front ++ number ∷ zs = λ zs. append_assoc front (number ∷ []) zs in
      subst (λ (zs : List ℕ). IsLinkedExcept (item_unlinked shelf next records) (with_entry around (entry_of shelf zs free)) (next ∷ loose) loose_shelves) (regrouped back)
      (item_unlinked-linked around shelf next (front ++ number ∷ []) back free absent
      (subst (λ (zs : List ℕ). IsLinkedExcept records (with_entry around (entry_of shelf zs free)) loose loose_shelves) (sym (regrouped (next ∷ back))) linked))

-- an item took the place of the free one after it
pub free_absorbed-linked : {records : Records} (around : Around) (shelf number next width : ℕ) (front back free_front free_back : List ℕ) {loose loose_shelves : List ℕ} → IsLinkedExcept records (with_entry around (entry_of shelf (front ++ number ∷ next ∷ back) (free_front ++ next ∷ free_back))) loose loose_shelves → IsLinkedExcept (free_absorbed shelf number next width records) (with_entry (unused_too next around) (entry_of shelf (front ++ number ∷ back) (free_front ++ free_back))) loose loose_shelves
free_absorbed-linked {records} around shelf number next width front back free_front free_back {loose} linked =
    let items : List ℕ = front ++ number ∷ next ∷ back in
    let apart : IsApart records around loose (entry_of shelf items (free_front ++ next ∷ free_back)) = linked-apart around (entry_of shelf items (free_front ++ next ∷ free_back)) linked in
    item_changed-linked number (λ (item : LinkedItem). record item { width = width }) (keeps-width width)
    (item_made_unused-linked next
    (next_unlinked-linked around shelf number next front back (free_front ++ free_back) (absent-rest free_front free_back next (apart.free_once next))
    (free_unlinked-linked around shelf next items free_front free_back linked)))

-- a free item took the place of the allocated one after it
pub allocated_absorbed-linked : {records : Records} (around : Around) (shelf number next width : ℕ) (front back free : List ℕ) {loose loose_shelves : List ℕ} → times next free ≡ 0 → IsLinkedExcept records (with_entry around (entry_of shelf (front ++ number ∷ next ∷ back) free)) loose loose_shelves → IsLinkedExcept (allocated_absorbed shelf number next width records) (with_entry (unused_too next around) (entry_of shelf (front ++ number ∷ back) free)) loose loose_shelves
allocated_absorbed-linked around shelf number next width front back free absent linked =
    item_changed-linked number (λ (item : LinkedItem). record item { width = width }) (keeps-width width)
    (item_made_unused-linked next
    (item_changed-linked next (λ (item : LinkedItem). record item { allocated = false }) (keeps-allocated false)
    (next_unlinked-linked around shelf number next front back free absent linked)))

-- an allocated item became free
pub item_freed-linked : {records : Records} (around : Around) (shelf number : ℕ) (front back free : List ℕ) {loose loose_shelves : List ℕ} → times number free ≡ 0 → IsLinkedExcept records (with_entry around (entry_of shelf (front ++ number ∷ back) free)) loose loose_shelves → IsLinkedExcept (item_freed shelf number records) (with_entry around (entry_of shelf (front ++ number ∷ back) (number ∷ free))) loose loose_shelves
item_freed-linked around shelf number front back free absent linked =
    free_inserted_front-linked around shelf number (front ++ number ∷ back) free
    (omega (arith, times-append number front (number ∷ back), times-here number back)) absent
    (item_changed-linked number (λ (item : LinkedItem). record item { allocated = false }) (keeps-allocated false) linked)

-- an empty shelf took the place of the empty one after it
pub shelf_absorbed-linked : {records : Records} (around : Around) (entry : Entry) (next item height : ℕ) (free : List ℕ) {loose loose_shelves : List ℕ} → IsLinkedExcept records (with_entry (record around { after = entry_of next (item ∷ []) free ∷ around.after }) entry) loose loose_shelves → IsLinkedExcept (shelf_absorbed entry.number next item height records) (with_entry (record around { unused_items = item ∷ around.unused_items; unused_shelves = next ∷ around.unused_shelves }) entry) loose loose_shelves
shelf_absorbed-linked {records} around entry next item height free {loose} {loose_shelves} linked =
    let gone : Entry = entry_of next (item ∷ []) free in
    let regrouped : (zs : List Entry) → (around.before ++ entry ∷ []) ++ zs ≡ around.before ++ entry ∷ zs = λ zs. append_assoc around.before (entry ∷ []) zs in
    let out : IsLinkedExcept (shelf_unlinked next records) (with_entry around entry) (item ∷ loose) (next ∷ loose_shelves) =
    subst (λ (es : List Entry). IsLinkedExcept (shelf_unlinked next records) (lists_of es around.unused_items around.unused_shelves) (item ∷ loose) (next ∷ loose_shelves)) (regrouped around.after)
    (shelf_unlinked-linked (record around { before = around.before ++ entry ∷ [] }) gone
    (subst (λ (es : List Entry). IsLinkedExcept records (lists_of es around.unused_items around.unused_shelves) loose loose_shelves) (sym (regrouped (gone ∷ around.after))) linked)) in
    shelf_changed-linked entry.number (λ (here : LinkedShelf). record here { height = height }) (keeps-height height)
    (shelf_made_unused-linked next (item_made_unused-linked item out))

-- a free item was given whole
pub item_given-linked : {records : Records} (around : Around) (shelf number : ℕ) (items free_front free_back : List ℕ) {loose loose_shelves : List ℕ} → IsLinkedExcept records (with_entry around (entry_of shelf items (free_front ++ number ∷ free_back))) loose loose_shelves → IsLinkedExcept (item_given shelf number records) (with_entry around (entry_of shelf items (free_front ++ free_back))) loose loose_shelves
item_given-linked around shelf number items free_front free_back linked =
    item_changed-linked number (λ (item : LinkedItem). record item { allocated = true }) (keeps-allocated true)
    (free_unlinked-linked around shelf number items free_front free_back linked)

-- the front of a free item was given, and the rest, which stood in no list, took its place in the free list
pub front_given-linked : {records : Records} (around : Around) (shelf number rest width : ℕ) (front back free_front free_back : List ℕ) {loose loose_shelves : List ℕ} → IsLinkedExcept records (with_entry around (entry_of shelf (front ++ number ∷ back) (free_front ++ number ∷ free_back))) (rest ∷ loose) loose_shelves → IsLinkedExcept (front_given shelf number rest width records) (with_entry around (entry_of shelf (front ++ number ∷ rest ∷ back) (free_front ++ rest ∷ free_back))) loose loose_shelves
front_given-linked {records} around shelf number rest width front back free_front free_back {loose} linked =
    let more : List ℕ = front ++ number ∷ rest ∷ back in
    let free : List ℕ = free_front ++ number ∷ free_back in
    let entry : Entry = entry_of shelf (front ++ number ∷ back) free in
    let is : IsEntry records entry = Each-middle (IsEntry records) around.before entry around.after linked.entries in
    let absent : times rest free ≡ 0 = omega (arith, is.members rest, (linked-apart around entry linked).loose_items rest (omega (arith, times-here rest loose))) in
    item_changed-linked number (λ (item : LinkedItem). record item { width = width; allocated = true }) (keeps-given width)
    (free_unlinked-linked around shelf number more free_front (rest ∷ free_back)
    (free_inserted_after-linked around shelf rest number more free_front free_back
    (omega (arith, times-append rest front (number ∷ rest ∷ back), times-here rest back)) absent
    (item_inserted_after-linked around shelf rest number front back free linked)))
