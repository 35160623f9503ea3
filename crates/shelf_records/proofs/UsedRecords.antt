-- Records put to use: there are no fewer, and room for all that are wanted is room for each.
use Rattle.std.proofs.Common.{◌≡◌, ℕ, ◌+◌, ◌≤◌, Bool, true, false, Option, None, Some, List, [], ◌∷◌, length, length-append, refl, arith, if◌then◌else◌}
use Rattle.shelf_records.specs.declared.records.LinkedItem.{LinkedItem}
use Rattle.etagere_links.specs.Edits.{link_at}
use Rattle.shelf_records.specs.Records.{item_chain}
use Rattle.shelf_records.specs.RecordUses.{missing, unused_after, new_item, used_again, items_used}
use Rattle.etagere_links.proofs.RecordChanges.{length-changed_by}

-- putting one to use leaves no fewer records
pub used-length : (wanted : Bool) (unused : Option ℕ) (items : List LinkedItem) → length items ≤ length (items_used wanted unused items)
used-length false unused items = omega arith
used-length true None items = omega (arith, length-append items (new_item ∷ []))
used-length true (Some number) items = omega (arith, length-changed_by used_again items (Some number))

-- how many are missing to put one to use does not turn on the records
one-missing : (unused : Option ℕ) (items new : List LinkedItem) → missing item_chain 1 unused new ≡ missing item_chain 1 unused items
one-missing None items new = refl
one-missing (Some number) items new = refl

-- room for all that are missing is room for the others once one was put to use
pub used-room : (of_shelf of_item : Bool) (unused : Option ℕ) (items : List LinkedItem) (capacity : ℕ) → length items + missing item_chain ((if of_shelf then 1 else 0) + (if of_item then 1 else 0)) unused items ≤ capacity → length (items_used of_shelf unused items) + missing item_chain (if of_item then 1 else 0) (unused_after item_chain of_shelf unused items) (items_used of_shelf unused items) ≤ capacity
used-room false false unused items capacity room = room
used-room false true unused items capacity room = room
used-room true false None items capacity room = omega (arith, room, length-append items (new_item ∷ []))
used-room true true None items capacity room = omega (arith, room, length-append items (new_item ∷ []))
used-room true false (Some number) items capacity room = omega (arith, room, length-changed_by used_again items (Some number))
used-room true true (Some number) items capacity room =
    omega (arith, room, length-changed_by used_again items (Some number), one-missing (link_at item_chain.next items number) items (items_used true (Some number) items))
