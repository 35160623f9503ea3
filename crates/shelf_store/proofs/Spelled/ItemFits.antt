-- What a return adds up of the widths of items fits 16 bits, and all that it reads of them is there.
use Rattle.shelf_records.proofs.AllLists.LinkedEdits.{Around, with_entry}
use Rattle.std.proofs.Common.{◌≡◌, ◌≢◌, ℕ, ◌+◌, ◌≤◌, Bool, true, false, ◌==◌, None, Some, List, [], ◌∷◌, ◌++◌, refl, ap, subst, arith, sym, ◌∙◌}
use Rattle.etagere_base.proofs.TimesLemmas.{times-other}
use Rattle.etagere_base.specs.Frames.{IsFrame}
use Rattle.etagere_base.proofs.EachLemmas.{Each-middle}
use Rattle.etagere_base.proofs.FrameSides.{column_width-le, sides_low}
use Rattle.etagere_base.specs.Lists.{times}
use Rattle.shelf_records.proofs.AllLists.LinkedItems.{entry_of}
use Rattle.shelf_records.specs.declared.records.LinkedItem.{LinkedItem}
use Rattle.etagere_links.specs.Edits.{link_at}
use Rattle.shelf_records.specs.ListEnds.{first_or, last_or}
use Rattle.shelf_records.specs.RecordLists.{Entry, IsEntry, first_item_of}
use Rattle.shelf_records.specs.Records.{item_chain}
use Rattle.shelf_records.proofs.Chains.{next-is, previous-is}
use Rattle.shelf_records.proofs.ListEnds.{first-stands, last-stands-in}
use Rattle.shelf_records.specs.AtlasRecords.{AtlasRecords, is_allocated_at, spelled_shelf, width_of}
use Rattle.shelf_store.specs.Private.ItemReturned.{CanMergeItem, Step, free_next, next_absorbed}
use Rattle.shelf_model.specs.State.{total_width}
use Rattle.shelf_model.specs.Valid.{IsShelf}
use Rattle.shelf_records.proofs.Spelled.EntryValues.{widths}
use Rattle.shelf_store.proofs.Spelled.ItemMerged.{wide-items}
use Rattle.shelf_store.proofs.Spelled.ItemsAround.{widths-append, widths-total}
use Rattle.shelf_store.proofs.Spelled.NeighboursThere.{free-next-there, named-is, are-there}
use Rattle.shelf_store.proofs.Spelled.NextMerged.{MergesNext, merges-next}
use Rattle.shelf_store.proofs.Spelled.SpelledLists.{IsSpelled}

-- a member of a list is no wider than all
member-width : (items : List LinkedItem) (xs : List ℕ) (n : ℕ) → 1 ≤ times n xs → width_of items n ≤ widths items xs
member-width items [] n stands = absurd (omega (arith, stands))
member-width items (x ∷ xs) n stands = by_test (x == n) refl (member-width items xs n)
  where
    by_test : (b : Bool) → (x == n) ≡ b → (1 ≤ times n xs → width_of items n ≤ widths items xs) → width_of items n ≤ widths items (x ∷ xs)
    by_test true e later = let same : x ≡ n = grind arith in subst (λ (m : ℕ). width_of items m ≤ widths items (x ∷ xs)) same (omega arith)
    by_test false e later = let other : x ≢ n = grind arith in omega (arith, later (omega (arith, stands, times-other n x xs other)))

-- what freeing an item and merging it adds up fits 16 bits, and all that it reads is there
pub can-merge-item : {atlas : AtlasRecords} (around : Around) (shelf number : ℕ) (front back free : List ℕ) → IsFrame 65535 atlas.frame → IsShelf atlas.frame (spelled_shelf atlas (entry_of shelf (front ++ number ∷ back) free)) → is_allocated_at atlas.records.items number ≡ true → IsSpelled atlas (with_entry around (entry_of shelf (front ++ number ∷ back) free)) → CanMergeItem shelf number atlas.records
can-merge-item {atlas} around shelf number front back free is_frame valid allocated spelled =
    let items : List LinkedItem = atlas.records.items in
    let entry : Entry = entry_of shelf (front ++ number ∷ back) free in
    let one : Step = next_absorbed shelf number (free_next items number) atlas.records in
    let new : List LinkedItem = one.records.items in
    let next : MergesNext atlas one around shelf number front back free =
    merges-next around shelf number front back free (wide-items atlas shelf (front ++ number ∷ back) free valid) allocated spelled in
    let is : IsEntry atlas.records entry = Each-middle (IsEntry atlas.records) around.before entry around.after spelled.linked.entries in
    let later : Entry = entry_of shelf (front ++ number ∷ next.rest) next.free_list in
    let still : IsEntry one.records later = Each-middle (IsEntry one.records) around.before later around.after next.spelled.linked.entries in
    let low : widths items front + (width_of items number + widths items back) ≤ 65535 =
    omega (
      arith,
      widths-append items front (number ∷ back),
      widths-total items (front ++ number ∷ back),
      valid.width,
      column_width-le 65535 atlas.frame is_frame,
      (sides_low 65535 atlas.frame is_frame).0,
    ) in
    let front_width : widths new front ≡ widths items front = sym (widths-total new front) ∙ ap total_width next.front_same ∙ widths-total items front in
    record {
      here = are-there atlas.records around shelf number front back free spelled.linked;
      after = free-next-there around shelf number front back free spelled;
      next = λ n e.
          let first : first_or None back ≡ Some n =
          sym (next-is (link_at item_chain.next items) front back number (first_item_of atlas.records.shelves shelf) None is.items.forward) ∙ (named-is items (link_at item_chain.next items number) n e).0 in
          omega (arith, low, member-width items back n (first-stands back n first));
      absorbed = are-there one.records (record around { unused_items = next.left_unused }) shelf number front next.rest next.free_list next.spelled.linked;
      previous = λ n e.
          let last : last_or None front ≡ Some n =
          sym (previous-is (link_at item_chain.previous new) front next.rest number None still.items.backward) ∙ (named-is new (link_at item_chain.previous new number) n e).0 in
          omega (arith, low, next.wide, front_width, member-width new front n (last-stands-in front n last));
    }
