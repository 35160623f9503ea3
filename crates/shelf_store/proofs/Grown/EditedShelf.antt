-- Half grown records, after the items of one shelf were edited: it spells another shelf, and the others what they did.
use Rattle.std.proofs.Common.{◌≡◌, ℕ, ◌+◌, ◌-◌, ◌<◌, ◌≤◌, false, List, [], ◌∷◌, ◌++◌, length, ap, arith, sym, ◌∙◌}
use Rattle.etagere_base.specs.declared.frames.Frame.{Frame}
use Rattle.std.specs.List.{AllByRecursion}
use Rattle.etagere_base.specs.Lists.{times}
use Rattle.etagere_base.proofs.EachLemmas.{Each-append, Each-back, Each-front, Each-middle}
use Rattle.shelf_records.specs.RecordLists.{Entry, IsEntry, IsLinkedExcept, item_numbers, shelf_numbers}
use Rattle.shelf_records.proofs.AllLists.LinkedEdits.{same-numbers}
use Rattle.shelf_records.proofs.AllLists.LinkedUnused.{lists_of}
use Rattle.shelf_records.specs.AtlasRecords.{AtlasRecords, is_allocated_at, is_empty_at, spelled_shelf}
use Rattle.shelf_records.specs.Private.Kept.{bare}
use Rattle.shelf_records.proofs.Spelled.Witnessed.{HasFlag, IsPlaced}
use Rattle.shelf_store.specs.Private.RecordsGrown.{Growing}
use Rattle.shelf_model.specs.State.{Shelf, is_empty}
use Rattle.shelf_store.proofs.Grown.HalfGrown.{IsGrowing, shelves_spelled}
use Rattle.shelf_store.proofs.Grown.MadeLinked.{numbers_from}
use Rattle.shelf_records.proofs.Spelled.RecordValues.{SameItem, SameShelf}
use Rattle.shelf_store.proofs.Spelled.StackedEdits.{stacked-same}
use Rattle.shelf_store.proofs.Spelled.SpelledUses.{SameEntries, same-entries}
use Rattle.shelf_store.proofs.Spelled.ReturnedLengths.{counts-same}

-- an edit of the items of one shelf, after which it spells this one: what other records say stays, and so many item
-- records are still to be put to use
pub record EditsShelf (frame : Frame) (old : ℕ) (growing edits : Growing) (before after : List Entry) (entry edited : Entry) (unused_items unused_shelves : List ℕ) (items shelves : ℕ) (shelf : Shelf) : Type 0 where
  pub number : edited.number ≡ entry.number
  pub linked : IsLinkedExcept edits.records (lists_of (before ++ edited ∷ after) unused_items unused_shelves)
      (numbers_from edits.made.item (items - length unused_items) ++ [])
      (numbers_from edits.made.shelf (shelves - length unused_shelves) ++ [])
  pub placed : IsPlaced (bare frame edits.records) edited
  pub own : spelled_shelf (bare frame edits.records) edited ≡ shelf
  pub flag : is_empty shelf ≡ is_empty (spelled_shelf (bare frame growing.records) entry)
  pub others : (k : ℕ) → 1 ≤ times k (item_numbers before) + times k (item_numbers after) → SameItem growing.records.items edits.records.items k
  pub same : (k : ℕ) → SameShelf growing.records.shelves edits.records.shelves k
  pub unused : AllByRecursion (λ item. is_allocated_at edits.records.items item ≡ false) unused_items
  pub as_many : length edits.records.items ≡ length growing.records.items
  pub as_many_shelves : length edits.records.shelves ≡ length growing.records.shelves
  pub used_up : old < length growing.records.items → length unused_items ≤ items

-- half grown records of which one shelf spells this one now, and the others what they did
pub record HasEdited (frame : Frame) (old : ℕ) (growing edits : Growing) (before after : List Entry) (entry : Entry) (unused_shelves : List ℕ) (items shelves : ℕ) (shelf : Shelf) : Type 0 where
  pub edited : Entry
  pub unused_items : List ℕ
  pub is : IsGrowing frame old edits (before ++ edited ∷ after) unused_items unused_shelves items shelves
  pub number : edited.number ≡ entry.number
  pub front : shelves_spelled frame edits.records before ≡ shelves_spelled frame growing.records before
  pub own : spelled_shelf (bare frame edits.records) edited ≡ shelf
  pub back : shelves_spelled frame edits.records after ≡ shelves_spelled frame growing.records after

-- the records after an edit of one shelf's items
pub shelf-edited : {frame : Frame} {old : ℕ} {growing edits : Growing} {before after : List Entry} {entry edited : Entry} {unused_items now_unused unused_shelves : List ℕ} {items now_items shelves : ℕ} {shelf : Shelf}
    → IsGrowing frame old growing (before ++ entry ∷ after) unused_items unused_shelves items shelves
    → EditsShelf frame old growing edits before after entry edited now_unused unused_shelves now_items shelves shelf
    → HasEdited frame old growing edits before after entry unused_shelves now_items shelves shelf
shelf-edited {frame} {old} {growing} {edits} {before} {after} {entry} {edited} {unused_items} {now_unused} {unused_shelves} {items} {now_items} {shelves} {shelf} is does =
    let atlas : AtlasRecords = bare frame growing.records in
    let new : AtlasRecords = bare frame edits.records in
    let front : SameEntries atlas edits.records before =
    same-entries atlas edits.records before (λ k stands. does.same k) (λ k stands. does.others k (omega (arith, stands)))
    (Each-front (IsEntry growing.records) before (entry ∷ after) is.spelled.linked.entries) in
    let back : SameEntries atlas edits.records after =
    same-entries atlas edits.records after (λ k stands. does.same k) (λ k stands. does.others k (omega (arith, stands)))
    (Each-back (IsEntry growing.records) before (entry ∷ after) is.spelled.linked.entries).1 in
    let numbers : shelf_numbers (before ++ edited ∷ after) ≡ shelf_numbers (before ++ entry ∷ after) = same-numbers before after entry edited does.number in
    record {
      edited = edited;
      unused_items = now_unused;
      is = record {
        spelled = record {
          linked = does.linked;
          placed = Each-append (IsPlaced new) before (edited ∷ after)
              (front.placed (Each-front (IsPlaced atlas) before (entry ∷ after) is.spelled.placed))
              (does.placed, back.placed (Each-back (IsPlaced atlas) before (entry ∷ after) is.spelled.placed).1);
          stacked = rw numbers
              (stacked-same growing.records.shelves edits.records.shelves frame.column_width does.same (shelf_numbers (before ++ entry ∷ after)) is.spelled.stacked);
          unused = does.unused;
        };
        flags = Each-append (HasFlag new) before (edited ∷ after)
            (front.flags (Each-front (HasFlag atlas) before (entry ∷ after) is.flags)) (
              ap (is_empty_at edits.records.shelves) does.number
                  ∙ (does.same entry.number).is_empty
                  ∙ Each-middle (HasFlag atlas) before entry after is.flags
                  ∙ sym does.flag
                  ∙ ap is_empty (sym does.own),
              back.flags (Each-back (HasFlag atlas) before (entry ∷ after) is.flags).1,
            );
        counts = counts-same atlas new (record { items = does.as_many; shelves = does.as_many_shelves }) is.counts;
        more = omega (arith, is.more, does.as_many);
        used_up = λ made. does.used_up (omega (arith, made, does.as_many));
      };
      number = does.number;
      front = front.spelled;
      own = does.own;
      back = back.spelled;
    }
