-- Linked records stay linked where the lists of one shelf change.
use Rattle.std.proofs.Common.{◌≡◌, ◌≢◌, ℕ, ◌+◌, ◌<◌, ◌≤◌, Some, List, [], ◌∷◌, ◌++◌, length, ap, arith, sym, ◌∙◌}
use Rattle.std.specs.Prelude.{slice_get}
use Rattle.etagere_base.proofs.EachLemmas.{Each-append, Each-front, Each-back, Each-middle}
use Rattle.etagere_base.proofs.TimesLemmas.{times-append}
use Rattle.std.specs.List.{AllByRecursion}
use Rattle.etagere_base.specs.Lists.{times}
use Rattle.shelf_records.specs.RecordLists.{Records, Entry, Lists, shelf_numbers, item_numbers, IsEntry, IsLinkedExcept}
use Rattle.shelf_records.specs.Records.{item_chain, shelf_chain}
use Rattle.shelf_records.proofs.FirstLinks.{SameChain}
use Rattle.shelf_records.proofs.AllLists.LinkedFrames.{chain-same, list-frame, list-same, entries-frame, item_numbers-append, shelf_numbers-append}
use Rattle.etagere_links.proofs.ListEnds.{times-here}
use Rattle.etagere_links.proofs.WalkedLists.{once-part}

-- a shelf's place among all lists: the shelves before and after it, and what became unused
pub record Around : Type 0 where
  pub before : List Entry
  pub after : List Entry
  pub unused_items : List ℕ
  pub unused_shelves : List ℕ

abbrev pub around_of : List Entry → List Entry → List ℕ → List ℕ → Around
around_of before after unused_items unused_shelves =
    record { before = before; after = after; unused_items = unused_items; unused_shelves = unused_shelves }

-- all lists, with this shelf at that place
abbrev pub with_entry : Around → Entry → Lists
with_entry around entry =
    record { entries = around.before ++ entry ∷ around.after; unused_items = around.unused_items; unused_shelves = around.unused_shelves }

-- what is apart in linked records: a shelf's items from those of the others, and it from the other shelves
pub record IsApart (records : Records) (around : Around) (loose : List ℕ) (entry_ : Entry) : Type 0 where
  pub once : (k : ℕ) → times k entry_.items ≤ 1
  pub within : (k : ℕ) → 1 ≤ times k entry_.items → k < length records.items
  pub free_once : (k : ℕ) → times k entry_.free_list ≤ 1
  pub free_within : (k : ℕ) → 1 ≤ times k entry_.free_list → k < length records.items
  pub loose_within : (k : ℕ) → 1 ≤ times k loose → k < length records.items
  pub others : (k : ℕ) → 1 ≤ times k (item_numbers around.before) + times k (item_numbers around.after) + times k around.unused_items → times k entry_.items + times k loose ≡ 0
  pub loose_items : (k : ℕ) → 1 ≤ times k loose → times k entry_.items ≡ 0
  pub number : entry_.number < length records.shelves
  pub numbers : (k : ℕ) → 1 ≤ times k (shelf_numbers around.before) + times k (shelf_numbers around.after) → Some entry_.number ≢ Some k

-- the records where one shelf's lists were edited: items elsewhere stay, and none is lost
pub record EditsEntry (records new : Records) (loose loose' : List ℕ) (entry edited : Entry) : Type 0 where
  pub number : edited.number ≡ entry.number
  pub items : (k : ℕ) → times k entry.items + times k loose ≡ 0 → slice_get new.items k ≡ slice_get records.items k
  pub item_count : length new.items ≡ length records.items
  pub shelves : SameChain records.shelves new.shelves entry.number
  pub first_shelf : new.first_shelf ≡ records.first_shelf
  pub unused_items : new.unused_items ≡ records.unused_items
  pub unused_shelves : new.unused_shelves ≡ records.unused_shelves
  pub lists : IsEntry new edited
  pub members : (k : ℕ) → times k edited.items + times k loose' ≡ times k entry.items + times k loose

-- how often an item stands in all lists, by where
items-count : (around : Around) (entry : Entry) (loose : List ℕ) (k : ℕ) → times k (item_numbers (around.before ++ entry ∷ around.after) ++ around.unused_items ++ loose) ≡ times k entry.items + times k loose + (times k (item_numbers around.before) + times k (item_numbers around.after) + times k around.unused_items)
items-count around entry loose k =
    let entries : List Entry = around.before ++ entry ∷ around.after in
    omega (arith, times-append k (item_numbers entries ++ around.unused_items) loose, times-append k (item_numbers entries) around.unused_items, item_numbers-append around.before (entry ∷ around.after) k, times-append k entry.items (item_numbers around.after))

-- how often a shelf stands in all lists
shelves-count : (around : Around) (entry : Entry) (loose : List ℕ) (k : ℕ) → times k (shelf_numbers (around.before ++ entry ∷ around.after) ++ around.unused_shelves ++ loose) ≡ times k (entry.number ∷ []) + (times k (shelf_numbers around.before) + times k (shelf_numbers around.after)) + times k around.unused_shelves + times k loose
shelves-count around entry loose k =
    let numbers : List ℕ = shelf_numbers around.before ++ shelf_numbers (entry ∷ around.after) in
    rw (shelf_numbers-append around.before (entry ∷ around.after)) (omega (arith, times-append k (numbers ++ around.unused_shelves) loose, times-append k numbers around.unused_shelves, times-append k (shelf_numbers around.before) (shelf_numbers (entry ∷ around.after))))

-- the numbers of the shelves where one was edited
pub same-numbers : (before after : List Entry) (entry edited : Entry) → edited.number ≡ entry.number → shelf_numbers (before ++ edited ∷ after) ≡ shelf_numbers (before ++ entry ∷ after)
same-numbers before after entry edited same =
    shelf_numbers-append before (edited ∷ after)
    ∙ ap (λ n. shelf_numbers before ++ n ∷ shelf_numbers after) same
    ∙ sym (shelf_numbers-append before (entry ∷ after))

module _ {records : Records} (around : Around) (entry : Entry) {loose loose_shelves : List ℕ} (linked : IsLinkedExcept records (with_entry around entry) loose loose_shelves) where
  -- linked records are apart
  pub linked-apart : IsApart records around loose entry
  linked-apart =
      let all : List ℕ = item_numbers (around.before ++ entry ∷ around.after) ++ around.unused_items ++ loose in
      let all_shelves : List ℕ = shelf_numbers (around.before ++ entry ∷ around.after) ++ around.unused_shelves ++ loose_shelves in
      let count : (k : ℕ) → times k all ≡ times k entry.items + times k loose + (times k (item_numbers around.before) + times k (item_numbers around.after) + times k around.unused_items) = items-count around entry loose in
      let shelf_count : (k : ℕ) → times k all_shelves ≡ times k (entry.number ∷ []) + (times k (shelf_numbers around.before) + times k (shelf_numbers around.after)) + times k around.unused_shelves + times k loose_shelves = shelves-count around entry loose_shelves in
      let members : (k : ℕ) → times k entry.free_list ≤ times k entry.items = (Each-middle (IsEntry records) around.before entry around.after linked.entries).members in
      let part : (k p : ℕ) → p ≤ times k all → (p ≤ 1) × (1 ≤ p → k < length records.items) = λ k p less. once-part (length records.items) all k p linked.items_once less in
      record {
        once = λ k. (part k (times k entry.items) (omega (arith, count k))).0;
        within = λ k. (part k (times k entry.items) (omega (arith, count k))).1;
        free_once = λ k. (part k (times k entry.free_list) (omega (arith, count k, members k))).0;
        free_within = λ k. (part k (times k entry.free_list) (omega (arith, count k, members k))).1;
        loose_within = λ k. (part k (times k loose) (omega (arith, count k))).1;
        others = λ k stands. let most : times k all ≤ 1 = (part k (times k all) (omega arith)).0 in omega (arith, most, count k, stands);
        loose_items = λ k stands. let most : times k all ≤ 1 = (part k (times k all) (omega arith)).0 in omega (arith, most, count k, stands);
        number = (once-part (length records.shelves) all_shelves entry.number (times entry.number (entry.number ∷ [])) linked.shelves_once (omega (arith, shelf_count entry.number))).1 (omega (arith, times-here entry.number []));
        numbers = λ k stands e.
            let same : entry.number ≡ k = cc in
            let here : times k (entry.number ∷ []) ≡ 1 = rw same (times-here k []) in
            let most : times k all_shelves ≤ 1 = (once-part (length records.shelves) all_shelves k (times k all_shelves) linked.shelves_once (omega arith)).0 in
            omega (arith, most, here, shelf_count k, stands);
      }

  -- the lists of one shelf were edited
  pub entry-edited : (new : Records) (edited : Entry) (loose' : List ℕ) → EditsEntry records new loose loose' entry edited → IsLinkedExcept new (with_entry around edited) loose' loose_shelves
  entry-edited new edited loose' edits =
      let before : List Entry = around.before in
      let after : List Entry = around.after in
      let numbers : shelf_numbers (before ++ edited ∷ after) ≡ shelf_numbers (before ++ entry ∷ after) = same-numbers before after entry edited edits.number in
      let frame : (es : List Entry) → ((k : ℕ) → times k (item_numbers es) ≤ times k (item_numbers before) + times k (item_numbers after)) → ((k : ℕ) → times k (shelf_numbers es) ≤ times k (shelf_numbers before) + times k (shelf_numbers after)) → AllByRecursion (IsEntry records) es → AllByRecursion (IsEntry new) es =
      λ es fewer fewer_shelves are. entries-frame records new es
      (λ k stands. edits.items k (linked-apart.others k (omega (arith, fewer k, stands))))
      (λ k stands. edits.shelves.firsts k (linked-apart.numbers k (omega (arith, fewer_shelves k, stands)))) are in
      record {
        shelves = rw (numbers, edits.first_shelf) (chain-same shelf_chain records.shelves new.shelves records.first_shelf (shelf_numbers (before ++ entry ∷ after)) edits.shelves.next edits.shelves.previous linked.shelves);
        entries = Each-append (IsEntry new) before (edited ∷ after)
            (frame before (λ k. omega arith) (λ k. omega arith) (Each-front (IsEntry records) before (entry ∷ after) linked.entries))
            (edits.lists, frame after (λ k. omega arith) (λ k. omega arith) (Each-back (IsEntry records) before (entry ∷ after) linked.entries).1);
        unused_items = rw edits.unused_items (list-frame item_chain records.items new.items records.unused_items around.unused_items (λ k stands. edits.items k (linked-apart.others k (omega (arith, stands)))) linked.unused_items);
        unused_shelves = rw edits.unused_shelves (list-same shelf_chain records.shelves new.shelves records.unused_shelves around.unused_shelves edits.shelves.next linked.unused_shelves);
        shelves_once = rw (numbers, edits.shelves.count) linked.shelves_once;
        items_once = λ k.
            let same : times k (item_numbers (before ++ edited ∷ after) ++ around.unused_items ++ loose') ≡ times k (item_numbers (before ++ entry ∷ after) ++ around.unused_items ++ loose) = omega (arith, edits.members k, items-count around edited loose' k, items-count around entry loose k) in
            rw edits.item_count (same ∙ linked.items_once k);
      }
