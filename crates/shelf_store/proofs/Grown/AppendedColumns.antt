-- Columns are appended after the last shelf, half way through a grow: what the records spell then.
use Rattle.std.proofs.Common.{◌≡◌, ℕ, zero, suc, ◌+◌, ◌-◌, ◌*◌, ◌/◌, ◌<◌, ◌≤◌, Option, None, Some, List, [], ◌∷◌, ◌++◌, length, refl, ap, append_assoc, append-nil, sym, subst, ◌∙◌, arith, false}
use Rattle.std.proofs.lemmas.List.{length-map}
use Rattle.std.specs.Prelude.{◌==◌}
use Rattle.etagere_base.specs.declared.frames.Frame.{Frame}
use Rattle.etagere_base.specs.Frames.{across_side}
use Rattle.std.specs.List.{AllByRecursion}
use Rattle.etagere_base.proofs.EachLemmas.{Each-append, Each-weaken}
use Rattle.etagere_links.specs.Chains.{Leads}
use Rattle.etagere_links.specs.Edits.{link_at}
use Rattle.shelf_records.proofs.AllLists.LinkedItems.{entry_of}
use Rattle.shelf_records.specs.RecordLists.{Entry, IsLinkedExcept, Records, shelf_numbers}
use Rattle.shelf_records.specs.Records.{shelf_chain}
use Rattle.shelf_records.proofs.AllLists.LinkedFrames.{shelf_numbers-append}
use Rattle.shelf_records.proofs.AllLists.LinkedUnused.{lists_of}
use Rattle.shelf_records.proofs.AllLists.LinkedUses.{but_first}
use Rattle.shelf_records.specs.AtlasRecords.{along_of, spelled_shelf}
use Rattle.shelf_model.specs.Fresh.{empty_columns}
use Rattle.shelf_records.specs.Private.Kept.{bare}
use Rattle.shelf_store.specs.Private.RecordsGrown.{CanAppend, CanInsert, Growing, after_item, columns_added, columns_appended, last_shelf, next_shelf, shelf_inserted}
use Rattle.shelf_records.specs.StandsFor.{height_before}
use Rattle.shelf_model.specs.State.{Shelf, empty_shelf}
use Rattle.shelf_store.proofs.Grown.CountedRecords.{last-leads, last_of}
use Rattle.shelf_store.proofs.Grown.HalfGrown.{Appends, HasGrown, HasInserted, IsGrowing, growing-as, grown-as, shelves_spelled}
use Rattle.shelf_store.proofs.Grown.InsertedShelves.{inserts}
use Rattle.shelf_store.proofs.Spelled.KeptCounts.{shelf_numbers-length, shelves-few}

-- a list by its last element
record HasLast {X : Type 0} (xs : List X) : Type 0 where
  front : List X
  last : X
  is : xs ≡ front ++ last ∷ []

-- a list that is not empty has one
with-last : {X : Type 0} (xs : List X) → 1 ≤ length xs → HasLast xs
with-last [] some = absurd (omega (arith, some))
with-last (x ∷ []) some = record { front = []; last = x; is = refl }
with-last {X} (x ∷ y ∷ ys) some =
    let rest : HasLast (y ∷ ys) = with-last (y ∷ ys) (omega arith) in
    record { front = x ∷ rest.front; last = rest.last; is = ap (λ (l : List X). x ∷ l) rest.is }

-- the last of a list that ends with a number is that number
last_of-append : (x : ℕ) (xs : List ℕ) (y : ℕ) → last_of x (xs ++ y ∷ []) ≡ y
last_of-append x [] y = refl
last_of-append x (z ∷ zs) y = last_of-append z zs y

-- links lead to the last of the shelves that they spell
last-spelled : (records : Records) (front : List ℕ) (y : ℕ) → Leads (link_at shelf_chain.next records.shelves) records.first_shelf (front ++ y ∷ []) None
    → length (front ++ y ∷ []) ≤ length records.shelves → last_shelf records ≡ Some y
last-spelled records [] y leads few =
    rw leads.0 (ap (λ (n : ℕ). Some n) (last-leads shelf_chain.next records.shelves (length records.shelves) y [] leads.1 (omega arith)))
last-spelled records (z ∷ zs) y leads few =
    rw leads.0
    (ap (λ (n : ℕ). Some n) (last-leads shelf_chain.next records.shelves (length records.shelves) z (zs ++ y ∷ []) leads.1 (omega (arith, few)) ∙ last_of-append z zs y))

-- the last shelf is that of the last entry
last-entry : {records : Records} (before : List Entry) (entry : Entry) {unused_items unused_shelves loose loose_shelves : List ℕ}
    → IsLinkedExcept records (lists_of (before ++ entry ∷ []) unused_items unused_shelves) loose loose_shelves → last_shelf records ≡ Some entry.number
last-entry {records} before entry linked =
    let numbers : shelf_numbers (before ++ entry ∷ []) ≡ shelf_numbers before ++ entry.number ∷ [] = shelf_numbers-append before (entry ∷ []) in
    last-spelled records (shelf_numbers before) entry.number
    (subst (λ (ns : List ℕ). Leads (link_at shelf_chain.next records.shelves) records.first_shelf ns None) numbers linked.shelves.forward)
    (omega (arith, ap length numbers, shelf_numbers-length (before ++ entry ∷ []), shelves-few linked))

-- shelves that stand in columns before one don't count for it
height-none : (frame : Frame) (records : Records) (column : ℕ) (entries : List Entry) → AllByRecursion (λ (shelf : Shelf). shelf.column < column) (shelves_spelled frame records entries)
    → height_before records.shelves frame.column_width column (shelf_numbers entries) ≡ 0
height-none frame records column [] below = refl
height-none frame records column (entry ∷ entries) below =
    let less : along_of records.shelves entry.number / frame.column_width < column = below.0 in
    let test : (along_of records.shelves entry.number / frame.column_width == column) ≡ false = grind arith in
    let rest : height_before records.shelves frame.column_width column (shelf_numbers entries) ≡ 0 = height-none frame records column entries below.1 in
    rw (test, rest) refl

-- an entry put after the last one
put-last : (before : List Entry) (entry added : Entry) → before ++ entry ∷ added ∷ [] ≡ (before ++ entry ∷ []) ++ added ∷ []
put-last before entry added = sym (append_assoc before (entry ∷ []) (added ∷ []))

-- one column more
one-more : (frame : Frame) (first count : ℕ) (shelves new : List Shelf) → new ≡ shelves ++ empty_shelf frame first (across_side frame) ∷ []
    → new ++ empty_columns frame (first + 1) count ≡ shelves ++ empty_columns frame first (suc count)
one-more frame first count shelves new is =
    let beyond : first + 1 ≡ suc first = omega arith in
    rw is (append_assoc shelves (empty_shelf frame first (across_side frame) ∷ []) (empty_columns frame (first + 1) count)
    ∙ ap (λ (n : ℕ). shelves ++ empty_shelf frame first (across_side frame) ∷ empty_columns frame n count) beyond)

-- all shelves stand before the column after it
all-below : (frame : Frame) (first : ℕ) (shelves new : List Shelf) → new ≡ shelves ++ empty_shelf frame first (across_side frame) ∷ []
    → AllByRecursion (λ (shelf : Shelf). shelf.column < first) shelves → AllByRecursion (λ (shelf : Shelf). shelf.column < first + 1) new
all-below frame first shelves new is below =
    rw is
    (Each-append (λ (shelf : Shelf). shelf.column < first + 1) shelves (empty_shelf frame first (across_side frame) ∷ [])
    (Each-weaken (λ (shelf : Shelf). shelf.column < first) (λ (shelf : Shelf). shelf.column < first + 1) shelves (λ shelf less. omega (arith, less)) below)
    (omega arith, tt))

-- so many columns from one on are appended
columns-appended : (grown : Frame) (old : ℕ) → 1 ≤ grown.column_width → (count : ℕ) (growing : Growing) (before : List Entry) (entry : Entry) (unused_items unused_shelves : List ℕ) (first items more : ℕ)
    → IsGrowing grown old growing (before ++ entry ∷ []) unused_items unused_shelves (count + items) (count + more)
    → AllByRecursion (λ (shelf : Shelf). shelf.column < first) (shelves_spelled grown growing.records (before ++ entry ∷ []))
    → CanAppend grown count entry.number first growing
    × HasGrown grown old (columns_appended grown count entry.number first growing)
    (shelves_spelled grown growing.records (before ++ entry ∷ []) ++ empty_columns grown first count) items more
columns-appended grown old wide zero growing before entry unused_items unused_shelves first items more is below =
    let entries : List Entry = before ++ entry ∷ [] in (
      tt,
      record {
        entries = entries;
        unused_items = unused_items;
        unused_shelves = unused_shelves;
        is = growing-as is refl (omega arith) (omega arith);
        spelled = sym (append-nil (shelves_spelled grown growing.records entries));
      },
    )
columns-appended grown old wide (suc count) growing before entry unused_items unused_shelves first items more is below =
    let entries : List Entry = before ++ entry ∷ [] in
    let width : ℕ = grown.column_width in
    let tall : ℕ = across_side grown in
    let old_shelves : List Shelf = shelves_spelled grown growing.records entries in
    let next : Growing = shelf_inserted width entry.number (first * width) 0 tall growing in
    let both : CanInsert entry.number growing × HasInserted grown old growing before [] entry unused_items unused_shelves (count + items) (count + more) first (first * width) 0 tall =
    inserts grown old growing before [] entry unused_items unused_shelves (count + items) (count + more) first (first * width) 0 tall
    (growing-as is refl (omega arith) (omega arith))
    wide refl (sym (height-none grown growing.records first entries below)) tt in
    let added : Entry = entry_of (next_shelf (after_item growing)) (both.1.item ∷ []) (both.1.item ∷ []) in
    let longer : before ++ entry ∷ added ∷ [] ≡ entries ++ added ∷ [] = put-last before entry added in
    let spelled : shelves_spelled grown next.records (entries ++ added ∷ []) ≡ old_shelves ++ empty_shelf grown first tall ∷ [] = rw (← longer) both.1.spelled in
    let rest = columns-appended grown old wide count next entries added (but_first unused_items) (but_first unused_shelves) (first + 1) items more
    (growing-as both.1.is longer refl refl)
    (all-below grown first old_shelves (shelves_spelled grown next.records (entries ++ added ∷ [])) spelled below) in (
      (both.0, rest.0),
      grown-as rest.1 (one-more grown first count old_shelves (shelves_spelled grown next.records (entries ++ added ∷ [])) spelled) refl refl,
    )

-- the columns that a frame has more are appended after the last shelf
pub appends : Appends
appends grown old growing shelves first items more wide fits some below has =
    let count : ℕ = grown.columns - first in
    let same : shelves_spelled grown growing.records has.entries ≡ shelves = has.spelled in
    let many : length has.entries ≡ length shelves = sym (length-map has.entries (spelled_shelf (bare grown growing.records))) ∙ ap (λ (ss : List Shelf). length ss) same in
    let by_last : HasLast has.entries = with-last has.entries (omega (arith, some, many)) in
    let before : List Entry = by_last.front in
    let entry : Entry = by_last.last in
    let is : IsGrowing grown old growing (before ++ entry ∷ []) has.unused_items has.unused_shelves (count + items) (count + more) =
    subst (λ (es : List Entry). IsGrowing grown old growing es has.unused_items has.unused_shelves (count + items) (count + more)) by_last.is has.is in
    let spelled : shelves_spelled grown growing.records (before ++ entry ∷ []) ≡ shelves =
    ap (λ (es : List Entry). shelves_spelled grown growing.records es) (sym by_last.is) ∙ same in
    let last : last_shelf growing.records ≡ Some entry.number =
    last-entry before entry is.spelled.linked in
    let both = columns-appended grown old wide count growing before entry has.unused_items has.unused_shelves first items more is
    (subst (λ (ss : List Shelf). AllByRecursion (λ (shelf : Shelf). shelf.column < first) ss) (sym spelled) below) in (
      λ number e. let equal : entry.number ≡ number = cc in subst (λ (n : ℕ). CanAppend grown count n first growing) equal both.0,
      subst (λ (at : Option ℕ). HasGrown grown old (columns_added grown first at growing) (shelves ++ empty_columns grown first count) items more) (sym last)
          (grown-as both.1 (ap (λ (ss : List Shelf). ss ++ empty_columns grown first count) spelled) refl refl),
    )
