-- What is allocated, by rising record numbers: what the records say, one after the other.
use Rattle.std.proofs.Common.{◌≡◌, ℕ, zero, suc, ◌+◌, ◌-◌, ◌*◌, ◌<◌, ◌≤◌, Bool, true, false, cond, Option, None, Some, List, [], ◌∷◌, ◌++◌, length, refl, ap, arith, sym, ◌∙◌, append-nil}
use Rattle.std.proofs.lemmas.Bool.{eq-eqb}
use Rattle.std.proofs.lemmas.List.Elements.{filter-append}
use Rattle.std.specs.List.{flat_map, range_with_len}
use Rattle.std.specs.Prelude.{◌%◌, ◌==◌, filter, find}
use Rattle.etagere_base.specs.Lists.{times}
use Rattle.etagere_base.specs.declared.frames.Frame.{Frame}
use Rattle.etagere_base.specs.declared.ids.Allocation.{Allocation}
use Rattle.shelf_records.specs.declared.records.LinkedItem.{LinkedItem}
use Rattle.shelf_records.specs.RecordLists.{Records, item_numbers, walked_lists}
use Rattle.etagere_links.specs.Edits.{field_at}
use Rattle.shelf_records.proofs.AllLists.LinkedUnused.{three-count}
use Rattle.etagere_links.proofs.ListEnds.{times-here}
use Rattle.shelf_records.specs.AtlasRecords.{is_allocated_at, item_at, spelled_item}
use Rattle.shelf_model.specs.Listing.{allocations_at, listed}
use Rattle.shelf_model.specs.Places.{allocation_of}
use Rattle.shelf_records.specs.Private.Kept.{AreKept, state_of}
use Rattle.shelf_records.specs.Private.Reading.{next_allocated, recorded_allocation, recorded_from, recorded_id, recorded_rectangle}
use Rattle.shelf_model.specs.Returning.{has_id}
use Rattle.shelf_records.proofs.Recorded.Members.{Each-member}
use Rattle.shelf_records.proofs.Recorded.RecordsOfIds.{kept-allocations, kept-within, numbered}
use Rattle.shelf_store.proofs.Spelled.ItemReturned.{allocated-id}
use Rattle.shelf_records.proofs.Spelled.StandsKept.{witnesses}

-- an item that is not marked allocated has no id
unmarked-free : (items : List LinkedItem) (label k : ℕ) → is_allocated_at items k ≡ false → (field_at (spelled_item label) (record { width = 0; id = None }) items k).id ≡ None
unmarked-free [] label k e = refl
unmarked-free (x ∷ xs) label zero e = ap (λ b. cond b (Some (label + 65536 * x.generation)) None) e
unmarked-free (x ∷ xs) label (suc k) e = unmarked-free xs label k e

module _ (frame : Frame) (records : Records) where
  -- the allocation of an item
  abbrev pub allocation : ℕ → Allocation
  allocation number = record { id = recorded_id records.items number; rectangle = recorded_rectangle frame records number }

  -- an item that is not marked allocates nothing
  unmarked-none : (k : ℕ) → is_allocated_at records.items k ≡ false → recorded_allocation frame records k ≡ []
  unmarked-none k e = ap (λ owner. allocation_of owner (recorded_rectangle frame records k)) (unmarked-free records.items k k e)

  -- an item that is marked allocates itself
  marked-one : (k : ℕ) → is_allocated_at records.items k ≡ true → recorded_allocation frame records k ≡ allocation k ∷ []
  marked-one k e = ap (λ owner. allocation_of owner (recorded_rectangle frame records k)) (allocated-id records.items k k e)

  -- the first that is marked among some numbers, and what is allocated after it
  pub record IsNext (from count number : ℕ) : Type 0 where
    pub within : number < from + count
    pub marked : is_allocated_at records.items number ≡ true
    pub first :
        flat_map (recorded_allocation frame records) (range_with_len from count)
        ≡ allocation number ∷ flat_map (recorded_allocation frame records) (range_with_len (number + 1) (from + count - (number + 1)))

  -- what is found first is next
  found-next : (from count number : ℕ) → find (is_allocated_at records.items) (range_with_len from count) ≡ Some number → IsNext from count number
  found-next from zero number found = absurd (cc)
  found-next from (suc count) number found = by_mark (is_allocated_at records.items from) refl found (λ rest. found-next (from + 1) count number rest)
    where
      by_mark : (b : Bool) → is_allocated_at records.items from ≡ b → cond b (Some from) (find (is_allocated_at records.items) (range_with_len (from + 1) count)) ≡ Some number
          → (find (is_allocated_at records.items) (range_with_len (from + 1) count) ≡ Some number → IsNext (from + 1) count number) → IsNext from (suc count) number
      by_mark true e is later =
          let same : from ≡ number = cc in
          let left : count ≡ from + suc count - (from + 1) = omega arith in
          record {
            within = omega (arith, same);
            marked = ap (is_allocated_at records.items) (sym same) ∙ e;
            first =
                ap (λ l. l ++ flat_map (recorded_allocation frame records) (range_with_len (from + 1) count)) (marked-one from e)
                ∙ ap (λ c. allocation from ∷ flat_map (recorded_allocation frame records) (range_with_len (from + 1) c)) left
                ∙ ap (λ k. allocation k ∷ flat_map (recorded_allocation frame records) (range_with_len (k + 1) (from + suc count - (k + 1)))) same;
          }
      by_mark false e is later =
          let rest : IsNext (from + 1) count number = later is in
          let moved : from + 1 + count ≡ from + suc count = omega arith in
          record {
            within = omega (arith, rest.within);
            marked = rest.marked;
            first =
                ap (λ l. l ++ flat_map (recorded_allocation frame records) (range_with_len (from + 1) count)) (unmarked-none from e)
                ∙ rest.first
                ∙ ap (λ total. allocation number ∷ flat_map (recorded_allocation frame records) (range_with_len (number + 1) (total - (number + 1)))) moved;
          }

  -- where none is found, nothing is allocated
  none-next : (from count : ℕ) → find (is_allocated_at records.items) (range_with_len from count) ≡ None → flat_map (recorded_allocation frame records) (range_with_len from count) ≡ []
  none-next from zero found = refl
  none-next from (suc count) found = by_mark (is_allocated_at records.items from) refl found (λ rest. none-next (from + 1) count rest)
    where
      by_mark : (b : Bool) → is_allocated_at records.items from ≡ b → cond b (Some from) (find (is_allocated_at records.items) (range_with_len (from + 1) count)) ≡ None
          → (find (is_allocated_at records.items) (range_with_len (from + 1) count) ≡ None → flat_map (recorded_allocation frame records) (range_with_len (from + 1) count) ≡ [])
          → flat_map (recorded_allocation frame records) (range_with_len from (suc count)) ≡ []
      by_mark true e is later = absurd (cc)
      by_mark false e is later =
          ap (λ l. l ++ flat_map (recorded_allocation frame records) (range_with_len (from + 1) count)) (unmarked-none from e) ∙ later is

  -- no more is allocated than there are numbers
  pub few-recorded : (from count : ℕ) → length (flat_map (recorded_allocation frame records) (range_with_len from count)) ≤ count
  few-recorded from zero = omega arith
  few-recorded from (suc count) = by_owner (item_at records.items from).id (few-recorded (from + 1) count)
    where
      by_owner : (owner : Option ℕ) → length (flat_map (recorded_allocation frame records) (range_with_len (from + 1) count)) ≤ count
          → length (allocation_of owner (recorded_rectangle frame records from) ++ flat_map (recorded_allocation frame records) (range_with_len (from + 1) count)) ≤ suc count
      by_owner None later = omega (arith, later)
      by_owner (Some id) later = omega (arith, later)

  -- what is next from a number on, and what is left after it
  pub record IsStep (from number : ℕ) : Type 0 where
    pub within : number < length records.items
    pub marked : is_allocated_at records.items number ≡ true
    pub first : recorded_from frame records from ≡ allocation number ∷ recorded_from frame records (number + 1)

  step-from : (from number : ℕ) → from ≤ length records.items → next_allocated records.items from ≡ Some number → IsStep from number
  step-from from number before found =
      let next : IsNext from (length records.items - from) number = found-next from (length records.items - from) number found in
      let total : from + (length records.items - from) ≡ length records.items = omega arith in
      record {
        within = omega (arith, next.within, total);
        marked = next.marked;
        first = next.first ∙ ap (λ t. allocation number ∷ flat_map (recorded_allocation frame records) (range_with_len (number + 1) (t - (number + 1)))) total;
      }

  -- the step that was found, or nothing is left
  pub step-found : (items : List LinkedItem) (from number : ℕ) → from ≤ length records.items → items ≡ records.items → Some number ≡ next_allocated items from → IsStep from number
  step-found items from number before same found = step-from from number before (ap (λ is. next_allocated is from) (sym same) ∙ sym found)

  pub none-found : (items : List LinkedItem) (from : ℕ) → items ≡ records.items → None ≡ next_allocated items from → recorded_from frame records from ≡ []
  none-found items from same found = none-next from (length records.items - from) (ap (λ is. next_allocated is from) (sym same) ∙ sym found)

  -- past the last record nothing is left
  pub end-from : (from : ℕ) → from ≡ length records.items → recorded_from frame records from ≡ []
  end-from from past =
      let none : length records.items - from ≡ 0 = omega arith in
      ap (λ count. flat_map (recorded_allocation frame records) (range_with_len from count)) none

  -- what an item allocates has its number
  numbered-allocations : (number k : ℕ) → k < 65536 → filter (λ a. a.id % 65536 == number) (recorded_allocation frame records k) ≡ cond (k == number) (recorded_allocation frame records k) []
  numbered-allocations number k small = by_owner (item_at records.items k).id refl
    where
      by_owner : (owner : Option ℕ) → (item_at records.items k).id ≡ owner
          → filter (λ a. a.id % 65536 == number) (allocation_of owner (recorded_rectangle frame records k)) ≡ cond (k == number) (allocation_of owner (recorded_rectangle frame records k)) []
      by_owner None is = none (k == number) []
        where
          none : (b : Bool) (l : List Allocation) → l ≡ cond b l l
          none true l = refl
          none false l = refl
      by_owner (Some id) is =
          let has : has_id id (item_at records.items k).id ≡ true = ap (has_id id) is ∙ eq-eqb id id refl in
          let at : id % 65536 ≡ k = numbered records.items k id small has in
          ap (λ n. cond (n == number) (record { id = id; rectangle = recorded_rectangle frame records k } ∷ []) []) at

  -- among what items allocate of which each stands once, the allocation of one number is that item's
  numbered-among : (number : ℕ) (numbers : List ℕ) → ((k : ℕ) → 1 ≤ times k numbers → k < 65536) → times number numbers ≤ 1
      → filter (λ a. a.id % 65536 == number) (flat_map (recorded_allocation frame records) numbers) ≡ cond (times number numbers == 0) [] (recorded_allocation frame records number)
  numbered-among number [] small once = refl
  numbered-among number (k ∷ ks) small once =
      filter-append (λ a. a.id % 65536 == number) (recorded_allocation frame records k) (flat_map (recorded_allocation frame records) ks)
      ∙ ap (λ l. l ++ filter (λ a. a.id % 65536 == number) (flat_map (recorded_allocation frame records) ks)) (numbered-allocations number k (small k (omega (arith, times-here k ks))))
      ∙ ap (λ l. cond (k == number) (recorded_allocation frame records k) [] ++ l) (numbered-among number ks (λ j stands. small j (omega (arith, stands))) (omega (arith, once)))
      ∙ by_test (k == number) refl
    where
      by_test : (b : Bool) → (k == number) ≡ b
          → cond b (recorded_allocation frame records k) [] ++ cond (times number ks == 0) [] (recorded_allocation frame records number) ≡ cond (cond b 1 0 + times number ks == 0) [] (recorded_allocation frame records number)
      by_test true e =
          let same : k ≡ number = grind arith in
          let none : times number ks ≡ 0 = grind (arith, once) in
          rw (same, none) (append-nil (recorded_allocation frame records number))
      by_test false e = let zero_more : 0 + times number ks ≡ times number ks = omega arith in rw zero_more refl

-- an item that is not marked is passed
pub next-passed : (items : List LinkedItem) (from : ℕ) → from < length items → is_allocated_at items from ≡ false → next_allocated items from ≡ next_allocated items (from + 1)
next-passed items from within fails =
    let left : length items - from ≡ suc (length items - (from + 1)) = omega arith in
    ap (λ count. find (is_allocated_at items) (range_with_len from count)) left
    ∙ ap (λ b. cond b (Some from) (next_allocated items (from + 1))) fails

-- two functions that agree on numbers list the same
flat_map-range : {X : Type 0} (f g : ℕ → List X) (from count : ℕ) → ((k : ℕ) → k < from + count → f k ≡ g k) → flat_map f (range_with_len from count) ≡ flat_map g (range_with_len from count)
flat_map-range f g from zero agree = refl
flat_map-range f g from (suc count) agree =
    ap (λ l. l ++ flat_map f (range_with_len (from + 1) count)) (agree from (omega arith))
    ∙ ap (λ l. g from ++ l) (flat_map-range f g (from + 1) count (λ k below. agree k (omega (arith, below))))

-- in records that keep every rule, what is allocated by a number is what its item allocates
kept-at : (frame : Frame) (records : Records) (number : ℕ) → AreKept frame records → number < length records.items → allocations_at (state_of frame records) number ≡ recorded_allocation frame records number
kept-at frame records number kept within =
    let numbers : List ℕ = item_numbers (walked_lists records).entries in
    let unused : List ℕ = (walked_lists records).unused_items in
    let all : times number numbers + times number unused ≡ 1 = grind (arith, (witnesses kept).linked.items_once number, three-count numbers unused [] number) in
    ap (filter (λ a. a.id % 65536 == number)) (kept-allocations frame records kept)
    ∙ numbered-among frame records number numbers (λ k stands. omega (arith, kept-within frame records k kept stands, (witnesses kept).counts.items.1)) (omega (arith, all))
    ∙ by_count (times number numbers) refl
  where
    by_count : (n : ℕ) → times number (item_numbers (walked_lists records).entries) ≡ n → cond (n == 0) [] (recorded_allocation frame records number) ≡ recorded_allocation frame records number
    by_count zero e =
        let all : times number (item_numbers (walked_lists records).entries) + times number (walked_lists records).unused_items ≡ 1 =
        grind (arith, (witnesses kept).linked.items_once number, three-count (item_numbers (walked_lists records).entries) (walked_lists records).unused_items [] number) in
        let free : is_allocated_at records.items number ≡ false =
        Each-member (λ item. is_allocated_at records.items item ≡ false) (walked_lists records).unused_items number (witnesses kept).unused (omega (arith, all, e)) in
        sym (unmarked-none frame records number free)
    by_count (suc n) e =
        let some : (suc n == 0) ≡ false = grind arith in
        ap (λ b. cond b [] (recorded_allocation frame records number)) some

-- in records that keep every rule, what is allocated by rising numbers is what the items allocate, one after the other
pub kept-listed : (frame : Frame) (records : Records) → AreKept frame records → recorded_from frame records 0 ≡ listed (state_of frame records)
kept-listed frame records kept =
    let all : length records.items - 0 ≡ length records.items = omega arith in
    ap (λ count. flat_map (recorded_allocation frame records) (range_with_len 0 count)) all
    ∙ flat_map-range (recorded_allocation frame records) (allocations_at (state_of frame records)) 0 (length records.items)
    (λ k below. sym (kept-at frame records k kept (omega (arith, below))))
