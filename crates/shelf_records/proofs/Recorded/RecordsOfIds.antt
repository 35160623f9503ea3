-- In records that keep every rule an id names one record, by one look: that of the item that is allocated under it.
use Rattle.std.proofs.Common.{◌≡◌, ◌≢◌, ℕ, zero, suc, ◌+◌, ◌<◌, ◌≤◌, Bool, true, false, cond, Option, None, Some, List, [], ◌∷◌, ◌++◌, length, get_or, refl, ap, arith, sym, ◌∙◌}
use Rattle.std.proofs.lemmas.Bool.{eq-eqb, eqb-true}
use Rattle.std.specs.List.{AllByRecursion, flat_map}
use Rattle.std.specs.Option.{option_map_or}
use Rattle.std.specs.Prelude.{◌*◌, ◌%◌, ◌==◌, find, is_some, option_map, slice_get, if◌then◌else◌}
use Rattle.etagere_base.specs.Lists.{times}
use Rattle.etagere_base.specs.Places.{rectangle_at}
use Rattle.etagere_base.specs.declared.frames.Frame.{Frame}
use Rattle.etagere_base.specs.declared.geometry.Rectangle.{Rectangle}
use Rattle.etagere_base.specs.declared.ids.Allocation.{Allocation}
use Rattle.etagere_base.proofs.EachLemmas.{Each-middle}
use Rattle.etagere_base.proofs.FirstPlace.{is_some-map}
use Rattle.etagere_base.proofs.TimesLemmas.{times-append}
use Rattle.shelf_records.specs.declared.records.LinkedItem.{LinkedItem}
use Rattle.shelf_records.specs.declared.records.LinkedShelf.{LinkedShelf}
use Rattle.etagere_links.specs.Lists.{HasEachOnce}
use Rattle.shelf_records.specs.RecordLists.{Records, item_numbers, shelf_numbers, walked_lists}
use Rattle.etagere_links.specs.Edits.{field_at}
use Rattle.shelf_records.proofs.AllLists.LinkedUnused.{three-count}
use Rattle.etagere_links.proofs.WalkedLists.{once-part}
use Rattle.shelf_records.proofs.AllLists.LinkedFrames.{shelf_numbers-append}
use Rattle.etagere_links.proofs.ListEnds.{times-here, times-other}
use Rattle.shelf_records.specs.AtlasRecords.{across_of, height_of, is_allocated_at, item_at, item_place_of, shelf_of, spelled_item}
use Rattle.shelf_model.specs.Places.{allocation_of, allocations, is_allocated, rectangle_of}
use Rattle.shelf_records.specs.Private.Kept.{AreKept, atlas_of, state_of}
use Rattle.shelf_records.proofs.Spelled.Witnessed.{IsPlaced}
use Rattle.shelf_records.specs.Private.Reading.{record_of, recorded_allocation, recorded_rectangle}
use Rattle.shelf_model.specs.Returning.{has_id}
use Rattle.shelf_model.specs.State.{Item}
use Rattle.shelf_records.proofs.Recorded.Members.{Each-member, StandsIn, stands_in}
use Rattle.shelf_records.proofs.Recorded.RecordedAllocations.{after-recorded}
use Rattle.shelf_records.proofs.Spelled.StandsKept.{witnesses}

-- what is allocated, record by record
pub kept-allocations : (frame : Frame) (records : Records) → AreKept frame records
    → allocations (state_of frame records) ≡ flat_map (recorded_allocation frame records) (item_numbers (walked_lists records).entries)
kept-allocations frame records kept =
    after-recorded (atlas_of frame records) [] (walked_lists records).entries (witnesses kept).valid.frame.column_width (witnesses kept).placed (witnesses kept).stacked

module _ (owner : ℕ → Option ℕ) (area : ℕ → Rectangle) (id : ℕ) where
  -- what the items of these numbers allocate
  abbrev listed : List ℕ → List Allocation
  listed numbers = flat_map (λ n. allocation_of (owner n) (area n)) numbers

  -- the first one by this id, where it is the only one
  found-listed : (number : ℕ) (numbers : List ℕ) → owner number ≡ Some id → ((k : ℕ) → 1 ≤ times k numbers → has_id id (owner k) ≡ true → k ≡ number) → 1 ≤ times number numbers
      → find (λ allocation. allocation.id == id) (listed numbers) ≡ Some (record { id = id; rectangle = area number })
  found-listed number [] own only stands = absurd (omega (arith, stands))
  found-listed number (n ∷ ns) own only stands =
      by_owner (owner n) refl
      (λ other. found-listed number ns own (λ k among. only k (omega (arith, among))) (omega (arith, stands, times-other number n ns other)))
    where
      by_test : (holder : ℕ) (b : Bool) → owner n ≡ Some holder → (holder == id) ≡ b
          → (n ≢ number → find (λ allocation. allocation.id == id) (listed ns) ≡ Some (record { id = id; rectangle = area number }))
          → cond b (Some (record { id = holder; rectangle = area n })) (find (λ allocation. allocation.id == id) (listed ns)) ≡ Some (record { id = id; rectangle = area number })
      by_test holder true is e later =
          let same : holder ≡ id = eqb-true holder id e in
          let test : has_id id (owner n) ≡ true = rw is e in
          let at : n ≡ number = only n (omega (arith, times-here n ns)) test in
          ap (λ i. Some (record { id = i; rectangle = area n })) same ∙ ap (λ m. Some (record { id = id; rectangle = area m })) at
      by_test holder false is e later =
          later (λ same.
          let holds : Some holder ≡ Some id = sym is ∙ ap owner same ∙ own in
          let equal : holder ≡ id = cc in
          let contrary : (holder == id) ≡ true = eq-eqb holder id equal in
          cc)

      by_owner : (o : Option ℕ) → owner n ≡ o
          → (n ≢ number → find (λ allocation. allocation.id == id) (listed ns) ≡ Some (record { id = id; rectangle = area number }))
          → find (λ allocation. allocation.id == id) (allocation_of o (area n) ++ listed ns) ≡ Some (record { id = id; rectangle = area number })
      by_owner None is later = later (λ same. let holds : None ≡ Some id = sym is ∙ ap owner same ∙ own in cc)
      by_owner (Some holder) is later = by_test holder (holder == id) is refl later

  -- nothing is found by an id that none has
  none-listed : (numbers : List ℕ) → ((k : ℕ) → 1 ≤ times k numbers → has_id id (owner k) ≡ false) → find (λ allocation. allocation.id == id) (listed numbers) ≡ None
  none-listed [] none = refl
  none-listed (n ∷ ns) none =
      by_owner (owner n) (none n (omega (arith, times-here n ns))) (none-listed ns (λ k stands. none k (omega (arith, stands))))
    where
      by_owner : (o : Option ℕ) → has_id id o ≡ false → find (λ allocation. allocation.id == id) (listed ns) ≡ None → find (λ allocation. allocation.id == id) (allocation_of o (area n) ++ listed ns) ≡ None
      by_owner None e later = later
      by_owner (Some holder) e later = rw e later

-- an id that is the item's of a number is that number modulo 65536
pub numbered : (items : List LinkedItem) (k id : ℕ) → k < 65536 → has_id id (item_at items k).id ≡ true → id % 65536 ≡ k
numbered items k id small has = by_item (slice_get items k) has
  where
    by_mark : (generation : ℕ) (b : Bool) → has_id id (cond b (Some (k + 65536 * generation)) None) ≡ true → id % 65536 ≡ k
    by_mark generation true h = let same : k + 65536 * generation ≡ id = eqb-true _ _ h in omega (arith, same, small)
    by_mark generation false h = absurd (cc)

    by_item : (o : Option LinkedItem) → has_id id (option_map_or (spelled_item k) o (record { width = 0; id = None })).id ≡ true → id % 65536 ≡ k
    by_item None h = absurd (cc)
    by_item (Some item) h = by_mark item.generation item.allocated h

-- an item that has an id is marked allocated
has-marked : (items : List LinkedItem) (label k id : ℕ) → has_id id (field_at (spelled_item label) (record { width = 0; id = None }) items k).id ≡ true → is_allocated_at items k ≡ true
has-marked [] label k id has = absurd (cc)
has-marked (x ∷ xs) label zero id has = by_mark x.generation x.allocated has
  where
    by_mark : (generation : ℕ) (b : Bool) → has_id id (cond b (Some (label + 65536 * generation)) None) ≡ true → b ≡ true
    by_mark generation true h = refl
    by_mark generation false h = absurd (cc)
has-marked (x ∷ xs) label (suc k) id has = has-marked xs label k id has

-- what is marked allocated is a record
pub marked-within : (items : List LinkedItem) (k : ℕ) → is_allocated_at items k ≡ true → k < length items
marked-within [] k marked = absurd (cc)
marked-within (x ∷ xs) zero marked = omega arith
marked-within (x ∷ xs) (suc k) marked = omega (arith, marked-within xs k marked)

-- an item that is marked allocated is no unused record
in_use : (items : List LinkedItem) (used unused : List ℕ) (number : ℕ) → HasEachOnce (length items) (used ++ unused ++ []) → AllByRecursion (λ item. is_allocated_at items item ≡ false) unused → is_allocated_at items number ≡ true → 1 ≤ times number used
in_use items used unused number once free marked = by_count (times number unused) refl
  where
    by_count : (n : ℕ) → times number unused ≡ n → 1 ≤ times number used
    by_count zero e =
        let within : number < length items = marked-within items number marked in
        let all : times number (used ++ unused ++ []) ≡ 1 = grind (arith, once number) in
        omega (arith, e, all, three-count used unused [] number)
    by_count (suc n) e =
        let contrary : is_allocated_at items number ≡ false = Each-member (λ item. is_allocated_at items item ≡ false) unused number free (omega (arith, e)) in
        absurd (cc)

-- an item that is marked allocated stands in a shelf
marked-stands : (frame : Frame) (records : Records) (number : ℕ) → AreKept frame records → is_allocated_at records.items number ≡ true → StandsIn number (walked_lists records).entries
marked-stands frame records number kept marked =
    stands_in number (walked_lists records).entries
    (in_use records.items (item_numbers (walked_lists records).entries) (walked_lists records).unused_items number (witnesses kept).linked.items_once (witnesses kept).unused marked)

-- the items of the shelves are records
pub kept-within : (frame : Frame) (records : Records) (number : ℕ) → AreKept frame records → 1 ≤ times number (item_numbers (walked_lists records).entries) → number < length records.items
kept-within frame records number kept stands =
    (once-part (length records.items) (item_numbers (walked_lists records).entries ++ (walked_lists records).unused_items ++ []) number
    (times number (item_numbers (walked_lists records).entries)) (witnesses kept).linked.items_once
    (omega (arith, three-count (item_numbers (walked_lists records).entries) (walked_lists records).unused_items [] number))).1 stands

-- an id that an item has is the item's
owner-is : (id : ℕ) (owner : Option ℕ) → has_id id owner ≡ true → owner ≡ Some id
owner-is id None has = absurd (cc)
owner-is id (Some owner) has = ap Some (eqb-true owner id has)

-- the rectangle that is allocated under an id is that of its record
pub kept-rectangle : (frame : Frame) (records : Records) (id : ℕ) → AreKept frame records
    → rectangle_of (state_of frame records) id ≡ option_map (recorded_rectangle frame records) (record_of records.items id)
kept-rectangle frame records id kept = by_test (has_id id (owner (id % 65536))) refl
  where
    owner : ℕ → Option ℕ
    owner n = (item_at records.items n).id

    numbers : List ℕ
    numbers = item_numbers (walked_lists records).entries

    small : (k : ℕ) → 1 ≤ times k numbers → k < 65536
    small k stands = omega (arith, kept-within frame records k kept stands, (witnesses kept).counts.items.1)

    read : (o : Option Allocation) → find (λ allocation. allocation.id == id) (flat_map (recorded_allocation frame records) numbers) ≡ o → rectangle_of (state_of frame records) id ≡ option_map (λ allocation. allocation.rectangle) o
    read o e =
        ap (λ l. option_map (λ (allocation : Allocation). allocation.rectangle) (find (λ (allocation : Allocation). allocation.id == id) l)) (kept-allocations frame records kept)
        ∙ ap (option_map (λ (allocation : Allocation). allocation.rectangle)) e

    by_test : (b : Bool) → has_id id (owner (id % 65536)) ≡ b → rectangle_of (state_of frame records) id ≡ option_map (recorded_rectangle frame records) (cond b (Some (id % 65536)) None)
    by_test true e =
        let stands : 1 ≤ times (id % 65536) numbers =
        in_use records.items numbers (walked_lists records).unused_items (id % 65536) (witnesses kept).linked.items_once (witnesses kept).unused (has-marked records.items (id % 65536) (id % 65536) id e) in
        read (Some (record { id = id; rectangle = recorded_rectangle frame records (id % 65536) }))
        (found-listed owner (recorded_rectangle frame records) id (id % 65536) numbers (owner-is id (owner (id % 65536)) e)
        (λ k among has. sym (numbered records.items k id (small k among) has)) stands)
    by_test false e =
        let none : (k : ℕ) (b : Bool) → 1 ≤ times k numbers → has_id id (owner k) ≡ b → b ≡ false = λ k. by_holder k in
        read None (none-listed owner (recorded_rectangle frame records) id numbers (λ k among. none k (has_id id (owner k)) among refl))
      where
        by_holder : (k : ℕ) (b : Bool) → 1 ≤ times k numbers → has_id id (owner k) ≡ b → b ≡ false
        by_holder k true among has =
            let at : id % 65536 ≡ k = numbered records.items k id (small k among) has in
            let again : has_id id (owner (id % 65536)) ≡ true = rw at has in
            absurd (cc)
        by_holder k false among has = refl

-- an id is allocated exactly where a record is
pub kept-allocated : (frame : Frame) (records : Records) (id : ℕ) → AreKept frame records → is_allocated (state_of frame records) id ≡ is_some (record_of records.items id)
kept-allocated frame records id kept = ap is_some (kept-rectangle frame records id kept) ∙ is_some-map (recorded_rectangle frame records) (record_of records.items id)

-- the number of the record that is allocated under an id
pub kept-index : (frame : Frame) (records : Records) (id : ℕ) → AreKept frame records
    → record_of records.items id ≡ (if is_allocated (state_of frame records) id then Some (id % 65536) else None)
kept-index frame records id kept =
    by_test (has_id id (item_at records.items (id % 65536)).id) ∙ ap (λ b. if b then Some (id % 65536) else None) (sym (kept-allocated frame records id kept))
  where
    by_test : (b : Bool) → cond b (Some (id % 65536)) None ≡ cond (is_some (cond b (Some (id % 65536)) None)) (Some (id % 65536)) None
    by_test true = refl
    by_test false = refl

-- the record that an id names is marked allocated
pub record-marked : (items : List LinkedItem) (id number : ℕ) → record_of items id ≡ Some number → (is_allocated_at items number ≡ true) × (number ≡ id % 65536)
record-marked items id number names = by_test (has_id id (item_at items (id % 65536)).id) refl names
  where
    by_test : (b : Bool) → has_id id (item_at items (id % 65536)).id ≡ b → cond b (Some (id % 65536)) None ≡ Some number → (is_allocated_at items number ≡ true) × (number ≡ id % 65536)
    by_test true e h =
        let same : id % 65536 ≡ number = cc in
        (rw (← same) (has-marked items (id % 65536) (id % 65536) id e), sym same)
    by_test false e h = absurd (cc)

-- the shelves in use are records
kept-shelf_within : (frame : Frame) (records : Records) (number : ℕ) → AreKept frame records → 1 ≤ times number (shelf_numbers (walked_lists records).entries) → number < length records.shelves
kept-shelf_within frame records number kept stands =
    (once-part (length records.shelves) (shelf_numbers (walked_lists records).entries ++ (walked_lists records).unused_shelves ++ []) number
    (times number (shelf_numbers (walked_lists records).entries)) (witnesses kept).linked.shelves_once
    (omega (arith, three-count (shelf_numbers (walked_lists records).entries) (walked_lists records).unused_shelves [] number))).1 stands

-- the shelf that an item names that is marked allocated is a record
pub kept-shelf : (frame : Frame) (records : Records) (number : ℕ) → AreKept frame records → is_allocated_at records.items number ≡ true → shelf_of records.items number < length records.shelves
kept-shelf frame records number kept marked =
    let stands : StandsIn number (walked_lists records).entries = marked-stands frame records number kept marked in
    let placed : AllByRecursion (IsPlaced (atlas_of frame records)) (stands.before ++ stands.entry ∷ stands.after) = rw (← stands.whole) (witnesses kept).placed in
    let owners : AllByRecursion (λ item. shelf_of records.items item ≡ stands.entry.number) (stands.items.front ++ number ∷ stands.items.back) =
    rw (← stands.items.whole) (Each-middle (IsPlaced (atlas_of frame records)) stands.before stands.entry stands.after placed).owners in
    let names : shelf_of records.items number ≡ stands.entry.number =
    Each-middle (λ item. shelf_of records.items item ≡ stands.entry.number) stands.items.front number stands.items.back owners in
    let numbers : shelf_numbers (walked_lists records).entries ≡ shelf_numbers stands.before ++ stands.entry.number ∷ shelf_numbers stands.after =
    ap shelf_numbers stands.whole ∙ shelf_numbers-append stands.before (stands.entry ∷ stands.after) in
    let among : 1 ≤ times stands.entry.number (shelf_numbers (walked_lists records).entries) =
    rw numbers (omega (arith, times-append stands.entry.number (shelf_numbers stands.before) (stands.entry.number ∷ shelf_numbers stands.after), times-here stands.entry.number (shelf_numbers stands.after))) in
    rw names (kept-shelf_within frame records stands.entry.number kept among)

-- a field of a record that was read
pub field_at-read : {T X : Type 0} (field : T → X) (other : X) (xs : List T) (k : ℕ) (x : T) → k < length xs → x ≡ get_or xs k x → field_at field other xs k ≡ field x
field_at-read field other [] k x within read = absurd (omega arith)
field_at-read field other (y ∷ ys) zero x within read = ap field (sym read)
field_at-read field other (y ∷ ys) (suc k) x within read = field_at-read field other ys k x (omega arith) read

-- where an item lies whose record was read, and that of the shelf that it names
pub rectangle-read : (frame : Frame) (records : Records) (number at : ℕ) (item : LinkedItem) (shelf : LinkedShelf) → number < length records.items → item ≡ get_or records.items number item → at ≡ item.shelf → at < length records.shelves → shelf ≡ get_or records.shelves at shelf
    → rectangle_at frame item.x shelf.y item.width shelf.height ≡ recorded_rectangle frame records number
rectangle-read frame records number at item shelf within read names shelf_within shelf_read =
    let place : item_place_of records.items number ≡ item.x = field_at-read (λ (x : LinkedItem). x.x) 0 records.items number item within read in
    let named : shelf_of records.items number ≡ at = field_at-read (λ (x : LinkedItem). x.shelf) 0 records.items number item within read ∙ sym names in
    let whole : item_at records.items number ≡ spelled_item number item = field_at-read (spelled_item number) (record { width = 0; id = None }) records.items number item within read in
    let across : across_of records.shelves at ≡ shelf.y = field_at-read (λ (x : LinkedShelf). x.y) 0 records.shelves at shelf shelf_within shelf_read in
    let height : height_of records.shelves at ≡ shelf.height = field_at-read (λ (x : LinkedShelf). x.height) 0 records.shelves at shelf shelf_within shelf_read in
    sym (
    ap (λ s. rectangle_at frame (item_place_of records.items number) (across_of records.shelves s) (item_at records.items number).width (height_of records.shelves s)) named
    ∙ ap (λ p. rectangle_at frame p (across_of records.shelves at) (item_at records.items number).width (height_of records.shelves at)) place
    ∙ ap (λ a. rectangle_at frame item.x a (item_at records.items number).width (height_of records.shelves at)) across
    ∙ ap (λ (i : Item). rectangle_at frame item.x shelf.y i.width (height_of records.shelves at)) whole
    ∙ ap (λ h. rectangle_at frame item.x shelf.y item.width h) height
    )
