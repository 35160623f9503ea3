-- Kept records with those that a grow makes ahead: in the grown frame they spell what they spelled, and what it needs
-- waits to be put to use.
use Rattle.std.proofs.Common.{◌≡◌, ℕ, zero, suc, ◌+◌, ◌-◌, ◌*◌, ◌<◌, ◌≤◌, false, None, List, [], ◌∷◌, ◌++◌, length, length-append, map, refl, ap, ◌∙◌, sym, subst, arith, ⊎_elim}
use Rattle.std.proofs.Math.Nat.{zero-div, zero-mod, zero-mul}
use Rattle.std.proofs.lemmas.Bool.{cases_lt}
use Rattle.std.specs.Prelude.{◌/◌, ◌%◌}
use Rattle.etagere_base.specs.declared.frames.Frame.{Frame}
use Rattle.etagere_base.specs.declared.geometry.Size.{Size}
use Rattle.std.specs.List.{AllByRecursion}
use Rattle.etagere_base.proofs.AlignedPlaces.{multiple}
use Rattle.etagere_base.proofs.EachLemmas.{Each-append, Each-weaken}
use Rattle.shelf_records.specs.declared.records.LinkedItem.{LinkedItem}
use Rattle.shelf_records.specs.declared.records.LinkedShelf.{LinkedShelf}
use Rattle.shelf_records.specs.RecordLists.{Entry, Records, shelf_numbers, walked_lists}
use Rattle.shelf_records.specs.RecordMaking.{with_new_items, with_new_shelves}
use Rattle.shelf_records.specs.RecordUses.{missing, new_item, new_shelf}
use Rattle.shelf_records.specs.Records.{item_chain, shelf_chain}
use Rattle.shelf_records.proofs.AllLists.LinkedUnused.{lists_of}
use Rattle.shelf_store.specs.declared.growing.Needed.{Needed}
use Rattle.shelf_records.specs.AtlasRecords.{along_of, height_of, item_at, item_place_of, spelled_item, spelled_shelf}
use Rattle.shelf_model.specs.Growing.{grow_fault, grown_column_width, grown_frame}
use Rattle.shelf_records.specs.Private.Kept.{AreKept, atlas_of, bare, state_of}
use Rattle.shelf_records.proofs.Spelled.Witnessed.{HasFlag, IsPlaced}
use Rattle.shelf_store.specs.Private.RecordsGrown.{needed_of, with_missing}
use Rattle.shelf_records.specs.StandsFor.{AreStacked, HasCounts, height_before}
use Rattle.shelf_model.specs.State.{Shelf, items_in_use}
use Rattle.shelf_model.specs.Valid.{IsShelf}
use Rattle.shelf_store.proofs.Grown.CountedRecords.{needed-counted}
use Rattle.shelf_model.proofs.Grown.GrownFrames.{Fits, GrowsFrame, frame-grows, grow-fits}
use Rattle.shelf_store.proofs.Grown.HalfGrown.{HasGrown}
use Rattle.shelf_store.proofs.Grown.MadeLinked.{numbers_from, records-made}
use Rattle.shelf_records.proofs.MissingRecords.{missing-counted}
use Rattle.shelf_store.proofs.Spelled.ItemLocated.{in-use-counted}
use Rattle.shelf_records.proofs.Spelled.RecordValues.{SameItem, SameItem-then, SameShelf, SameShelf-then, item-same}
use Rattle.shelf_store.proofs.Spelled.SpelledLists.{IsSpelledExcept}
use Rattle.shelf_store.proofs.Spelled.StackedEdits.{stacked-same}
use Rattle.shelf_store.proofs.Spelled.SpelledMerges.{unmarked-same}
use Rattle.shelf_store.proofs.Spelled.SpelledUses.{SameEntries, field_at-made, same-entries, same-shelf, shelves-used}
use Rattle.shelf_store.proofs.Spelled.TakenReady.{each-length, shelves-few}
use Rattle.shelf_records.proofs.Spelled.StandsKept.{witnesses}

module _ (frame grown : Frame) (records : Records) where
  -- a shelf stands in the same column of both frames
  record StandsAlike (number : ℕ) : Type 0 where
    column : along_of records.shelves number / grown.column_width ≡ along_of records.shelves number / frame.column_width
    along : along_of records.shelves number % grown.column_width ≡ 0

  -- such shelves are placed as before
  placed-alike : (entries : List Entry) → AllByRecursion StandsAlike (shelf_numbers entries) → AllByRecursion (IsPlaced (atlas_of frame records)) entries
      → AllByRecursion (IsPlaced (bare grown records)) entries
  placed-alike [] alike placed = tt
  placed-alike (entry ∷ entries) alike placed = (
    record { owners = placed.0.owners; along = alike.0.along; places = placed.0.places; free_list = placed.0.free_list },
    placed-alike entries alike.1 placed.1,
  )

  -- the heights of each column are those before
  heights-alike : (column : ℕ) (numbers : List ℕ) → AllByRecursion StandsAlike numbers
      → height_before records.shelves grown.column_width column numbers ≡ height_before records.shelves frame.column_width column numbers
  heights-alike column [] alike = refl
  heights-alike column (n ∷ ns) alike = rw (alike.0.column, heights-alike column ns alike.1) refl

  -- so that each shelf begins across where it did
  stacked-alike : (before numbers : List ℕ) → AllByRecursion StandsAlike before → AllByRecursion StandsAlike numbers → AreStacked records.shelves frame.column_width before numbers
      → AreStacked records.shelves grown.column_width before numbers
  stacked-alike before [] earlier alike stacked = tt
  stacked-alike before (n ∷ ns) earlier alike stacked = (
    stacked.0
        ∙ sym (ap (λ (c : ℕ). height_before records.shelves grown.column_width c before) alike.0.column
        ∙ heights-alike (along_of records.shelves n / frame.column_width) before earlier),
    stacked-alike (before ++ n ∷ []) ns (Each-append StandsAlike before (n ∷ []) earlier (alike.0, tt)) alike.1 stacked.1,
  )

  -- and they are spelled as before
  spelled-alike : (entries : List Entry) → AllByRecursion StandsAlike (shelf_numbers entries)
      → map (spelled_shelf (bare grown records)) entries ≡ map (spelled_shelf (bare frame records)) entries
  spelled-alike [] alike = refl
  spelled-alike (entry ∷ entries) alike =
      ap (λ (c : ℕ). record { column = c; height = height_of records.shelves entry.number; items = map (item_at records.items) entry.items; free_list = map (item_place_of records.items) entry.free_list } ∷ map (spelled_shelf (bare grown records)) entries)
      alike.0.column
      ∙ ap (λ (ss : List Shelf). spelled_shelf (bare frame records) entry ∷ ss) (spelled-alike entries alike.1)

-- a shelf of a frame stands in the same column once the frame has grown
along-alike : (frame : Frame) (size : Size) (along : ℕ) → GrowsFrame frame size → along % frame.column_width ≡ 0 → along / frame.column_width < frame.columns
    → (along / grown_column_width frame size ≡ along / frame.column_width) × (along % grown_column_width frame size ≡ 0)
along-alike frame size along grows aligned within =
    ⊎_elim
    (λ (several : 1 < frame.columns).
    let same : grown_column_width frame size ≡ frame.column_width = grows.width.many several in
    (ap (λ (w : ℕ). along / w) same, ap (λ (w : ℕ). along % w) same ∙ aligned))
    (λ (few : frame.columns ≤ 1).
    let first : along / frame.column_width ≡ 0 = omega (arith, few, within) in
    at_edge along (multiple along frame.column_width aligned ∙ ap (λ (q : ℕ). q * frame.column_width) first ∙ zero-mul frame.column_width))
    (cases_lt 1 frame.columns)
  where
    at_edge : (n : ℕ) → n ≡ 0 → (n / grown_column_width frame size ≡ n / frame.column_width) × (n % grown_column_width frame size ≡ 0)
    at_edge n h = rw h (zero-div (grown_column_width frame size) ∙ sym (zero-div frame.column_width), zero-mod (grown_column_width frame size))

-- items say the same after so many were made
items-made : (count : ℕ) (items : List LinkedItem) (k : ℕ) → SameItem items (with_new_items count items) k
items-made zero items k = item-same items items k refl
items-made (suc count) items k =
    SameItem-then items (items ++ new_item ∷ []) (with_new_items count (items ++ new_item ∷ [])) k
    (record {
      item = field_at-made (spelled_item k) (record { width = 0; id = None }) items new_item k refl;
      place = field_at-made (λ (i : LinkedItem). i.x) 0 items new_item k refl;
      shelf = field_at-made (λ (i : LinkedItem). i.shelf) 0 items new_item k refl;
      allocated = field_at-made (λ (i : LinkedItem). i.allocated) false items new_item k refl;
    })
    (items-made count (items ++ new_item ∷ []) k)

-- and so do shelves
shelves-made : (count : ℕ) (shelves : List LinkedShelf) (k : ℕ) → SameShelf shelves (with_new_shelves count shelves) k
shelves-made zero shelves k = same-shelf shelves k
shelves-made (suc count) shelves k =
    SameShelf-then shelves (shelves ++ new_shelf ∷ []) (with_new_shelves count (shelves ++ new_shelf ∷ [])) k (shelves-used None shelves k)
    (shelves-made count (shelves ++ new_shelf ∷ []) k)

-- so many items are more
length-items : (count : ℕ) (items : List LinkedItem) → length (with_new_items count items) ≡ length items + count
length-items zero items = omega arith
length-items (suc count) items = omega (arith, length-items count (items ++ new_item ∷ []), length-append items (new_item ∷ []))

-- and so many shelves
pub length-shelves : (count : ℕ) (shelves : List LinkedShelf) → length (with_new_shelves count shelves) ≡ length shelves + count
length-shelves zero shelves = omega arith
length-shelves (suc count) shelves = omega (arith, length-shelves count (shelves ++ new_shelf ∷ []), length-append shelves (new_shelf ∷ []))

module _ (frame : Frame) (size : Size) (records : Records) (kept : AreKept frame records) (no_fault : grow_fault (state_of frame records) size ≡ None) where
  abbrev grown : Frame
  grown = grown_frame frame size

  abbrev needed : Needed
  needed = needed_of frame grown records

  abbrev new : Records
  new = (with_missing needed records).records

  abbrev entries : List Entry
  entries = (walked_lists records).entries

  abbrev unused_items : List ℕ
  unused_items = (walked_lists records).unused_items

  abbrev unused_shelves : List ℕ
  unused_shelves = (walked_lists records).unused_shelves

  -- the grow has no fault
  fits : Fits (state_of frame records) size
  fits = grow-fits (state_of frame records) size no_fault

  -- so the frame grows
  grows : GrowsFrame frame size
  grows = frame-grows frame size (witnesses kept).valid.frame fits.sizes

  -- each shelf stands in the same column
  alike : AllByRecursion (StandsAlike frame grown records) (shelf_numbers entries)
  alike = each-alike entries (witnesses kept).placed (witnesses kept).valid.shelves
    where
      each-alike : (entries : List Entry) → AllByRecursion (IsPlaced (atlas_of frame records)) entries → AllByRecursion (IsShelf frame) (map (spelled_shelf (bare frame records)) entries)
          → AllByRecursion (StandsAlike frame grown records) (shelf_numbers entries)
      each-alike [] placed are = tt
      each-alike (entry ∷ entries) placed are =
          let both = along-alike frame size (along_of records.shelves entry.number) grows placed.0.along are.0.column in
          (record { column = both.0; along = both.1 }, each-alike entries placed.1 are.1)

  -- so many items are missing
  missing-items : missing item_chain needed.items records.unused_items records.items ≡ needed.items - length unused_items
  missing-items = missing-counted item_chain needed.items records.unused_items records.items unused_items (witnesses kept).linked.unused_items

  -- and so many shelves
  missing-shelves : missing shelf_chain needed.shelves records.unused_shelves records.shelves ≡ needed.shelves - length unused_shelves
  missing-shelves = missing-counted shelf_chain needed.shelves records.unused_shelves records.shelves unused_shelves (witnesses kept).linked.unused_shelves

  -- there are so many items then
  count-items : length new.items ≡ length records.items + (needed.items - length unused_items)
  count-items =
      omega (arith, length-items (missing item_chain needed.items records.unused_items records.items) records.items, missing-items)

  -- and so many shelves
  count-shelves : length new.shelves ≡ length records.shelves + (needed.shelves - length unused_shelves)
  count-shelves =
      omega (arith, length-shelves (missing shelf_chain needed.shelves records.unused_shelves records.shelves) records.shelves, missing-shelves)

  -- no shelf is needed without an item
  few-shelves : needed.shelves ≤ needed.items
  few-shelves = omega arith

  -- neither are too many
  counts : HasCounts (bare grown new)
  counts =
      let used : items_in_use (state_of frame records).shelves + length unused_items ≡ length records.items =
      in-use-counted (bare frame records) (walked_lists records) (witnesses kept).linked in
      let used_shelves : length (shelf_numbers entries) + length unused_shelves ≡ length records.shelves =
      omega (
        arith,
        each-length (length records.shelves) (shelf_numbers entries ++ unused_shelves ++ []) (witnesses kept).linked.shelves_once,
        length-append (shelf_numbers entries ++ unused_shelves) [],
        length-append (shelf_numbers entries) unused_shelves,
      ) in
      let few : length (shelf_numbers entries) ≤ items_in_use (state_of frame records).shelves =
      shelves-few (bare frame records) entries (witnesses kept).valid.frame.column_width (witnesses kept).valid.shelves in
      let room : items_in_use (state_of frame records).shelves + needed.items ≤ 65535 =
      omega (arith, fits.records, needed-counted frame size records kept) in
      record {
        shelves = (
          omega (arith, count-shelves, (witnesses kept).counts.shelves.0),
          omega (arith, count-shelves, (witnesses kept).counts.shelves.1, used_shelves, few, room, few-shelves),
        );
        items = (
          omega (arith, count-items, (witnesses kept).counts.items.0),
          omega (arith, count-items, (witnesses kept).counts.items.1, used, room),
        );
      }

  -- shelves say what they said
  same_shelf : (k : ℕ) → SameShelf records.shelves new.shelves k
  same_shelf = shelves-made (missing shelf_chain needed.shelves records.unused_shelves records.shelves) records.shelves

  -- and so do items
  same_item : (k : ℕ) → SameItem records.items new.items k
  same_item = items-made (missing item_chain needed.items records.unused_items records.items) records.items

  -- so that all shelves in use are as they were
  same : SameEntries (bare grown records) new entries
  same = same-entries (bare grown records) new entries (λ k stands. same_shelf k) (λ k stands. same_item k) (witnesses kept).linked.entries

  -- the records spell the same lists in the grown frame, but for those that were made
  spelled-made : IsSpelledExcept (bare grown new) (lists_of entries unused_items unused_shelves)
      (numbers_from (length records.items) (missing item_chain needed.items records.unused_items records.items) ++ [])
      (numbers_from (length records.shelves) (missing shelf_chain needed.shelves records.unused_shelves records.shelves) ++ [])
  spelled-made =
      record {
        linked = records-made (missing item_chain needed.items records.unused_items records.items) (missing shelf_chain needed.shelves records.unused_shelves records.shelves) (witnesses kept).linked;
        placed = same.placed (placed-alike frame grown records entries alike (witnesses kept).placed);
        stacked = stacked-same records.shelves new.shelves grown.column_width same_shelf (shelf_numbers entries)
            (stacked-alike frame grown records [] (shelf_numbers entries) tt alike (witnesses kept).stacked);
        unused = unmarked-same records.items new.items unused_items (λ k stands. same_item k) (witnesses kept).unused;
      }

  -- those are as many as are missing
  spelled-missing : IsSpelledExcept (bare grown new) (lists_of entries unused_items unused_shelves)
      (numbers_from (length records.items) (needed.items - length unused_items) ++ [])
      (numbers_from (length records.shelves) (needed.shelves - length unused_shelves) ++ [])
  spelled-missing =
      subst (λ (n : ℕ). IsSpelledExcept (bare grown new) (lists_of entries unused_items unused_shelves)
      (numbers_from (length records.items) (needed.items - length unused_items) ++ []) (numbers_from (length records.shelves) n ++ [])) missing-shelves
      (subst (λ (n : ℕ). IsSpelledExcept (bare grown new) (lists_of entries unused_items unused_shelves)
      (numbers_from (length records.items) n ++ []) (numbers_from (length records.shelves) (missing shelf_chain needed.shelves records.unused_shelves records.shelves) ++ []))
      missing-items spelled-made)

  -- with the records that are missing all that a grow needs waits to be put to use
  pub started : HasGrown (grown_frame frame size) (length records.items) (with_missing (needed_of frame (grown_frame frame size) records) records)
      (state_of frame records).shelves (needed_of frame (grown_frame frame size) records).items (needed_of frame (grown_frame frame size) records).shelves
  started =
      record {
        entries = entries;
        unused_items = unused_items;
        unused_shelves = unused_shelves;
        is =
            record {
              spelled = spelled-missing;
              flags = same.flags (Each-weaken (HasFlag (atlas_of frame records)) (HasFlag (bare grown records)) entries (λ entry flag. flag) (witnesses kept).flags);
              counts = counts;
              more = omega (arith, count-items);
              used_up = λ longer. omega (arith, count-items, longer);
            };
        spelled = same.spelled ∙ spelled-alike frame grown records entries alike;
      }
