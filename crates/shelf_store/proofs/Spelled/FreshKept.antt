-- The records of a new atlas keep every rule, and spell its state.
use Rattle.std.proofs.Common.{◌≡◌, ℕ, zero, suc, ◌+◌, ◌<◌, ◌≤◌, Bool, true, false, Option, None, Some, List, [], ◌∷◌, ◌++◌, length, map, refl, ap, sym, subst, arith, ◌∙◌, pos}
use Rattle.std.proofs.Math.Nat.{mul-div_cancel, mul-mod_left}
use Rattle.std.proofs.lemmas.Bool.{ne_eqb}
use Rattle.std.proofs.lemmas.List.{append-nil}
use Rattle.std.specs.Prelude.{◌*◌, ◌/◌, nat_lt, if◌then◌else◌}
use Rattle.etagere_base.specs.declared.frames.Frame.{Frame}
use Rattle.etagere_base.specs.Frames.{HasAllColumns, IsFrame, across_side}
use Rattle.etagere_base.proofs.FrameSides.{columns-le}
use Rattle.etagere_base.specs.Lists.{times}
use Rattle.etagere_links.specs.Chains.{Leads}
use Rattle.shelf_records.specs.Chains.{IsChainIn, LeadsBack}
use Rattle.shelf_records.specs.declared.records.LinkedItem.{LinkedItem}
use Rattle.shelf_records.specs.declared.records.LinkedShelf.{LinkedShelf}
use Rattle.etagere_links.specs.Edits.{link_at, field_at}
use Rattle.shelf_records.specs.RecordLists.{Entry, Lists, IsEntry, IsLinked, first_item_of, first_free_of, item_numbers, shelf_numbers, shelf_walk}
use Rattle.etagere_links.specs.Lists.{HasEachOnce}
use Rattle.shelf_records.specs.Records.{item_chain, free_list, shelf_chain}
use Rattle.etagere_links.specs.Walks.{Walked}
use Rattle.shelf_records.proofs.AllLists.LinkedWalks.{AreWalks, linked-walks}
use Rattle.shelf_records.specs.AtlasRecords.{AtlasRecords, along_of, height_of, is_allocated_at, item_at, item_place_of, spelled_shelf}
use Rattle.shelf_model.specs.Fresh.{empty_columns, fresh}
use Rattle.shelf_store.specs.Private.FreshRecords.{column_after, column_before, fresh_item, fresh_records, fresh_shelf, numbered}
use Rattle.shelf_records.specs.Private.Kept.{AreKept, state_of}
use Rattle.shelf_records.proofs.Spelled.Witnessed.{HasFlag, IsPlaced, Witnessed}
use Rattle.shelf_model.specs.Space.{space_in}
use Rattle.shelf_records.specs.StandsFor.{AreStacked, height_before}
use Rattle.shelf_model.specs.State.{Item, Shelf, empty_shelf}
use Rattle.shelf_model.proofs.Places.FreshLemmas.{fresh-valid}
use Rattle.shelf_store.proofs.Spelled.NumberedLists.{numbered-at, numbered-each, numbered-field, numbered-last, numbered-length, numbered-link, times-after, times-within}
use Rattle.shelf_records.proofs.Spelled.Witnesses.{kept-of}

-- the lists of the shelf of a column: its one item, which is free
abbrev fresh_entry : ℕ → Entry
fresh_entry column = record { number = column; items = column ∷ []; free_list = column ∷ [] }

-- the lists of a new atlas
abbrev fresh_lists : Frame → Lists
fresh_lists frame = record { entries = numbered fresh_entry 0 frame.columns; unused_items = []; unused_shelves = [] }

-- an atlas of these records
abbrev fresh_atlas : Frame → AtlasRecords
fresh_atlas frame = record { frame = frame; records = fresh_records frame; allocated_space = pos (space_in (fresh frame).shelves) }

-- the shelves of the columns from one on
fresh-numbers : (from n : ℕ) → shelf_numbers (numbered fresh_entry from n) ≡ numbered (λ number. number) from n
fresh-numbers from zero = refl
fresh-numbers from (suc n) = ap (λ ns. from ∷ ns) (fresh-numbers (suc from) n)

-- their items
fresh-items : (from n : ℕ) → item_numbers (numbered fresh_entry from n) ≡ numbered (λ number. number) from n
fresh-items from zero = refl
fresh-items from (suc n) = ap (λ ns. from ∷ ns) (fresh-items (suc from) n)

-- each of so many numbers stands once in the list of them
fresh-once : (n : ℕ) → HasEachOnce n (numbered (λ number. number) 0 n ++ [] ++ [])
fresh-once n k =
    ap (times k) (append-nil (numbered (λ number. number) 0 n ++ []) ∙ append-nil (numbered (λ number. number) 0 n)) ∙ by_test (nat_lt k n) refl
  where
    by_test : (b : Bool) → nat_lt k n ≡ b → times k (numbered (λ number. number) 0 n) ≡ (if nat_lt k n then 1 else 0)
    by_test true e = rw e (times-within k 0 n (omega arith) (grind arith))
    by_test false e = rw e (times-after k 0 n (grind arith))

module _ (frame : Frame) where
  -- the link to the first of the columns from one on
  abbrev start_from : ℕ → ℕ → Option ℕ
  start_from from zero = None
  start_from from (suc n) = Some from

  -- the link after a column is that to the first of those after it
  after-is : (from n : ℕ) → from + suc n ≡ frame.columns → link_at shelf_chain.next (fresh_records frame).shelves from ≡ start_from (suc from) n
  after-is from n all = numbered-link shelf_chain.next (fresh_shelf frame) frame.columns from (omega arith) ∙ by_rest n all
    where
      by_rest : (m : ℕ) → from + suc m ≡ frame.columns → column_after frame.columns from ≡ start_from (suc from) m
      by_rest zero e = let last : nat_lt (suc from) frame.columns ≡ false = grind arith in rw last refl
      by_rest (suc m) e = let more : nat_lt (suc from) frame.columns ≡ true = grind arith in rw more refl

  -- the links lead from column to column
  fresh-forward : (from n : ℕ) → from + n ≡ frame.columns → Leads (link_at shelf_chain.next (fresh_records frame).shelves) (start_from from n) (numbered (λ number. number) from n) None
  fresh-forward from zero all = refl
  fresh-forward from (suc n) all = (refl, rw (after-is from n all) (fresh-forward (suc from) n (omega arith)))

  -- and back
  fresh-backward : (from n : ℕ) → from + n ≡ frame.columns → LeadsBack (link_at shelf_chain.previous (fresh_records frame).shelves) (column_before from) (numbered (λ number. number) from n)
  fresh-backward from zero all = tt
  fresh-backward from (suc n) all =
      (numbered-link shelf_chain.previous (fresh_shelf frame) frame.columns from (omega arith), fresh-backward (suc from) n (omega arith))

  -- links spell the lists of the shelf of a column
  fresh-entry : (column : ℕ) → column < frame.columns → IsEntry (fresh_records frame) (fresh_entry column)
  fresh-entry column below =
      let first : first_item_of (fresh_records frame).shelves column ≡ Some column =
      numbered-field (λ (s : LinkedShelf). s.first_item) None (fresh_shelf frame) frame.columns column below in
      let first_free : first_free_of (fresh_records frame).shelves column ≡ Some column =
      numbered-field (λ (s : LinkedShelf). s.first_unallocated) None (fresh_shelf frame) frame.columns column below in
      let link : (field : LinkedItem → Option ℕ) → link_at field (fresh_records frame).items column ≡ field (fresh_item frame column) =
      λ field. numbered-link field (fresh_item frame) frame.columns column below in
      record {
        items = record { forward = (first, link item_chain.next); backward = (link item_chain.previous, tt) };
        free_list = record { forward = (first_free, link free_list.next); backward = (link free_list.previous, tt) };
        members = λ k. omega arith;
      }

  module _ (is_frame : IsFrame 65535 frame) where
    -- links spell all lists of a new atlas
    fresh-linked : IsLinked (fresh_records frame) (fresh_lists frame)
    fresh-linked =
        let numbers : List ℕ = numbered (λ number. number) 0 frame.columns in
        let shelf_count : length (fresh_records frame).shelves ≡ frame.columns = numbered-length (fresh_shelf frame) 0 frame.columns in
        let item_count : length (fresh_records frame).items ≡ frame.columns = numbered-length (fresh_item frame) 0 frame.columns in
        record {
          shelves = subst (IsChainIn shelf_chain (fresh_records frame).shelves (Some 0)) (sym (fresh-numbers 0 frame.columns))
              (record { forward = first-start frame.columns is_frame.columns.0 (fresh-forward 0 frame.columns (omega arith)); backward = fresh-backward 0 frame.columns (omega arith) });
          entries = numbered-each (IsEntry (fresh_records frame)) fresh_entry 0 frame.columns (λ k below. fresh-entry k (omega (arith, below)));
          unused_items = refl;
          unused_shelves = refl;
          shelves_once = rw (shelf_count, fresh-numbers 0 frame.columns) (fresh-once frame.columns);
          items_once = rw (item_count, fresh-items 0 frame.columns) (fresh-once frame.columns);
        }
      where
        first-start : (n : ℕ) → 1 ≤ n → Leads (link_at shelf_chain.next (fresh_records frame).shelves) (start_from 0 n) (numbered (λ number. number) 0 n) None → Leads (link_at shelf_chain.next (fresh_records frame).shelves) (Some 0) (numbered (λ number. number) 0 n) None
        first-start zero some leads = absurd (omega arith)
        first-start (suc n) some leads = leads

    -- where the shelf of a column begins along
    fresh-along : (column : ℕ) → column < frame.columns → along_of (fresh_records frame).shelves column ≡ column * frame.column_width
    fresh-along column below = numbered-field (λ (s : LinkedShelf). s.x) 0 (fresh_shelf frame) frame.columns column below

    -- the column of the shelf of a number is that number
    fresh-column : (column : ℕ) → column < frame.columns → along_of (fresh_records frame).shelves column / frame.column_width ≡ column
    fresh-column column below = rw (fresh-along column below) (mul-div_cancel column is_frame.column_width)

    -- a field of the item of a column
    fresh-item-field : {X : Type 0} (field : LinkedItem → X) (other : X) (column : ℕ) → column < frame.columns → field_at field other (fresh_records frame).items column ≡ field (fresh_item frame column)
    fresh-item-field field other column below = numbered-field field other (fresh_item frame) frame.columns column below

    -- the item of a column is free, and as wide as it
    fresh-item-at : (column : ℕ) → column < frame.columns → item_at (fresh_records frame).items column ≡ record { width = frame.column_width; id = None }
    fresh-item-at column below = rw (numbered-at (fresh_item frame) frame.columns column below) refl

    -- the shelf of a column is an empty one
    fresh-shelf-at : (column : ℕ) → column < frame.columns → spelled_shelf (fresh_atlas frame) (fresh_entry column) ≡ empty_shelf frame column (across_side frame)
    fresh-shelf-at column below =
        let height : height_of (fresh_records frame).shelves column ≡ across_side frame =
        numbered-field (λ (s : LinkedShelf). s.height) 0 (fresh_shelf frame) frame.columns column below in
        let place : item_place_of (fresh_records frame).items column ≡ column * frame.column_width = fresh-item-field (λ (i : LinkedItem). i.x) 0 column below in
        ap (λ (c : ℕ). record { column = c; height = height_of (fresh_records frame).shelves column; items = item_at (fresh_records frame).items column ∷ []; free_list = item_place_of (fresh_records frame).items column ∷ [] }) (fresh-column column below)
        ∙ ap (λ (h : ℕ). record { column = column; height = h; items = item_at (fresh_records frame).items column ∷ []; free_list = item_place_of (fresh_records frame).items column ∷ [] }) height
        ∙ ap (λ (i : Item). record { column = column; height = across_side frame; items = i ∷ []; free_list = item_place_of (fresh_records frame).items column ∷ [] }) (fresh-item-at column below)
        ∙ ap (λ (p : ℕ). record { column = column; height = across_side frame; items = record { width = frame.column_width; id = None } ∷ []; free_list = p ∷ [] }) place

    -- the shelves of the columns from one on are empty ones
    fresh-shelves : (from n : ℕ) → from + n ≤ frame.columns → map (spelled_shelf (fresh_atlas frame)) (numbered fresh_entry from n) ≡ empty_columns frame from n
    fresh-shelves from zero all = refl
    fresh-shelves from (suc n) all =
        ap (λ (s : Shelf). s ∷ map (spelled_shelf (fresh_atlas frame)) (numbered fresh_entry (suc from) n)) (fresh-shelf-at from (omega arith))
        ∙ ap (λ ss. empty_shelf frame from (across_side frame) ∷ ss) (fresh-shelves (suc from) n (omega arith))

    -- the records of a column say what they must
    fresh-placed : (column : ℕ) → column < frame.columns → IsPlaced (fresh_atlas frame) (fresh_entry column)
    fresh-placed column below =
        let free : is_allocated_at (fresh_records frame).items column ≡ false = fresh-item-field (λ (i : LinkedItem). i.allocated) false column below in
        record {
          owners = (fresh-item-field (λ (i : LinkedItem). i.shelf) 0 column below, tt);
          along = rw (fresh-along column below) (mul-mod_left column frame.column_width);
          places = (fresh-item-field (λ (i : LinkedItem). i.x) 0 column below ∙ sym (fresh-along column below), tt);
          free_list = λ item. rw free refl;
        }

    -- and the shelf says that it is empty
    fresh-flag : (column : ℕ) → column < frame.columns → HasFlag (fresh_atlas frame) (fresh_entry column)
    fresh-flag column below =
        rw (fresh-item-at column below) (numbered-field (λ (s : LinkedShelf). s.is_empty) false (fresh_shelf frame) frame.columns column below)

    -- no earlier column has a height in a later one
    fresh-height : (column from n : ℕ) → from + n ≤ column → column < frame.columns → height_before (fresh_records frame).shelves frame.column_width column (numbered (λ number. number) from n) ≡ 0
    fresh-height column from zero earlier below = refl
    fresh-height column from (suc n) earlier below =
        let later = fresh-height column (suc from) n (omega arith) below in
        rw (fresh-column from (omega arith), ne_eqb from column (λ e. omega arith)) (omega (arith, later))

    -- each shelf begins at the edge
    fresh-stacked : (from n : ℕ) → from + n ≤ frame.columns → AreStacked (fresh_records frame).shelves frame.column_width (numbered (λ number. number) 0 from) (numbered (λ number. number) from n)
    fresh-stacked from zero all = tt
    fresh-stacked from (suc n) all = (
      numbered-field (λ (s : LinkedShelf). s.y) 0 (fresh_shelf frame) frame.columns from (omega arith)
          ∙ sym (rw (fresh-column from (omega arith)) (fresh-height from 0 from (omega arith) (omega arith))),
      rw (numbered-last from) (fresh-stacked (suc from) n (omega arith)),
    )

    -- the records of a new atlas spell its state
    fresh-witnessed : HasAllColumns frame → Witnessed (fresh_atlas frame) (fresh_lists frame) (fresh frame)
    fresh-witnessed all =
        let shelf_count : length (fresh_records frame).shelves ≡ frame.columns = numbered-length (fresh_shelf frame) 0 frame.columns in
        let item_count : length (fresh_records frame).items ≡ frame.columns = numbered-length (fresh_item frame) 0 frame.columns in
        let few : frame.columns ≤ 65535 = columns-le frame is_frame in
        record {
          spelled = ap (λ (ss : List Shelf). record { frame = frame; shelves = ss; peak_items = frame.columns }) (sym (fresh-shelves 0 frame.columns (omega arith)))
              ∙ ap (λ (n : ℕ). record { frame = frame; shelves = map (spelled_shelf (fresh_atlas frame)) (numbered fresh_entry 0 frame.columns); peak_items = n }) (sym item_count);
          counts = record { shelves = rw shelf_count (is_frame.columns.0, few); items = rw item_count (is_frame.columns.0, few) };
          linked = fresh-linked;
          placed = numbered-each (IsPlaced (fresh_atlas frame)) fresh_entry 0 frame.columns (λ k below. fresh-placed k (omega (arith, below)));
          flags = numbered-each (HasFlag (fresh_atlas frame)) fresh_entry 0 frame.columns (λ k below. fresh-flag k (omega (arith, below)));
          stacked = rw (fresh-numbers 0 frame.columns) (fresh-stacked 0 frame.columns (omega arith));
          valid = fresh-valid frame is_frame all;
          unused = tt;
          space = refl;
        }

    -- the records of a new atlas keep every rule, and their state is that of a new atlas
    pub fresh-kept : HasAllColumns frame → (state_of frame (fresh_records frame) ≡ fresh frame) × AreKept frame (fresh_records frame)
    fresh-kept all = kept-of frame (fresh_records frame) (fresh_lists frame) (fresh frame) (fresh-witnessed all)

    -- the shelves in use of a new atlas are those of the columns
    pub fresh-met : (shelf_walk (fresh_records frame)).met ≡ numbered (λ number. number) 0 frame.columns
    fresh-met =
        let few : frame.columns ≤ 65535 = columns-le frame is_frame in
        let walks : AreWalks (fresh_records frame) (fresh_lists frame) =
        linked-walks (fresh_records frame) (fresh_lists frame)
        (omega (arith, few, numbered-length (fresh_shelf frame) 0 frame.columns))
        (omega (arith, few, numbered-length (fresh_item frame) 0 frame.columns)) fresh-linked in
        ap (λ (w : Walked). w.met) walks.shelves ∙ fresh-numbers 0 frame.columns
