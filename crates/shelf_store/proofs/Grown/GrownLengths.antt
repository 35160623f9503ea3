-- A grow makes the shelf records that are missing, and no others.
use Rattle.std.proofs.Common.{◌≡◌, ℕ, zero, suc, ◌+◌, ◌-◌, ◌*◌, Bool, true, false, cond, Option, None, Some, List, length, refl, ◌∙◌}
use Rattle.std.specs.Prelude.{is_some, nat_lt}
use Rattle.etagere_base.specs.Frames.{across_side}
use Rattle.etagere_base.specs.declared.frames.Frame.{Frame}
use Rattle.shelf_records.specs.declared.records.LinkedShelf.{LinkedShelf}
use Rattle.etagere_links.specs.Edits.{link_at}
use Rattle.shelf_records.specs.RecordLists.{Records}
use Rattle.shelf_records.specs.RecordUses.{missing, shelves_used}
use Rattle.shelf_records.specs.Records.{shelf_chain}
use Rattle.etagere_links.proofs.RecordChanges.{length-changed_by}
use Rattle.shelf_store.specs.declared.growing.Needed.{Needed}
use Rattle.shelf_records.specs.AtlasRecords.{across_of, along_of, height_of, is_allocated_at, is_empty_at}
use Rattle.shelf_store.specs.Private.RecordsGrown.{Growing, after_item, columns_added, columns_appended, columns_heightened, end_heightened, ends_column_at, last_item, last_shelf, next_shelf, records_grown, shelf_heightened, shelf_inserted, shelf_widened, shelves_widened, widened_after, with_height, with_missing, with_width}
use Rattle.shelf_store.proofs.Grown.StartedGrow.{length-shelves}

-- how many shelf records there are
abbrev count : Growing → ℕ
count growing = length growing.records.shelves

-- putting one to use again makes none
used-count : (unused : Option ℕ) (shelves : List LinkedShelf) → length (shelves_used (is_some unused) unused shelves) ≡ length shelves
used-count None shelves = refl
used-count (Some number) shelves = refl

-- an empty shelf is put after another one
inserted-count : (width previous along across height : ℕ) (growing : Growing) → count (shelf_inserted width previous along across height growing) ≡ count growing
inserted-count width previous along across height growing = simp length-changed_by (used-count growing.records.unused_shelves growing.records.shelves)

-- a width is added at the end of a shelf
widened-count : (shelf place width : ℕ) (last : Option ℕ) (growing : Growing) → count (widened_after shelf place width last growing) ≡ count growing
widened-count shelf place width None growing = refl
widened-count shelf place width (Some last) growing = by_test (is_allocated_at growing.records.items last) refl
  where
    by_test : (b : Bool) → is_allocated_at growing.records.items last ≡ b → count (widened_after shelf place width (Some last) growing) ≡ count growing
    by_test true e = rw e (simp length-changed_by refl)
    by_test false e = rw e refl

-- and at the ends of so many
all-widened-count : (place width steps : ℕ) (at : Option ℕ) (growing : Growing) → count (shelves_widened place width steps at growing) ≡ count growing
all-widened-count place width zero at growing = refl
all-widened-count place width (suc steps) None growing = refl
all-widened-count place width (suc steps) (Some shelf) growing =
    let widened : Growing = shelf_widened shelf place width growing in
    all-widened-count place width steps (link_at shelf_chain.next widened.records.shelves shelf) widened
    ∙ widened-count shelf place width (last_item growing.records shelf) growing

-- a height is added after a shelf
heightened-count : (width shelf height : ℕ) (growing : Growing) → count (shelf_heightened width shelf height growing) ≡ count growing
heightened-count width shelf height growing = by_test (is_empty_at shelves shelf) refl
  where
    shelves : List LinkedShelf
    shelves = growing.records.shelves

    by_test : (b : Bool) → is_empty_at shelves shelf ≡ b → count (shelf_heightened width shelf height growing) ≡ count growing
    by_test true e = rw e (simp length-changed_by refl)
    by_test false e = rw e (inserted-count width shelf (along_of shelves shelf) (across_of shelves shelf + height_of shelves shelf) height growing)

-- where it is the last of its column
end-count : (width shelf height : ℕ) (next : Option ℕ) (growing : Growing) → count (end_heightened width shelf height next growing) ≡ count growing
end-count width shelf height next growing = by_test (ends_column_at growing.records.shelves shelf next) refl
  where
    by_test : (b : Bool) → ends_column_at growing.records.shelves shelf next ≡ b → count (end_heightened width shelf height next growing) ≡ count growing
    by_test true e = rw e (heightened-count width shelf height growing)
    by_test false e = rw e refl

-- and so at the ends of so many
all-heightened-count : (width height steps : ℕ) (at : Option ℕ) (growing : Growing) → count (columns_heightened width height steps at growing) ≡ count growing
all-heightened-count width height zero at growing = refl
all-heightened-count width height (suc steps) None growing = refl
all-heightened-count width height (suc steps) (Some shelf) growing =
    let next : Option ℕ = link_at shelf_chain.next growing.records.shelves shelf in
    all-heightened-count width height steps next (end_heightened width shelf height next growing)
    ∙ end-count width shelf height next growing

-- columns are appended
appended-count : (frame : Frame) (n previous column : ℕ) (growing : Growing) → count (columns_appended frame n previous column growing) ≡ count growing
appended-count frame zero previous column growing = refl
appended-count frame (suc n) previous column growing =
    appended-count frame n (next_shelf (after_item growing)) (column + 1)
    (shelf_inserted frame.column_width previous (column * frame.column_width) 0 (across_side frame) growing)
    ∙ inserted-count frame.column_width previous (column * frame.column_width) 0 (across_side frame) growing

-- after the last shelf
added-count : (frame : Frame) (first : ℕ) (last : Option ℕ) (growing : Growing) → count (columns_added frame first last growing) ≡ count growing
added-count frame first None growing = refl
added-count frame first (Some last) growing = appended-count frame (frame.columns - first) last first growing

-- each of these, where it is due
where-due : (b : Bool) (new old : Growing) → count new ≡ count old → count (cond b new old) ≡ count old
where-due true new old same = same
where-due false new old same = refl

-- a grow makes the shelf records that are missing
pub grown-count : (frame grown : Frame) (needed : Needed) (records : Records)
    → length (records_grown frame grown needed records).records.shelves
    ≡ length records.shelves + missing shelf_chain needed.shelves records.unused_shelves records.shelves
grown-count frame grown needed records =
    let made : Growing = with_missing needed records in
    let wide : Growing = with_width frame grown made in
    let tall : Growing = with_height frame grown wide in
    where-due (nat_lt frame.columns grown.columns) (columns_added grown frame.columns (last_shelf tall.records) tall) tall
    (added-count grown frame.columns (last_shelf tall.records) tall)
    ∙ where-due (nat_lt (across_side frame) (across_side grown)) (columns_heightened grown.column_width (across_side grown - across_side frame) (length wide.records.shelves) wide.records.first_shelf wide) wide
    (all-heightened-count grown.column_width (across_side grown - across_side frame) (length wide.records.shelves) wide.records.first_shelf wide)
    ∙ where-due (nat_lt frame.column_width grown.column_width) (shelves_widened frame.column_width (grown.column_width - frame.column_width) (length made.records.shelves) made.records.first_shelf made) made
    (all-widened-count frame.column_width (grown.column_width - frame.column_width) (length made.records.shelves) made.records.first_shelf made)
    ∙ length-shelves (missing shelf_chain needed.shelves records.unused_shelves records.shelves) records.shelves
