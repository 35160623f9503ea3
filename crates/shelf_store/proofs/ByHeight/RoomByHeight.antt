-- The room that a split has: among the shelves by height for each shelf record, and in the records for what is unused.
use Rattle.std.proofs.Common.{◌≡◌, ℕ, ◌+◌, ◌<◌, ◌≤◌, Bool, true, false, Option, None, Some, List, [], ◌∷◌, ◌++◌, length, refl, arith, subst, if◌then◌else◌}
use Rattle.std.proofs.lemmas.List.{length-append}
use Rattle.std.specs.Prelude.{IfSome}
use Rattle.etagere_base.specs.declared.frames.Frame.{Frame}
use Rattle.shelf_records.specs.RecordLists.{Records, shelf_numbers, walked_lists}
use Rattle.shelf_records.specs.RecordUses.{missing, new_shelf, number_used, rests_missing, rests_of, rests_used, shelves_used}
use Rattle.shelf_records.specs.Records.{item_chain, shelf_chain}
use Rattle.shelf_model.specs.Choice.{Placement}
use Rattle.shelf_records.specs.Private.Kept.{AreKept, bare, state_of}
use Rattle.shelf_store.specs.Private.PlacementTaken.{free_item, item_record, placement_taken, rest_shelf, shelf_record, with_shelf_rest}
use Rattle.shelf_model.specs.State.{items_in_use}
use Rattle.shelf_store.proofs.ByHeight.SplitOrders.{length-split, length-taken}
use Rattle.shelf_records.proofs.MissingRecords.{missing-counted}
use Rattle.shelf_store.proofs.Spelled.ItemLocated.{in-use-counted}
use Rattle.shelf_store.proofs.Spelled.TakenReady.{each-length}
use Rattle.shelf_records.proofs.Spelled.StandsKept.{witnesses}

-- putting records to use makes as many shelf records as are missing
used-count : (of_shelf of_item : Bool) (records : Records)
    → length (rests_used of_shelf of_item records).shelves ≡ length records.shelves + missing shelf_chain (if of_shelf then 1 else 0) records.unused_shelves records.shelves
used-count false of_item records = omega arith
used-count true of_item records = by_link records.unused_shelves
  where
    by_link : (unused : Option ℕ) → length (shelves_used true unused records.shelves) ≡ length records.shelves + missing shelf_chain 1 unused records.shelves
    by_link None = omega (arith, length-append records.shelves (new_shelf ∷ []))
    by_link (Some number) = omega arith

-- splitting a shelf makes none
split-count : (column_width : ℕ) (found : Placement) (shelf item : Option ℕ) (records : Records)
    → length (with_shelf_rest column_width found shelf item records).shelves ≡ length records.shelves
split-count column_width found None item records = refl
split-count column_width found (Some shelf) None records = refl
split-count column_width found (Some shelf) (Some item) records =
    let whole = shelf_record records.shelves found.shelf in
    length-split records found.shelf shelf item found.height (rest_shelf whole found.height item)
    (free_item whole.x column_width shelf (item_record records.items item).generation)

-- so taking a placement makes as many shelf records as are missing
pub taken-count : (column_width : ℕ) (found : Placement) (records : Records)
    → length (placement_taken column_width found records).shelves ≡ length records.shelves + missing shelf_chain (if found.splits_shelf then 1 else 0) records.unused_shelves records.shelves
taken-count column_width found records =
    let rests = rests_of found.splits_shelf found.splits_item records in
    omega (
      arith,
      length-taken column_width found records,
      split-count column_width found rests.shelf rests.shelf_item (rests_used found.splits_shelf found.splits_item records),
      used-count found.splits_shelf found.splits_item records,
    )

-- the shelf records are those in use and those that became unused
pub shelves-count : (frame : Frame) (records : Records) → AreKept frame records
    → length (shelf_numbers (walked_lists records).entries) + length (walked_lists records).unused_shelves ≡ length records.shelves
shelves-count frame records kept =
    let numbers : List ℕ = shelf_numbers (walked_lists records).entries in
    let unused : List ℕ = (walked_lists records).unused_shelves in
    omega (
      arith,
      each-length (length records.shelves) (numbers ++ unused ++ []) (witnesses kept).linked.shelves_once,
      length-append (numbers ++ unused) [],
      length-append numbers unused,
    )

-- the record of the rest of a shelf is one that is there, or the next
pub rest-next : (found : Placement) (records : Records) (rest : ℕ) → number_used found.splits_shelf records.unused_shelves records.shelves ≡ Some rest
    → IfSome (rests_of found.splits_shelf found.splits_item records).shelf (λ number. number < length (rests_used found.splits_shelf found.splits_item records).shelves)
    → rest ≤ length records.shelves
rest-next found records rest names there =
    let below : rest < length (rests_used found.splits_shelf found.splits_item records).shelves =
    subst (λ (o : Option ℕ). IfSome o (λ number. number < length (rests_used found.splits_shelf found.splits_item records).shelves)) names there in
    omega (arith, below, used-count found.splits_shelf found.splits_item records, one-missing (if found.splits_shelf then 1 else 0) found.splits_shelf refl records.unused_shelves)
  where
    one-missing : (wanted : ℕ) (b : Bool) → wanted ≡ (if b then 1 else 0) → (unused : Option ℕ) → missing shelf_chain wanted unused records.shelves ≤ 1
    one-missing wanted true e None = rw e (omega arith)
    one-missing wanted true e (Some number) = rw e (omega arith)
    one-missing wanted false e unused = rw e (omega arith)

-- where records are missing and no shelf is split, all item records are in use
pub items-short : (frame : Frame) (records : Records) (of_shelf of_item : Bool) → AreKept frame records → 0 < rests_missing of_shelf of_item records → of_shelf ≡ false
    → (state_of frame records).peak_items ≤ items_in_use (state_of frame records).shelves
items-short frame records true of_item kept short none = absurd (cc)
items-short frame records false false kept short none = absurd (omega (arith, short))
items-short frame records false true kept short none =
    let unused : List ℕ = (walked_lists records).unused_items in
    omega (
      arith,
      short,
      missing-counted item_chain 1 records.unused_items records.items unused (witnesses kept).linked.unused_items,
      in-use-counted (bare frame records) (walked_lists records) (witnesses kept).linked,
    )
