-- Kept records have a shelf and an item for each column, so that a clear makes none.
use Rattle.std.proofs.Common.{◌≡◌, ℕ, suc, ◌≤◌, List, [], ◌∷◌, length, arith, ap, refl}
use Rattle.std.proofs.lemmas.List.{length-map}
use Rattle.etagere_base.specs.declared.frames.Frame.{Frame}
use Rattle.std.specs.List.{AllByRecursion}
use Rattle.shelf_records.specs.RecordLists.{Records, Entry, IsLinkedExcept, Lists, shelf_numbers, walked_lists}
use Rattle.shelf_records.proofs.AllLists.LinkedUnused.{three-count}
use Rattle.etagere_links.proofs.WalkedLists.{IsPart, part-of}
use Rattle.etagere_links.proofs.Tallies.{length-once}
use Rattle.shelf_records.specs.AtlasRecords.{spelled_shelf}
use Rattle.shelf_records.specs.Private.Kept.{AreKept, bare, state_of}
use Rattle.shelf_model.specs.State.{Item, Shelf, items_in_use, total_width}
use Rattle.shelf_model.specs.Valid.{IsShelf}
use Rattle.shelf_model.proofs.Places.ColumnShelves.{columns-le-shelves}
use Rattle.shelf_records.proofs.Spelled.StandsKept.{witnesses}

-- items that are not narrow altogether are some
some-items : (items : List Item) → 1 ≤ total_width items → 1 ≤ length items
some-items [] wide = absurd (omega arith)
some-items (item ∷ items) wide = omega arith

-- each shelf has an item
shelves-le-items : (frame : Frame) → 1 ≤ frame.column_width → (shelves : List Shelf) → AllByRecursion (IsShelf frame) shelves → length shelves ≤ items_in_use shelves
shelves-le-items frame wide [] are = omega arith
shelves-le-items frame wide (shelf ∷ shelves) are =
    let first : 1 ≤ length shelf.items = some-items shelf.items (omega (arith, are.0.width)) in
    let others : length shelves ≤ items_in_use shelves = shelves-le-items frame wide shelves are.1 in
    omega (arith, first, others)

-- as many shelves as numbers of shelves
pub shelf_numbers-length : (entries : List Entry) → length (shelf_numbers entries) ≡ length entries
shelf_numbers-length [] = refl
shelf_numbers-length (entry ∷ entries) = ap suc (shelf_numbers-length entries)

-- links spell no more shelves than there are records
pub shelves-few : {records : Records} {lists : Lists} {loose loose_shelves : List ℕ} → IsLinkedExcept records lists loose loose_shelves → length lists.entries ≤ length records.shelves
shelves-few {records} {lists} {loose} {loose_shelves} linked =
    let part : IsPart (length records.shelves) (shelf_numbers lists.entries) =
    part-of (length records.shelves) _ (shelf_numbers lists.entries) linked.shelves_once (λ k. omega (arith, three-count (shelf_numbers lists.entries) lists.unused_shelves loose_shelves k)) in
    omega (arith, shelf_numbers-length lists.entries, length-once (length records.shelves) (shelf_numbers lists.entries) part.once part.within)

-- there is a shelf record for each column
pub kept-shelf_records : (frame : Frame) (records : Records) → AreKept frame records → frame.columns ≤ length records.shelves
kept-shelf_records frame records kept =
    omega (
      arith,
      columns-le-shelves (state_of frame records) (witnesses kept).valid,
      length-map (walked_lists records).entries (spelled_shelf (bare frame records)),
      shelves-few (witnesses kept).linked,
    )

-- and an item record for each column
pub kept-item_records : (frame : Frame) (records : Records) → AreKept frame records → frame.columns ≤ length records.items
kept-item_records frame records kept =
    omega (
      arith,
      columns-le-shelves (state_of frame records) (witnesses kept).valid,
      shelves-le-items frame (witnesses kept).valid.frame.column_width (state_of frame records).shelves (witnesses kept).valid.shelves,
      (witnesses kept).valid.peak_items.0,
    )
