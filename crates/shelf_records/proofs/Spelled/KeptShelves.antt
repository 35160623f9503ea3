-- Shelves in use of records that keep every rule: what is known of each, and where it begins across.
use Rattle.std.proofs.Common.{◌≡◌, ℕ, ◌+◌, ◌≤◌, Some, List, [], ◌∷◌, ◌++◌, map, ap, sym, ◌∙◌, take, append_assoc, append-nil}
use Rattle.std.specs.Prelude.{◌/◌, slice_get}
use Rattle.std.specs.List.{AllByRecursion}
use Rattle.etagere_base.specs.Lists.{times}
use Rattle.etagere_base.proofs.EachLemmas.{Each-both, Each-weaken}
use Rattle.etagere_base.proofs.ReplacedLists.{IsAt, split-at}
use Rattle.etagere_base.specs.declared.frames.Frame.{Frame}
use Rattle.shelf_records.specs.RecordLists.{Entry, IsEntry, Records, shelf_numbers, shelf_walk, walked_entry, walked_lists}
use Rattle.shelf_records.specs.AtlasRecords.{AtlasRecords, across_of, along_of, spelled_shelf}
use Rattle.shelf_model.specs.Places.{column_height}
use Rattle.shelf_records.specs.Private.Kept.{AreKept, atlas_of, state_of}
use Rattle.shelf_records.proofs.Spelled.Witnessed.{HasFlag, IsPlaced}
use Rattle.shelf_records.specs.StandsFor.{AreStacked, height_before}
use Rattle.shelf_model.specs.Valid.{IsShelf}
use Rattle.shelf_records.proofs.Recorded.RecordedAllocations.{spelled-height}
use Rattle.shelf_records.proofs.Spelled.Witnesses.{Each-unmap}
use Rattle.shelf_records.proofs.Spelled.StandsKept.{witnesses}
use Rattle.std.proofs.lemmas.List.{take-map}
use Rattle.shelf_records.specs.declared.records.LinkedShelf.{LinkedShelf}
use Rattle.shelf_records.proofs.AllLists.LinkedWalks.{walked-numbers}

-- what is known of a shelf in use
pub record IsSearched (atlas : AtlasRecords) (entry : Entry) : Type 0 where
  pub placed : IsPlaced atlas entry
  pub flag : HasFlag atlas entry
  pub members : (k : ℕ) → times k entry.free_list ≤ times k entry.items
  pub shelf : IsShelf atlas.frame (spelled_shelf atlas entry)

-- it is known of each shelf in use where every rule is kept
pub kept-searched : (frame : Frame) (records : Records) → AreKept frame records → AllByRecursion (λ number. IsSearched (atlas_of frame records) (walked_entry records number)) (shelf_walk records).met
kept-searched frame records kept =
    let atlas : AtlasRecords = atlas_of frame records in
    let entries : List Entry = (walked_lists records).entries in
    let first : Entry → Type 0 = λ entry. IsPlaced atlas entry × HasFlag atlas entry in
    let second : Entry → Type 0 = λ entry. IsEntry records entry × IsShelf frame (spelled_shelf atlas entry) in
    Each-unmap (IsSearched atlas) (walked_entry records) (shelf_walk records).met
    (Each-weaken (λ (entry : Entry). first entry × second entry) (IsSearched atlas) entries
    (λ entry facts. record { placed = facts.0.0; flag = facts.0.1; members = facts.1.0.members; shelf = facts.1.1 })
    (Each-both first second entries
    (Each-both (IsPlaced atlas) (HasFlag atlas) entries (witnesses kept).placed (witnesses kept).flags)
    (Each-both (IsEntry records) (λ (entry : Entry). IsShelf frame (spelled_shelf atlas entry)) entries (witnesses kept).linked.entries
    (Each-unmap (IsShelf frame) (spelled_shelf atlas) entries (witnesses kept).valid.shelves))))

-- where a shelf begins across, of shelves that are stacked
stacked-at : (shelves : List LinkedShelf) (column_width : ℕ) (before front : List ℕ) (n : ℕ) (back : List ℕ) → AreStacked shelves column_width before (front ++ n ∷ back)
    → across_of shelves n ≡ height_before shelves column_width (along_of shelves n / column_width) (before ++ front)
stacked-at shelves column_width before [] n back stacked = rw append-nil stacked.0
stacked-at shelves column_width before (x ∷ front) n back stacked =
    let moved : (before ++ x ∷ []) ++ front ≡ before ++ x ∷ front = append_assoc before (x ∷ []) front in
    rw (← moved) (stacked-at shelves column_width (before ++ x ∷ []) front n back stacked.1)

-- where the shelf of a position begins across
pub across-at : (frame : Frame) (records : Records) (position number : ℕ) → AreKept frame records → slice_get (shelf_walk records).met position ≡ Some number
    → across_of records.shelves number ≡ column_height (along_of records.shelves number / frame.column_width) (take position (state_of frame records).shelves)
across-at frame records position number kept at =
    let numbers : List ℕ = (shelf_walk records).met in
    let column : ℕ = along_of records.shelves number / frame.column_width in
    let split : IsAt numbers position number = split-at numbers position number at in
    let all : shelf_numbers (walked_lists records).entries ≡ split.front ++ number ∷ split.back = walked-numbers records numbers ∙ split.whole in
    let stacked : AreStacked records.shelves frame.column_width [] (split.front ++ number ∷ split.back) = rw (← all) (witnesses kept).stacked in
    let before : take position (state_of frame records).shelves ≡ map (spelled_shelf (atlas_of frame records)) (map (walked_entry records) split.front) =
    take-map (spelled_shelf (atlas_of frame records)) position (map (walked_entry records) numbers)
    ∙ ap (map (spelled_shelf (atlas_of frame records))) (take-map (walked_entry records) position numbers ∙ ap (map (walked_entry records)) split.before) in
    stacked-at records.shelves frame.column_width [] split.front number split.back stacked
    ∙ ap (height_before records.shelves frame.column_width column) (sym (walked-numbers records split.front))
    ∙ sym (spelled-height (atlas_of frame records) column (map (walked_entry records) split.front))
    ∙ ap (column_height column) (sym before)
