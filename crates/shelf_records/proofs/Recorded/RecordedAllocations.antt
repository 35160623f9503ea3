-- What is allocated in the state that records spell: what the records of its items say, shelf after shelf.
use Rattle.std.proofs.Common.{◌≡◌, ℕ, ◌+◌, ◌≤◌, List, [], ◌∷◌, ◌++◌, map, refl, ap, arith, sym, ◌∙◌}
use Rattle.std.specs.Prelude.{◌*◌, ◌/◌, ◌%◌, ◌==◌, if◌then◌else◌}
use Rattle.std.specs.List.{AllByRecursion, flat_map}
use Rattle.std.proofs.lemmas.Grind.{flat_map-append}
use Rattle.std.proofs.lemmas.List.{map-append}
use Rattle.etagere_base.specs.Places.{rectangle_at}
use Rattle.etagere_base.specs.declared.ids.Allocation.{Allocation}
use Rattle.shelf_records.specs.RecordLists.{Entry, item_numbers, shelf_numbers}
use Rattle.shelf_records.proofs.AllLists.LinkedFrames.{shelf_numbers-append}
use Rattle.shelf_records.specs.AtlasRecords.{AtlasRecords, across_of, along_of, height_of, item_at, item_place_of, shelf_of, spelled_shelf}
use Rattle.shelf_model.specs.Places.{allocation_of, allocations_after, allocations_along, column_height}
use Rattle.shelf_records.proofs.Spelled.Witnessed.{IsPlaced}
use Rattle.shelf_records.specs.Private.Reading.{recorded_allocation}
use Rattle.shelf_records.specs.StandsFor.{AreStacked, LieFrom, height_before}
use Rattle.shelf_model.specs.State.{Shelf}

module _ (atlas : AtlasRecords) where
  -- the heights of the shelves that records spell
  pub spelled-height : (column : ℕ) (entries : List Entry)
      → column_height column (map (spelled_shelf atlas) entries) ≡ height_before atlas.records.shelves atlas.frame.column_width column (shelf_numbers entries)
  spelled-height column [] = refl
  spelled-height column (entry ∷ entries) =
      ap (λ rest. (if along_of atlas.records.shelves entry.number / atlas.frame.column_width == column then height_of atlas.records.shelves entry.number else 0) + rest) (spelled-height column entries)

  -- where a column begins, as its shelves say
  pub spelled-column : (entry : Entry) → 1 ≤ atlas.frame.column_width → along_of atlas.records.shelves entry.number % atlas.frame.column_width ≡ 0
      → along_of atlas.records.shelves entry.number / atlas.frame.column_width * atlas.frame.column_width ≡ along_of atlas.records.shelves entry.number
  spelled-column entry wide whole = omega (arith, wide, whole)

  -- what the items of a shelf allocate, which lie side by side
  along-recorded : (shelf here : ℕ) (numbers : List ℕ) → AllByRecursion (λ item. shelf_of atlas.records.items item ≡ shelf) numbers → LieFrom atlas.records.items here numbers
      → allocations_along atlas.frame (across_of atlas.records.shelves shelf) (height_of atlas.records.shelves shelf) here (map (item_at atlas.records.items) numbers)
      ≡ flat_map (recorded_allocation atlas.frame atlas.records) numbers
  along-recorded shelf here [] owners lies = refl
  along-recorded shelf here (n ∷ ns) owners lies =
      let item = item_at atlas.records.items n in
      let at : (shelf place : ℕ) → List Allocation = λ shelf place.
      allocation_of item.id (rectangle_at atlas.frame place (across_of atlas.records.shelves shelf) item.width (height_of atlas.records.shelves shelf)) in
      let own : at (shelf_of atlas.records.items n) (item_place_of atlas.records.items n) ≡ at shelf here =
      ap (λ s. at s (item_place_of atlas.records.items n)) owners.0 ∙ ap (λ p. at shelf p) lies.0 in
      ap (λ l. at shelf here ++ l) (along-recorded shelf (here + item.width) ns owners.1 lies.1)
      ∙ ap (λ l. l ++ flat_map (recorded_allocation atlas.frame atlas.records) ns) (sym own)

  -- what shelves allocate that stand after others
  pub after-recorded : (before entries : List Entry) → 1 ≤ atlas.frame.column_width → AllByRecursion (IsPlaced atlas) entries
      → AreStacked atlas.records.shelves atlas.frame.column_width (shelf_numbers before) (shelf_numbers entries)
      → allocations_after atlas.frame (map (spelled_shelf atlas) before) (map (spelled_shelf atlas) entries)
      ≡ flat_map (recorded_allocation atlas.frame atlas.records) (item_numbers entries)
  after-recorded before [] wide placed stacked = refl
  after-recorded before (entry ∷ entries) wide placed stacked =
      let shelf : Shelf = spelled_shelf atlas entry in
      let across : column_height shelf.column (map (spelled_shelf atlas) before) ≡ across_of atlas.records.shelves entry.number =
      spelled-height shelf.column before ∙ sym stacked.0 in
      let begins : shelf.column * atlas.frame.column_width ≡ along_of atlas.records.shelves entry.number = spelled-column entry wide placed.0.along in
      let here : allocations_along atlas.frame (column_height shelf.column (map (spelled_shelf atlas) before)) shelf.height (shelf.column * atlas.frame.column_width) shelf.items
      ≡ flat_map (recorded_allocation atlas.frame atlas.records) entry.items =
      ap (λ a. allocations_along atlas.frame a shelf.height (shelf.column * atlas.frame.column_width) shelf.items) across
      ∙ ap (λ b. allocations_along atlas.frame (across_of atlas.records.shelves entry.number) shelf.height b shelf.items) begins
      ∙ along-recorded entry.number (along_of atlas.records.shelves entry.number) entry.items placed.0.owners placed.0.places in
      let later : AreStacked atlas.records.shelves atlas.frame.column_width (shelf_numbers (before ++ entry ∷ [])) (shelf_numbers entries) =
      rw (shelf_numbers-append before (entry ∷ [])) stacked.1 in
      let rest : allocations_after atlas.frame (map (spelled_shelf atlas) before ++ shelf ∷ []) (map (spelled_shelf atlas) entries)
      ≡ flat_map (recorded_allocation atlas.frame atlas.records) (item_numbers entries) =
      ap (λ ss. allocations_after atlas.frame ss (map (spelled_shelf atlas) entries)) (sym (map-append (spelled_shelf atlas) before (entry ∷ [])))
      ∙ after-recorded (before ++ entry ∷ []) entries wide placed.1 later in
      ap (λ l. l ++ allocations_after atlas.frame (map (spelled_shelf atlas) before ++ shelf ∷ []) (map (spelled_shelf atlas) entries)) here
      ∙ ap (λ l. flat_map (recorded_allocation atlas.frame atlas.records) entry.items ++ l) rest
      ∙ sym (flat_map-append (recorded_allocation atlas.frame atlas.records) entry.items (item_numbers entries))
