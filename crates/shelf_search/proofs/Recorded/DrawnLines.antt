-- What a picture shows of the state that records spell: what the records of its items say, shelf after shelf.
use Rattle.std.proofs.Common.{◌≡◌, ℕ, ◌+◌, ◌≤◌, Bool, true, false, List, [], ◌∷◌, ◌++◌, map, refl, ap, sym, ◌∙◌}
use Rattle.std.specs.Prelude.{◌*◌, not, if◌then◌else◌}
use Rattle.std.specs.List.{AllByRecursion, flat_map}
use Rattle.std.proofs.lemmas.Grind.{flat_map-append}
use Rattle.std.proofs.lemmas.List.{map-append}
use Rattle.etagere_base.specs.Drawing.{drawn_at, drawn_line, drawn_lines}
use Rattle.etagere_base.specs.declared.drawing.Colour.{Colour}
use Rattle.etagere_base.specs.declared.drawing.Colour.TheVariants.{Allocated, Free}
use Rattle.etagere_base.specs.declared.drawing.Drawn.{Drawn}
use Rattle.etagere_base.specs.declared.frames.Frame.{Frame}
use Rattle.shelf_records.specs.declared.records.LinkedItem.{LinkedItem}
use Rattle.shelf_records.specs.RecordLists.{Entry, Records, shelf_numbers, shelf_walk, walked_entry, walked_lists}
use Rattle.shelf_records.proofs.AllLists.LinkedFrames.{shelf_numbers-append}
use Rattle.shelf_records.specs.AtlasRecords.{AtlasRecords, across_of, along_of, height_of, is_allocated_at, item_at, item_place_of, spelled_shelf}
use Rattle.shelf_model.specs.Places.{column_height}
use Rattle.shelf_search.specs.Private.DrawnRecords.{item_line, recorded_lines, shelf_lines}
use Rattle.shelf_records.specs.Private.Kept.{AreKept, atlas_of, state_of}
use Rattle.shelf_records.proofs.Spelled.Witnessed.{IsPlaced}
use Rattle.shelf_records.specs.StandsFor.{AreStacked, LieFrom}
use Rattle.shelf_model.specs.State.{Shelf}
use Rattle.shelf_model.specs.Svg.{colour_of, drawn_after, drawn_along, drawn_items}
use Rattle.shelf_records.proofs.Recorded.RecordedAllocations.{spelled-column, spelled-height}
use Rattle.shelf_records.proofs.Spelled.SpelledPlaces.{free-spelled}
use Rattle.shelf_records.proofs.Spelled.StandsKept.{witnesses}

-- the colour of an item, as its record says
colour-spelled : (items : List LinkedItem) (number : ℕ) → (if is_allocated_at items number then Allocated else Free) ≡ colour_of (item_at items number)
colour-spelled items number =
    of_mark (is_allocated_at items number) ∙ ap (λ b. if b then Free else Allocated) (sym (free-spelled items number))
  where
    of_mark : (b : Bool) → (if b then Allocated else Free) ≡ (if not b then Free else Allocated)
    of_mark true = refl
    of_mark false = refl

module _ (atlas : AtlasRecords) where
  -- the lines of the items of a shelf, which lie side by side
  along-lines : (shelf here : ℕ) (numbers : List ℕ) → LieFrom atlas.records.items here numbers
      → drawn_lines (drawn_along atlas.frame (across_of atlas.records.shelves shelf) (height_of atlas.records.shelves shelf) here (map (item_at atlas.records.items) numbers))
      ≡ flat_map (item_line atlas.frame atlas.records shelf) numbers
  along-lines shelf here [] lies = refl
  along-lines shelf here (n ∷ ns) lies =
      let item = item_at atlas.records.items n in
      let at : Colour → ℕ → List ℕ = λ colour place.
      drawn_line (drawn_at atlas.frame colour place (across_of atlas.records.shelves shelf) item.width (height_of atlas.records.shelves shelf)) in
      let own : at (if is_allocated_at atlas.records.items n then Allocated else Free) (item_place_of atlas.records.items n) ≡ at (colour_of item) here =
      ap (λ c. at c (item_place_of atlas.records.items n)) (colour-spelled atlas.records.items n) ∙ ap (λ p. at (colour_of item) p) lies.0 in
      ap (λ l. at (colour_of item) here ++ l) (along-lines shelf (here + item.width) ns lies.1)
      ∙ ap (λ l. l ++ flat_map (item_line atlas.frame atlas.records shelf) ns) (sym own)

  -- the lines of the items of a shelf of these lists
  abbrev entry_lines : Entry → List ℕ
  entry_lines entry = flat_map (item_line atlas.frame atlas.records entry.number) entry.items

  -- the lines of shelves that stand after others
  after-lines : (before entries : List Entry) → 1 ≤ atlas.frame.column_width → AllByRecursion (IsPlaced atlas) entries
      → AreStacked atlas.records.shelves atlas.frame.column_width (shelf_numbers before) (shelf_numbers entries)
      → drawn_lines (drawn_after atlas.frame (map (spelled_shelf atlas) before) (map (spelled_shelf atlas) entries)) ≡ flat_map entry_lines entries
  after-lines before [] wide placed stacked = refl
  after-lines before (entry ∷ entries) wide placed stacked =
      let shelf : Shelf = spelled_shelf atlas entry in
      let across : column_height shelf.column (map (spelled_shelf atlas) before) ≡ across_of atlas.records.shelves entry.number =
      spelled-height atlas shelf.column before ∙ sym stacked.0 in
      let begins : shelf.column * atlas.frame.column_width ≡ along_of atlas.records.shelves entry.number =
      spelled-column atlas entry wide placed.0.along in
      let items : ℕ → ℕ → List Drawn = λ a b. drawn_along atlas.frame a shelf.height b shelf.items in
      let first : List Drawn = items (column_height shelf.column (map (spelled_shelf atlas) before)) (shelf.column * atlas.frame.column_width) in
      let others : List Drawn = drawn_after atlas.frame (map (spelled_shelf atlas) before ++ shelf ∷ []) (map (spelled_shelf atlas) entries) in
      let here : drawn_lines first ≡ entry_lines entry =
      ap (λ a. drawn_lines (items a (shelf.column * atlas.frame.column_width))) across
      ∙ ap (λ b. drawn_lines (items (across_of atlas.records.shelves entry.number) b)) begins
      ∙ along-lines entry.number (along_of atlas.records.shelves entry.number) entry.items placed.0.places in
      let later : AreStacked atlas.records.shelves atlas.frame.column_width (shelf_numbers (before ++ entry ∷ [])) (shelf_numbers entries) =
      rw (shelf_numbers-append before (entry ∷ [])) stacked.1 in
      let rest : drawn_lines others ≡ flat_map entry_lines entries =
      ap (λ ss. drawn_lines (drawn_after atlas.frame ss (map (spelled_shelf atlas) entries))) (sym (map-append (spelled_shelf atlas) before (entry ∷ [])))
      ∙ after-lines (before ++ entry ∷ []) entries wide placed.1 later in
      flat_map-append drawn_line first others
      ∙ ap (λ l. l ++ drawn_lines others) here
      ∙ ap (λ l. entry_lines entry ++ l) rest

-- the lines of the shelves that walks meet
walked-lines : (frame : Frame) (records : Records) (numbers : List ℕ)
    → flat_map (entry_lines (atlas_of frame records)) (map (walked_entry records) numbers) ≡ flat_map (shelf_lines frame records) numbers
walked-lines frame records [] = refl
walked-lines frame records (n ∷ ns) = ap (λ l. shelf_lines frame records n ++ l) (walked-lines frame records ns)

-- the lines of every item, as records say
pub kept-lines : (frame : Frame) (records : Records) → AreKept frame records → recorded_lines frame records ≡ drawn_lines (drawn_items (state_of frame records))
kept-lines frame records kept =
    sym (after-lines (atlas_of frame records) [] (walked_lists records).entries (witnesses kept).valid.frame.column_width (witnesses kept).placed (witnesses kept).stacked
    ∙ walked-lines frame records (shelf_walk records).met)
