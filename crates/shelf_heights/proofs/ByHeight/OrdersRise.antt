-- The shelves in use of records that keep every rule: their sides are short, and along their chain the places where
-- they begin rise.
use Rattle.std.proofs.Common.{◌≡◌, ℕ, zero, suc, ◌+◌, ◌*◌, ◌<◌, ◌≤◌, Bool, true, false, cond, Some, option_map, List, [], ◌∷◌, ◌++◌, map, take, refl, ap, arith, subst, ◌∙◌}
use Rattle.std.proofs.lemmas.Bool.Decides.{nat_tests}
use Rattle.std.proofs.lemmas.Option.{slice_get-map}
use Rattle.std.specs.Prelude.{◌/◌, ◌==◌, nat_lt, slice_get}
use Rattle.etagere_base.specs.Frames.{across_side, along_side}
use Rattle.std.specs.List.{AllByRecursion}
use Rattle.etagere_base.specs.Lists.{NoNeighbours}
use Rattle.etagere_base.specs.declared.frames.Frame.{Frame}
use Rattle.etagere_base.proofs.EachLemmas.{Each-get}
use Rattle.etagere_base.proofs.FrameSides.{column-within, columns-apart, sides_low}
use Rattle.shelf_records.specs.declared.records.LinkedShelf.{LinkedShelf}
use Rattle.shelf_records.specs.RecordLists.{Records, shelf_walk, walked_entry}
use Rattle.shelf_records.proofs.AllLists.LinkedWalks.{walked-numbers}
use Rattle.shelf_records.specs.AtlasRecords.{AtlasRecords, across_of, along_of, height_of, spelled_shelf}
use Rattle.shelf_model.specs.Listing.{RiseFrom}
use Rattle.shelf_model.specs.Places.{column_height}
use Rattle.shelf_heights.specs.Private.ByHeight.{chain_order, order_at}
use Rattle.shelf_records.specs.Private.Kept.{AreKept, atlas_of, state_of}
use Rattle.shelf_records.specs.StandsFor.{AreStacked, height_before}
use Rattle.shelf_model.specs.State.{Shelf}
use Rattle.shelf_model.specs.Valid.{is_out_of_order}
use Rattle.shelf_model.proofs.Places.Heights.{column_height-upto}
use Rattle.shelf_records.proofs.Recorded.RecordedAllocations.{spelled-column}
use Rattle.shelf_records.proofs.Spelled.KeptShelves.{IsSearched, across-at, kept-searched}
use Rattle.shelf_records.proofs.Spelled.HeightsBefore.{height_before-append}
use Rattle.shelf_records.proofs.Spelled.StandsKept.{witnesses}

-- a shelf begins where its column does, and lies within sides that are short
pub record LiesWithin (frame : Frame) (shelves : List LinkedShelf) (number : ℕ) : Type 0 where
  pub column : along_of shelves number / frame.column_width * frame.column_width ≡ along_of shelves number
  pub along : along_of shelves number < 65536
  pub across : across_of shelves number < 65536
  pub tall : 1 ≤ height_of shelves number
  pub low : height_of shelves number < 65536

-- a fact of the element of each number is one of each element
Each-got : {X : Type 0} (P : X → Type 0) (xs : List X) → ((n : ℕ) (x : X) → slice_get xs n ≡ Some x → P x) → AllByRecursion P xs
Each-got P [] got = tt
Each-got P (x ∷ xs) got = (got zero x refl, Each-got P xs (λ n y at. got (suc n) y at))

-- the shelf of a position lies so
lies-at : (frame : Frame) (records : Records) (position number : ℕ) → AreKept frame records → slice_get (shelf_walk records).met position ≡ Some number → LiesWithin frame records.shelves number
lies-at frame records position number kept at =
    let atlas : AtlasRecords = atlas_of frame records in
    let shelf : Shelf = spelled_shelf atlas (walked_entry records number) in
    let searched : IsSearched atlas (walked_entry records number) =
    Each-get (λ number. IsSearched atlas (walked_entry records number)) (shelf_walk records).met position number at (kept-searched frame records kept) in
    let stands : slice_get (state_of frame records).shelves position ≡ Some shelf =
    slice_get-map (spelled_shelf atlas) (map (walked_entry records) (shelf_walk records).met) position
    ∙ ap (option_map (spelled_shelf atlas)) (slice_get-map (walked_entry records) (shelf_walk records).met position ∙ ap (option_map (walked_entry records)) at) in
    let across : across_of records.shelves number ≡ column_height shelf.column (take position (state_of frame records).shelves) = across-at frame records position number kept at in
    let upto : column_height shelf.column (take position (state_of frame records).shelves) + shelf.height ≤ column_height shelf.column (state_of frame records).shelves =
    column_height-upto position (state_of frame records).shelves shelf stands in
    let full : column_height shelf.column (state_of frame records).shelves ≡ across_side frame = (witnesses kept).valid.heights shelf.column searched.shelf.column in
    let begins : shelf.column * frame.column_width ≡ along_of records.shelves number = spelled-column atlas (walked_entry records number) (witnesses kept).valid.frame.column_width searched.placed.along in
    let inside : shelf.column * frame.column_width + frame.column_width ≤ along_side frame = column-within frame shelf.column (witnesses kept).valid.frame searched.shelf.column in
    let short : (along_side frame ≤ 65535) × (across_side frame ≤ 65535) = sides_low 65535 frame (witnesses kept).valid.frame in
    let tall : 1 ≤ height_of records.shelves number = searched.shelf.height in
    record {
      column = begins;
      along = omega (arith, begins, inside, short.0);
      across = omega (arith, across, upto, full, short.1);
      tall = tall;
      low = omega (arith, upto, full, short.1);
    }

-- each shelf in use lies so
pub kept-within : (frame : Frame) (records : Records) → AreKept frame records → AllByRecursion (LiesWithin frame records.shelves) (shelf_walk records).met
kept-within frame records kept = Each-got (LiesWithin frame records.shelves) (shelf_walk records).met (λ position number at. lies-at frame records position number kept at)

-- a place further across in one column, or in a later column, is a greater one
place-above : (width column next across after height : ℕ) → 1 ≤ width → across < 65536 → 1 ≤ height → column ≤ next → (column ≡ next → after ≡ across + height)
    → column * width * 65536 + across + 1 ≤ next * width * 65536 + after
place-above width column next across after height wide short tall ordered stacked = by_test (column == next) refl
  where
    by_test : (b : Bool) → (column == next) ≡ b → column * width * 65536 + across + 1 ≤ next * width * 65536 + after
    by_test true e =
        let same : column ≡ next = grind arith in
        let same_along : column * width ≡ next * width = ap (λ c. c * width) same in
        omega (arith, same_along, stacked same, tall)
    by_test false e =
        let later : column < next = grind arith in
        omega (arith, columns-apart column next width later, wide, short)

module _ (frame : Frame) (records : Records) (wide : 1 ≤ frame.column_width) where
  -- the column of a shelf
  abbrev column_at : ℕ → ℕ
  column_at number = along_of records.shelves number / frame.column_width

  -- a shelf begins later than the one before it
  place-after : (before : List ℕ) (number next : ℕ) → LiesWithin frame records.shelves number → LiesWithin frame records.shelves next
      → nat_lt (column_at next) (column_at number) ≡ false
      → across_of records.shelves number ≡ height_before records.shelves frame.column_width (column_at number) before
      → across_of records.shelves next ≡ height_before records.shelves frame.column_width (column_at next) (before ++ number ∷ [])
      → chain_order records.shelves number + 1 ≤ chain_order records.shelves next
  place-after before number next here there ordered stacked above =
      let tall : ℕ = height_of records.shelves number in
      let upon : column_at number ≡ column_at next → across_of records.shelves next ≡ across_of records.shelves number + tall =
      λ same.
      let own : (column_at number == column_at next) ≡ true = grind arith in
      let heights : (column : ℕ) → ℕ = λ column. height_before records.shelves frame.column_width column before in
      above
      ∙ height_before-append records.shelves frame.column_width (column_at next) before (number ∷ [])
      ∙ ap (λ b. heights (column_at next) + (cond b tall 0 + 0)) own
      ∙ omega (arith, stacked, ap heights same) in
      let apart : column_at number * frame.column_width * 65536 + across_of records.shelves number + 1 ≤ column_at next * frame.column_width * 65536 + across_of records.shelves next =
      place-above frame.column_width (column_at number) (column_at next) (across_of records.shelves number) (across_of records.shelves next) tall wide here.across here.tall (grind (arith, nat_tests)) upon in
      omega (arith, apart, here.column, there.column)

  -- the orders of stacked shelves rise
  stacked-rise : (before : List ℕ) (from number : ℕ) (numbers : List ℕ) → AllByRecursion (LiesWithin frame records.shelves) (number ∷ numbers)
      → NoNeighbours is_out_of_order (map (spelled_shelf (atlas_of frame records)) (map (walked_entry records) (number ∷ numbers)))
      → AreStacked records.shelves frame.column_width before (number ∷ numbers)
      → from ≤ chain_order records.shelves number
      → RiseFrom from (map (chain_order records.shelves) (number ∷ numbers))
  stacked-rise before from number [] within ordered stacked low = (low, tt)
  stacked-rise before from number (next ∷ numbers) within ordered stacked low = (
    low,
    stacked-rise (before ++ number ∷ []) (chain_order records.shelves number + 1) next numbers within.1 ordered.1 stacked.1
        (place-after before number next within.0 within.1.0 ordered.0 stacked.0 stacked.1.0),
  )

-- along the chain of the shelves in use the places where they begin rise
pub orders-rise : (frame : Frame) (records : Records) → AreKept frame records → RiseFrom 0 (map (chain_order records.shelves) (shelf_walk records).met)
orders-rise frame records kept =
    by_numbers (shelf_walk records).met (kept-within frame records kept) (witnesses kept).valid.ordered
    (subst (λ (ns : List ℕ). AreStacked records.shelves frame.column_width [] ns) (walked-numbers records (shelf_walk records).met) (witnesses kept).stacked)
  where
    by_numbers : (numbers : List ℕ) → AllByRecursion (LiesWithin frame records.shelves) numbers
        → NoNeighbours is_out_of_order (map (spelled_shelf (atlas_of frame records)) (map (walked_entry records) numbers))
        → AreStacked records.shelves frame.column_width [] numbers
        → RiseFrom 0 (map (chain_order records.shelves) numbers)
    by_numbers [] within ordered stacked = tt
    by_numbers (number ∷ numbers) within ordered stacked =
        stacked-rise frame records (witnesses kept).valid.frame.column_width [] 0 number numbers within ordered stacked (omega arith)

-- where two stand at one point of the order they stand at one of the chain
pub same-in_chain : (rank other in_chain second : ℕ) → in_chain < 65536 * 65536 → second < 65536 * 65536 → order_at rank in_chain ≡ order_at other second → in_chain ≡ second
same-in_chain rank other in_chain second low below same = omega arith
