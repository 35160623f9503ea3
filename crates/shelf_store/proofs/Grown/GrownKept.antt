-- A grow of kept records, step after step, from those that it makes to the grown state.
use Rattle.std.proofs.Common.{◌≡◌, ℕ, ◌+◌, ◌-◌, ◌<◌, ◌≤◌, ◌≢◌, Bool, true, false, cond, Some, List, [], ◌∷◌, ◌++◌, length, map, refl, ap, ◌∙◌, sym, subst, arith, ⊎_elim, ◌==◌}
use Rattle.std.proofs.lemmas.Bool.{cases_lt, cond-false, cond-true}
use Rattle.std.proofs.lemmas.List.{append-nil, length-map}
use Rattle.std.specs.Prelude.{nat_lt}
use Rattle.etagere_base.specs.declared.frames.Frame.{Frame}
use Rattle.etagere_base.specs.declared.geometry.Size.{Size}
use Rattle.etagere_base.specs.Frames.{across_side}
use Rattle.std.specs.List.{AllByRecursion}
use Rattle.etagere_base.specs.Lists.{total}
use Rattle.etagere_base.proofs.EachLemmas.{Each-append, Each-weaken}
use Rattle.etagere_base.proofs.FrameSides.{column_width-le, sides_low}
use Rattle.shelf_records.specs.RecordLists.{Records}
use Rattle.shelf_store.specs.declared.growing.Needed.{Needed}
use Rattle.shelf_model.specs.Fresh.{empty_columns}
use Rattle.shelf_model.specs.Growing.{added_columns, added_height, added_width, ends_column, ends_free, filled_ends, grown_frame}
use Rattle.shelf_model.specs.Merging.{combined_shelves}
use Rattle.shelf_model.specs.Places.{column_height}
use Rattle.shelf_records.specs.Private.Kept.{AreKept, state_of}
use Rattle.shelf_store.specs.Private.RecordsGrown.{CanAppend, CanHeightenAll, CanWidenAll, Growing, columns_added, columns_heightened, last_shelf, needed_of, records_grown, shelves_widened, with_height, with_missing, with_width}
use Rattle.shelf_model.specs.State.{AtlasState, Shelf, is_empty, total_width}
use Rattle.shelf_model.specs.Valid.{IsShelf}
use Rattle.shelf_store.proofs.Grown.CountedRecords.{CountsEnds, ends-counted}
use Rattle.shelf_store.proofs.Grown.EndedGrow.{ended}
use Rattle.shelf_model.proofs.Grown.GrownFrames.{Fits, GrowsFrame, frame-grows, grow-fits}
use Rattle.shelf_model.proofs.Grown.GrownShelf.{wider_shelf}
use Rattle.shelf_model.proofs.Grown.GrownShelves.{end_shelf, taller_end, taller_ends}
use Rattle.shelf_model.proofs.Grown.GrownValid.{below, grown-shelves, one_column, taller, wide-below, wide-filled, wide-heights, wide-ordered, wider}
use Rattle.shelf_store.proofs.Grown.HalfGrown.{Appends, GrowsKept, HasGrown, Heightens, Widens, grown-as}
use Rattle.shelf_store.proofs.Grown.StartedGrow.{started}
use Rattle.shelf_model.proofs.Places.ColumnShelves.{columns-le-shelves}
use Rattle.shelf_model.proofs.Places.Heights.{column_height-none}
use Rattle.shelf_records.proofs.Spelled.StandsKept.{witnesses}

-- a length that is more than another one
gains : (a b : ℕ) → nat_lt a b ≡ true → (1 ≤ b - a) × ((b - a == 0) ≡ false)
gains a b h = (grind arith, grind arith)

-- a length that is no more
gains-none : (a b : ℕ) → nat_lt a b ≡ false → ((b - a == 0) ≡ true) × (b - a ≡ 0)
gains-none a b h = (grind arith, grind arith)

module _ (frame : Frame) (height : ℕ) where
  -- with heights at the ends of the columns all shelves stand before the column that they stood before
  below-taller_ends : (n : ℕ) (shelves : List Shelf) → AllByRecursion (λ (s : Shelf). s.column < n) shelves → AllByRecursion (λ (s : Shelf). s.column < n) (taller_ends frame height shelves)
  below-taller_ends n [] each = tt
  below-taller_ends n (shelf ∷ shelves) each =
      Each-append (λ (s : Shelf). s.column < n) (taller_end frame height shelf shelves) (taller_ends frame height shelves)
      (by_test (ends_column shelf shelves) (is_empty shelf)) (below-taller_ends n shelves each.1)
    where
      by_test : (b c : Bool)
          → AllByRecursion (λ (s : Shelf). s.column < n) (cond b (cond c (combined_shelves shelf (end_shelf frame height shelf) ∷ []) (shelf ∷ end_shelf frame height shelf ∷ [])) (shelf ∷ []))
      by_test true true = (each.0, tt)
      by_test true false = (each.0, (each.0, tt))
      by_test false c = (each.0, tt)

  -- and there are some where there were
  some-taller_ends : (shelves : List Shelf) → 1 ≤ length shelves → 1 ≤ length (taller_ends frame height shelves)
  some-taller_ends [] some = some
  some-taller_ends (shelf ∷ shelves) some = by_test (ends_column shelf shelves) (is_empty shelf)
    where
      by_test : (b c : Bool)
          → 1 ≤ length (cond b (cond c (combined_shelves shelf (end_shelf frame height shelf) ∷ []) (shelf ∷ end_shelf frame height shelf ∷ [])) (shelf ∷ []) ++ taller_ends frame height shelves)
      by_test true true = omega arith
      by_test true false = omega arith
      by_test false c = omega arith

module _ (frame : Frame) (size : Size) (records : Records) (kept : AreKept frame records) (fits : Fits (state_of frame records) size) where
  abbrev grown : Frame
  grown = grown_frame frame size

  abbrev needed : Needed
  needed = needed_of frame grown records

  abbrev state : AtlasState
  state = state_of frame records

  abbrev width : ℕ
  width = added_width frame size

  abbrev height : ℕ
  height = added_height frame size

  abbrev columns : ℕ
  columns = added_columns frame size

  abbrev old : ℕ
  old = length records.items

  abbrev wide : List Shelf
  wide = wider frame width state.shelves

  abbrev tall : List Shelf
  tall = taller grown height wide

  abbrev at_start : Growing
  at_start = with_missing needed records

  abbrev at_width : Growing
  at_width = with_width frame grown at_start

  abbrev at_height : Growing
  at_height = with_height frame grown at_width

  -- the frame grows
  grows : GrowsFrame frame size
  grows = frame-grows frame size (witnesses kept).valid.frame fits.sizes

  -- what the grow needs is counted on the records
  counts : CountsEnds frame records
  counts = ends-counted frame records kept

  -- no side of the grown frame is longer than the longest
  low : (grown.column_width ≤ 65535) × (across_side grown ≤ 65535)
  low =
      let sides = sides_low 65535 grown grows.is_frame in
      (omega (arith, column_width-le 65535 grown grows.is_frame, sides.0), sides.1)

  -- all shelves were widened, where the columns are wider
  widened-all : Widens → HasGrown grown old at_start state.shelves needed.items needed.shelves
      → (nat_lt frame.column_width grown.column_width ≡ true
      → CanWidenAll frame.column_width (grown.column_width - frame.column_width) (length at_start.records.shelves) at_start.records.first_shelf at_start)
      × HasGrown grown old at_width wide needed.shelves needed.shelves
  widened-all widens start =
      by_test (nat_lt frame.column_width grown.column_width) refl
      (subst (λ (n : ℕ). HasGrown grown old at_start state.shelves (cond (nat_lt frame.column_width grown.column_width) n 0 + needed.shelves) needed.shelves) counts.ends start)
    where
      by_test : (b : Bool) → nat_lt frame.column_width grown.column_width ≡ b
          → HasGrown grown old at_start state.shelves (cond b (total (λ (shelf : Shelf). cond (ends_free shelf.items) 0 1) state.shelves) 0 + needed.shelves) needed.shelves
          → (b ≡ true → CanWidenAll frame.column_width (grown.column_width - frame.column_width) (length at_start.records.shelves) at_start.records.first_shelf at_start)
          × HasGrown grown old
          (cond b (shelves_widened frame.column_width (grown.column_width - frame.column_width) (length at_start.records.shelves) at_start.records.first_shelf at_start) at_start)
          wide needed.shelves needed.shelves
      by_test true e has =
          let more = gains frame.column_width grown.column_width e in
          let one : frame.columns ≡ 1 = one_column state size (witnesses kept).valid fits more.1 in
          let done =
          widens frame grown old at_start state.shelves width needed.shelves needed.shelves more.0 (witnesses kept).valid.frame.column_width grows.column_width low.0
          (Each-weaken (λ (s : Shelf). s.column < frame.columns) (λ (s : Shelf). s.column ≡ 0) state.shelves
          (λ (s : Shelf) (h : s.column < frame.columns). omega (arith, h, one)) (below state size (witnesses kept).valid fits))
          (Each-weaken (IsShelf frame) (λ (s : Shelf). total_width s.items ≡ frame.column_width) state.shelves
          (λ (s : Shelf) (h : IsShelf frame s). h.width) (witnesses kept).valid.shelves)
          has in
          (λ _. done.0, grown-as done.1 (sym (cond-false (width == 0) state.shelves (map (wider_shelf frame width) state.shelves) more.1)) refl refl)
      by_test false e has =
          let none = gains-none frame.column_width grown.column_width e in (
            λ h. absurd (cc),
            grown-as has (sym (cond-true (width == 0) state.shelves (map (wider_shelf frame width) state.shelves) none.0)) (omega arith) refl,
          )

  -- no column becomes too tall
  heights-low : (column : ℕ) → column_height column wide + height ≤ 65535
  heights-low column =
      ⊎_elim
      (λ (within : column < frame.columns).
      omega (arith, wide-heights state size (witnesses kept).valid fits column, (witnesses kept).valid.heights column within, grows.across, low.1))
      (λ (beyond : frame.columns ≤ column).
      omega (
        arith,
        wide-heights state size (witnesses kept).valid fits column,
        column_height-none column state.shelves
            (Each-weaken (λ (s : Shelf). s.column < frame.columns) (λ (s : Shelf). s.column ≢ column) state.shelves
            (λ (s : Shelf) (h : s.column < frame.columns) (e : s.column ≡ column). omega (arith, beyond, h, e)) (below state size (witnesses kept).valid fits)),
        grows.across,
        low.1,
      ))
      (cases_lt column frame.columns)

  -- all columns got their height, where the frame is taller
  heightened-all : Heightens → HasGrown grown old at_width wide needed.shelves needed.shelves
      → (nat_lt (across_side frame) (across_side grown) ≡ true
      → CanHeightenAll grown.column_width (across_side grown - across_side frame) (length at_width.records.shelves) at_width.records.first_shelf at_width)
      × HasGrown grown old at_height tall columns columns
  heightened-all heightens start =
      by_test (nat_lt (across_side frame) (across_side grown)) refl
      (subst
      (λ (n : ℕ). HasGrown grown old at_width wide (cond (nat_lt (across_side frame) (across_side grown)) n 0 + columns) (cond (nat_lt (across_side frame) (across_side grown)) n 0 + columns))
      (counts.filled ∙ sym (wide-filled state size (witnesses kept).valid fits)) start)
    where
      by_test : (b : Bool) → nat_lt (across_side frame) (across_side grown) ≡ b
          → HasGrown grown old at_width wide (cond b (filled_ends wide) 0 + columns) (cond b (filled_ends wide) 0 + columns)
          → (b ≡ true → CanHeightenAll grown.column_width (across_side grown - across_side frame) (length at_width.records.shelves) at_width.records.first_shelf at_width)
          × HasGrown grown old
          (cond b (columns_heightened grown.column_width (across_side grown - across_side frame) (length at_width.records.shelves) at_width.records.first_shelf at_width) at_width)
          tall columns columns
      by_test true e has =
          let more = gains (across_side frame) (across_side grown) e in
          let done =
          heightens grown old at_width wide height columns columns more.0 grows.is_frame.column_width heights-low (wide-ordered state size (witnesses kept).valid fits) has in
          (λ _. done.0, grown-as done.1 (sym (cond-false (height == 0) wide (taller_ends grown height wide) more.1)) refl refl)
      by_test false e has =
          let none = gains-none (across_side frame) (across_side grown) e in
          (λ h. absurd (cc), grown-as has (sym (cond-true (height == 0) wide (taller_ends grown height wide) none.0)) (omega arith) (omega arith))

  -- all shelves stand before the new columns
  tall-below : AllByRecursion (λ (s : Shelf). s.column < frame.columns) tall
  tall-below = by_test (height == 0)
    where
      by_test : (b : Bool) → AllByRecursion (λ (s : Shelf). s.column < frame.columns) (cond b wide (taller_ends grown height wide))
      by_test true = wide-below state size (witnesses kept).valid fits
      by_test false = below-taller_ends grown height frame.columns wide (wide-below state size (witnesses kept).valid fits)

  -- there are some
  tall-some : 1 ≤ length tall
  tall-some = by_height (height == 0)
    where
      by_width : (b : Bool) → 1 ≤ length (cond b state.shelves (map (wider_shelf frame width) state.shelves))
      by_width true = omega (arith, columns-le-shelves state (witnesses kept).valid, (witnesses kept).valid.frame.columns.0)
      by_width false = omega (arith, length-map state.shelves (wider_shelf frame width), columns-le-shelves state (witnesses kept).valid, (witnesses kept).valid.frame.columns.0)

      by_height : (b : Bool) → 1 ≤ length (cond b wide (taller_ends grown height wide))
      by_height true = by_width (width == 0)
      by_height false = some-taller_ends grown height wide (by_width (width == 0))

  -- all columns were added, where the frame has more
  appended-all : Appends → HasGrown grown old at_height tall columns columns
      → ((last : ℕ) → last_shelf at_height.records ≡ Some last → CanAppend grown columns last frame.columns at_height)
      × HasGrown grown old (records_grown frame grown needed records) (tall ++ empty_columns grown frame.columns columns) 0 0
  appended-all appends start =
      let done =
      appends grown old at_height tall frame.columns 0 0 grows.is_frame.column_width (omega (arith, grows.columns)) tall-some tall-below
      (grown-as start refl (omega arith) (omega arith)) in
      (done.0, by_test (nat_lt frame.columns grown.columns) refl done.1)
    where
      by_test : (b : Bool) → nat_lt frame.columns grown.columns ≡ b
          → HasGrown grown old (columns_added grown frame.columns (last_shelf at_height.records) at_height) (tall ++ empty_columns grown frame.columns columns) 0 0
          → HasGrown grown old (cond b (columns_added grown frame.columns (last_shelf at_height.records) at_height) at_height) (tall ++ empty_columns grown frame.columns columns) 0 0
      by_test true e has = has
      by_test false e has =
          let none : columns ≡ 0 = (gains-none frame.columns grown.columns e).1 in
          grown-as start (sym (ap (λ (n : ℕ). tall ++ empty_columns grown frame.columns n) none ∙ append-nil tall)) none none

-- where widening, heightening and appending do what they say, a grow of kept records without a fault keeps them, and
-- they spell the grown state
pub grows-kept : Widens → Heightens → Appends → GrowsKept
grows-kept widens heightens appends frame size records kept no_fault =
    let state : AtlasState = state_of frame records in
    let fits : Fits state size = grow-fits state size no_fault in
    let wide = widened-all frame size records kept fits widens (started frame size records kept no_fault) in
    let tall = heightened-all frame size records kept fits heightens wide.1 in
    let all = appended-all frame size records kept fits appends tall.1 in
    let done =
    ended frame size records (records_grown frame (grown_frame frame size) (needed_of frame (grown_frame frame size) records) records) kept fits
    (grown-as all.1 (sym (grown-shelves state size (witnesses kept).valid fits)) refl refl) in
    record { can = record { width = wide.0; height = tall.0; columns = all.0 }; kept = done.1; state = done.0 }
