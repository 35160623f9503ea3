-- Where columns rise along shelves, these stand one on the other just where a pass finds it that keeps one column's
-- height, and they fill all columns just where such a pass finds it.
use Rattle.std.proofs.Common.{◌≡◌, ◌≢◌, ℕ, ◌+◌, ◌<◌, ◌≤◌, Bool, true, false, ◌&&◌, ◌||◌, List, [], ◌∷◌, ◌++◌, map, refl, sym, arith, ◌∙◌}
use Rattle.std.specs.Prelude.{◌==◌, if◌then◌else◌}
use Rattle.etagere_base.specs.declared.frames.Frame.{Frame}
use Rattle.etagere_base.specs.Frames.{across_side}
use Rattle.std.specs.List.{AllByRecursion}
use Rattle.etagere_base.specs.Lists.{NoNeighbours}
use Rattle.shelf_records.specs.declared.records.LinkedItem.{LinkedItem}
use Rattle.shelf_records.specs.declared.records.LinkedShelf.{LinkedShelf}
use Rattle.shelf_records.specs.RecordLists.{Entry, shelf_numbers}
use Rattle.shelf_records.specs.AtlasRecords.{height_of, spelled_shelf}
use Rattle.shelf_model.specs.Places.{column_height}
use Rattle.shelf_records.specs.Private.Judging.{atlas_of_records, column_at, height_below, StackFrom, FillFrom}
use Rattle.shelf_records.specs.StandsFor.{AreStacked, height_before}
use Rattle.shelf_model.specs.State.{Shelf}
use Rattle.shelf_model.specs.Valid.{is_out_of_order}
use Rattle.shelf_records.proofs.Spelled.HeightsBefore.{height_before-append}

-- what a shelf counts for another column than its own
other-column : (column own height : ℕ) → own ≢ column → (if own == column then height else 0) ≡ 0
other-column column own height other = grind (arith, other)

-- what a shelf counts for its own column
own-column : (column own height : ℕ) → own ≡ column → (if own == column then height else 0) ≡ height
own-column column own height same = grind (arith, same)

-- a shelf of a column counts with what stands there
summed : (own column k height below here rest side : ℕ) → own ≡ column → below ≡ height
    → (if column == k then height else 0) + ((if own == k then here else 0) + rest) ≡ side
    → (if own == k then below + here else 0) + rest ≡ side
summed own column k height below here rest side same e whole = by_test (own == k) refl
  where
    by_test : (b : Bool) → (own == k) ≡ b → (if own == k then below + here else 0) + rest ≡ side
    by_test true t =
        let at : own ≡ k = grind arith in
        omega (
          arith,
          e,
          own-column k own here at,
          own-column k own (below + here) at,
          own-column k column height (omega (arith, same, at)),
          whole,
        )
    by_test false t =
        let off : own ≢ k = grind arith in
        omega (
          arith,
          other-column k own here off,
          other-column k own (below + here) off,
          other-column k column height (λ at. off (omega (arith, same, at))),
          whole,
        )

-- and the other way round
parted : (own column k height below here rest side : ℕ) → own ≡ column → below ≡ height
    → (if own == k then below + here else 0) + rest ≡ side
    → (if column == k then height else 0) + ((if own == k then here else 0) + rest) ≡ side
parted own column k height below here rest side same e whole = by_test (own == k) refl
  where
    by_test : (b : Bool) → (own == k) ≡ b → (if column == k then height else 0) + ((if own == k then here else 0) + rest) ≡ side
    by_test true t =
        let at : own ≡ k = grind arith in
        omega (
          arith,
          e,
          own-column k own here at,
          own-column k own (below + here) at,
          own-column k column height (omega (arith, same, at)),
          whole,
        )
    by_test false t =
        let off : own ≢ k = grind arith in
        omega (
          arith,
          other-column k own here off,
          other-column k own (below + here) off,
          other-column k column height (λ at. off (omega (arith, same, at))),
          whole,
        )

-- in a column where nothing stands a shelf counts alone
alone : (own k below here : ℕ) → below ≡ 0 → (if own == k then below + here else 0) ≡ (if own == k then here else 0)
alone own k below here none = by_test (own == k)
  where
    by_test : (b : Bool) → (if b then below + here else 0) ≡ (if b then here else 0)
    by_test true = omega (arith, none)
    by_test false = refl

module _ (frame : Frame) (shelves : List LinkedShelf) (items : List LinkedItem) where
  -- the shelves that records spell
  abbrev spelled : List Entry → List Shelf
  spelled entries = map (spelled_shelf (atlas_of_records frame shelves items)) entries

  -- columns rise from this one on
  abbrev pub RiseFrom : ℕ → List Entry → Type 0
  RiseFrom column [] = Unit {0}
  RiseFrom column (entry ∷ entries) = (column ≤ column_at frame shelves entry) × RiseFrom (column_at frame shelves entry) entries

  -- shelves in order rise
  rises : (column : ℕ) (entry : Entry) (entries : List Entry) → column ≤ column_at frame shelves entry
      → NoNeighbours is_out_of_order (spelled (entry ∷ entries)) → RiseFrom column (entry ∷ entries)
  rises column entry [] above ordered = (above, tt)
  rises column entry (next ∷ entries) above ordered =
      let in_order : column_at frame shelves entry ≤ column_at frame shelves next = grind (arith, ordered.0) in
      (above, rises (column_at frame shelves entry) next entries in_order ordered.1)

  -- shelves in order rise from the first column on
  pub ordered-rises : (entries : List Entry) → NoNeighbours is_out_of_order (spelled entries) → RiseFrom 0 entries
  ordered-rises [] ordered = tt
  ordered-rises (entry ∷ entries) ordered = rises 0 entry entries (omega arith) ordered

  -- below the first column of shelves that rise there are none
  column_height-below : (column from : ℕ) (entries : List Entry) → column < from → RiseFrom from entries → column_height column (spelled entries) ≡ 0
  column_height-below column from [] below rise = refl
  column_height-below column from (entry ∷ entries) below rise =
      let own = column_at frame shelves entry in
      let here : (if own == column then height_of shelves entry.number else 0) ≡ 0 = other-column column own (height_of shelves entry.number) (λ e. omega (arith, below, rise.0, e)) in
      let later : column_height column (spelled entries) ≡ 0 = column_height-below column own entries (omega (arith, below, rise.0)) rise.1 in
      omega (arith, here, later)

  -- the heights in a column, after those in the first column of shelves that rise
  height_before-below : (before : List ℕ) (column height own : ℕ) → column ≤ own
      → height_before shelves frame.column_width column before ≡ height
      → ((later : ℕ) → column < later → height_before shelves frame.column_width later before ≡ 0)
      → height_before shelves frame.column_width own before ≡ (if own == column then height else 0)
  height_before-below before column height own above here none = by_test (own == column) refl
    where
      by_test : (b : Bool) → (own == column) ≡ b → height_before shelves frame.column_width own before ≡ (if own == column then height else 0)
      by_test true e =
          let same : own ≡ column = grind arith in
          rw same (here ∙ sym (own-column column column height refl))
      by_test false e =
          let other : own ≢ column = grind arith in
          none own (omega (arith, above, other)) ∙ sym (other-column column own height other)

  -- the heights in the column of a shelf that was added
  height_before-own : (before : List ℕ) (entry : Entry)
      → height_before shelves frame.column_width (column_at frame shelves entry) (before ++ entry.number ∷ [])
      ≡ height_before shelves frame.column_width (column_at frame shelves entry) before + height_of shelves entry.number
  height_before-own before entry =
      let own = column_at frame shelves entry in
      omega (
        arith,
        height_before-append shelves frame.column_width own before (entry.number ∷ []),
        own-column own own (height_of shelves entry.number) refl,
      )

  -- the heights in a later column are as before
  height_before-later : (before : List ℕ) (entry : Entry) (later : ℕ) → column_at frame shelves entry < later
      → height_before shelves frame.column_width later before ≡ 0
      → height_before shelves frame.column_width later (before ++ entry.number ∷ []) ≡ 0
  height_before-later before entry later above none =
      omega (
        arith,
        none,
        height_before-append shelves frame.column_width later before (entry.number ∷ []),
        other-column later (column_at frame shelves entry) (height_of shelves entry.number) (λ e. omega (arith, above, e)),
      )

  -- shelves that rise and stand one on the other follow
  pub stacked-follow : (before : List ℕ) (column height : ℕ) (entries : List Entry) → RiseFrom column entries
      → height_before shelves frame.column_width column before ≡ height
      → ((later : ℕ) → column < later → height_before shelves frame.column_width later before ≡ 0)
      → AreStacked shelves frame.column_width before (shelf_numbers entries) → StackFrom frame shelves column height entries
  stacked-follow before column height [] rise here none stacked = tt
  stacked-follow before column height (entry ∷ entries) rise here none stacked =
      let own = column_at frame shelves entry in
      let below : height_before shelves frame.column_width own before ≡ height_below frame shelves column height entry =
      height_before-below before column height own rise.0 here none in (
        stacked.0 ∙ below,
        stacked-follow (before ++ entry.number ∷ []) own (height_below frame shelves column height entry + height_of shelves entry.number) entries rise.1
            (omega (arith, below, height_before-own before entry))
            (λ later above. height_before-later before entry later above (none later (omega (arith, above, rise.0)))) stacked.1,
      )

  -- shelves that rise and follow stand one on the other
  pub follow-stacked : (before : List ℕ) (column height : ℕ) (entries : List Entry) → RiseFrom column entries
      → height_before shelves frame.column_width column before ≡ height
      → ((later : ℕ) → column < later → height_before shelves frame.column_width later before ≡ 0)
      → StackFrom frame shelves column height entries → AreStacked shelves frame.column_width before (shelf_numbers entries)
  follow-stacked before column height [] rise here none follow = tt
  follow-stacked before column height (entry ∷ entries) rise here none follow =
      let own = column_at frame shelves entry in
      let below : height_before shelves frame.column_width own before ≡ height_below frame shelves column height entry =
      height_before-below before column height own rise.0 here none in (
        follow.0 ∙ sym below,
        follow-stacked (before ++ entry.number ∷ []) own (height_below frame shelves column height entry + height_of shelves entry.number) entries rise.1
            (omega (arith, below, height_before-own before entry))
            (λ later above. height_before-later before entry later above (none later (omega (arith, above, rise.0)))) follow.1,
      )

  -- so much of a column is filled, and the shelves fill it and all later ones
  abbrev pub FillsRest : ℕ → ℕ → List Entry → Type 0
  FillsRest column height entries =
      (k : ℕ) → column ≤ k → k < frame.columns
      → (if column == k then height else 0) + column_height k (spelled entries) ≡ across_side frame

  -- after a shelf of the column the later ones fill the rest
  fills-own : (column height : ℕ) (entry : Entry) (entries : List Entry) → column_at frame shelves entry ≡ column
      → FillsRest column height (entry ∷ entries)
      → FillsRest (column_at frame shelves entry) (height_below frame shelves column height entry + height_of shelves entry.number) entries
  fills-own column height entry entries same fills k above within =
      summed (column_at frame shelves entry) column k height (height_below frame shelves column height entry) (height_of shelves entry.number)
      (column_height k (spelled entries)) (across_side frame) same (own-column column (column_at frame shelves entry) height same)
      (fills k (omega (arith, same, above)) within)

  -- after a shelf of a later column the later ones fill its rest
  fills-next : (column height : ℕ) (entry : Entry) (entries : List Entry) → column < column_at frame shelves entry
      → FillsRest column height (entry ∷ entries)
      → FillsRest (column_at frame shelves entry) (height_below frame shelves column height entry + height_of shelves entry.number) entries
  fills-next column height entry entries past fills k above within =
      let own = column_at frame shelves entry in
      omega (
        arith,
        alone own k (height_below frame shelves column height entry) (height_of shelves entry.number) (other-column column own height (λ e. omega (arith, past, e))),
        other-column k column height (λ e. omega (arith, past, above, e)),
        fills k (omega (arith, past, above)) within,
      )

  -- a column before that of the next shelf is full
  fills-full : (column height : ℕ) (entry : Entry) (entries : List Entry) → RiseFrom column (entry ∷ entries) → column < column_at frame shelves entry
      → column < frame.columns → FillsRest column height (entry ∷ entries) → height ≡ across_side frame
  fills-full column height entry entries rise past within fills =
      omega (
        arith,
        own-column column column height refl,
        other-column column (column_at frame shelves entry) (height_of shelves entry.number) (λ e. omega (arith, past, e)),
        column_height-below column (column_at frame shelves entry) entries past rise.1,
        fills column (omega arith) within,
      )

  -- no column is left out
  fills-adjacent : (column height : ℕ) (entry : Entry) (entries : List Entry) → RiseFrom column (entry ∷ entries) → column < column_at frame shelves entry
      → column_at frame shelves entry < frame.columns → 1 ≤ across_side frame → FillsRest column height (entry ∷ entries)
      → column_at frame shelves entry ≡ column + 1
  fills-adjacent column height entry entries rise past within tall fills = by_test (column_at frame shelves entry == column + 1) refl
    where
      by_test : (b : Bool) → (column_at frame shelves entry == column + 1) ≡ b → column_at frame shelves entry ≡ column + 1
      by_test true e = grind arith
      by_test false e =
          let other : column_at frame shelves entry ≢ column + 1 = grind arith in
          let beyond : column + 1 < column_at frame shelves entry = omega (arith, past, other) in
          absurd (omega (
            arith,
            tall,
            other-column (column + 1) column height (λ e. omega (arith, e)),
            other-column (column + 1) (column_at frame shelves entry) (height_of shelves entry.number) (λ e. omega (arith, beyond, e)),
            column_height-below (column + 1) (column_at frame shelves entry) entries beyond rise.1,
            fills (column + 1) (omega arith) (omega (arith, beyond, within)),
          ))

  -- what a pass finds at a shelf
  abbrev Goes : ℕ → ℕ → Entry → Type 0
  Goes column height entry =
      (column_at frame shelves entry == column || (height == across_side frame && column_at frame shelves entry == column + 1)) ≡ true

  -- one shelf of shelves that fill all columns, and what the others fill
  fills-step : (column height : ℕ) (entry : Entry) (entries : List Entry) → RiseFrom column (entry ∷ entries) → column < frame.columns
      → column_at frame shelves entry < frame.columns → 1 ≤ across_side frame → FillsRest column height (entry ∷ entries)
      → Goes column height entry
      × FillsRest (column_at frame shelves entry) (height_below frame shelves column height entry + height_of shelves entry.number) entries
  fills-step column height entry entries rise within next tall fills = by_test (column_at frame shelves entry == column) refl
    where
      by_test : (b : Bool) → (column_at frame shelves entry == column) ≡ b
          → Goes column height entry
          × FillsRest (column_at frame shelves entry) (height_below frame shelves column height entry + height_of shelves entry.number) entries
      by_test true e = (grind arith, fills-own column height entry entries (grind arith) fills)
      by_test false e =
          let other : column_at frame shelves entry ≢ column = grind arith in
          let past : column < column_at frame shelves entry = omega (arith, other, rise.0) in
          let full : height ≡ across_side frame = fills-full column height entry entries rise past within fills in
          let adjacent : column_at frame shelves entry ≡ column + 1 = fills-adjacent column height entry entries rise past next tall fills in
          (grind (arith, full, adjacent), fills-next column height entry entries past fills)

  -- shelves that rise and fill all columns follow
  pub fills-follow : (column height : ℕ) (entries : List Entry) → RiseFrom column entries → column < frame.columns → 1 ≤ across_side frame
      → AllByRecursion (λ (shelf : Shelf). shelf.column < frame.columns) (spelled entries)
      → FillsRest column height entries → FillFrom frame shelves column height entries
  fills-follow column height [] rise within tall columns fills =
      let here : height ≡ across_side frame = omega (arith, own-column column column height refl, fills column (omega arith) within) in
      let last : column + 1 ≡ frame.columns = by_last (frame.columns == column + 1) refl in
      (here, last)
    where
      by_last : (b : Bool) → (frame.columns == column + 1) ≡ b → column + 1 ≡ frame.columns
      by_last true e = grind arith
      by_last false e =
          let other : frame.columns ≢ column + 1 = grind arith in
          absurd (omega (arith, tall, other-column (column + 1) column height (λ e. omega (arith, e)), fills (column + 1) (omega arith) (omega (arith, within, other))))
  fills-follow column height (entry ∷ entries) rise within tall columns fills =
      let step = fills-step column height entry entries rise within columns.0 tall fills in
      (step.0, fills-follow (column_at frame shelves entry) (height_below frame shelves column height entry + height_of shelves entry.number) entries rise.1 columns.0 tall columns.1 step.1)

  -- what one shelf and the others fill
  follow-step : (column height : ℕ) (entry : Entry) (entries : List Entry) → RiseFrom column (entry ∷ entries) → Goes column height entry
      → FillsRest (column_at frame shelves entry) (height_below frame shelves column height entry + height_of shelves entry.number) entries
      → FillsRest column height (entry ∷ entries)
  follow-step column height entry entries rise goes fills k above within = by_test (column_at frame shelves entry == column) refl
    where
      by_test : (b : Bool) → (column_at frame shelves entry == column) ≡ b
          → (if column == k then height else 0) + column_height k (spelled (entry ∷ entries)) ≡ across_side frame
      by_test true e =
          let same : column_at frame shelves entry ≡ column = grind arith in
          parted (column_at frame shelves entry) column k height (height_below frame shelves column height entry) (height_of shelves entry.number)
          (column_height k (spelled entries)) (across_side frame) same (own-column column (column_at frame shelves entry) height same)
          (fills k (omega (arith, same, above)) within)
      by_test false e =
          let other : column_at frame shelves entry ≢ column = grind arith in
          let past : column < column_at frame shelves entry = omega (arith, other, rise.0) in
          let full : height ≡ across_side frame = grind (arith, goes) in
          let adjacent : column_at frame shelves entry ≡ column + 1 = grind (arith, goes) in
          by_place past full adjacent (k == column) refl
        where
          by_place : column < column_at frame shelves entry → height ≡ across_side frame → column_at frame shelves entry ≡ column + 1
              → (b : Bool) → (k == column) ≡ b
              → (if column == k then height else 0) + column_height k (spelled (entry ∷ entries)) ≡ across_side frame
          by_place past full adjacent true p =
              let at : column ≡ k = grind arith in
              omega (
                arith,
                full,
                own-column k column height at,
                other-column k (column_at frame shelves entry) (height_of shelves entry.number) (λ q. omega (arith, past, at, q)),
                column_height-below k (column_at frame shelves entry) entries (omega (arith, past, at)) rise.1,
              )
          by_place past full adjacent false p =
              let off : k ≢ column = grind arith in
              omega (
                arith,
                alone (column_at frame shelves entry) k (height_below frame shelves column height entry) (height_of shelves entry.number)
                    (other-column column (column_at frame shelves entry) height (λ q. omega (arith, past, q))),
                other-column k column height (λ q. omega (arith, off, q)),
                fills k (omega (arith, off, above, adjacent)) within,
              )

  -- shelves that rise and follow fill all columns
  pub follow-fills : (column height : ℕ) (entries : List Entry) → RiseFrom column entries
      → FillFrom frame shelves column height entries → FillsRest column height entries
  follow-fills column height [] rise follow = λ k above within.
      omega (arith, follow.0, own-column k column height (omega (arith, follow.1, above, within)))
  follow-fills column height (entry ∷ entries) rise follow =
      follow-step column height entry entries rise follow.0
      (follow-fills (column_at frame shelves entry) (height_below frame shelves column height entry + height_of shelves entry.number) entries rise.1 follow.1)
