-- A grow without a fault leads from a valid state to a valid one, in which the same is allocated.
use Rattle.std.proofs.Common.{◌≡◌, ◌≢◌, ℕ, zero, suc, ◌+◌, ◌*◌, ◌%◌, ◌<◌, ◌≤◌, Bool, true, false, cond, ◌==◌, ◌&&◌, List, [], ◌∷◌, ◌++◌, length, map, refl, ap, ◌∙◌, sym, arith, subst, ⊎_elim}
use Rattle.std.proofs.Math.Nat.{mod-add-mod}
use Rattle.std.proofs.lemmas.Bool.{cases_lt, eqb-true, le-ltb, ne_eqb}
use Rattle.std.proofs.lemmas.List.{map-append}
use Rattle.std.specs.Prelude.{nat_lt}
use Rattle.etagere_base.specs.declared.frames.Frame.{Frame}
use Rattle.etagere_base.specs.declared.geometry.Size.{Size}
use Rattle.etagere_base.specs.declared.ids.Allocation.{Allocation}
use Rattle.etagere_base.specs.Frames.{IsFrame, across_side, alignment_along}
use Rattle.std.specs.List.{AllByRecursion}
use Rattle.etagere_base.specs.Lists.{NoNeighbours, times, total}
use Rattle.etagere_base.proofs.EachLemmas.{Each-append, Each-weaken}
use Rattle.etagere_base.proofs.FrameSides.{across-positive}
use Rattle.etagere_base.proofs.Merged.{apart-merged, merged-apart}
use Rattle.etagere_base.proofs.MergedKeeps.{Each-merged}
use Rattle.etagere_base.proofs.NoNeighboursLemmas.{NoNeighbours-map}
use Rattle.etagere_base.proofs.Totals.{total-append}
use Rattle.shelf_model.specs.Fresh.{empty_columns}
use Rattle.shelf_model.specs.Growing.{added_columns, added_height, added_width, atlas_grown, ends_column, ends_free, extended, filled_ends, grown_frame, heightened, needed_for_width, records_needed, widened, widened_shelf, with_ends}
use Rattle.shelf_model.specs.Merging.{both_empty, both_free, combined_shelves, merged_shelf, merged_shelves}
use Rattle.shelf_model.specs.Places.{allocations, column_height, column_place, record_number}
use Rattle.shelf_model.specs.Space.{allocated_space, space_in}
use Rattle.shelf_model.specs.State.{Item, Shelf, AtlasState, empty_shelf, is_empty, items_in_use, total_width}
use Rattle.shelf_model.specs.Valid.{IsItem, IsShelf, IsValid, is_out_of_order}
use Rattle.shelf_model.proofs.Allocations.RecordNumbers.{numbers_of}
use Rattle.shelf_model.proofs.Grown.GrownAllocated.{added-allocated, space-ends, space-merged_shelves, space-widths}
use Rattle.shelf_model.proofs.Grown.GrownFrames.{Fits, GrowsFrame, frame-grows}
use Rattle.shelf_model.proofs.Grown.GrownShelf.{is_one_free-wider_end, length-wider_end, merged-widened, wider_shelf, wider_shelf-valid}
use Rattle.shelf_model.proofs.Grown.GrownShelves.{Heads, NoNeighbours-joined, column_height-ends, each-ends, items_in_use-ends, map-merged-ends, merged-ends, ordered-ends, taller_ends}
use Rattle.shelf_model.proofs.Places.FreshLemmas.{apart-empty_columns, column_height-empty_columns, items_in_use-empty_columns, ordered-empty_columns, others-empty_columns, shelves-empty_columns, space_in-empty_columns}
use Rattle.shelf_model.proofs.Places.Heights.{column_height-append, column_height-merged, column_height-none}
use Rattle.shelf_model.proofs.Returned.MergedNear.{shelves-merge}
use Rattle.shelf_model.proofs.Returned.MergedStates.{merged-allocated}
use Rattle.shelf_model.proofs.Returned.ReturnedWhole.{merged_shelf-apart}
use Rattle.shelf_model.proofs.Returned.ReturnedValid.{combined-shelf, ordered-merged}
use Rattle.shelf_model.proofs.Spaces.SpaceLemmas.{space_in-merged, space_of}

-- the shelves with a width added at their ends, merged
abbrev pub wider : Frame → ℕ → List Shelf → List Shelf
wider frame width shelves = cond (width == 0) shelves (map (wider_shelf frame width) shelves)

-- the shelves with a height added at the ends of the columns, merged
abbrev pub taller : Frame → ℕ → List Shelf → List Shelf
taller frame height shelves = cond (height == 0) shelves (taller_ends frame height shelves)

-- a list of shelves with others at the ends
abbrev pub with_all : Frame → Frame → ℕ → ℕ → ℕ → List Shelf → List Shelf
with_all frame grown width height columns shelves = heightened grown height (wider frame width shelves) ++ empty_columns grown frame.columns columns

-- a test that fails
not_zero : (n : ℕ) → (n == 0) ≡ false → 1 ≤ n
not_zero n h = grind arith

module _ (frame : Frame) (width : ℕ) where
  -- widened shelves once they are merged
  merged-wider : (shelves : List Shelf) → AllByRecursion (λ (s : Shelf). NoNeighbours both_free s.items) shelves
      → map merged_shelf (map (widened_shelf frame width) shelves) ≡ map (wider_shelf frame width) shelves
  merged-wider [] apart = refl
  merged-wider (shelf ∷ shelves) apart = rw (merged-widened frame width shelf apart.0, merged-wider shelves apart.1) refl

  -- a fact of each shelf that wider ones keep
  each-wider : (P : Shelf → Type 0) → ((shelf : Shelf) → P shelf → P (wider_shelf frame width shelf)) → (shelves : List Shelf)
      → AllByRecursion P shelves → AllByRecursion P (map (wider_shelf frame width) shelves)
  each-wider P keeps [] each = tt
  each-wider P keeps (shelf ∷ shelves) each = (keeps shelf each.0, each-wider P keeps shelves each.1)

  -- wider shelves are as tall as they were
  heights-wider : (column : ℕ) (shelves : List Shelf) → column_height column (map (wider_shelf frame width) shelves) ≡ column_height column shelves
  heights-wider column [] = refl
  heights-wider column (shelf ∷ shelves) = ap (λ (n : ℕ). cond (shelf.column == column) shelf.height 0 + n) (heights-wider column shelves)

  -- each shelf that ends with an allocated item gets one more
  items-wider : (shelves : List Shelf)
      → items_in_use (map (wider_shelf frame width) shelves) ≡ items_in_use shelves + total (λ shelf. cond (ends_free shelf.items) 0 1) shelves
  items-wider [] = refl
  items-wider (shelf ∷ shelves) = omega (arith, items-wider shelves, length-wider_end width shelf.items)

  -- a shelf with items is empty where it was
  empty-wider : (shelf : Shelf) → 1 ≤ length shelf.items → is_empty (wider_shelf frame width shelf) ≡ is_empty shelf
  empty-wider shelf some = is_one_free-wider_end width shelf.items some

  -- and so many columns end with a shelf that isn't empty
  filled-wider : (shelves : List Shelf) → AllByRecursion (λ (s : Shelf). 1 ≤ length s.items) shelves → filled_ends (map (wider_shelf frame width) shelves) ≡ filled_ends shelves
  filled-wider [] some = refl
  filled-wider (shelf ∷ shelves) some = rw (empty-wider shelf some.0, filled-wider shelves some.1, last shelves) refl
    where
      last : (shelves : List Shelf) → ends_column (wider_shelf frame width shelf) (map (wider_shelf frame width) shelves) ≡ ends_column shelf shelves
      last [] = refl
      last (next ∷ shelves) = refl

  -- no empty ones are neighbours where none were
  apart-wider : (shelves : List Shelf) → AllByRecursion (λ (s : Shelf). 1 ≤ length s.items) shelves → NoNeighbours both_empty shelves
      → NoNeighbours both_empty (map (wider_shelf frame width) shelves)
  apart-wider [] some apart = tt
  apart-wider (shelf ∷ []) some apart = tt
  apart-wider (shelf ∷ next ∷ shelves) some apart = (rw (empty-wider shelf some.0, empty-wider next some.1.0) apart.0, apart-wider (next ∷ shelves) some.1 apart.1)

-- items that are as wide as a column are some
some-items : (frame : Frame) (shelf : Shelf) → IsFrame 65535 frame → IsShelf frame shelf → 1 ≤ length shelf.items
some-items frame shelf is_frame is_shelf = of shelf.items is_shelf.width
  where
    of : (items : List Item) → total_width items ≡ frame.column_width → 1 ≤ length items
    of [] h = absurd (omega (arith, h, is_frame.column_width))
    of (item ∷ items) h = omega arith

-- what is left of two multiples is one
rest_aligned : (a b m : ℕ) → a % m ≡ 0 → (a + b) % m ≡ 0 → b % m ≡ 0
rest_aligned a b m h k =
    let nothing : 0 + b ≡ b = omega arith in
    ap (λ (c : ℕ). c % m) (sym nothing) ∙ ap (λ (c : ℕ). (c + b) % m) (sym h) ∙ mod-add-mod a m b ∙ k

module _ (state : AtlasState) (size : Size) (valid : IsValid state) (fits : Fits state size) where
  abbrev frame : Frame
  frame = state.frame

  abbrev grown : Frame
  grown = grown_frame frame size

  abbrev width : ℕ
  width = added_width frame size

  abbrev height : ℕ
  height = added_height frame size

  abbrev columns : ℕ
  columns = added_columns frame size

  grows : GrowsFrame frame size
  grows = frame-grows state.frame size valid.frame fits.sizes

  abbrev new : List Shelf
  new = empty_columns grown frame.columns columns

  abbrev wide : List Shelf
  wide = wider frame width state.shelves

  abbrev all : List Shelf
  all = with_all frame grown width height columns state.shelves

  -- where a width is added there is one column
  pub one_column : (width == 0) ≡ false → frame.columns ≡ 1
  one_column h =
      ⊎_elim (λ (many : 1 < frame.columns). absurd (omega (arith, not_zero width h, grows.column_width, grows.width.many many)))
      (λ (few : frame.columns ≤ 1). omega (arith, few, valid.frame.columns.0)) (cases_lt 1 frame.columns)

  -- the items of no shelf have free neighbours
  apart : AllByRecursion (λ (s : Shelf). NoNeighbours both_free s.items) state.shelves
  apart = Each-weaken (IsShelf frame) (λ (s : Shelf). NoNeighbours both_free s.items) state.shelves (λ (s : Shelf) (h : IsShelf frame s). h.apart) valid.shelves

  -- each shelf has items
  some : AllByRecursion (λ (s : Shelf). 1 ≤ length s.items) state.shelves
  some = Each-weaken (IsShelf frame) (λ (s : Shelf). 1 ≤ length s.items) state.shelves (λ (s : Shelf) (h : IsShelf frame s). some-items frame s valid.frame h) valid.shelves

  -- each stands in a column
  pub below : AllByRecursion (λ (s : Shelf). s.column < frame.columns) state.shelves
  below = Each-weaken (IsShelf frame) (λ (s : Shelf). s.column < frame.columns) state.shelves (λ (s : Shelf) (h : IsShelf frame s). h.column) valid.shelves

  -- columns begin where they did
  begin : AllByRecursion (λ (s : Shelf). column_place grown s ≡ column_place frame s) state.shelves
  begin = by_test (width == 0) refl
    where
      by_test : (b : Bool) → (width == 0) ≡ b → AllByRecursion (λ (s : Shelf). column_place grown s ≡ column_place frame s) state.shelves
      by_test true e =
          let same : grown.column_width ≡ frame.column_width = omega (arith, grows.column_width, eqb-true width 0 e) in
          Each-weaken (λ (s : Shelf). s.column < frame.columns) (λ (s : Shelf). column_place grown s ≡ column_place frame s) state.shelves
          (λ (s : Shelf) (h : s.column < frame.columns). ap (λ (w : ℕ). s.column * w) same) below
      by_test false e =
          Each-weaken (λ (s : Shelf). s.column < frame.columns) (λ (s : Shelf). column_place grown s ≡ column_place frame s) state.shelves
          (λ (s : Shelf) (h : s.column < frame.columns). first s.column (omega (arith, h, one_column e))) below
        where
          first : (column : ℕ) → column ≡ 0 → column * grown.column_width ≡ column * frame.column_width
          first column h = rw h (omega arith)

  -- the shelves with all that is added, merged in each of them
  merged-in_shelves : map merged_shelf (extended state size).shelves ≡ all
  merged-in_shelves =
      map-append merged_shelf (heightened grown height (widened frame width state.shelves)) new
      ∙ ap (λ (l : List Shelf). l ++ map merged_shelf new) (by_height (height == 0) ∙ ap (heightened grown height) (by_width (width == 0)))
      ∙ ap (λ (l : List Shelf). heightened grown height wide ++ l) (same frame.columns columns)
    where
      by_height : (b : Bool) → map merged_shelf (cond b (widened frame width state.shelves) (with_ends grown height (widened frame width state.shelves)))
          ≡ cond b (map merged_shelf (widened frame width state.shelves)) (with_ends grown height (map merged_shelf (widened frame width state.shelves)))
      by_height true = refl
      by_height false = map-merged-ends grown height (widened frame width state.shelves)

      merged-same : (shelves : List Shelf) → AllByRecursion (λ (s : Shelf). NoNeighbours both_free s.items) shelves → map merged_shelf shelves ≡ shelves
      merged-same [] apart = refl
      merged-same (s ∷ shelves) apart = rw (merged_shelf-apart s apart.0, merged-same shelves apart.1) refl

      by_width : (b : Bool) → map merged_shelf (cond b state.shelves (map (widened_shelf frame width) state.shelves))
          ≡ cond b state.shelves (map (wider_shelf frame width) state.shelves)
      by_width true = merged-same state.shelves apart
      by_width false = merged-wider frame width state.shelves apart

      same : (column n : ℕ) → map merged_shelf (empty_columns grown column n) ≡ empty_columns grown column n
      same column zero = refl
      same column (suc n) = ap (λ (l : List Shelf). empty_shelf grown column (across_side grown) ∷ l) (same (suc column) n)

  -- the shelves with a width added are as shelves must be
  wide-shelves : AllByRecursion (IsShelf grown) wide
  wide-shelves = by_test (width == 0) refl
    where
      by_test : (b : Bool) → (width == 0) ≡ b → AllByRecursion (IsShelf grown) (cond b state.shelves (map (wider_shelf frame width) state.shelves))
      by_test true e =
          let same : grown.column_width ≡ frame.column_width = omega (arith, grows.column_width, eqb-true width 0 e) in
          Each-weaken (IsShelf frame) (IsShelf grown) state.shelves
          (λ (s : Shelf) (h : IsShelf frame s).
          let now : IsShelf grown s = record {
            column = omega (arith, h.column, grows.columns);
            height = h.height;
            items = Each-weaken (IsItem frame) (IsItem grown) s.items
                (λ (item : Item) (k : IsItem frame item). let item_now : IsItem grown item = record { width = k.width; aligned = k.aligned } in item_now) h.items;
            width = h.width ∙ sym same;
            apart = h.apart;
            free_list = rw same h.free_list;
          } in now) valid.shelves
      by_test false e =
          each-wider-shelf state.shelves valid.shelves
        where
          even : width % alignment_along frame ≡ 0
          even = rest_aligned frame.column_width width (alignment_along frame) valid.frame.aligned (rw (← grows.column_width) grows.is_frame.aligned)

          each-wider-shelf : (shelves : List Shelf) → AllByRecursion (IsShelf frame) shelves → AllByRecursion (IsShelf grown) (map (wider_shelf frame width) shelves)
          each-wider-shelf [] each = tt
          each-wider-shelf (s ∷ shelves) each = (
            wider_shelf-valid frame grown width s each.0 (not_zero width e) refl even (omega (arith, each.0.column, one_column e)) grows.is_frame.columns.0
                grows.column_width,
            each-wider-shelf shelves each.1,
          )

  -- they stand where they did
  pub wide-below : AllByRecursion (λ (s : Shelf). s.column < frame.columns) wide
  wide-below = by_test (width == 0)
    where
      by_test : (b : Bool) → AllByRecursion (λ (s : Shelf). s.column < frame.columns) (cond b state.shelves (map (wider_shelf frame width) state.shelves))
      by_test true = below
      by_test false = each-wider frame width (λ (s : Shelf). s.column < frame.columns) (λ s h. h) state.shelves below

  pub wide-ordered : NoNeighbours is_out_of_order wide
  wide-ordered = by_test (width == 0)
    where
      by_test : (b : Bool) → NoNeighbours is_out_of_order (cond b state.shelves (map (wider_shelf frame width) state.shelves))
      by_test true = valid.ordered
      by_test false = NoNeighbours-map is_out_of_order (wider_shelf frame width) (λ x y. refl) state.shelves valid.ordered

  widened-ordered : NoNeighbours is_out_of_order (widened frame width state.shelves)
  widened-ordered = by_test (width == 0)
    where
      by_test : (b : Bool) → NoNeighbours is_out_of_order (cond b state.shelves (map (widened_shelf frame width) state.shelves))
      by_test true = valid.ordered
      by_test false = NoNeighbours-map is_out_of_order (widened_shelf frame width) (λ x y. refl) state.shelves valid.ordered

  wide-apart : NoNeighbours both_empty wide
  wide-apart = by_test (width == 0)
    where
      by_test : (b : Bool) → NoNeighbours both_empty (cond b state.shelves (map (wider_shelf frame width) state.shelves))
      by_test true = valid.apart
      by_test false = apart-wider frame width state.shelves some valid.apart

  pub wide-heights : (column : ℕ) → column_height column wide ≡ column_height column state.shelves
  wide-heights column = by_test (width == 0)
    where
      by_test : (b : Bool) → column_height column (cond b state.shelves (map (wider_shelf frame width) state.shelves)) ≡ column_height column state.shelves
      by_test true = refl
      by_test false = heights-wider frame width column state.shelves

  -- a shelf of an old column stands before the new ones
  first-new : (P : ℕ → ℕ → Type 0) → ((column : ℕ) → column < frame.columns → P column frame.columns) → (shelves : List Shelf)
      → AllByRecursion (λ (s : Shelf). s.column < frame.columns) shelves → AllByRecursion (λ (s : Shelf). Heads (λ next. P s.column next.column) new) shelves
  first-new P holds shelves columns_below =
      Each-weaken (λ (s : Shelf). s.column < frame.columns) (λ (s : Shelf). Heads (λ next. P s.column next.column) new) shelves
      (λ (s : Shelf) (h : s.column < frame.columns). of s.column columns (holds s.column h)) columns_below
    where
      of : (column n : ℕ) → P column frame.columns → Heads (λ next. P column next.column) (empty_columns grown frame.columns n)
      of column zero h = tt
      of column (suc n) h = h

  new-other : AllByRecursion (λ (s : Shelf). Heads (λ next. (s.column == next.column) ≡ false) new) wide
  new-other = first-new (λ a b. (a == b) ≡ false) (λ column h. ne_eqb column frame.columns (λ e. omega (arith, h, e))) wide wide-below

  new-later : AllByRecursion (λ (s : Shelf). Heads (λ next. nat_lt next.column s.column ≡ false) new) wide
  new-later = first-new (λ a b. nat_lt b a ≡ false) (λ column h. le-ltb frame.columns column (omega (arith, h))) wide wide-below

  new-shelves : AllByRecursion (IsShelf grown) new
  new-shelves = shelves-empty_columns grown grows.is_frame frame.columns columns (omega (arith, grows.columns))

  -- all shelves are as shelves must be
  all-shelves : AllByRecursion (IsShelf grown) all
  all-shelves = Each-append (IsShelf grown) (heightened grown height wide) new (by_test (height == 0) refl) new-shelves
    where
      by_test : (b : Bool) → (height == 0) ≡ b → AllByRecursion (IsShelf grown) (cond b wide (with_ends grown height wide))
      by_test true e = wide-shelves
      by_test false e =
          each-ends grown height (IsShelf grown)
          (λ shelf h. record {
            column = h.column;
            height = not_zero height e;
            items = (record { width = grows.is_frame.column_width; aligned = grows.is_frame.aligned }, tt);
            width = omega arith;
            apart = tt;
            free_list = λ place. refl;
          }) wide wide-shelves

  all-ordered : NoNeighbours is_out_of_order all
  all-ordered = by_test (height == 0)
    where
      by_test : (b : Bool) → NoNeighbours is_out_of_order (cond b wide (with_ends grown height wide) ++ new)
      by_test true = NoNeighbours-joined is_out_of_order wide new wide-ordered (ordered-empty_columns grown frame.columns columns) new-later
      by_test false = ordered-ends grown height new wide wide-ordered (ordered-empty_columns grown frame.columns columns) new-later

  -- each column is as tall as the grown atlas
  all-heights : (column : ℕ) → column < grown.columns → column_height column all ≡ across_side grown
  all-heights column within =
      ⊎_elim
      (λ (old : column < frame.columns). omega (
        arith,
        column_height-append column (heightened grown height wide) new,
        old_height (height == 0) refl old,
        column_height-none column new (others-empty_columns grown column frame.columns columns old),
        grows.across,
      ))
      (λ (added : frame.columns ≤ column). omega (
        arith,
        column_height-append column (heightened grown height wide) new,
        column_height-none column (heightened grown height wide) (none (height == 0) added),
        column_height-empty_columns grown column frame.columns columns added (omega (arith, within, grows.columns)),
      ))
      (cases_lt column frame.columns)
    where
      tall : column < frame.columns → 1 ≤ column_height column wide
      tall old = omega (arith, wide-heights column, valid.heights column old, across-positive 65535 frame valid.frame)

      old_height : (b : Bool) → (height == 0) ≡ b → column < frame.columns
          → column_height column (cond b wide (with_ends grown height wide)) ≡ across_side frame + height
      old_height true e old = omega (arith, wide-heights column, valid.heights column old, eqb-true height 0 e)
      old_height false e old =
          omega (
            arith,
            column_height-ends grown height column wide wide-ordered
                (Each-weaken (IsShelf grown) (λ (s : Shelf). 1 ≤ s.height) wide (λ (s : Shelf) (h : IsShelf grown s). h.height) wide-shelves) (tall old),
            wide-heights column,
            valid.heights column old,
          )

      none : (b : Bool) → frame.columns ≤ column → AllByRecursion (λ (s : Shelf). s.column ≢ column) (cond b wide (with_ends grown height wide))
      none true added = others added
        where
          others : frame.columns ≤ column → AllByRecursion (λ (s : Shelf). s.column ≢ column) wide
          others h = Each-weaken (λ (s : Shelf). s.column < frame.columns) (λ (s : Shelf). s.column ≢ column) wide
              (λ (s : Shelf) (k : s.column < frame.columns) (e : s.column ≡ column). omega (arith, h, k, e)) wide-below
      none false added =
          each-ends grown height (λ (s : Shelf). s.column ≢ column) (λ s h. h) wide
          (Each-weaken (λ (s : Shelf). s.column < frame.columns) (λ (s : Shelf). s.column ≢ column) wide
          (λ (s : Shelf) (k : s.column < frame.columns) (e : s.column ≡ column). omega (arith, added, k, e)) wide-below)

  -- the shelves of the grown state: the wider ones, each column with its height, and then the new columns
  pub grown-shelves : (atlas_grown state size).shelves ≡ taller grown height wide ++ new
  grown-shelves = ap merged_shelves merged-in_shelves ∙ by_height (height == 0)
    where
      none-touch : merged_shelves new ≡ new
      none-touch = merged-apart both_empty combined_shelves new (apart-empty_columns grown frame.columns columns)

      new-apart : AllByRecursion (λ (s : Shelf). Heads (λ next. both_empty s next ≡ false) new) wide
      new-apart =
          Each-weaken (λ (s : Shelf). s.column < frame.columns) (λ (s : Shelf). Heads (λ next. both_empty s next ≡ false) new) wide
          (λ (s : Shelf) (h : s.column < frame.columns). of s columns h) wide-below
        where
          of : (s : Shelf) (n : ℕ) → s.column < frame.columns → Heads (λ next. both_empty s next ≡ false) (empty_columns grown frame.columns n)
          of s zero h = tt
          of s (suc n) h = other s.column frame.columns (is_empty s) h
            where
              other : (a b : ℕ) (c : Bool) → a < b → (a == b && (c && true)) ≡ false
              other a b c h = grind arith

      by_height : (b : Bool) → merged_shelves (cond b wide (with_ends grown height wide) ++ new) ≡ cond b wide (taller_ends grown height wide) ++ new
      by_height true =
          merged-apart both_empty combined_shelves (wide ++ new)
          (NoNeighbours-joined both_empty wide new wide-apart (apart-empty_columns grown frame.columns columns) new-apart)
      by_height false = merged-ends grown height new wide wide-apart none-touch new-other

  -- wider or not, so many columns end with a shelf that isn't empty
  pub wide-filled : filled_ends wide ≡ filled_ends state.shelves
  wide-filled = by_test (width == 0)
    where
      by_test : (b : Bool) → filled_ends (cond b state.shelves (map (wider_shelf frame width) state.shelves)) ≡ filled_ends state.shelves
      by_test true = refl
      by_test false = filled-wider frame width state.shelves some

  -- the grown atlas has as many items more as records are needed
  pub items-grown : items_in_use (atlas_grown state size).shelves ≡ items_in_use state.shelves + records_needed state size
  items-grown = ap items_in_use grown-shelves ∙ by_height (height == 0)
    where
      in_wide : (b : Bool) → items_in_use (cond b state.shelves (map (wider_shelf frame width) state.shelves))
          ≡ items_in_use state.shelves + cond b 0 (total (λ shelf. cond (ends_free shelf.items) 0 1) state.shelves)
      in_wide true = omega arith
      in_wide false = items-wider frame width state.shelves

      items : (shelves : List Shelf) → items_in_use (shelves ++ new) ≡ items_in_use shelves + columns
      items shelves = omega (arith, total-append (λ (s : Shelf). length s.items) shelves new, items_in_use-empty_columns grown frame.columns columns)

      by_height : (b : Bool) → items_in_use (cond b wide (taller_ends grown height wide) ++ new)
          ≡ items_in_use state.shelves + (needed_for_width width state.shelves + cond b 0 (filled_ends state.shelves) + columns)
      by_height true = omega (arith, items wide, in_wide (width == 0))
      by_height false =
          omega (arith, items (taller_ends grown height wide), items_in_use-ends grown height wide, in_wide (width == 0), wide-filled)

  -- what is allocated keeps its place
  pub grown-allocated : allocations (atlas_grown state size) ≡ allocations state
  grown-allocated = merged-allocated (extended state size) ∙ added-allocated frame size width height columns state.shelves begin valid.ordered widened-ordered

  -- the same space is allocated
  pub grown-space : allocated_space (atlas_grown state size) ≡ allocated_space state
  grown-space =
      space_in-merged (map merged_shelf (extended state size).shelves)
      ∙ space-merged_shelves (extended state size).shelves
      ∙ added
    where
      by_height : (b : Bool) → space_in (cond b (widened frame width state.shelves) (with_ends grown height (widened frame width state.shelves)))
          ≡ space_in (widened frame width state.shelves)
      by_height true = refl
      by_height false = space-ends grown height (widened frame width state.shelves)

      by_width : (b : Bool) → space_in (cond b state.shelves (map (widened_shelf frame width) state.shelves)) ≡ space_in state.shelves
      by_width true = refl
      by_width false = space-widths frame width state.shelves

      added : space_in (extended state size).shelves ≡ space_in state.shelves
      added =
          omega (
            arith,
            total-append space_of (heightened grown height (widened frame width state.shelves)) new,
            space_in-empty_columns grown frame.columns columns,
            by_height (height == 0),
            by_width (width == 0),
          )

  -- the grown state is as a state must be
  pub grown-valid : IsValid (atlas_grown state size)
  grown-valid =
      let merged_all : (atlas_grown state size).shelves ≡ merged_shelves all = ap merged_shelves merged-in_shelves in
      let P : Allocation → Type 0 = λ a. record_number a.id < (atlas_grown state size).peak_items in
      record {
        frame = grows.is_frame;
        columns = refl;
        shelves = subst (AllByRecursion (IsShelf grown)) (sym merged_all) (Each-merged both_empty combined_shelves (IsShelf grown) (combined-shelf grown) all all-shelves);
        ordered = subst (NoNeighbours is_out_of_order) (sym merged_all) (ordered-merged all all-ordered);
        heights = λ column h. ap (column_height column) merged_all ∙ column_height-merged column all ∙ all-heights column h;
        apart = apart-merged both_empty combined_shelves shelves-merge (map merged_shelf (extended state size).shelves);
        numbers = λ k. omega (arith, ap (λ l. times k (numbers_of l)) grown-allocated, valid.numbers k);
        below = subst (AllByRecursion P) (sym grown-allocated)
            (Each-weaken (λ (a : Allocation). record_number a.id < state.peak_items) P (allocations state)
            (λ (a : Allocation) (h : record_number a.id < state.peak_items). omega (arith, h)) valid.below);
        peak_items = (omega arith, omega (arith, valid.peak_items.1, items-grown, fits.records));
      }
