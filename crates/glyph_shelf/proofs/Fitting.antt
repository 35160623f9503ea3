-- What has a place in an atlas has one in a new atlas of its frame: that has records enough, but for 65535 columns of one
-- pixel, where a shelf that isn't split for a place fills its column, and what is lower than the column splits it.
use Rattle.std.proofs.Common.{◌≡◌, ℕ, zero, suc, ◌+◌, ◌*◌, ◌<◌, ◌≤◌, Bool, true, false, cond, ◌==◌, nat_le, nat_lt, Option, Some, None, List, [], ◌∷◌, ◌++◌, length, refl, ap, ◌∙◌, arith}
use Rattle.std.proofs.Math.Nat.{mul-le-mul_left}
use Rattle.std.proofs.lemmas.Bool.{and_parts}
use Rattle.std.proofs.lemmas.Bool.Decides.{nat_tests}
use Rattle.std.proofs.lemmas.List.{length-append}
use Rattle.std.specs.List.{AllByRecursion}
use Rattle.std.specs.Prelude.{is_some, slice_get, if◌then◌else◌}
use Rattle.etagere_base.specs.declared.frames.Frame.{Frame}
use Rattle.etagere_base.specs.declared.geometry.Size.{Size}
use Rattle.etagere_base.specs.Frames.{IsFrame, across_side}
use Rattle.etagere_base.specs.Lists.{times}
use Rattle.etagere_base.proofs.ColumnTotals.{columns-le-length}
use Rattle.etagere_base.proofs.EachLemmas.{Each-get, Each-weaken}
use Rattle.etagere_base.proofs.FrameSides.{columns-le, sides_low}
use Rattle.etagere_base.proofs.Totals.{total-le, total-ones}
use Rattle.shelf_model.specs.Choice.{Placement, placement_of, shelf_height, splits}
use Rattle.shelf_model.specs.Fresh.{fresh}
use Rattle.shelf_model.specs.Places.{column_height, column_place, free_places}
use Rattle.shelf_model.specs.State.{AtlasState, Item, Shelf, is_empty, is_free, is_one_free, items_in_use, total_width}
use Rattle.shelf_model.specs.Valid.{IsItem, IsShelf, IsValid}
use Rattle.shelf_model.proofs.Chosen.FreshPlace.{fits-fresh, fresh_splits}
use Rattle.shelf_model.proofs.Chosen.Placed.{IsPlaced, chosen-stands, placement_of-placed}
use Rattle.shelf_model.proofs.Places.ColumnShelves.{columns-le-shelves}
use Rattle.shelf_model.proofs.Places.Heights.{column_height-append, column_of, height_of}
use Rattle.glyph_shelf.specs.Cache.{CacheState}
use Rattle.glyph_shelf.specs.Placing.{IsTooLarge, has_room}
use Rattle.glyph_shelf.specs.Promises.{KeepsCachePromises}

-- a list around one of its elements
split-at : {X : Type 0} (n : ℕ) (xs : List X) (x : X) → slice_get xs n ≡ Some x → (front : List X) × (back : List X) × (xs ≡ front ++ x ∷ back)
split-at n [] x at = absurd (cc)
split-at zero (y ∷ ys) x at = let same : y ≡ x = cc in ([], ys, ap (λ z. z ∷ ys) same)
split-at {X} (suc n) (y ∷ ys) x at =
    let rest = split-at n ys x at in
    (y ∷ rest.0, rest.1, ap (λ (l : List X). y ∷ l) rest.2)

-- what adds up to some width has items
some-items : (items : List Item) → 1 ≤ total_width items → 1 ≤ length items
some-items [] wide = absurd (omega arith)
some-items (item ∷ items) wide = omega arith

-- there are as many items as shelves at least
shelves-le-items : (state : AtlasState) → IsValid state → length state.shelves ≤ items_in_use state.shelves
shelves-le-items state valid =
    omega (
      arith,
      total-le (λ (s : Shelf). 1) (λ (s : Shelf). length s.items) state.shelves
          (Each-weaken _ _ state.shelves (λ (s : Shelf) (is : IsShelf state.frame s). some-items s.items (omega (arith, is.width, valid.frame.column_width))) valid.shelves),
      total-ones state.shelves,
    )

-- where one shelf is lower than the atlas, the others have one for each column
columns-fewer : (state : AtlasState) (n : ℕ) (shelf : Shelf) → IsValid state → slice_get state.shelves n ≡ Some shelf → shelf.height < across_side state.frame
    → state.frame.columns < length state.shelves
columns-fewer state n shelf valid at low =
    let parts = split-at n state.shelves shelf at in
    let others = parts.0 ++ parts.1 in
    let left : (column : ℕ) → column < state.frame.columns → 1 ≤ column_height column others =
    λ column below.
    omega (
      arith,
      valid.heights column below,
      ap (column_height column) parts.2,
      column_height-append column parts.0 (shelf ∷ parts.1),
      column_height-append column parts.0 parts.1,
      part-le (shelf.column == column) shelf.height,
    ) in
    omega (
      arith,
      columns-le-length column_of height_of state.frame.columns others left,
      length-append parts.0 parts.1,
      length-append parts.0 (shelf ∷ parts.1),
      ap length parts.2,
    )
  where
    part-le : (b : Bool) (height : ℕ) → cond b height 0 ≤ height
    part-le true height = omega arith
    part-le false height = omega arith

-- the one item of one pixel is free where a place in its shelf is
one-free : (frame : Frame) (here place : ℕ) (items : List Item) → AllByRecursion (IsItem frame) items → total_width items ≡ 1
    → 1 ≤ times place (free_places here items) → is_one_free items ≡ true
one-free frame here place [] are narrow some = absurd (omega arith)
one-free frame here place (item ∷ []) are narrow some = by_test (is_free item) refl
  where
    by_test : (b : Bool) → is_free item ≡ b → is_free item ≡ true
    by_test true is = is
    by_test false is = let none : times place (free_places here (item ∷ [])) ≡ 0 = rw is refl in absurd (omega (arith, none, some))
one-free frame here place (item ∷ next ∷ items) are narrow some =
    absurd (omega (arith, are.0.width, are.1.0.width, narrow))

-- a test counts one at most
one-at_most : (b : Bool) → (if b then 1 else 0) ≤ 1
one-at_most true = omega arith
one-at_most false = omega arith

-- columns of some width are few
columns-times : (frame : Frame) (width : ℕ) → IsFrame 65535 frame → width ≤ frame.column_width → frame.columns * width ≤ 65535
columns-times frame width valid wide =
    omega (arith, mul-le-mul_left frame.columns wide, valid.columns.1, (sides_low 65535 frame valid).0)

-- of 65535 columns each is one pixel wide
columns-narrow : (frame : Frame) → IsFrame 65535 frame → 65535 ≤ frame.columns → frame.column_width ≡ 1
columns-narrow frame valid many = by_width (nat_lt 1 frame.column_width) refl
  where
    by_width : (b : Bool) → nat_lt 1 frame.column_width ≡ b → frame.column_width ≡ 1
    by_width true e =
        let wide : 2 ≤ frame.column_width = grind (arith, nat_tests) in
        absurd (omega (arith, columns-times frame 2 valid wide, many))
    by_width false e =
        let narrow : frame.column_width ≤ 1 = grind (arith, nat_tests) in
        omega (arith, narrow, valid.column_width)

module _ (state : AtlasState) (size : Size) (placement : Placement) (valid : IsValid state) (is : IsPlaced state size placement) where
  abbrev frame : Frame
  frame = state.frame

  abbrev height : ℕ
  height = shelf_height frame is.sides.across

  abbrev shelf : Shelf
  shelf = is.chosen.shelf

  -- where there are so many columns, the shelf of the place is empty
  empty-chosen : 65535 ≤ frame.columns → is_empty shelf ≡ true
  empty-chosen many =
      let stands : IsShelf frame shelf = Each-get (IsShelf frame) state.shelves placement.shelf shelf is.chosen.at valid.shelves in
      let narrow : total_width shelf.items ≡ 1 = stands.width ∙ columns-narrow frame valid.frame many in
      let some = chosen-stands state is.sides placement is.chosen in
      one-free frame (column_place frame shelf) placement.along shelf.items stands.items narrow
      (omega (arith, some.1, stands.free_list placement.along))

  -- and where that is higher than what is placed, it is split
  split-chosen : 65535 ≤ frame.columns → nat_lt (height + 8) shelf.height ≡ true → 1 ≤ splits placement
  split-chosen many higher =
      let splits_shelf : placement.splits_shelf ≡ true =
      ap (λ (p : Placement). p.splits_shelf) is.chosen.is ∙ rw (empty-chosen many, higher) refl in
      omega (arith, ap {B = ℕ} (λ (b : Bool). if b then 1 else 0) splits_shelf)

  -- so many columns leave no place where an empty column would be split
  few-columns : nat_lt (height + 8) (across_side frame) ≡ true → frame.columns ≤ 65534
  few-columns lower = by_columns (nat_lt frame.columns 65535) refl
    where
      none : 65535 ≤ frame.columns → (b : Bool) → nat_lt (height + 8) shelf.height ≡ b → ⊥
      none many true e =
          omega (arith, split-chosen many e, is.room, shelves-le-items state valid, columns-le-shelves state valid, many)
      none many false e =
          let low : shelf.height < across_side frame = grind (arith, nat_tests) in
          omega (arith, columns-fewer state placement.shelf shelf valid is.chosen.at low, is.room, shelves-le-items state valid, many)

      by_columns : (b : Bool) → nat_lt frame.columns 65535 ≡ b → frame.columns ≤ 65534
      by_columns true e = grind (arith, nat_tests)
      by_columns false e =
          let many : 65535 ≤ frame.columns = grind (arith, nat_tests) in
          absurd (none many (nat_lt (height + 8) shelf.height) refl)

  -- a new atlas has records enough
  enough : (s i : Bool) → nat_lt (height + 8) (across_side frame) ≡ s → nat_lt (is.sides.along + 8) frame.column_width ≡ i
      → frame.columns + ((if s then 1 else 0) + (if i then 1 else 0)) ≤ 65535
  enough s true lower narrower =
      let wide : 3 ≤ frame.column_width = grind (arith, nat_tests) in
      omega (arith, one-at_most s, columns-times frame 3 valid.frame wide)
  enough false false lower narrower = omega (arith, columns-le frame valid.frame)
  enough true false lower narrower = omega (arith, few-columns lower)

  fits : is_some (placement_of (fresh frame) size) ≡ true
  fits =
      let room = enough (nat_lt (height + 8) (across_side frame)) (nat_lt (is.sides.along + 8) frame.column_width) refl refl in
      fits-fresh frame size is.sides valid.frame is.asked ∙ within (frame.columns + fresh_splits frame is.sides) room
    where
      within : (n : ℕ) → n ≤ 65535 → nat_le n 65535 ≡ true
      within n few = grind (arith, nat_tests)

-- what has a place has one in a new atlas
pub placed-fits : (state : AtlasState) (size : Size) → IsValid state → is_some (placement_of state size) ≡ true
    → is_some (placement_of (fresh state.frame) size) ≡ true
placed-fits state size valid placed = by_place (placement_of state size) refl placed
  where
    by_place : (o : Option Placement) → placement_of state size ≡ o → is_some o ≡ true → is_some (placement_of (fresh state.frame) size) ≡ true
    by_place None at some = absurd (cc)
    by_place (Some placement) at some = fits state size placement valid (placement_of-placed state size placement at)

-- so what is too large has no room
pub large-none : (state : CacheState) (size : Size) → KeepsCachePromises state → IsTooLarge state size → has_room state size ≡ true → ⊥
large-none state size promises large room =
    let parts = and_parts (nat_lt (length state.entries) state.capacity) (is_some (placement_of state.atlas size)) room in
    let fits = placed-fits state.atlas size promises.atlas.valid parts.1 in
    let none : is_some (placement_of (fresh state.atlas.frame) size) ≡ false = ap is_some large in
    cc
