-- Which place a size gets in a new atlas: the whole of the first column, so far as it isn't split.
use Rattle.std.proofs.Common.{◌≡◌, ℕ, zero, suc, ◌+◌, ◌*◌, ◌≤◌, Bool, true, false, cond, ◌==◌, nat_le, nat_lt, Some, None, map, refl, arith}
use Rattle.std.specs.Prelude.{is_some, if◌then◌else◌}
use Rattle.std.proofs.lemmas.Bool.Decides.{nat_tests}
use Rattle.etagere_base.specs.declared.frames.Frame.{Frame}
use Rattle.etagere_base.specs.declared.geometry.Size.{Size}
use Rattle.etagere_base.specs.declared.sides.Sides.{Sides}
use Rattle.etagere_base.specs.Frames.{IsFrame, across_side, asked}
use Rattle.etagere_base.specs.Least.{first_least}
use Rattle.etagere_base.specs.Sides.{step}
use Rattle.etagere_base.proofs.AskedSides.{asked-sides}
use Rattle.shelf_model.specs.Choice.{Placement, chosen, fitting_place, placement_in, placement_of, rank, shelf_height, splits, width_at}
use Rattle.shelf_model.specs.Fresh.{empty_columns, fresh}
use Rattle.shelf_model.specs.Places.{column_place}
use Rattle.shelf_model.specs.State.{empty_shelf}
use Rattle.shelf_model.proofs.Places.FreshLemmas.{items_in_use-empty_columns}

-- a place is its own
same_place : (n : ℕ) → (n == n) ≡ true
same_place n = grind (arith, nat_tests)

-- what is no longer tests so
is_within : (m n : ℕ) → m ≤ n → nat_le m n ≡ true
is_within m n h = grind (arith, nat_tests)

-- the item of an empty shelf is as wide as the column
width-empty : (frame : Frame) (column height : ℕ)
    → width_at (column_place frame (empty_shelf frame column height)) (empty_shelf frame column height).items
    (column * frame.column_width) ≡ frame.column_width
width-empty frame column height = rw (same_place (column * frame.column_width)) refl

-- what is no wider than a column fits an empty shelf at its beginning
fitting-empty : (frame : Frame) (width column height : ℕ) → width ≤ frame.column_width
    → fitting_place frame width (empty_shelf frame column height) ≡ Some (column * frame.column_width)
fitting-empty frame width column height narrow =
    rw (same_place (column * frame.column_width), is_within width frame.column_width narrow) refl

-- each empty column ranks by its height
rank-empty : (frame : Frame) (width height column : ℕ) → width ≤ frame.column_width → height ≤ across_side frame
    → rank frame width height (empty_shelf frame column (across_side frame)) ≡ Some (across_side frame)
rank-empty frame width height column narrow short =
    rw (is_within height (across_side frame) short, fitting-empty frame width column (across_side frame) narrow) refl

-- so the first of them is chosen
first-empty : (frame : Frame) (width height column n : ℕ) → width ≤ frame.column_width → height ≤ across_side frame
    → first_least (map (rank frame width height) (empty_columns frame column (suc n)))
    ≡ Some (record { number = 0; rank = across_side frame })
first-empty frame width height column zero narrow short = rw (rank-empty frame width height column narrow short) refl
first-empty frame width height column (suc n) narrow short =
    rw (
      rank-empty frame width height column narrow short,
      first-empty frame width height (suc column) n narrow short,
      is_within (across_side frame) (across_side frame) (omega arith),
    ) refl

-- a shelf for what is no taller than the atlas isn't taller either
shelf_height-short : (frame : Frame) (height : ℕ) → height ≤ across_side frame → shelf_height frame height ≤ across_side frame
shelf_height-short frame height short = by_test (nat_le (step height) (across_side frame)) refl
  where
    by_test : (b : Bool) → nat_le (step height) (across_side frame) ≡ b → cond b (step height) height ≤ across_side frame
    by_test true h = grind (arith, nat_tests)
    by_test false h = short

-- the splits of a place in a new atlas
abbrev pub fresh_splits : Frame → Sides → ℕ
fresh_splits frame sides =
    (if nat_lt (shelf_height frame sides.across + 8) (across_side frame) then 1 else 0)
    + (if nat_lt (sides.along + 8) frame.column_width then 1 else 0)

-- the place in the first of some empty columns
chosen-empty : (frame : Frame) (sides : Sides) (n peak_items : ℕ)
    → sides.along ≤ frame.column_width → sides.across ≤ across_side frame
    → (placement : Placement)
    × (chosen (record { frame = frame; shelves = empty_columns frame 0 (suc n); peak_items = peak_items }) sides ≡ Some placement)
    × (splits placement ≡ fresh_splits frame sides)
chosen-empty frame sides n peak_items narrow short =
    let height = shelf_height frame sides.across in
    let shelf = empty_shelf frame 0 (across_side frame) in (
      placement_in frame 0 0 sides.along height shelf (0 * frame.column_width),
      rw (
        first-empty frame sides.along height 0 n narrow (shelf_height-short frame sides.across short),
        fitting-empty frame sides.along 0 (across_side frame) narrow,
      ) refl,
      rw (width-empty frame 0 (across_side frame)) refl,
    )

-- a new atlas has a place for what is asked, where there are records enough for its splits
fits-columns : (frame : Frame) (size : Size) (sides : Sides) (columns : ℕ) → 1 ≤ columns → asked frame size ≡ Some sides
    → sides.along ≤ frame.column_width → sides.across ≤ across_side frame
    → is_some (placement_of (record { frame = frame; shelves = empty_columns frame 0 columns; peak_items = columns }) size)
    ≡ nat_le (columns + fresh_splits frame sides) 65535
fits-columns frame size sides zero some asks narrow short = absurd (omega arith)
fits-columns frame size sides (suc n) some asks narrow short =
    let found = chosen-empty frame sides n (suc n) narrow short in
    rw (asks, found.1, found.2, items_in_use-empty_columns frame 0 (suc n))
    (by_test (nat_le (suc n + fresh_splits frame sides) 65535) found.0)
  where
    by_test : (b : Bool) (placement : Placement) → is_some (cond b (Some placement) None) ≡ b
    by_test true placement = refl
    by_test false placement = refl

-- A new atlas has a place for a size that asks no more than a column, where there are records enough for its splits.
pub fits-fresh : (frame : Frame) (size : Size) (sides : Sides) → IsFrame 65535 frame → asked frame size ≡ Some sides
    → is_some (placement_of (fresh frame) size) ≡ nat_le (frame.columns + fresh_splits frame sides) 65535
fits-fresh frame size sides is_frame asks =
    let is = asked-sides 65535 frame size sides is_frame asks in
    fits-columns frame size sides frame.columns is_frame.columns.0 asks is.narrow is.short
