-- The rectangles of a valid state lie in the atlas, and any two of them apart.
use Rattle.std.proofs.Common.{◌≡◌, ℕ, ◌+◌, ◌*◌, ◌<◌, ◌≤◌, List, [], ◌∷◌, ◌++◌, Option, Some, None, arith, refl, ⊎_elim}
use Rattle.std.proofs.lemmas.Bool.{cases_order}
use Rattle.etagere_base.specs.Frames.{IsFrame, across_side}
use Rattle.etagere_base.specs.declared.frames.Frame.{Frame}
use Rattle.etagere_base.specs.declared.geometry.Rectangle.{Rectangle}
use Rattle.etagere_base.specs.declared.ids.Allocation.{Allocation}
use Rattle.std.specs.List.{AllByRecursion}
use Rattle.etagere_base.specs.Places.{rectangle_at}
use Rattle.shelf_model.specs.Places.{column_place, column_height, allocation_of, allocations_along, allocations_after, allocations}
use Rattle.etagere_base.specs.Rectangles.{AreApart, SharesNone, IsInside}
use Rattle.shelf_model.specs.State.{Item, Shelf, AtlasState, total_width}
use Rattle.shelf_model.specs.Valid.{IsItem, IsShelf, IsValid}
use Rattle.etagere_base.proofs.Boxes.{LiesIn, LiesIn-widen, apart-across, apart-along, inside-from_lies, AreApart-append, IsApartFrom, SharesNone-swap}
use Rattle.etagere_base.proofs.EachLemmas.{Each-append, Each-weaken}
use Rattle.etagere_base.proofs.FrameSides.{column-within, columns-apart}
use Rattle.shelf_model.proofs.Places.Heights.{column_height-append, column_height-own}

-- a shelf in a column of the frame, filled by items that are not empty
record IsFilled (frame : Frame) (shelf : Shelf) : Type 0 where
  pub column : shelf.column < frame.columns
  pub height : 1 ≤ shelf.height
  pub items : AllByRecursion (λ (item : Item). 1 ≤ item.width) shelf.items
  pub width : total_width shelf.items ≡ frame.column_width

-- shelves that fill the columns of a frame
pub record IsTiled (frame : Frame) (shelves : List Shelf) : Type 0 where
  pub is_frame : IsFrame 65535 frame
  pub are_shelves : AllByRecursion (IsShelf frame) shelves
  pub heights : (column : ℕ) → column < frame.columns → column_height column shelves ≡ across_side frame

-- a shelf of a valid state is such a shelf
filled-from-shelf : (frame : Frame) (shelf : Shelf) → IsShelf frame shelf → IsFilled frame shelf
filled-from-shelf frame shelf is_shelf =
    record {
      column = is_shelf.column;
      height = is_shelf.height;
      items = Each-weaken (IsItem frame) _ shelf.items (λ (item : Item) (is_item : IsItem frame item). is_item.width) is_shelf.items;
      width = is_shelf.width;
    }

-- the shelves of a valid state fill the columns
pub valid-tiled : (state : AtlasState) → IsValid state → IsTiled state.frame state.shelves
valid-tiled state valid = record { is_frame = valid.frame; are_shelves = valid.shelves; heights = valid.heights }

-- each of shelves that fill the columns is filled by items that are not empty
each-filled : (frame : Frame) (shelves : List Shelf) → IsTiled frame shelves → AllByRecursion (IsFilled frame) shelves
each-filled frame shelves tiled = Each-weaken (IsShelf frame) (IsFilled frame) shelves (filled-from-shelf frame) tiled.are_shelves

-- an allocation whose rectangle lies between these places
abbrev AllocatedIn : Frame → ℕ → ℕ → ℕ → ℕ → Allocation → Type 0
AllocatedIn frame left right top bottom allocation = LiesIn frame left right top bottom allocation.rectangle

-- what an item allocates lies where the item does
allocation-lies : (owner : Option ℕ) (frame : Frame) (along across width height : ℕ) → 1 ≤ width → 1 ≤ height
    → AllByRecursion (AllocatedIn frame along (along + width) across (across + height))
    (allocation_of owner (rectangle_at frame along across width height))
allocation-lies None frame along across width height wide tall = tt
allocation-lies (Some id) frame along across width height wide tall = (
  record {
    along = along;
    across = across;
    width = width;
    height = height;
    is = refl;
    wide = wide;
    tall = tall;
    from_left = omega arith;
    to_right = omega arith;
    from_top = omega arith;
    to_bottom = omega arith;
  },
  tt,
)

-- a list of at most one is apart
allocation-apart : (owner : Option ℕ) (rectangle : Rectangle) → AreApart (allocation_of owner rectangle)
allocation-apart None rectangle = tt
allocation-apart (Some id) rectangle = (tt, tt)

-- what items hold lies between where the first begins and the last ends
allocations_along-lies : (frame : Frame) (across height here : ℕ) (items : List Item)
    → 1 ≤ height → AllByRecursion (λ (item : Item). 1 ≤ item.width) items
    → AllByRecursion (AllocatedIn frame here (here + total_width items) across (across + height)) (allocations_along frame across height here items)
allocations_along-lies frame across height here [] tall wide = tt
allocations_along-lies frame across height here (item ∷ items) tall wide =
    Each-append _ (allocation_of item.id (rectangle_at frame here across item.width height)) _
    (Each-weaken (AllocatedIn frame here (here + item.width) across (across + height)) _ _
    (λ (a : Allocation) (lies : AllocatedIn frame here (here + item.width) across (across + height) a).
    LiesIn-widen frame _ _ _ _ _ _ _ _ _ (omega arith) (omega arith) (omega arith) (omega arith) lies)
    (allocation-lies item.id frame here across item.width height wide.0 tall))
    (Each-weaken (AllocatedIn frame (here + item.width) (here + item.width + total_width items) across (across + height)) _ _
    (λ (a : Allocation) (lies : AllocatedIn frame (here + item.width) (here + item.width + total_width items) across (across + height) a).
    LiesIn-widen frame _ _ _ _ _ _ _ _ _ (omega arith) (omega arith) (omega arith) (omega arith) lies)
    (allocations_along-lies frame across height (here + item.width) items tall wide.1))

-- two lists are apart where what holds of each of one keeps it apart from what holds of each of the other
each-apart : (P Q : Allocation → Type 0) (xs ys : List Allocation)
    → ((x y : Allocation) → P x → Q y → SharesNone x.rectangle y.rectangle) → AllByRecursion P xs → AllByRecursion Q ys → AllByRecursion (IsApartFrom ys) xs
each-apart P Q xs ys apart front back =
    Each-weaken P (IsApartFrom ys) xs
    (λ (x : Allocation) (p : P x). Each-weaken Q _ ys (λ (y : Allocation) (q : Q y). apart x y p q) back) front

-- what the items of a shelf hold is apart
allocations_along-apart : (frame : Frame) (across height here : ℕ) (items : List Item)
    → 1 ≤ height → AllByRecursion (λ (item : Item). 1 ≤ item.width) items
    → AreApart (allocations_along frame across height here items)
allocations_along-apart frame across height here [] tall wide = tt
allocations_along-apart frame across height here (item ∷ items) tall wide =
    AreApart-append (allocation_of item.id (rectangle_at frame here across item.width height)) _
    (allocation-apart item.id _)
    (allocations_along-apart frame across height (here + item.width) items tall wide.1)
    (each-apart (AllocatedIn frame here (here + item.width) across (across + height))
    (AllocatedIn frame (here + item.width) (here + item.width + total_width items) across (across + height)) _ _
    (λ (x y : Allocation) (p : AllocatedIn frame here (here + item.width) across (across + height) x)
    (q : AllocatedIn frame (here + item.width) (here + item.width + total_width items) across (across + height) y).
    apart-along frame _ _ _ _ _ _ _ _ _ _ (omega arith) p q)
    (allocation-lies item.id frame here across item.width height wide.0 tall)
    (allocations_along-lies frame across height (here + item.width) items tall wide.1))

-- an allocation lies in a column of the frame, after the heights of the shelves before it, within those of its own
record LiesAfter (frame : Frame) (before shelves : List Shelf) (allocation : Allocation) : Type 0 where
  column : ℕ
  below : column < frame.columns
  lies : AllocatedIn frame (column * frame.column_width) (column * frame.column_width + frame.column_width)
      (column_height column before) (column_height column before + column_height column shelves) allocation

-- what a shelf holds that stands after others
abbrev allocated_in_shelf : Frame → List Shelf → Shelf → List Allocation
allocated_in_shelf frame before shelf =
    allocations_along frame (column_height shelf.column before) shelf.height (column_place frame shelf) shelf.items

-- an allocation lies in the column of a shelf, after the heights before it, within its height
abbrev InShelf : Frame → List Shelf → Shelf → Allocation → Type 0
InShelf frame before shelf allocation =
    AllocatedIn frame (shelf.column * frame.column_width) (shelf.column * frame.column_width + frame.column_width)
    (column_height shelf.column before) (column_height shelf.column before + shelf.height) allocation

-- what one shelf holds lies in its column, within its height
shelf-lies : (frame : Frame) (before : List Shelf) (shelf : Shelf) → IsFilled frame shelf
    → AllByRecursion (InShelf frame before shelf) (allocated_in_shelf frame before shelf)
shelf-lies frame before shelf filled =
    rw filled.width at
    (allocations_along-lies frame (column_height shelf.column before) shelf.height (column_place frame shelf) shelf.items
    filled.height filled.items)

-- the heights before and after a shelf are those before it, and those from it on
column_height-moved : (column : ℕ) (before : List Shelf) (shelf : Shelf) (shelves : List Shelf)
    → column_height column (before ++ shelf ∷ []) + column_height column shelves ≡ column_height column before + column_height column (shelf ∷ shelves)
column_height-moved column before shelf shelves = omega (arith, column_height-append column before (shelf ∷ []))

-- what a shelf holds lies after those before it
shelf-lies_after : (frame : Frame) (before : List Shelf) (shelf : Shelf) (shelves : List Shelf) → IsFilled frame shelf
    → AllByRecursion (LiesAfter frame before (shelf ∷ shelves)) (allocated_in_shelf frame before shelf)
shelf-lies_after frame before shelf shelves filled =
    Each-weaken _ (LiesAfter frame before (shelf ∷ shelves)) _
    (λ (a : Allocation) (lies : InShelf frame before shelf a). record {
      column = shelf.column;
      below = filled.column;
      lies = LiesIn-widen frame _ _ _ _ _ _ _ _ _ (omega arith) (omega arith) (omega arith)
          (omega (arith, column_height-own shelf shelves)) lies;
    })
    (shelf-lies frame before shelf filled)

-- what later shelves hold lies after those before the first
later-lies_after : (frame : Frame) (before : List Shelf) (shelf : Shelf) (shelves : List Shelf) (a : Allocation)
    → LiesAfter frame (before ++ shelf ∷ []) shelves a → LiesAfter frame before (shelf ∷ shelves) a
later-lies_after frame before shelf shelves a later =
    record {
      column = later.column;
      below = later.below;
      lies = LiesIn-widen frame _ _ _ _ _ _ _ _ _ (omega arith) (omega arith)
          (omega (arith, column_height-append later.column before (shelf ∷ [])))
          (omega (arith, column_height-moved later.column before shelf shelves)) later.lies;
    }

-- what shelves hold that stand after others lies after these
allocations_after-lies : (frame : Frame) (before shelves : List Shelf) → AllByRecursion (IsFilled frame) shelves
    → AllByRecursion (LiesAfter frame before shelves) (allocations_after frame before shelves)
allocations_after-lies frame before [] filled = tt
allocations_after-lies frame before (shelf ∷ shelves) filled =
    Each-append (LiesAfter frame before (shelf ∷ shelves)) _ _
    (shelf-lies_after frame before shelf shelves filled.0)
    (Each-weaken (LiesAfter frame (before ++ shelf ∷ []) shelves) _ _ (later-lies_after frame before shelf shelves)
    (allocations_after-lies frame (before ++ shelf ∷ []) shelves filled.1))

-- the next shelf of a column begins where this one ends
column_height-through : (column : ℕ) (before : List Shelf) (shelf : Shelf) → shelf.column ≡ column
    → column_height shelf.column before + shelf.height ≤ column_height column (before ++ shelf ∷ [])
column_height-through column before shelf e =
    rw (← e) (omega (arith, column_height-append shelf.column before (shelf ∷ []), column_height-own shelf []))

-- what a shelf holds is apart from what lies after it
shelf-apart : (frame : Frame) (before : List Shelf) (shelf : Shelf) (shelves : List Shelf) (x y : Allocation)
    → InShelf frame before shelf x
    → LiesAfter frame (before ++ shelf ∷ []) shelves y → SharesNone x.rectangle y.rectangle
shelf-apart frame before shelf shelves x y lies after =
    ⊎_elim
    (λ (same : shelf.column ≡ after.column).
    apart-across frame _ _ _ _ _ _ _ _ _ _ (column_height-through after.column before shelf same) lies after.lies)
    (⊎_elim
    (λ (earlier : shelf.column < after.column).
    apart-along frame _ _ _ _ _ _ _ _ _ _ (columns-apart _ _ frame.column_width earlier) lies after.lies)
    (λ (later : after.column < shelf.column).
    SharesNone-swap _ _ (apart-along frame _ _ _ _ _ _ _ _ _ _ (columns-apart _ _ frame.column_width later) after.lies lies)))
    (cases_order shelf.column after.column)

-- what shelves hold that stand after others is apart
allocations_after-apart : (frame : Frame) (before shelves : List Shelf)
    → AllByRecursion (IsFilled frame) shelves → AreApart (allocations_after frame before shelves)
allocations_after-apart frame before [] filled = tt
allocations_after-apart frame before (shelf ∷ shelves) filled =
    AreApart-append (allocated_in_shelf frame before shelf) _
    (allocations_along-apart frame _ _ _ shelf.items filled.0.height filled.0.items)
    (allocations_after-apart frame (before ++ shelf ∷ []) shelves filled.1)
    (each-apart _ (LiesAfter frame (before ++ shelf ∷ []) shelves) _ _ (shelf-apart frame before shelf shelves)
    (shelf-lies frame before shelf filled.0) (allocations_after-lies frame (before ++ shelf ∷ []) shelves filled.1))

-- what lies in a column lies in the atlas
lies-inside : (frame : Frame) (shelves : List Shelf) → IsTiled frame shelves
    → (a : Allocation) → LiesAfter frame [] shelves a → IsInside frame a.rectangle
lies-inside frame shelves tiled a after =
    inside-from_lies frame a.rectangle
    (LiesIn-widen frame _ _ _ _ _ _ _ _ _ (omega arith) (column-within frame after.column tiled.is_frame after.below) (omega arith)
    (omega (arith, tiled.heights after.column after.below)) after.lies)

-- everything that shelves allocate that fill the columns lies within the atlas
pub tiled-inside : (state : AtlasState) → IsTiled state.frame state.shelves
    → AllByRecursion (λ (a : Allocation). IsInside state.frame a.rectangle) (allocations state)
tiled-inside state tiled =
    Each-weaken (LiesAfter state.frame [] state.shelves) _ _ (lies-inside state.frame state.shelves tiled)
    (allocations_after-lies state.frame [] state.shelves (each-filled state.frame state.shelves tiled))

-- any two that shelves allocate that fill the columns share no unit square
pub tiled-apart : (state : AtlasState) → IsTiled state.frame state.shelves → AreApart (allocations state)
tiled-apart state tiled = allocations_after-apart state.frame [] state.shelves (each-filled state.frame state.shelves tiled)

-- everything that is allocated lies within the atlas
pub allocated-inside : (state : AtlasState) → IsValid state → AllByRecursion (λ (a : Allocation). IsInside state.frame a.rectangle) (allocations state)
allocated-inside state valid = tiled-inside state (valid-tiled state valid)

-- any two that are allocated share no unit square
pub allocated-apart : (state : AtlasState) → IsValid state → AreApart (allocations state)
allocated-apart state valid = tiled-apart state (valid-tiled state valid)
