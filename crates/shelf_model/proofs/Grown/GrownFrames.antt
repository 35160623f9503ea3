-- The frame of a grown atlas keeps the ranges of a frame, and is no smaller.
use Rattle.std.proofs.Common.{◌≡◌, ℕ, ◌+◌, ◌-◌, ◌≤◌, Bool, true, false, cond, Option, Some, None, refl, arith}
use Rattle.std.specs.Prelude.{nat_lt}
use Rattle.etagere_base.specs.declared.frames.Frame.{Frame}
use Rattle.etagere_base.specs.declared.geometry.Size.{Size}
use Rattle.etagere_base.specs.Frames.{IsFrame, across_side}
use Rattle.etagere_base.specs.Growing.{resize_fault}
use Rattle.etagere_base.proofs.GrownFrames.{FitsSize, GrowsWidth, no-fault}
use Rattle.etagere_base.proofs.GrownFrames as base
use Rattle.shelf_model.specs.declared.faults.AtlasGrowFault.{AtlasGrowFault}
use Rattle.shelf_model.specs.declared.faults.AtlasGrowFault.TheVariants as faults
use Rattle.shelf_model.specs.Growing.{added_columns, added_height, added_width, grow_fault, grown_frame, of_resize, or_records_fault, records_needed, size_fault}
use Rattle.shelf_model.specs.State.{AtlasState, items_in_use}

-- what the tests of a grow have shown
pub record Fits (state : AtlasState) (size : Size) : Type 0 where
  pub sizes : FitsSize 65535 state.frame size
  pub records : items_in_use state.shelves + records_needed state size ≤ 65535

-- no fault is no fault of the size, and none of the items
both-none : (items : ℕ) (fault : Option AtlasGrowFault) → or_records_fault items fault ≡ None → (fault ≡ None) × (items ≤ 65535)
both-none items None h = (refl, of (nat_lt 65535 items) refl h)
  where
    of : (b : Bool) → nat_lt 65535 items ≡ b → cond b (Some faults.Records) None ≡ None → items ≤ 65535
    of true e h = absurd (cc)
    of false e h = grind arith
both-none items (Some fault) h = absurd (cc)

-- a size without a fault
pub size-fits : (frame : Frame) (size : Size) → size_fault frame size ≡ None → FitsSize 65535 frame size
size-fits frame size h = base.size-fits 65535 frame size (no-fault of_resize (resize_fault 65535 frame size) h)

-- a grow without a fault
pub grow-fits : (state : AtlasState) (size : Size) → grow_fault state size ≡ None → Fits state size
grow-fits state size h =
    let none = both-none (items_in_use state.shelves + records_needed state size) (size_fault state.frame size) h in
    record { sizes = size-fits state.frame size none.0; records = none.1 }

-- the grown frame, and what it gains
pub record GrowsFrame (frame : Frame) (size : Size) : Type 0 where
  pub is_frame : IsFrame 65535 (grown_frame frame size)
  pub width : GrowsWidth frame size
  pub columns : (grown_frame frame size).columns ≡ frame.columns + added_columns frame size
  pub column_width : (grown_frame frame size).column_width ≡ frame.column_width + added_width frame size
  pub across : across_side (grown_frame frame size) ≡ across_side frame + added_height frame size

-- a grow without a fault makes a frame
pub frame-grows : (frame : Frame) (size : Size) → IsFrame 65535 frame → FitsSize 65535 frame size → GrowsFrame frame size
frame-grows frame size is_frame fits =
    let grows = base.frame-grows 65535 frame size is_frame fits in
    record {
      is_frame = grows.is_frame;
      width = grows.width;
      columns = omega (arith, grows.columns);
      column_width = omega (arith, grows.width.more);
      across = omega (arith, grows.across);
    }
