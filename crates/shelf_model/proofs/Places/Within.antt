-- The shelves of a valid state lie within the atlas.
use Rattle.std.proofs.Common.{◌+◌, ◌≤◌, arith}
use Rattle.etagere_base.specs.Frames.{IsFrame}
use Rattle.etagere_base.specs.declared.frames.Frame.{Frame}
use Rattle.shelf_model.specs.Places.{column_place}
use Rattle.shelf_model.specs.State.{Shelf, total_width}
use Rattle.shelf_model.specs.Valid.{IsShelf}
use Rattle.etagere_base.proofs.FrameSides.{column-within, sides_low}

-- a shelf ends where the atlas does or before
pub shelf-right : (frame : Frame) → IsFrame 65535 frame → (shelf : Shelf) → IsShelf frame shelf → column_place frame shelf + total_width shelf.items ≤ 65535
shelf-right frame is_frame shelf valid =
    omega (arith, column-within frame shelf.column is_frame valid.column, valid.width, (sides_low 65535 frame is_frame).0)
