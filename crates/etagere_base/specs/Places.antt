-- From places along and across the shelves to points and rectangles of the atlas.
use Rattle.std.specs.Prelude.{ℕ, ◌+◌, pos}
use Rattle.etagere_base.specs.declared.frames.Frame.{Frame}
use Rattle.etagere_base.specs.declared.geometry.Point.{Point}
use Rattle.etagere_base.specs.declared.geometry.Rectangle.{Rectangle}
use Rattle.etagere_base.specs.declared.geometry.Size.{Size}
use Rattle.etagere_base.specs.Sides.{swapped_axes}

-- the point at a place along and a place across
abbrev pub point_at : Frame → ℕ → ℕ → Point
point_at frame along across =
    let place = swapped_axes frame.vertical (record { along = along; across = across }) in
    record { x = pos place.along; y = pos place.across }

-- what lies at a place along and across, this wide along and this tall across
abbrev pub rectangle_at : Frame → ℕ → ℕ → ℕ → ℕ → Rectangle
rectangle_at frame along across width height =
    record {
      min = point_at frame along across;
      max = point_at frame (along + width) (across + height);
    }

-- a size in the axes of the atlas, so long along the shelves and so tall across them
abbrev pub size_at : Frame → ℕ → ℕ → Size
size_at frame along across =
    let sides = swapped_axes frame.vertical (record { along = along; across = across }) in
    record { width = pos sides.along; height = pos sides.across }
