-- The SVG text of a picture: a document, or a part of one, with a line for each rectangle.
use Rattle.std.specs.Prelude.{ℕ, ℤ, ◌-ℤ◌, Bool, ◌&&◌, nat_lt, Option, None, Some, List, [], ◌∷◌, ◌++◌, codes, decimal, flat_map, if◌then◌else◌}
use Rattle.std.specs.Fmt.{signed_decimal}
use Rattle.etagere_base.specs.declared.drawing.Colour.{Colour}
use Rattle.etagere_base.specs.declared.drawing.Colour.TheVariants.{Background, Allocated, Free}
use Rattle.etagere_base.specs.declared.drawing.Drawn.{Drawn}
use Rattle.etagere_base.specs.declared.frames.Frame.{Frame}
use Rattle.etagere_base.specs.declared.geometry.Rectangle.{Rectangle}
use Rattle.etagere_base.specs.Sides.{side, swapped_axes}

-- the whole atlas
abbrev pub background : Frame → Drawn
background frame =
    record { colour = Background; x = 0; y = 0; width = frame.width; height = frame.height }

-- all that a picture shows: the whole atlas, and what lies in it above
abbrev pub picture_of : Frame → List Drawn → List Drawn
picture_of frame shown = background frame ∷ shown

-- what lies at a place along and across, this wide along and this tall across; both axes are
-- swapped where the shelves are vertical
abbrev pub drawn_at : Frame → Colour → ℕ → ℕ → ℕ → ℕ → Drawn
drawn_at frame colour along across width height =
    let place = swapped_axes frame.vertical (record { along = along; across = across }) in
    let sides = swapped_axes frame.vertical (record { along = width; across = height }) in
    record {
      colour = colour;
      x = place.along;
      y = place.across;
      width = sides.along;
      height = sides.across;
    }

-- a name, and a number after it
abbrev pub attribute : List ℕ → ℕ → List ℕ
attribute name value = name ++ decimal value

-- a name, and a number after it that may be negative
abbrev pub signed_attribute : List ℕ → ℤ → List ℕ
signed_attribute name value = name ++ signed_decimal value

-- the end of a line of a colour
abbrev pub colour_text : Colour → List ℕ
colour_text Background =
    codes "\" fill=\"rgb(40,40,40)\" stroke=\"rgb(0,0,0)\" stroke-width=\"1\"/>\n"
colour_text Allocated =
    codes "\" fill=\"rgb(70,70,180)\" stroke=\"rgb(0,0,0)\" stroke-width=\"1\"/>\n"
colour_text Free = codes "\" fill=\"rgb(50,50,50)\" stroke=\"rgb(0,0,0)\" stroke-width=\"1\"/>\n"

-- the line of a rectangle
abbrev pub drawn_line : Drawn → List ℕ
drawn_line drawn =
    attribute (codes "    <rect x=\"") drawn.x
    ++ (attribute (codes "\" y=\"") drawn.y
    ++ (attribute (codes "\" width=\"") drawn.width
    ++ (attribute (codes "\" height=\"") drawn.height
    ++ colour_text drawn.colour)))

-- what a picture this wide and tall shows of itself
abbrev pub view_text : ℕ → ℕ → List ℕ
view_text width height = attribute (codes "\" viewBox=\"0 0 ") width ++ attribute (codes " ") height

-- the first line of a document this wide and tall
abbrev pub document_begin : ℕ → ℕ → List ℕ
document_begin width height =
    attribute (codes "<svg xmlns=\"http://www.w3.org/2000/svg\" width=\"") width
    ++ (attribute (codes "\" height=\"") height ++ (view_text width height ++ codes "\">\n"))

-- the lines of rectangles
abbrev pub drawn_lines : List Drawn → List ℕ
drawn_lines drawn = flat_map drawn_line drawn

-- how far one place is past another: 0 where it isn't past it
abbrev pub extent : ℤ → ℤ → ℕ
extent from to = side (to -ℤ from)

-- how wide a rectangle is
abbrev pub width_of : Rectangle → ℕ
width_of rectangle = extent rectangle.min.x rectangle.max.x

-- how tall a rectangle is
abbrev pub height_of : Rectangle → ℕ
height_of rectangle = extent rectangle.min.y rectangle.max.y

-- both sides of a rectangle are positive
abbrev pub has_area : Rectangle → Bool
has_area rectangle = nat_lt 0 (width_of rectangle) && nat_lt 0 (height_of rectangle)

-- where a part of a document lies, and its sides
abbrev pub part_place : Rectangle → List ℕ
part_place rectangle =
    signed_attribute (codes "    <svg x=\"") rectangle.min.x
    ++ (signed_attribute (codes "\" y=\"") rectangle.min.y
    ++ (attribute (codes "\" width=\"") (width_of rectangle)
    ++ attribute (codes "\" height=\"") (height_of rectangle)))

-- the first line of a picture this wide and tall that fills a rectangle of a document
abbrev pub part_begin : ℕ → ℕ → Rectangle → List ℕ
part_begin width height rectangle =
    part_place rectangle ++ (view_text width height ++ codes "\" preserveAspectRatio=\"none\">\n")

-- a document this wide and tall that shows rectangles
abbrev pub document : ℕ → ℕ → List Drawn → List ℕ
document width height drawn = document_begin width height ++ (drawn_lines drawn ++ codes "</svg>\n")

-- a picture this wide and tall of rectangles that fills a rectangle of a document
abbrev pub part : ℕ → ℕ → List Drawn → Rectangle → List ℕ
part width height drawn rectangle =
    part_begin width height rectangle ++ (drawn_lines drawn ++ codes "    </svg>\n")

-- the same in a larger document: in its own place, or in a rectangle that has an area
abbrev pub document_part : ℕ → ℕ → List Drawn → Option Rectangle → List ℕ
document_part width height drawn None = drawn_lines drawn
document_part width height drawn (Some rectangle) =
    if has_area rectangle then part width height drawn rectangle else []
