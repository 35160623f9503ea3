-- What a picture of an atlas shows, and its SVG text.
use Rattle.std.specs.Prelude.{ℕ, ◌+◌, Option, List, [], ◌∷◌, ◌++◌, if◌then◌else◌}
use Rattle.etagere_base.specs.Drawing.{background, document, document_part, drawn_at}
use Rattle.etagere_base.specs.Lists.{gathered}
use Rattle.etagere_base.specs.declared.drawing.Colour.{Colour}
use Rattle.etagere_base.specs.declared.drawing.Colour.TheVariants.{Allocated, Free}
use Rattle.etagere_base.specs.declared.drawing.Drawn.{Drawn}
use Rattle.etagere_base.specs.declared.frames.Frame.{Frame}
use Rattle.etagere_base.specs.declared.geometry.Rectangle.{Rectangle}
use Rattle.shelf_model.specs.Places.{column_height, column_place}
use Rattle.shelf_model.specs.State.{Item, Shelf, AtlasState, is_free}

-- the colour of an item
abbrev pub colour_of : Item → Colour
colour_of item = if is_free item then Free else Allocated

-- the items of a shelf, the first one here
abbrev pub drawn_along : Frame → ℕ → ℕ → ℕ → List Item → List Drawn
drawn_along frame across height here items =
    gathered (λ here item. here + item.width)
    (λ here item. drawn_at frame (colour_of item) here across item.width height ∷ []) here items

-- the items of shelves that stand after others: each shelf lies across after the heights before it
-- in its column
abbrev pub drawn_after : Frame → List Shelf → List Shelf → List Drawn
drawn_after frame before shelves =
    gathered (λ before shelf. before ++ shelf ∷ [])
    (λ before shelf.
    drawn_along frame (column_height shelf.column before) shelf.height (column_place frame shelf)
    shelf.items)
    before shelves

-- every item, shelf after shelf
abbrev pub drawn_items : AtlasState → List Drawn
drawn_items state = drawn_after state.frame [] state.shelves

-- all that a picture shows: the whole atlas, and every item above it
abbrev pub picture : AtlasState → List Drawn
picture state = background state.frame ∷ drawn_items state

-- the text of a document that shows an atlas
abbrev pub svg : AtlasState → List ℕ
svg state = document state.frame.width state.frame.height (picture state)

-- the text of an atlas in a larger document: in its own place, or in a rectangle that has an area
abbrev pub svg_into : AtlasState → Option Rectangle → List ℕ
svg_into state rectangle =
    document_part state.frame.width state.frame.height (picture state) rectangle
