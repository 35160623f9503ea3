-- The picture of pages: side by side, each as an atlas is drawn into a rectangle.
use Rattle.std.specs.Prelude.{ℕ, ◌+◌, ◌-◌, ◌*◌, pos, Some, List, ◌++◌, codes, flat_map, length}
use Rattle.std.specs.List.{enumerate_from}
use Rattle.etagere_base.specs.Drawing.{document_begin}
use Rattle.etagere_base.specs.declared.frames.Frame.{Frame}
use Rattle.etagere_base.specs.declared.geometry.Rectangle.{Rectangle}
use Rattle.shelf_model.specs.State.{AtlasState}
use Rattle.shelf_model.specs.Svg.{svg_into}
use Rattle.atlas_pages.specs.Pages.{PagesState, page_frame}

-- how many pixels stay free between two pages
abbrev pub gap : ℕ
gap = 16

-- where the page of a number begins, from the left, if pages are so wide
abbrev pub page_left : ℕ → ℕ → ℕ
page_left width number = number * (width + gap)

-- how wide so many pages are together
abbrev pub pages_width : ℕ → ℕ → ℕ
pages_width width count = page_left width count - gap

-- where the page of a number lies
abbrev pub page_area : Frame → ℕ → Rectangle
page_area frame number =
    let left = page_left frame.width number in
    record {
      min = record { x = pos left; y = pos 0 };
      max = record { x = pos (left + frame.width); y = pos frame.height };
    }

-- the text of a page with its number
abbrev pub page_text : ℕ × AtlasState → List ℕ
page_text numbered = svg_into numbered.1 (Some (page_area numbered.1.frame numbered.0))

-- the texts of pages, one after another
abbrev pub page_texts : List AtlasState → List ℕ
page_texts pages = flat_map page_text (enumerate_from 0 pages)

-- the text of a document that shows pages of a frame
abbrev pub pages_document : Frame → List AtlasState → List ℕ
pages_document frame pages =
    document_begin (pages_width frame.width (length pages)) frame.height
    ++ (page_texts pages ++ codes "</svg>\n")

-- the text of a document that shows all open pages
abbrev pub pages_svg : PagesState → List ℕ
pages_svg state = pages_document (page_frame state.options) state.pages
