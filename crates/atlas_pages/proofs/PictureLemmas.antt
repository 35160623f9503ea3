-- The text of a page in the picture of pages, and the pages that are left to draw.
use Rattle.std.proofs.Common.{◌≡◌, ℕ, ◌+◌, ◌<◌, ◌≤◌, Bool, cond, true, List, [], ◌∷◌, ◌++◌, add-one, drop, drop-cons, get_or, length, ap, sym, ◌∙◌, arith}
use Rattle.std.proofs.lemmas.Bool.Decides.{nat_tests}
use Rattle.std.proofs.lemmas.Int.{ints}
use Rattle.std.proofs.lemmas.List.{append-nil, append_assoc}
use Rattle.std.specs.Prelude.{◌&&◌, ◌-ℤ◌, codes, decimal, nat_lt, pos}
use Rattle.etagere_base.specs.Drawing.{attribute, document_begin, drawn_lines, has_area, height_of, part, part_begin, signed_attribute, view_text}
use Rattle.etagere_base.specs.Frames.{IsFrame, longest_side}
use Rattle.etagere_base.specs.Sides.{side}
use Rattle.etagere_base.specs.declared.frames.Frame.{Frame}
use Rattle.shelf_model.specs.State.{AtlasState}
use Rattle.shelf_model.specs.Svg.{picture}
use Rattle.atlas_pages.specs.Picture.{page_area, page_left, page_text}

-- what is left begins with the element of its number
pub next-left : {X : Type 0} (xs : List X) (n : ℕ) (d : X) → n < length xs → drop n xs ≡ get_or xs n d ∷ drop (n + 1) xs
next-left xs n d within = rw (add-one n) (drop-cons xs n d within)

pub next-read : {X : Type 0} (xs : List X) (n : ℕ) (x : X) → n < length xs → x ≡ get_or xs n x → drop n xs ≡ x ∷ drop (n + 1) xs
next-read xs n x within is = next-left xs n x within ∙ ap (λ y. y ∷ drop (n + 1) xs) (sym is)

-- the sides of the rectangle of a page are those of the page
pub area-side : (left width : ℕ) → side (pos (left + width) -ℤ pos left) ≡ width
area-side left width = ap side (difference left width)
  where
    difference : (left width : ℕ) → pos (left + width) -ℤ pos left ≡ pos width
    difference left width = omega (arith, ints)

pub area-height : (height : ℕ) → side (pos height -ℤ pos 0) ≡ height
area-height height = ap side (difference height)
  where
    difference : (height : ℕ) → pos height -ℤ pos 0 ≡ pos height
    difference height = omega (arith, ints)

has-area : (frame : Frame) (number : ℕ) → 1 ≤ frame.width → 1 ≤ frame.height → has_area (page_area frame number) ≡ true
has-area frame number wide tall =
    ap (λ n. nat_lt 0 n && nat_lt 0 (height_of (page_area frame number))) (area-side (page_left frame.width number) frame.width)
    ∙ ap (λ n. nat_lt 0 frame.width && nat_lt 0 n) (area-height frame.height)
    ∙ both frame.width frame.height wide tall
  where
    both : (w h : ℕ) → 1 ≤ w → 1 ≤ h → (nat_lt 0 w && nat_lt 0 h) ≡ true
    both w h wide tall = grind (arith, nat_tests)

-- so the text of a page is that of a part
pub page-text : (number : ℕ) (page : AtlasState) → IsFrame longest_side page.frame
    → page_text (number, page)
    ≡ part_begin page.frame.width page.frame.height (page_area page.frame number) ++ (drawn_lines (picture page) ++ codes "    </svg>\n")
page-text number page is_frame =
    ap (λ (b : Bool). cond b (part page.frame.width page.frame.height (picture page) (page_area page.frame number)) [])
    (has-area page.frame number is_frame.width.0 is_frame.height.0)

-- the pieces of the first line of a page, and of a document
regroup-page : (a l b z c u d v e w f h i : List ℕ)
    → a ++ (l ++ (b ++ (z ++ (c ++ (u ++ (d ++ (v ++ (e ++ (w ++ (f ++ (h ++ (i ++ []))))))))))))
    ≡ ((a ++ l) ++ ((b ++ z) ++ ((c ++ u) ++ (d ++ v)))) ++ (((e ++ w) ++ (f ++ h)) ++ i)
regroup-page a l b z c u d v e w f h i = simp (append_assoc, append-nil)

regroup-document : (a u b v c w d h e : List ℕ)
    → a ++ (u ++ (b ++ (v ++ (c ++ (w ++ (d ++ (h ++ (e ++ []))))))))
    ≡ (a ++ u) ++ ((b ++ v) ++ (((c ++ w) ++ (d ++ h)) ++ e))
regroup-document a u b v c w d h e = simp (append_assoc, append-nil)

-- the first line of a page that is so wide and tall by its rectangle
abbrev line_of : ℕ → ℕ → ℕ → ℕ → ℕ → List ℕ
line_of left wide tall width height =
    (signed_attribute (codes "    <svg x=\"") (pos left)
    ++ (signed_attribute (codes "\" y=\"") (pos 0) ++ (attribute (codes "\" width=\"") wide ++ attribute (codes "\" height=\"") tall)))
    ++ (view_text width height ++ codes "\" preserveAspectRatio=\"none\">\n")

pub page-begin : (frame : Frame) (number : ℕ)
    → codes "    <svg x=\"" ++ (decimal (page_left frame.width number) ++ (codes "\" y=\"" ++ (decimal 0 ++ (codes "\" width=\"" ++ (decimal frame.width
    ++ (codes "\" height=\"" ++ (decimal frame.height ++ (codes "\" viewBox=\"0 0 " ++ (decimal frame.width ++ (codes " " ++ (decimal frame.height
    ++ (codes "\" preserveAspectRatio=\"none\">\n" ++ []))))))))))))
    ≡ part_begin frame.width frame.height (page_area frame number)
page-begin frame number =
    let left = page_left frame.width number in
    regroup-page (codes "    <svg x=\"") (decimal left) (codes "\" y=\"") (decimal 0) (codes "\" width=\"") (decimal frame.width) (codes "\" height=\"") (decimal frame.height)
    (codes "\" viewBox=\"0 0 ") (decimal frame.width) (codes " ") (decimal frame.height) (codes "\" preserveAspectRatio=\"none\">\n")
    ∙ ap (λ n. line_of left n frame.height frame.width frame.height) (sym (area-side left frame.width))
    ∙ ap (λ n. line_of left (side (pos (left + frame.width) -ℤ pos left)) n frame.width frame.height) (sym (area-height frame.height))

pub document-begin : (width height : ℕ)
    → codes "<svg xmlns=\"http://www.w3.org/2000/svg\" width=\"" ++ (decimal width ++ (codes "\" height=\"" ++ (decimal height
    ++ (codes "\" viewBox=\"0 0 " ++ (decimal width ++ (codes " " ++ (decimal height ++ (codes "\">\n" ++ []))))))))
    ≡ document_begin width height
document-begin width height =
    regroup-document (codes "<svg xmlns=\"http://www.w3.org/2000/svg\" width=\"") (decimal width) (codes "\" height=\"") (decimal height)
    (codes "\" viewBox=\"0 0 ") (decimal width) (codes " ") (decimal height) (codes "\">\n")
