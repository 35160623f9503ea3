use Rattle.std.proofs.Common.{rules, ◌≡◌, List, [], ◌++◌, ℕ, OnErr, OnOk, ap, ◌∙◌, subst}
use Rattle.std.specs.Prelude.{codes, decimal}
use Rattle.etagere_base.specs.Drawing.{part_begin}
use Rattle.pictures.specs.Gathering.{GathersMore, SendsBeginning}
use Rattle.etagere_base.specs.declared.frames.Frame.{Frame}
use Rattle.atlas_pages.specs.Picture.{page_area, page_left}
use Rattle.atlas_pages.proofs.PictureLemmas.{page-begin}
use Rattle.atlas_pages.proofs.picture.push_page_begin.Goals as goal

-- the pieces
abbrev line : ℕ → ℕ → ℕ → List ℕ
line left width height =
    codes "    <svg x=\"" ++ (decimal left ++ (codes "\" y=\"" ++ (decimal 0 ++ (codes "\" width=\"" ++ (decimal width
    ++ (codes "\" height=\"" ++ (decimal height ++ (codes "\" viewBox=\"0 0 " ++ (decimal width ++ (codes " " ++ (decimal height
    ++ (codes "\" preserveAspectRatio=\"none\">\n" ++ []))))))))))))

-- are the first line
line-is : (frame : Frame) (number left width height : ℕ) → left ≡ page_left frame.width number → width ≡ frame.width → height ≡ frame.height
    → line left width height ≡ part_begin frame.width frame.height (page_area frame number)
line-is frame number left width height at wide tall =
    ap (λ n. line n width height) at ∙ ap (λ n. line (page_left frame.width number) n height) wide
    ∙ ap (λ n. line (page_left frame.width number) frame.width n) tall ∙ page-begin frame number

pub returns-clause-ok : goal.returns-clause-ok
returns-clause-ok g c =
    let old = g.W.Write.contents c.args.writer.now in
    let new = g.W.Write.contents c.push_pieces.new.writer in
    let wide : c.from-width.result ≡ c.args.frame.now.width = first_of (search rules, cc) in
    let tall : c.from-height.result ≡ c.args.frame.now.height = first_of (search rules, cc) in
    subst (λ (l : List ℕ). OnOk c.push_pieces.result (GathersMore old c.args.text.now new c.push_pieces.new.text l))
    (line-is c.args.frame.now c.args.number c.left_of.result c.from-width.result c.from-height.result c.left_of.ensures wide tall) c.push_pieces.ensures.ok

pub returns-clause-err : goal.returns-clause-err
returns-clause-err g c =
    let old = g.W.Write.contents c.args.writer.now in
    let new = g.W.Write.contents c.push_pieces.new.writer in
    let wide : c.from-width.result ≡ c.args.frame.now.width = first_of (search rules, cc) in
    let tall : c.from-height.result ≡ c.args.frame.now.height = first_of (search rules, cc) in
    subst (λ (l : List ℕ). OnErr c.push_pieces.result (SendsBeginning old c.args.text.now new l))
    (line-is c.args.frame.now c.args.number c.left_of.result c.from-width.result c.from-height.result c.left_of.ensures wide tall) c.push_pieces.ensures.err
