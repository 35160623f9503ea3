use Rattle.std.proofs.Common.{◌≤◌, List, ℕ, ◌++◌, OnErr, OnOk, subst, sym}
use Rattle.std.proofs.lemmas.Result.{on_ok_weaker, on_err_weaker}
use Rattle.std.specs.Prelude.{codes}
use Rattle.pictures.proofs.GatheringLemmas.{begins-both, begins-more, gathers-both, on-err}
use Rattle.etagere_base.specs.Drawing.{drawn_lines, part_begin}
use Rattle.etagere_base.specs.Frames.{longest_side}
use Rattle.pictures.specs.Gathering.{GathersMore, SendsBeginning}
use Rattle.etagere_base.specs.declared.frames.Frame.{Frame}
use Rattle.shelf_model.specs.State.{AtlasState}
use Rattle.shelf_model.specs.Svg.{picture}
use Rattle.atlas_pages.specs.Picture.{page_area}
use Rattle.atlas_pages.proofs.PictureLemmas.{page-text}
use Rattle.atlas_pages.proofs.picture.push_page.Goals as goal

pub push_page_begin-requires : goal.push_page_begin-requires
push_page_begin-requires g c = subst (λ (f : Frame). f.width ≤ longest_side) (sym c.frame.ensures) c.requires.valid.frame.width.1

-- the first line of a page
abbrev first : AtlasState → ℕ → List ℕ
first page number = part_begin page.frame.width page.frame.height (page_area page.frame number)

-- a beginning went out with it
pub returns-in_err-push_page_begin-clause-err : goal.returns-in_err-push_page_begin-clause-err
returns-in_err-push_page_begin-clause-err g c =
    let old = g.W.Write.contents c.args.writer.now in
    let new = g.W.Write.contents c.push_page_begin.new.writer in
    let page = c.args.page.now in
    subst (λ (l : List ℕ). OnErr c.from_residual.result (SendsBeginning old c.args.text.now new l)) (sym (page-text c.args.number page c.requires.valid.frame))
    (on-err c.from_residual.result
    (begins-more old new c.args.text.now (first page c.args.number) (drawn_lines (picture page) ++ codes "    </svg>\n")
    (subst (λ (f : Frame). SendsBeginning old c.args.text.now new (part_begin f.width f.height (page_area f c.args.number))) c.frame.ensures c.in_err-push_page_begin.ensures.err)))

-- a beginning went out with the lines
pub returns-in_err-push_picture-clause-err : goal.returns-in_err-push_picture-clause-err
returns-in_err-push_picture-clause-err g c =
    let old = g.W.Write.contents c.args.writer.now in
    let begun = g.W.Write.contents c.push_page_begin.new.writer in
    let new = g.W.Write.contents c.push_picture.new.writer in
    let page = c.args.page.now in
    subst (λ (l : List ℕ). OnErr c.from_residual-in_err-push_picture.result (SendsBeginning old c.args.text.now new l)) (sym (page-text c.args.number page c.requires.valid.frame))
    (on-err c.from_residual-in_err-push_picture.result
    (begins-both old begun new c.args.text.now c.push_page_begin.new.text (first page c.args.number) (drawn_lines (picture page) ++ codes "    </svg>\n")
    (subst (λ (f : Frame). GathersMore old c.args.text.now begun c.push_page_begin.new.text (part_begin f.width f.height (page_area f c.args.number))) c.frame.ensures c.in_ok-push_page_begin.ensures.ok)
    (begins-more begun new c.push_page_begin.new.text (drawn_lines (picture page)) (codes "    </svg>\n") c.in_err-push_picture.ensures.err)))

-- all is gathered
pub returns-clause-ok : goal.returns-clause-ok
returns-clause-ok g c =
    let old = g.W.Write.contents c.args.writer.now in
    let begun = g.W.Write.contents c.push_page_begin.new.writer in
    let drawn = g.W.Write.contents c.push_picture.new.writer in
    let new = g.W.Write.contents c.push.new.writer in
    let page = c.args.page.now in
    subst (λ (l : List ℕ). OnOk c.push.result (GathersMore old c.args.text.now new c.push.new.self l)) (sym (page-text c.args.number page c.requires.valid.frame))
    (on_ok_weaker c.push.result
    (λ out. gathers-both old begun new c.args.text.now c.push_page_begin.new.text c.push.new.self (first page c.args.number) (drawn_lines (picture page) ++ codes "    </svg>\n")
    (subst (λ (f : Frame). GathersMore old c.args.text.now begun c.push_page_begin.new.text (part_begin f.width f.height (page_area f c.args.number))) c.frame.ensures c.in_ok-push_page_begin.ensures.ok)
    (gathers-both begun drawn new c.push_page_begin.new.text c.push_picture.new.text c.push.new.self (drawn_lines (picture page)) (codes "    </svg>\n") c.in_ok-push_picture.ensures.ok out))
    c.push.ensures.ok)

-- a beginning went out with the end
pub returns-clause-err : goal.returns-clause-err
returns-clause-err g c =
    let old = g.W.Write.contents c.args.writer.now in
    let begun = g.W.Write.contents c.push_page_begin.new.writer in
    let drawn = g.W.Write.contents c.push_picture.new.writer in
    let new = g.W.Write.contents c.push.new.writer in
    let page = c.args.page.now in
    subst (λ (l : List ℕ). OnErr c.push.result (SendsBeginning old c.args.text.now new l)) (sym (page-text c.args.number page c.requires.valid.frame))
    (on_err_weaker c.push.result
    (λ out. begins-both old begun new c.args.text.now c.push_page_begin.new.text (first page c.args.number) (drawn_lines (picture page) ++ codes "    </svg>\n")
    (subst (λ (f : Frame). GathersMore old c.args.text.now begun c.push_page_begin.new.text (part_begin f.width f.height (page_area f c.args.number))) c.frame.ensures c.in_ok-push_page_begin.ensures.ok)
    (begins-both begun drawn new c.push_page_begin.new.text c.push_picture.new.text (drawn_lines (picture page)) (codes "    </svg>\n") c.in_ok-push_picture.ensures.ok out))
    c.push.ensures.err)
