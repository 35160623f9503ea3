use Rattle.std.proofs.Common.{List, OnErr, OnOk, subst}
use Rattle.std.specs.Io.KnownBytes.{Appends}
use Rattle.etagere_base.specs.declared.frames.Frame.{Frame}
use Rattle.pictures.specs.Sending.{AppendsBeginning}
use Rattle.shelf_model.specs.State.{AtlasState}
use Rattle.atlas_pages.specs.Pages.{PagesState}
use Rattle.atlas_pages.specs.Picture.{pages_document, pages_svg}
use Rattle.atlas_pages.proofs.pages.AtlasPages.dump_svg.Goals as goal

pub returns-clause-ok : goal.returns-clause-ok
returns-clause-ok g c =
    let old = g.W.Write.contents c.args.output.now in
    let new = g.W.Write.contents c.send_pages.new.writer in
    subst (λ (s : PagesState). OnOk c.send_pages.result (Appends old new (pages_svg s))) c.self.view_is
    (subst (λ (f : Frame). OnOk c.send_pages.result (Appends old new (pages_document f c.self.inside.pages.items))) c.atlas_frame-frame.ensures.value
    (subst (λ (l : List AtlasState). OnOk c.send_pages.result (Appends old new (pages_document c.atlas_frame-frame.result l))) c.deref.ensures.value
    c.send_pages.ensures.ok))

pub returns-clause-err : goal.returns-clause-err
returns-clause-err g c =
    let old = g.W.Write.contents c.args.output.now in
    let new = g.W.Write.contents c.send_pages.new.writer in
    subst (λ (s : PagesState). OnErr c.send_pages.result (AppendsBeginning old new (pages_svg s))) c.self.view_is
    (subst (λ (f : Frame). OnErr c.send_pages.result (AppendsBeginning old new (pages_document f c.self.inside.pages.items))) c.atlas_frame-frame.ensures.value
    (subst (λ (l : List AtlasState). OnErr c.send_pages.result (AppendsBeginning old new (pages_document c.atlas_frame-frame.result l))) c.deref.ensures.value
    c.send_pages.ensures.err))
