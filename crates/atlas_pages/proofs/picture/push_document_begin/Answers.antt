use Rattle.std.proofs.Common.{rules, ◌≡◌, List, ℕ, OnErr, OnOk, subst}
use Rattle.etagere_base.specs.Drawing.{document_begin}
use Rattle.pictures.specs.Gathering.{GathersMore, SendsBeginning}
use Rattle.atlas_pages.specs.Picture.{pages_width}
use Rattle.atlas_pages.proofs.PictureLemmas.{document-begin}
use Rattle.atlas_pages.proofs.picture.push_document_begin.Goals as goal

pub returns-clause-ok : goal.returns-clause-ok
returns-clause-ok g c =
    let old = g.W.Write.contents c.args.writer.now in
    let new = g.W.Write.contents c.push_pieces.new.writer in
    let wide : c.saturating_sub-width.result ≡ pages_width c.args.frame.now.width c.args.count = first_of (search rules, cc) in
    let tall : c.from-height.result ≡ c.args.frame.now.height = first_of (search rules, cc) in
    subst (λ (n : ℕ). OnOk c.push_pieces.result (GathersMore old c.args.text.now new c.push_pieces.new.text (document_begin n c.args.frame.now.height))) wide
    (subst (λ (n : ℕ). OnOk c.push_pieces.result (GathersMore old c.args.text.now new c.push_pieces.new.text (document_begin c.saturating_sub-width.result n))) tall
    (subst (λ (l : List ℕ). OnOk c.push_pieces.result (GathersMore old c.args.text.now new c.push_pieces.new.text l))
    (document-begin c.saturating_sub-width.result c.from-height.result) c.push_pieces.ensures.ok))

pub returns-clause-err : goal.returns-clause-err
returns-clause-err g c =
    let old = g.W.Write.contents c.args.writer.now in
    let new = g.W.Write.contents c.push_pieces.new.writer in
    let wide : c.saturating_sub-width.result ≡ pages_width c.args.frame.now.width c.args.count = first_of (search rules, cc) in
    let tall : c.from-height.result ≡ c.args.frame.now.height = first_of (search rules, cc) in
    subst (λ (n : ℕ). OnErr c.push_pieces.result (SendsBeginning old c.args.text.now new (document_begin n c.args.frame.now.height))) wide
    (subst (λ (n : ℕ). OnErr c.push_pieces.result (SendsBeginning old c.args.text.now new (document_begin c.saturating_sub-width.result n))) tall
    (subst (λ (l : List ℕ). OnErr c.push_pieces.result (SendsBeginning old c.args.text.now new l))
    (document-begin c.saturating_sub-width.result c.from-height.result) c.push_pieces.ensures.err))
