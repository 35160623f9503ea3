use Rattle.std.proofs.Common.{◌≡◌, ◌+◌, Some, ap, drop, length, refl, slice_get}
use Rattle.std.proofs.lemmas.List.{drop_all}
use Rattle.std.proofs.lemmas.Option.{slice_get_read}
use Rattle.std.specs.List.{enumerate_from}
use Rattle.etagere_base.proofs.EachLemmas.{Each-get}
use Rattle.pictures.proofs.GatheringLemmas.{along-begins, along-begun, along-ends, along-passed, on-err}
use Rattle.shelf_model.specs.Atlas.{KeepsPromises}
use Rattle.atlas_pages.proofs.PictureLemmas.{next-read}
use Rattle.atlas_pages.specs.Picture.{page_text}
use Rattle.atlas_pages.proofs.picture.push_pages.Goals as goal

pub loop-number-init : goal.loop-number-init
loop-number-init g c = along-begins page_text (g.W.Write.contents c.args.writer.now) c.args.text.now (enumerate_from 0 c.args.pages.now)

pub push_page-requires : goal.push_page-requires
push_page-requires g c =
    let pages = c.args.pages.now in
    let here : slice_get pages c.loop-number.number ≡ Some c.index-pages-number.result =
    slice_get_read pages (length pages) c.loop-number.number c.index-pages-number.result refl c.loop-number-test.true c.index-pages-number.is in
    Each-get KeepsPromises pages c.loop-number.number c.index-pages-number.result here c.requires.kept

-- a beginning went out with a page
pub returns-in_err-push_page-clause-err : goal.returns-in_err-push_page-clause-err
returns-in_err-push_page-clause-err g c =
    let pages = c.args.pages.now in
    let n = c.loop-number.number in
    let page = c.index-pages-number.result in
    on-err c.from_residual.result
    (along-begun page_text (g.W.Write.contents c.args.writer.now) c.args.text.now (g.W.Write.contents c.loop-number.writer) (g.W.Write.contents c.push_page.new.writer)
    c.loop-number.text (n, page) (enumerate_from n (drop n pages)) (enumerate_from (n + 1) (drop (n + 1) pages)) (enumerate_from 0 pages) c.loop-number.invariant
    (ap (enumerate_from n) (next-read pages n page c.loop-number-test.true c.index-pages-number.is)) c.in_err-push_page.ensures.err)

-- one more is gathered
pub loop-number-preserved : goal.loop-number-preserved
loop-number-preserved g c =
    let pages = c.args.pages.now in
    let n = c.loop-number.number in
    let page = c.index-pages-number.result in
    along-passed page_text (g.W.Write.contents c.args.writer.now) c.args.text.now (g.W.Write.contents c.loop-number.writer) (g.W.Write.contents c.push_page.new.writer)
    c.loop-number.text c.push_page.new.text (n, page) (enumerate_from n (drop n pages)) (enumerate_from (n + 1) (drop (n + 1) pages)) (enumerate_from 0 pages) c.loop-number.invariant
    (ap (enumerate_from n) (next-read pages n page c.loop-number-test.true c.index-pages-number.is)) c.in_ok-push_page.ensures.ok

-- all are
pub returns-clause-ok : goal.returns-clause-ok
returns-clause-ok g c =
    let pages = c.args.pages.now in
    let n = c.loop-number.number in
    along-ends page_text (g.W.Write.contents c.args.writer.now) c.args.text.now (g.W.Write.contents c.loop-number.writer) c.loop-number.text
    (enumerate_from n (drop n pages)) (enumerate_from 0 pages) c.loop-number.invariant
    (ap (enumerate_from n) (drop_all n pages c.loop-number-test.false))
