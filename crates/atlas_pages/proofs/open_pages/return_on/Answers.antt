use Rattle.std.proofs.Common.{rules, ◌≡◌, ◌<◌, ◌∙◌, Some, length, refl, slice_get, slice_set, sym, ap}
use Rattle.std.proofs.lemmas.Option.{slice_get_read}
use Rattle.shelf_model.specs.Returning.{returned}
use Rattle.atlas_pages.proofs.PageLists.{OnOk-then, at_page-set}
use Rattle.atlas_pages.proofs.open_pages.return_on.Goals as goal

pub returns-clause-ok : goal.returns-clause-ok
returns-clause-ok c =
    let items = c.args.pages.now.items in
    let within : c.args.page < length items = search rules in
    let here : slice_get items c.args.page ≡ Some c.index_mut.result.now =
    slice_get_read items (length items) c.args.page c.index_mut.result.now refl within c.index_mut.ensures.value in
    OnOk-then c.deallocate.result c.deallocate.ensures.ok
    (λ is. ap (slice_set items c.args.page) is ∙ sym (at_page-set (λ atlas. returned atlas c.args.id) items c.args.page c.index_mut.result.now here))

pub returns-clause-unknown : goal.returns-clause-unknown
returns-clause-unknown c =
    let items = c.args.pages.now.items in
    let within : c.args.page < length items = search rules in
    let here : slice_get items c.args.page ≡ Some c.index_mut.result.now =
    slice_get_read items (length items) c.args.page c.index_mut.result.now refl within c.index_mut.ensures.value in
    rw here c.deallocate.ensures.unknown
