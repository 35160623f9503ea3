use Rattle.std.proofs.Common.{◌≡◌, ◌∙◌, Some, Option, length, refl, slice_get, ap, sym}
use Rattle.std.specs.Prelude.{option_map}
use Rattle.std.proofs.lemmas.Option.{slice_get_read}
use Rattle.etagere_base.specs.Least.{Found, better}
use Rattle.etagere_base.proofs.EachLemmas.{Each-get}
use Rattle.shelf_model.specs.Atlas.{KeepsPromises}
use Rattle.atlas_pages.specs.declared.choosing.Candidate.{Candidate}
use Rattle.atlas_pages.specs.declared.options.PageChoice.TheVariants.{FullestFirst}
use Rattle.atlas_pages.specs.Choosing.{page_order}
use Rattle.atlas_pages.specs.Private.Fullest.{found_at, found_of}
use Rattle.atlas_pages.proofs.Fullest.{best-all, best-step, chosen-fits, chosen-within}
use Rattle.atlas_pages.proofs.choosing.fullest_with_place.Goals as goal

pub fuller-best-requires : goal.fuller-best-requires
fuller-best-requires c =
    let pages = c.args.pages.now in
    let here : slice_get pages c.loop-number.number ≡ Some c.index-pages-number.result =
    slice_get_read pages (length pages) c.loop-number.number c.index-pages-number.result refl c.loop-number-test.true c.index-pages-number.is in
    Each-get KeepsPromises pages c.loop-number.number c.index-pages-number.result here c.requires

pub loop-number-preserved : goal.loop-number-preserved
loop-number-preserved c =
    let page = c.index-pages-number.result in
    c.fuller-best.ensures
    ∙ ap (λ (best : Option Found). better best (found_at c.loop-number.number (page_order FullestFirst c.args.size page))) c.loop-number.invariant
    ∙ best-step c.args.size c.args.pages.now c.loop-number.number page c.loop-number-test.true c.index-pages-number.is

pub returns-clause-chosen : goal.returns-clause-chosen
returns-clause-chosen c =
    ap (λ (best : Option Candidate). option_map (λ (found : Found). found.number) (found_of best)) (sym c.in-Some.is)
    ∙ ap (option_map (λ (found : Found). found.number))
    (c.loop-number.invariant ∙ best-all c.args.size c.args.pages.now c.loop-number.number c.loop-number-test.false)

pub returns-clause-within : goal.returns-clause-within
returns-clause-within c = chosen-within c.args.size c.args.pages.now c.in-Some.candidate.number (sym (returns-clause-chosen c))

pub returns-clause-fits : goal.returns-clause-fits
returns-clause-fits c = chosen-fits c.args.size c.args.pages.now c.in-Some.candidate.number (sym (returns-clause-chosen c))

pub returns-in_default-clause-chosen : goal.returns-in_default-clause-chosen
returns-in_default-clause-chosen c =
    ap (λ (best : Option Candidate). option_map (λ (found : Found). found.number) (found_of best)) (sym c.in_default.is)
    ∙ ap (option_map (λ (found : Found). found.number))
    (c.loop-number.invariant ∙ best-all c.args.size c.args.pages.now c.loop-number.number c.loop-number-test.false)
