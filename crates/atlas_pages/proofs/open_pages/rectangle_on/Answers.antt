use Rattle.std.proofs.Common.{◌≡◌, ◌∙◌, ◌<◌, Some, length, refl, slice_get, sym, ap, arith}
use Rattle.std.specs.Prelude.{option_and_then}
use Rattle.std.proofs.lemmas.Bool.Decides.{nat_tests}
use Rattle.std.proofs.lemmas.Option.{slice_get_read}
use Rattle.shelf_model.specs.Places.{rectangle_of}
use Rattle.shelf_model.specs.State.{AtlasState}
use Rattle.atlas_pages.proofs.open_pages.rectangle_on.Goals as goal

pub returns : goal.returns
returns c =
    let pages = c.args.pages.now in
    let within : c.args.page < length pages = grind (arith, nat_tests, c.in_ok-get.ensures.lookup.0) in
    let here : slice_get pages c.args.page ≡ Some c.in_ok-get.field-0.now =
    slice_get_read pages (length pages) c.args.page c.in_ok-get.field-0.now refl within c.in_ok-get.ensures.lookup.1 in
    c.get-2.ensures ∙ sym (ap (option_and_then (λ (atlas : AtlasState). rectangle_of atlas c.args.id)) here)
