use Rattle.std.proofs.Common.{◌∙◌, Some, ap, sym}
use Rattle.atlas_pages.specs.Choosing.{free_space}
use Rattle.atlas_pages.specs.Private.Fullest.{found_of, is_fuller}
use Rattle.atlas_pages.proofs.Fullest.{fuller-no, fuller-placeless, fuller-yes}
use Rattle.atlas_pages.proofs.PageSpaces.{told-back}
use Rattle.atlas_pages.proofs.choosing.fuller.Goals as goal

pub returns-then-not-is_fuller : goal.returns-then-not-is_fuller
returns-then-not-is_fuller c =
    let told = told-back (free_space c.args.page.now) c.free_space-free_space.result c.free_space-free_space.ensures.free c.free_space-free_space.type_inv in
    fuller-no (found_of c.args.best) c.args.number c.args.size c.args.page.now
    (ap (λ free. is_fuller free (found_of c.args.best)) (sym told) ∙ sym c.is_fuller.ensures ∙ c.if-not-is_fuller.true)

pub returns-then-not-has_place : goal.returns-then-not-has_place
returns-then-not-has_place c =
    fuller-placeless (found_of c.args.best) c.args.number c.args.size c.args.page.now (sym c.has_place.ensures ∙ c.if-not-has_place.true)

pub returns : goal.returns
returns c =
    let told = told-back (free_space c.args.page.now) c.free_space-free_space.result c.free_space-free_space.ensures.free c.free_space-free_space.type_inv in
    ap (λ free. Some (record { number = c.args.number; rank = free })) told
    ∙ fuller-yes (found_of c.args.best) c.args.number c.args.size c.args.page.now
    (ap (λ free. is_fuller free (found_of c.args.best)) (sym told) ∙ sym c.is_fuller.ensures ∙ c.if-not-is_fuller.false)
    (sym c.has_place.ensures ∙ c.if-not-has_place.false)
