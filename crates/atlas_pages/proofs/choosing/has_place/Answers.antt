use Rattle.std.proofs.Common.{◌∙◌, ap, not, sym}
use Rattle.atlas_pages.proofs.Fullest.{not-not, place-reason}
use Rattle.atlas_pages.proofs.choosing.has_place.Goals as goal

pub returns : goal.returns
returns c =
    not-not c.is_none.result ∙ ap not (sym c.is_none.ensures)
    ∙ place-reason c.args.size c.args.page.now c.requires c.refusal.result c.refusal.ensures
