use Rattle.std.proofs.Common.{take}
use Rattle.atlas_pages.specs.Saved.{EachStandsFor}
use Rattle.atlas_pages.proofs.saving.saved_pages.Given as goal

abbrev pub invariant-loop-page : goal.invariant-loop-page
invariant-loop-page l = EachStandsFor l.saved.items (take l.page-index l.pages)
