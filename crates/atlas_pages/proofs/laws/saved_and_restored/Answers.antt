use Rattle.std.proofs.Common.{◌≡◌}
use Rattle.atlas_pages.specs.declared.faults.PagesRestoreFault.TheVariants.{Memory}
use Rattle.atlas_pages.specs.Saved.{ArePagesBroken, PagesStandFor}
use Rattle.atlas_pages.proofs.SavedLemmas.{err-then, ok-then, pages-none, pages-one}
use Rattle.atlas_pages.proofs.laws.saved_and_restored.Goals as goal

pub returns-clause-ok : goal.returns-clause-ok
returns-clause-ok c =
    ok-then (λ s. PagesStandFor c.in-Ok.snapshot s) (λ s. s ≡ c.args.pages.now) c.restore.result c.restore.ensures.ok
    (λ s stands. pages-one c.in-Ok.snapshot s c.args.pages.now stands c.in-Ok.ensures)

pub returns-clause-memory : goal.returns-clause-memory
returns-clause-memory c =
    err-then (ArePagesBroken c.in-Ok.snapshot) (λ f. f ≡ Memory) c.restore.result c.restore.ensures.fault
    (λ f broken. pages-none c.in-Ok.snapshot c.args.pages.now f broken c.in-Ok.ensures)
