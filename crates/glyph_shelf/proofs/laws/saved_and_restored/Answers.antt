use Rattle.std.proofs.Common.{◌≡◌}
use Rattle.glyph_shelf.specs.Saved.{CacheStandsFor, IsCacheBroken, without_frame}
use Rattle.glyph_shelf.specs.declared.faults.CacheRestoreFault.TheVariants.{Memory}
use Rattle.glyph_shelf.proofs.SavedLemmas.{cache-none, cache-one, err-then, ok-then}
use Rattle.glyph_shelf.proofs.laws.saved_and_restored.Goals as goal

pub returns-clause-ok : goal.returns-clause-ok
returns-clause-ok c =
    ok-then (CacheStandsFor c.in-Ok.snapshot) (λ s. s ≡ without_frame c.args.cache.now) c.restore.result c.restore.ensures.ok
    (λ s stands. cache-one c.in-Ok.snapshot s (without_frame c.args.cache.now) stands c.in-Ok.ensures)

pub returns-clause-memory : goal.returns-clause-memory
returns-clause-memory c =
    err-then (IsCacheBroken c.in-Ok.snapshot) (λ f. f ≡ Memory) c.restore.result c.restore.ensures.fault
    (λ f broken. cache-none c.in-Ok.snapshot (without_frame c.args.cache.now) f broken c.in-Ok.ensures)
