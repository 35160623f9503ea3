use Rattle.std.proofs.Common.{ℕ, sym, subst}
use Rattle.std.specs.List.{AllByRecursion}
use Rattle.etagere_base.specs.declared.geometry.Rectangle.{Rectangle}
use Rattle.padding.specs.Padding.{IsNear}
use Rattle.padding.proofs.PaddedCaches.PaddedLemmas.{listed-near}
use Rattle.padding.proofs.caches.padded_cache.PaddedCache.iter.Goals as goal

pub new-requires : goal.new-requires
new-requires c =
    subst (AllByRecursion (λ (entry : ℕ × Rectangle). IsNear entry.1)) (sym c.iter.ensures.listed)
    (listed-near c.self.inside.cache c.self.invariant.cache)
