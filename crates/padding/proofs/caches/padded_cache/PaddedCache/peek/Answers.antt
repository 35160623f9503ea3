use Rattle.std.proofs.Common.{sym}
use Rattle.padding.proofs.PaddedCaches.PaddedLemmas.{found-near}
use Rattle.padding.proofs.caches.padded_cache.PaddedCache.peek.Goals as goal

pub trimmed-requires : goal.trimmed-requires
trimmed-requires c =
    found-near c.self.inside.cache c.args.key c.in_ok-rectangle.rectangle c.self.invariant.cache (sym c.in_ok-rectangle.ensures.value)
