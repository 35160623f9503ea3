-- What the fields of a cache with a padding keep, and what callers see of them.
use Rattle.padding.specs.declared.caches.padded_cache.PaddedCache.TheInside.{Inside}
use Rattle.padding.specs.Caches.Padded.{KeepsCachePadding, PaddedCacheState}

-- the padding, and the cache
abbrev pub padded_in : Inside → PaddedCacheState
padded_in fields = record { padding = fields.padding; cache = fields.cache }

-- they keep the promises
abbrev pub IsKeptPadded : Inside → Type 0
IsKeptPadded fields = KeepsCachePadding (padded_in fields)
