-- What a cache leaves of its keys.
use Rattle.std.proofs.Common.{◌≡◌, Result, Ok, Err, OnOk, OnErr, ap}
use Rattle.etagere_base.specs.declared.geometry.Size.{Size}
use Rattle.glyph_shelf.specs.Cache.{CacheState}
use Rattle.glyph_shelf.specs.Sizing.{cache_grown}

-- a cache that grows, or doesn't, has the same entries
pub same-grown : {E : Type 0} (old new : CacheState) (size : Size) (r : Result (Unit {0}) E)
    → OnOk r (new ≡ cache_grown old size) → OnErr r (new ≡ old) → new.entries ≡ old.entries
same-grown old new size (Ok u) ok err = ap (λ (s : CacheState). s.entries) ok
same-grown old new size (Err e) ok err = ap (λ (s : CacheState). s.entries) err
