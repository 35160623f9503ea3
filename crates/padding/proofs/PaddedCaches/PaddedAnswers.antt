-- What a cache with a padding answers is what the definition of runs allows.
use Rattle.std.proofs.Common.{◌≡◌, ℕ, ◌≤◌, ◌⊎◌, ◌↔◌, Option, Some, None, Result, Ok, Err, [], inl, inr, length, refl, ap, sym, ◌∙◌}
use Rattle.std.specs.Map.{lookup}
use Rattle.std.specs.Prelude.{IfSome, IsErrOf, nat_eq, option_map}
use Rattle.etagere_base.specs.declared.geometry.Rectangle.{Rectangle}
use Rattle.etagere_base.specs.declared.geometry.Size.{Size}
use Rattle.etagere_base.specs.declared.ids.Allocation.{Allocation}
use Rattle.padding.specs.Padding.{HasSize, padded, trimmed}
use Rattle.glyph_shelf.specs.Cache.{CacheState, evictable, used, without_key}
use Rattle.glyph_shelf.specs.Placing.{IsFrameFull, IsNew, IsTooLarge}
use Rattle.glyph_shelf.specs.declared.cache.Placed.{Placed}
use Rattle.glyph_shelf.specs.declared.faults.GlyphFault.{GlyphFault}
use Rattle.glyph_shelf.specs.declared.faults.GlyphFault.TheVariants.{TooLarge, Memory, FrameFull}
use Rattle.glyph_shelf.proofs.Callers.{looked-unknown, without_key-unknown}
use Rattle.padding.specs.Caches.Padded.{PaddedCacheState, PlacesPadded, trimmed_at}
use Rattle.padding.specs.Caches.Runs.{IsReason, PlacesAgain, PlacesNew, round}

-- nothing is found of a key that isn't there
none-new : (old : PaddedCacheState) (key : ℕ) → None ≡ trimmed_at old key → IsNew old.cache key
none-new old key none = by_found (lookup (nat_eq key) old.cache.entries) none
  where
    by_found : (o : Option Allocation) → None ≡ option_map (trimmed old.padding) (option_map (λ (a : Allocation). a.rectangle) o) → o ≡ None
    by_found None h = refl
    by_found (Some a) h = absurd (cc)

pub not-used : (old new : PaddedCacheState) (key : ℕ) → None ≡ trimmed_at old key → new ≡ round old (used old.cache key) → IsNew old.cache key × (new ≡ old)
not-used old new key none after =
    let is_new = none-new old key none in
    let nothing = ap (option_map (λ (a : Allocation). a.rectangle)) is_new in
    (is_new, after ∙ ap (round old) (looked-unknown old.cache (used old.cache key) key nothing refl))

pub not-removed : (old new : PaddedCacheState) (key : ℕ) → None ≡ trimmed_at old key → new ≡ round old (without_key old.cache key)
    → IsNew old.cache key × (new ≡ old)
not-removed old new key none after =
    let is_new = none-new old key none in
    (is_new, after ∙ ap (round old) (without_key-unknown old.cache key is_new))

-- a key that was placed was there, or is new
pub was-placed : (old new : PaddedCacheState) (key : ℕ) (size : Size) (placed : Placed)
    → IfSome (trimmed_at old key) (λ rectangle. ((placed.rectangle ≡ rectangle) × (placed.evicted.items ≡ [])) × (new ≡ round old (used old.cache key)))
    → (IsNew old.cache key → PlacesPadded old key size placed.rectangle placed.evicted.items new)
    → (IsNew old.cache key → HasSize size placed.rectangle)
    → (IsNew old.cache key × IsTooLarge old.cache (padded old.padding size) → ⊥) → length placed.evicted.items ≤ evictable old.cache
    → PlacesAgain old key placed new ⊎ PlacesNew old key size placed new
was-placed old new key size placed found new_placed large fits spared = by_found (lookup (nat_eq key) old.cache.entries) refl found
  where
    by_found : (o : Option Allocation) → lookup (nat_eq key) old.cache.entries ≡ o
        → IfSome (option_map (trimmed old.padding) (option_map (λ (a : Allocation). a.rectangle) o))
        (λ rectangle. ((placed.rectangle ≡ rectangle) × (placed.evicted.items ≡ [])) × (new ≡ round old (used old.cache key)))
        → PlacesAgain old key placed new ⊎ PlacesNew old key size placed new
    by_found None at is =
        inr (record {
          is_new = at;
          fits = λ too_large. fits (at, too_large);
          places = new_placed at;
          spared = spared;
          large = large at;
        })
    by_found (Some a) at is =
        inl (record {
          there = ap (λ (o : Option Allocation). option_map (trimmed old.padding) (option_map (λ (b : Allocation). b.rectangle) o)) at
              ∙ ap (λ (r : Rectangle). Some r) (sym is.0.0);
          none = is.0.1;
          after = is.1;
        })

-- a key that wasn't placed is new
pub was-refused : (old : PaddedCacheState) (key : ℕ) (P : Rectangle → Type 0) → ((r : Rectangle) → P r → ⊥) → IfSome (trimmed_at old key) P → IsNew old.cache key
was-refused old key P never found = by_found (lookup (nat_eq key) old.cache.entries) found
  where
    by_found : (o : Option Allocation) → IfSome (option_map (trimmed old.padding) (option_map (λ (a : Allocation). a.rectangle) o)) P → o ≡ None
    by_found None is = refl
    by_found (Some a) is = absurd (never (trimmed old.padding a.rectangle) is)

-- what is placed isn't refused
pub ok-not_err : {T E : Type 0} (placed : T) (fault : E) → let r : Result T E = Ok placed in let other : Result T E = Err fault in r ≡ other → ⊥
ok-not_err placed fault same = cc

-- why it wasn't placed
pub reason-is : {T : Type 0} (cache : CacheState) (key : ℕ) (size : Size) (fault : GlyphFault) → IsNew cache key
    → (let r : Result T GlyphFault = Err fault in IsErrOf r TooLarge ↔ (IsNew cache key × IsTooLarge cache size))
    → (let r : Result T GlyphFault = Err fault in IsErrOf r FrameFull → IsNew cache key × IsFrameFull cache size)
    → IsReason cache size fault
reason-is cache key size TooLarge is_new large full = (large.0 refl).1
reason-is cache key size (Memory evicted) is_new large full = λ too_large. let same = large.1 (is_new, too_large) in cc
reason-is cache key size FrameFull is_new large full = (λ too_large. let same = large.1 (is_new, too_large) in cc, (full refl).1)
