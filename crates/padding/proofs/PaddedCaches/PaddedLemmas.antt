-- A cache with a padding keeps its promises where the cache does, and what is given has its size.
use Rattle.std.proofs.Common.{◌≡◌, ℕ, Bool, true, false, cond, Option, Some, None, List, [], ◌∷◌, refl, ap, sym, subst}
use Rattle.std.specs.Prelude.{IfSome, nat_eq, option_map}
use Rattle.std.specs.List.{AllByRecursion}
use Rattle.std.specs.Map.{lookup, values_of}
use Rattle.etagere_base.specs.declared.geometry.Rectangle.{Rectangle}
use Rattle.etagere_base.specs.declared.geometry.Size.{Size}
use Rattle.etagere_base.specs.declared.ids.Allocation.{Allocation}
use Rattle.etagere_base.specs.Rectangles.{IsInside, IsLarge}
use Rattle.padding.specs.declared.sides.Padding.{Padding}
use Rattle.padding.specs.Padding.{HasSize, IsNear, padded, padding_refusal, trimmed}
use Rattle.padding.proofs.Refused.{positive-sides}
use Rattle.padding.proofs.Trimmed.{are-padded, makes-room, near-inside, taken-back}
use Rattle.glyph_shelf.specs.Cache.{CacheState, kept_allocations, listed, rectangle_at, used, with_rectangles}
use Rattle.glyph_shelf.specs.Placing.{IsNew, Places}
use Rattle.glyph_shelf.specs.Promises.{KeepsCachePromises}
use Rattle.padding.specs.Caches.Padded.{KeepsCachePadding, PaddedCacheState, PlacesPadded}

abbrev pub padded_cache : Padding → CacheState → PaddedCacheState
padded_cache padding cache = record { padding = padding; cache = cache }

-- what a cache keeps, it keeps with a padding
pub keeps-padding : (padding : Padding) (cache : CacheState) → KeepsCachePromises cache → KeepsCachePadding (padded_cache padding cache)
keeps-padding padding cache keeps =
    record {
      cache = keeps;
      padded = are-padded padding cache.atlas.frame (kept_allocations cache) keeps.inside keeps.apart;
    }

-- what lies inside its atlas is near
cache-near : (cache : CacheState) (rectangle : Rectangle) → KeepsCachePromises cache → IsInside cache.atlas.frame rectangle → IsNear rectangle
cache-near cache rectangle keeps inside =
    let frame = keeps.atlas.valid.frame in
    near-inside cache.atlas.frame rectangle frame.width.1 frame.height.1 inside

-- so is what is found under a key
found-in : (cache : CacheState) (key : ℕ) (rectangle : Rectangle) (es : List (ℕ × Allocation)) → KeepsCachePromises cache
    → AllByRecursion (λ (a : Allocation). IsInside cache.atlas.frame a.rectangle) (values_of es)
    → option_map (λ (a : Allocation). a.rectangle) (lookup (nat_eq key) es) ≡ Some rectangle → IsNear rectangle
found-in cache key rectangle [] keeps each is = absurd (cc)
found-in cache key rectangle (e ∷ es) keeps each is = by_test (nat_eq key e.0) is (found-in cache key rectangle es keeps each.1)
  where
    by_test : (b : Bool) → option_map (λ (a : Allocation). a.rectangle) (cond b (Some e.1) (lookup (nat_eq key) es)) ≡ Some rectangle
        → (option_map (λ (a : Allocation). a.rectangle) (lookup (nat_eq key) es) ≡ Some rectangle → IsNear rectangle) → IsNear rectangle
    by_test true h rest = let same : e.1.rectangle ≡ rectangle = cc in subst IsNear same (cache-near cache e.1.rectangle keeps each.0)
    by_test false h rest = rest h

pub found-near : (cache : CacheState) (key : ℕ) (rectangle : Rectangle) → KeepsCachePromises cache → rectangle_at cache key ≡ Some rectangle
    → IsNear rectangle
found-near cache key rectangle keeps is = found-in cache key rectangle cache.entries keeps keeps.inside is

-- and everything that is listed
pub listed-near : (cache : CacheState) → KeepsCachePromises cache → AllByRecursion (λ (entry : ℕ × Rectangle). IsNear entry.1) (listed cache)
listed-near cache keeps = each cache.entries keeps.inside
  where
    each : (es : List (ℕ × Allocation)) → AllByRecursion (λ (a : Allocation). IsInside cache.atlas.frame a.rectangle) (values_of es)
        → AllByRecursion (λ (entry : ℕ × Rectangle). IsNear entry.1) (with_rectangles es)
    each [] inside = tt
    each (e ∷ es) inside = (cache-near cache e.1.rectangle keeps inside.0, each es inside.1)

-- and what a new key is given
pub placed-near : (old new : CacheState) (key : ℕ) (size : Size) (rectangle : Rectangle) (evicted : List ℕ) → KeepsCachePromises new
    → Places old key size rectangle evicted new → IsNear rectangle
placed-near old new key size rectangle evicted keeps places =
    let entered = places.entered in
    let inside : IsInside new.atlas.frame entered.allocation.rectangle =
    (subst (λ (es : List (ℕ × Allocation)). AllByRecursion (λ (a : Allocation). IsInside new.atlas.frame a.rectangle) (values_of es)) entered.entries keeps.inside).0 in
    subst IsNear entered.given (cache-near new entered.allocation.rectangle keeps inside)

-- so what is given is near, where the key was there or was new
pub given-near : (old new : CacheState) (key : ℕ) (size : Size) (rectangle : Rectangle) (evicted : List ℕ) → KeepsCachePromises old
    → KeepsCachePromises new
    → IfSome (rectangle_at old key) (λ (was : Rectangle). ((rectangle ≡ was) × (evicted ≡ [])) × (new ≡ used old key))
    → (IsNew old key → Places old key size rectangle evicted new) → IsNear rectangle
given-near old new key size rectangle evicted was is found placed = by_found (lookup (nat_eq key) old.entries) refl found
  where
    by_found : (o : Option Allocation) → lookup (nat_eq key) old.entries ≡ o
        → IfSome (option_map (λ (a : Allocation). a.rectangle) o)
        (λ (was : Rectangle). ((rectangle ≡ was) × (evicted ≡ [])) × (new ≡ used old key)) → IsNear rectangle
    by_found None none same = placed-near old new key size rectangle evicted is (placed none)
    by_found (Some a) some same =
        subst IsNear (sym same.0.0) (found-near old key a.rectangle was (ap (option_map (λ (a : Allocation). a.rectangle)) some))

-- with its padding, what a new key is given is what the cache gave
pub places-padded : (old new : CacheState) (padding : Padding) (key : ℕ) (size : Size) (rectangle : Rectangle) (evicted : List ℕ)
    → Places old key (padded padding size) rectangle evicted new
    → PlacesPadded (padded_cache padding old) key size (trimmed padding rectangle) evicted (padded_cache padding new)
places-padded old new padding key size rectangle evicted places =
    record { places = rw (taken-back padding rectangle) places; padding = refl }

-- and it has the size that was asked for
pub has-size : (cache : CacheState) (padding : Padding) (size : Size) (rectangle : Rectangle) → KeepsCachePromises cache
    → padding_refusal padding size ≡ None → IsLarge cache.atlas.frame (padded padding size) rectangle → HasSize size (trimmed padding rectangle)
has-size cache padding size rectangle keeps none large =
    let frame = keeps.atlas.valid.frame in
    let positive = positive-sides padding size none in
    makes-room padding cache.atlas.frame size rectangle frame.alignment_width.0 frame.alignment_height.0 large positive.0 positive.1

-- so it is of what is asked, where that is the size with its padding
pub placed-now : (now : PaddedCacheState) (old new : CacheState) (padding : Padding) (key : ℕ) (size asked : Size) (rectangle given : Rectangle)
    (evicted : List ℕ) → padded_cache padding old ≡ now → IsNew now.cache key → asked ≡ padded now.padding size
    → (IsNew old key → Places old key asked rectangle evicted new) → given ≡ trimmed padding rectangle
    → PlacesPadded now key size given evicted (padded_cache padding new)
placed-now now old new padding key size asked rectangle given evicted is new_key same places given_is =
    subst (λ (s : PaddedCacheState). IsNew s.cache key → asked ≡ padded s.padding size → PlacesPadded s key size given evicted (padded_cache padding new)) is
    (λ is_new asked_is.
    subst (λ (r : Rectangle). PlacesPadded (padded_cache padding old) key size r evicted (padded_cache padding new)) (sym given_is)
    (places-padded old new padding key size rectangle evicted
    (subst (λ (s : Size). Places old key s rectangle evicted new) asked_is (places is_new))))
    new_key same

pub sized-now : (now : PaddedCacheState) (old : CacheState) (padding : Padding) (key : ℕ) (size asked : Size) (rectangle given : Rectangle)
    → KeepsCachePromises old → padded_cache padding old ≡ now → IsNew now.cache key
    → (asked ≡ padded now.padding size) × (padding_refusal now.padding size ≡ None)
    → (IsNew old key → IsLarge old.atlas.frame asked rectangle) → given ≡ trimmed padding rectangle → HasSize size given
sized-now now old padding key size asked rectangle given keeps is new_key same large given_is =
    subst (HasSize size) (sym given_is)
    (subst (λ (s : PaddedCacheState). IsNew s.cache key → (asked ≡ padded s.padding size) × (padding_refusal s.padding size ≡ None) → HasSize size (trimmed padding rectangle)) is
    (λ is_new asked_is.
    has-size old padding size rectangle keeps asked_is.1
    (subst (λ (s : Size). IsLarge old.atlas.frame s rectangle) asked_is.0 (large is_new)))
    new_key same)
