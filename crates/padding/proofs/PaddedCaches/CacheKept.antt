-- What becomes of a cache keeps its promises, where its atlas keeps its own.
use Rattle.std.proofs.Common.{◌≡◌, ℕ, zero, suc, ◌-◌, ◌<◌, ◌≤◌, Bool, true, Option, Some, None, List, [], ◌∷◌, length, refl, ap, sym, ◌∙◌, subst, arith}
use Rattle.std.proofs.lemmas.Bool.Decides.{nat_tests}
use Rattle.std.specs.Map.{lookup}
use Rattle.std.specs.Prelude.{◌&&◌, is_some, nat_eq, nat_lt, option_map}
use Rattle.etagere_base.specs.declared.geometry.Rectangle.{Rectangle}
use Rattle.etagere_base.specs.declared.geometry.Size.{Size}
use Rattle.etagere_base.specs.declared.ids.Allocation.{Allocation}
use Rattle.shelf_model.specs.Atlas.{KeepsPromises}
use Rattle.shelf_model.specs.Callers.{AreTied}
use Rattle.shelf_model.specs.Choice.{placement_of}
use Rattle.shelf_model.specs.Growing.{grow_fault}
use Rattle.shelf_model.specs.State.{AtlasState}
use Rattle.shelf_model.proofs.Callers.{allocated-grown, allocates-adds, fresh-allocated, promises-cleared, promises-grown}
use Rattle.glyph_shelf.specs.Cache.{CacheState, after_dropping, empty_cache, in_new_frame, kept_allocations, without_key}
use Rattle.glyph_shelf.specs.Placing.{Enters, IsLeft, IsNew, Places, SameLayout}
use Rattle.glyph_shelf.specs.Promises.{KeepsCachePromises}
use Rattle.glyph_shelf.specs.Retaining.{without_keys}
use Rattle.glyph_shelf.specs.Sizing.{cache_grown, surplus, with_capacity}
use Rattle.glyph_shelf.specs.declared.faults.GlyphFault.{GlyphFault}
use Rattle.glyph_shelf.specs.declared.faults.GlyphFault.TheVariants.{TooLarge, Memory, FrameFull}
use Rattle.glyph_shelf.proofs.Callers.{entries-after_dropping, keeps, keeps-entered, keeps-key_returned, keeps-without_last, length-after_dropping, unknown-take}
use Rattle.padding.proofs.PaddedCaches.LayoutAllocated.{layout-same}

pub keeps-dropped : (cache : CacheState) (n : ℕ) → KeepsCachePromises cache → KeepsCachePromises (after_dropping cache n)
keeps-dropped cache zero promises = promises
keeps-dropped cache (suc n) promises = keeps-without_last (after_dropping cache n) (keeps-dropped cache n promises)

pub keeps-without_key : (cache : CacheState) (key : ℕ) → KeepsCachePromises cache → KeepsCachePromises (without_key cache key)
keeps-without_key cache key promises = by_found (lookup (nat_eq key) cache.entries) refl
  where
    by_found : (o : Option Allocation) → lookup (nat_eq key) cache.entries ≡ o → KeepsCachePromises (without_key cache key)
    by_found None at = rw at promises
    by_found (Some a) at = rw at (keeps-key_returned cache key a promises at)

pub keeps-without_keys : (cache : CacheState) (keys : List ℕ) → KeepsCachePromises cache → KeepsCachePromises (without_keys cache keys)
keeps-without_keys cache [] promises = promises
keeps-without_keys cache (key ∷ keys) promises = keeps-without_keys (without_key cache key) keys (keeps-without_key cache key promises)

pub keeps-framed : (cache : CacheState) → KeepsCachePromises cache → KeepsCachePromises (in_new_frame cache)
keeps-framed cache promises =
    keeps (in_new_frame cache) promises.atlas promises.few promises.capacity promises.keys promises.tied (omega arith)

pub keeps-cleared : (cache : CacheState) → KeepsCachePromises cache → KeepsCachePromises (empty_cache cache.atlas.frame cache.capacity)
keeps-cleared cache promises =
    keeps (empty_cache cache.atlas.frame cache.capacity) (promises-cleared cache.atlas promises.atlas.valid) (omega arith) promises.capacity
    (λ key. omega arith)
    (subst (AreTied []) (sym (fresh-allocated cache.atlas.frame)) (record { counted = λ id. refl; found = tt })) (omega arith)

pub keeps-larger : (cache : CacheState) (size : Size) → grow_fault cache.atlas size ≡ None → KeepsCachePromises cache
    → KeepsCachePromises (cache_grown cache size)
keeps-larger cache size none promises =
    keeps (cache_grown cache size) (promises-grown cache.atlas size promises.atlas.valid none) promises.few promises.capacity promises.keys
    (subst (AreTied (kept_allocations cache)) (sym (allocated-grown cache.atlas size promises.atlas.valid none)) promises.tied) promises.uses

pub keeps-sized : (cache : CacheState) (most : ℕ) → 1 ≤ most → KeepsCachePromises cache → KeepsCachePromises (with_capacity cache most)
keeps-sized cache most some promises =
    let n : ℕ = surplus cache most in
    let left = keeps-dropped cache n promises in
    keeps (with_capacity cache most) left.atlas (omega (arith, length-after_dropping cache n)) some left.keys left.tied left.uses

-- a cache by its parts
abbrev cache_of : List (ℕ × Allocation) → ℕ → AtlasState → Option ℕ → CacheState
cache_of entries capacity atlas uses =
    record { entries = entries; capacity = capacity; atlas = atlas; used_in_frame = uses }

cache-is : (cache : CacheState) (entries : List (ℕ × Allocation)) (capacity : ℕ) (uses : Option ℕ) → cache.entries ≡ entries
    → cache.capacity ≡ capacity → cache.used_in_frame ≡ uses → cache ≡ cache_of entries capacity cache.atlas uses
cache-is cache entries capacity uses es c u =
    ap (λ (l : List (ℕ × Allocation)). cache_of l cache.capacity cache.atlas cache.used_in_frame) es
    ∙ ap (λ (n : ℕ). cache_of entries n cache.atlas cache.used_in_frame) c
    ∙ ap (cache_of entries capacity cache.atlas) u

room-some : (a b : Bool) → (a && b) ≡ true → a ≡ true
room-some a b h = grind arith

-- a key entered where there was room
entered-kept : (old : CacheState) (key : ℕ) (size : Size) (rectangle : Rectangle) (new : CacheState) → KeepsCachePromises old
    → IsNew old key → length old.entries < old.capacity → Enters old key size rectangle new → KeepsPromises new.atlas → KeepsCachePromises new
entered-kept old key size rectangle new promises is_new room entered atlas =
    let a : Allocation = entered.allocation in
    subst KeepsCachePromises
    (sym (cache-is new ((key, a) ∷ old.entries) old.capacity (option_map suc old.used_in_frame) entered.entries entered.capacity entered.uses))
    (keeps-entered old key a new.atlas promises is_new room atlas
    (allocates-adds old.atlas size a new.atlas promises.atlas.valid entered.allocated) entered.allocated.fresh_id)

pub keeps-placed : (old : CacheState) (key : ℕ) (size : Size) (rectangle : Rectangle) (evicted : List ℕ) (new : CacheState)
    → KeepsCachePromises old → IsNew old key → Places old key size rectangle evicted new → KeepsPromises new.atlas → KeepsCachePromises new
keeps-placed old key size rectangle evicted new promises is_new places atlas =
    let n : ℕ = length evicted in
    let left : CacheState = after_dropping old n in
    let unknown : IsNew left key =
    ap (lookup (nat_eq key)) (entries-after_dropping old n) ∙ unknown-take (nat_eq key) (length old.entries - n) old.entries is_new in
    let room : nat_lt (length left.entries) left.capacity ≡ true =
    room-some (nat_lt (length left.entries) left.capacity) (is_some (placement_of left.atlas size)) places.least.room in
    entered-kept left key size rectangle new (keeps-dropped old n promises) unknown (grind (arith, nat_tests, room)) places.entered atlas

-- a layout that stayed
same-kept : (old new : CacheState) → KeepsCachePromises old → SameLayout old new → KeepsPromises new.atlas → KeepsCachePromises new
same-kept old new promises same atlas =
    subst KeepsCachePromises (sym (cache-is new old.entries old.capacity old.used_in_frame same.entries same.capacity same.uses))
    (keeps (cache_of old.entries old.capacity new.atlas old.used_in_frame) atlas promises.few promises.capacity promises.keys
    (subst (AreTied (kept_allocations old)) (sym (layout-same old.atlas new.atlas same.layout)) promises.tied) promises.uses)

pub keeps-left : (old : CacheState) (size : Size) (fault : GlyphFault) (new : CacheState) → KeepsCachePromises old → IsLeft old size fault new
    → KeepsPromises new.atlas → KeepsCachePromises new
keeps-left old size TooLarge new promises left atlas = subst KeepsCachePromises (sym left) promises
keeps-left old size (Memory evicted) new promises left atlas =
    same-kept (after_dropping old (length evicted.items)) new (keeps-dropped old (length evicted.items) promises) left.rest atlas
keeps-left old size FrameFull new promises left atlas = subst KeepsCachePromises (sym left) promises
