-- Lists of calls of a cache with a padding: what each call may answer and leave, what the replies tell of what is there,
-- and what holds after them.
use Rattle.std.specs.Prelude.{◌≡◌, ℕ, ◌-◌, ◌≤◌, ◌⊎◌, None, Some, not, nat_eq, List, [], ◌∷◌, filter, length, reverse, take}
use Rattle.std.specs.Map.{keys_of, remove_entry}
use Rattle.std.specs.NonZero.{non_zero_usize_get}
use Rattle.lru.specs.LruCache.{promoted}
use Rattle.etagere_base.specs.declared.geometry.Rectangle.{Rectangle}
use Rattle.etagere_base.specs.declared.geometry.Size.{Size}
use Rattle.etagere_base.specs.declared.ids.Allocation.{Allocation}
use Rattle.shelf_model.specs.Atlas.{KeepsPromises}
use Rattle.shelf_model.specs.Growing.{grow_fault}
use Rattle.glyph_shelf.specs.Cache.{CacheState, empty_cache, evictable, in_new_frame, used, without_key}
use Rattle.glyph_shelf.specs.Placing.{IsFrameFull, IsLeft, IsNew, IsTooLarge, Spares}
use Rattle.glyph_shelf.specs.Retaining.{without_keys}
use Rattle.glyph_shelf.specs.Sizing.{cache_grown, surplus, surplus_keys, with_capacity}
use Rattle.glyph_shelf.specs.declared.faults.GlyphFault.{GlyphFault}
use Rattle.glyph_shelf.specs.declared.faults.GlyphFault.TheVariants.{TooLarge, Memory, FrameFull}
use Rattle.glyph_shelf.specs.declared.cache.Placed.{Placed}
use Rattle.padding.specs.Padding.{HasSize, padded}
use Rattle.padding.specs.Caches.Padded.{KeepsCachePadding, PaddedCacheState, PlacesPadded, trimmed_at, trimmed_list}
use Rattle.glyph_shelf.specs.Dropping.{is_one_of}
use Rattle.glyph_shelf.specs.Grows.{IsNotGrown}
use Rattle.padding.specs.declared.caches.runs.calls.PaddedCall.{PaddedCall}
use Rattle.padding.specs.declared.caches.runs.calls.PaddedCall.TheVariants.{Place, Get, Remove, Retain, BeginFrame, Grow, SetCapacity, Clear}
use Rattle.padding.specs.declared.caches.runs.calls.PaddedReply.{PaddedReply}
use Rattle.padding.specs.declared.caches.runs.calls.PaddedReply.TheVariants as reply

-- the same padding, round another cache
abbrev pub round : PaddedCacheState → CacheState → PaddedCacheState
round old cache = record { padding = old.padding; cache = cache }

-- a key that is there keeps its rectangle, and nothing is evicted for it
pub record PlacesAgain (old : PaddedCacheState) (key : ℕ) (placed : Placed) (new : PaddedCacheState) : Type 0 where
  pub there : trimmed_at old key ≡ Some placed.rectangle
  pub none : placed.evicted.items ≡ []
  pub after : new ≡ round old (used old.cache key)

-- a new key is placed after the evictions that its size with its padding needs, in a rectangle of at least the size;
-- none that was used in this frame goes
pub record PlacesNew (old : PaddedCacheState) (key : ℕ) (size : Size) (placed : Placed) (new : PaddedCacheState)
    : Type 0 where
  pub is_new : IsNew old.cache key
  pub fits : ¬ (IsTooLarge old.cache (padded old.padding size))
  pub places : PlacesPadded old key size placed.rectangle placed.evicted.items new
  pub spared : length placed.evicted.items ≤ evictable old.cache
  pub large : HasSize size placed.rectangle

-- why a size isn't placed in a cache; that memory ran out says nothing but that it isn't too large
abbrev pub IsReason : CacheState → Size → GlyphFault → Type 0
IsReason cache size TooLarge = IsTooLarge cache size
IsReason cache size (Memory evicted) = ¬ (IsTooLarge cache size)
IsReason cache size FrameFull = ¬ (IsTooLarge cache size) × IsFrameFull cache size

-- a new key isn't placed, by what its size with its padding needs
pub record RefusesNew (old : PaddedCacheState) (key : ℕ) (size : Size) (fault : GlyphFault) (new : PaddedCacheState)
    : Type 0 where
  pub is_new : IsNew old.cache key
  pub reason : IsReason old.cache (padded old.padding size) fault
  pub left : IsLeft old.cache (padded old.padding size) fault new.cache
  pub spared : Spares old.cache fault
  pub padding : new.padding ≡ old.padding

-- these keys go, one after another, the least recently used first; the others stand in the order of use
pub record DropsKeys (old : CacheState) (gone : List ℕ) (new : CacheState) : Type 0 where
  pub left : new ≡ without_keys old (filter (is_one_of nat_eq gone) (reverse (keys_of old.entries)))
  pub order : new.entries ≡ filter (λ (entry : ℕ × Allocation). not (is_one_of nat_eq gone entry.0)) old.entries

-- a cache may give this reply to a call, and become the new one
abbrev pub MayAnswer : PaddedCacheState → PaddedCall → PaddedReply → PaddedCacheState → Type 0
MayAnswer old (Place key size) (reply.Placed placed) new =
    PlacesAgain old key placed new ⊎ PlacesNew old key size placed new
MayAnswer old (Place key size) (reply.Refused fault) new = RefusesNew old key size fault new
MayAnswer old (Get key) (reply.At rectangle) new =
    (trimmed_at old key ≡ Some rectangle) × (new ≡ round old (used old.cache key))
MayAnswer old (Get key) reply.NotThere new = IsNew old.cache key × (new ≡ old)
MayAnswer old (Remove key) (reply.Removed rectangle) new =
    (trimmed_at old key ≡ Some rectangle) × (new ≡ round old (without_key old.cache key))
MayAnswer old (Remove key) reply.NotThere new = IsNew old.cache key × (new ≡ old)
MayAnswer old (Retain gone) reply.Retained new = DropsKeys old.cache gone.items new.cache × (new.padding ≡ old.padding)
MayAnswer old BeginFrame reply.Begun new = new ≡ round old (in_new_frame old.cache)
MayAnswer old (Grow size) reply.Grown new =
    (grow_fault old.cache.atlas size ≡ None) × (new ≡ round old (cache_grown old.cache size))
MayAnswer old (Grow size) (reply.NotGrown fault) new = IsNotGrown old.cache.atlas size fault × (new ≡ old)
MayAnswer old (SetCapacity capacity) (reply.Evicted evicted) new =
    (evicted.items ≡ surplus_keys old.cache (non_zero_usize_get capacity))
    × (new ≡ round old (with_capacity old.cache (non_zero_usize_get capacity)))
MayAnswer old (SetCapacity capacity) reply.NoMemory new =
    (1 ≤ surplus old.cache (non_zero_usize_get capacity)) × (new ≡ old)
MayAnswer old Clear reply.Cleared new = new ≡ round old (empty_cache old.cache.atlas.frame old.cache.capacity)
-- no other reply is given
MayAnswer old call answer new = ⊥

-- the same, where the atlas keeps its own promises: it chooses the ids that it gives
pub record Step (old : PaddedCacheState) (call : PaddedCall) (answer : PaddedReply) (new : PaddedCacheState)
    : Type 0 where
  pub answers : MayAnswer old call answer new
  pub atlas : KeepsPromises new.cache.atlas

-- a cache may give these replies to calls, one after another, and become the new one
abbrev pub Runs : PaddedCacheState → List PaddedCall → List PaddedReply → PaddedCacheState → Type 0
Runs old [] [] new = new ≡ old
Runs old (call ∷ calls) (answer ∷ answers) new =
    (middle : PaddedCacheState) × Step old call answer middle × Runs middle calls answers new
Runs old calls answers new = ⊥

-- keys with their rectangles without the padding, the most recently used first
abbrev pub Told : Type 0
Told = List (ℕ × Rectangle)

-- without the last ones, which were evicted
abbrev pub without_last : ℕ → Told → Told
without_last count told = take (length told - count) told

-- What one reply changes. A key that is placed or looked up goes first, and what is evicted goes from the end.
abbrev pub told_after : PaddedCall → PaddedReply → Told → Told
told_after (Place key size) (reply.Placed placed) told =
    (key, placed.rectangle) ∷ without_last (length placed.evicted.items) (remove_entry (nat_eq key) told)
told_after call (reply.Refused (Memory evicted)) told = without_last (length evicted.items) told
told_after (Get key) (reply.At rectangle) told = promoted (nat_eq key) told
told_after (Remove key) (reply.Removed rectangle) told = remove_entry (nat_eq key) told
told_after (Retain gone) reply.Retained told =
    filter (λ (entry : ℕ × Rectangle). not (is_one_of nat_eq gone.items entry.0)) told
told_after call (reply.Evicted evicted) told = without_last (length evicted.items) told
told_after call reply.Cleared told = []
told_after call answer told = told

-- what the replies to calls change, one after another
abbrev pub told_from : Told → List PaddedCall → List PaddedReply → Told
told_from told (call ∷ calls) (answer ∷ answers) = told_from (told_after call answer told) calls answers
told_from told calls answers = told

-- What holds after calls of a cache. What the replies tell, from what was there, is just what is there: each key at the
-- rectangle that it was first given, in the order of use. The cache keeps its promises: with their padding the
-- rectangles lie inside the atlas and apart.
pub record RunKeepsPromises (start : PaddedCacheState) (calls : List PaddedCall) (answers : List PaddedReply)
    : Type 0 where
  pub state : PaddedCacheState
  pub run : Runs start calls answers state
  pub told_is : told_from (trimmed_list start) calls answers ≡ trimmed_list state
  pub promises : KeepsCachePadding state

-- that holds at each moment: of every prefix of the calls, with the replies to it
abbrev pub RunKeepsPromisesThroughout : PaddedCacheState → List PaddedCall → List PaddedReply → Type 0
RunKeepsPromisesThroughout start calls answers =
    (n : ℕ) → n ≤ length calls → RunKeepsPromises start (take n calls) (take n answers)

-- That holds of every list of calls of a cache that keeps its promises: a new one, where nothing is there, or any
-- other.
abbrev pub EveryRunKeepsPromises : Type 0
EveryRunKeepsPromises =
    (start last : PaddedCacheState) (calls : List PaddedCall) (answers : List PaddedReply)
    → KeepsCachePadding start → Runs start calls answers last → RunKeepsPromisesThroughout start calls answers
