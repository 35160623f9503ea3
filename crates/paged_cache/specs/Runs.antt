-- Lists of calls of a cache over pages: what each call may answer and leave, what the replies tell of what is there,
-- and what holds after them.
use Rattle.std.specs.Prelude.{◌≡◌, ℕ, ◌-◌, ◌≤◌, ◌⊎◌, Some, nat_eq, List, [], ◌∷◌, length, take}
use Rattle.std.specs.Map.{remove_entry}
use Rattle.lru.specs.LruCache.{promoted}
use Rattle.etagere_base.specs.declared.geometry.Size.{Size}
use Rattle.etagere_base.specs.Rectangles.{IsLarge}
use Rattle.atlas_pages.specs.declared.paged_allocation.PagedAllocation.{PagedAllocation}
use Rattle.atlas_pages.specs.Pages.{page_frame}
use Rattle.paged_cache.specs.Held.{GivesPaged, has_page, paged_returned}
use Rattle.paged_cache.specs.Keyed.{IsNew, RanOut, allocation_at, used}
use Rattle.paged_cache.specs.Paged.{IsTooLarge, KeepsPagedPromises, PagedCacheState, PlacesKey, emptied_cache, without_key}
use Rattle.paged_cache.specs.declared.keyed.PlacedKey.{PlacedKey}
use Rattle.paged_cache.specs.declared.runs.calls.PagedCall.{PagedCall}
use Rattle.paged_cache.specs.declared.runs.calls.PagedCall.TheVariants.{Place, Get, Remove, Clear}
use Rattle.paged_cache.specs.declared.runs.calls.PagedReply.{PagedReply}
use Rattle.paged_cache.specs.declared.runs.calls.PagedReply.TheVariants.{Placed, TooLarge, NoMemory, At, Removed, NotThere, Cleared}

-- a key that is there keeps its place, and nothing is evicted for it
pub record PlacesAgain (old : PagedCacheState) (key : ℕ) (placed : PlacedKey PagedAllocation) (new : PagedCacheState)
    : Type 0 where
  pub there : allocation_at old key ≡ Some placed.allocation
  pub none : placed.evicted.items ≡ []
  pub after : new ≡ used old key

-- a new key is placed after the evictions that its size needs, in a rectangle that is large enough
pub record PlacesNew (old : PagedCacheState) (key : ℕ) (size : Size) (placed : PlacedKey PagedAllocation)
    (new : PagedCacheState) : Type 0 where
  pub is_new : IsNew old key
  pub fits : ¬ (IsTooLarge old size)
  pub places : PlacesKey old key size placed.allocation placed.evicted.items new
  pub large : IsLarge (page_frame old.allocator.options) size placed.allocation.allocation.rectangle

-- a cache may give this reply to a call, and become the new one
abbrev pub MayAnswer : PagedCacheState → PagedCall → PagedReply → PagedCacheState → Type 0
MayAnswer old (Place key size) (Placed placed) new = PlacesAgain old key placed new ⊎ PlacesNew old key size placed new
MayAnswer old (Place key size) TooLarge new = IsNew old key × IsTooLarge old size × (new ≡ old)
MayAnswer old (Place key size) (NoMemory evicted) new =
    IsNew old key × ¬ (IsTooLarge old size) × RanOut paged_returned has_page GivesPaged old size evicted.items new
MayAnswer old (Get key) (At paged) new = (allocation_at old key ≡ Some paged) × (new ≡ used old key)
MayAnswer old (Get key) NotThere new = IsNew old key × (new ≡ old)
MayAnswer old (Remove key) (Removed paged) new = (allocation_at old key ≡ Some paged) × (new ≡ without_key old key)
MayAnswer old (Remove key) NotThere new = IsNew old key × (new ≡ old)
MayAnswer old Clear Cleared new = new ≡ emptied_cache old
-- no other reply is given
MayAnswer old call reply new = ⊥

-- a cache that keeps its promises is left so
pub record Step (old : PagedCacheState) (call : PagedCall) (reply : PagedReply) (new : PagedCacheState) : Type 0 where
  pub answers : MayAnswer old call reply new
  pub promises : KeepsPagedPromises new

-- a cache may give these replies to calls, one after another, and become the new one
abbrev pub Runs : PagedCacheState → List PagedCall → List PagedReply → PagedCacheState → Type 0
Runs old [] [] new = new ≡ old
Runs old (call ∷ calls) (reply ∷ replies) new =
    (middle : PagedCacheState) × Step old call reply middle × Runs middle calls replies new
Runs old calls replies new = ⊥

-- keys with their places, the most recently used first
abbrev pub Told : Type 0
Told = List (ℕ × PagedAllocation)

-- without the last ones, which were evicted
abbrev pub without_last : ℕ → Told → Told
without_last count told = take (length told - count) told

-- What one reply changes. A key that is placed or looked up goes first, and what is evicted goes from the end.
abbrev pub told_after : PagedCall → PagedReply → Told → Told
told_after (Place key size) (Placed placed) told =
    (key, placed.allocation) ∷ without_last (length placed.evicted.items) (remove_entry (nat_eq key) told)
told_after call (NoMemory evicted) told = without_last (length evicted.items) told
told_after (Get key) (At paged) told = promoted (nat_eq key) told
told_after (Remove key) (Removed paged) told = remove_entry (nat_eq key) told
told_after call Cleared told = []
told_after call reply told = told

-- what the replies to calls change, one after another
abbrev pub told_from : Told → List PagedCall → List PagedReply → Told
told_from told (call ∷ calls) (reply ∷ replies) = told_from (told_after call reply told) calls replies
told_from told calls replies = told

-- What holds after calls of a cache. What the replies tell, from what was there, is just what is there: each key at the
-- place that it was first given, in the order of use. The cache keeps its promises.
pub record RunKeepsPromises (start : PagedCacheState) (calls : List PagedCall) (replies : List PagedReply)
    : Type 0 where
  pub state : PagedCacheState
  pub run : Runs start calls replies state
  pub told_is : told_from start.entries calls replies ≡ state.entries
  pub promises : KeepsPagedPromises state

-- that holds at each moment: of every prefix of the calls, with the replies to it
abbrev pub RunKeepsPromisesThroughout : PagedCacheState → List PagedCall → List PagedReply → Type 0
RunKeepsPromisesThroughout start calls replies =
    (n : ℕ) → n ≤ length calls → RunKeepsPromises start (take n calls) (take n replies)

-- That holds of every list of calls of a cache that keeps its promises: a new one, where nothing is there, or any
-- other.
abbrev pub EveryRunKeepsPromises : Type 0
EveryRunKeepsPromises =
    (start last : PagedCacheState) (calls : List PagedCall) (replies : List PagedReply)
    → KeepsPagedPromises start → Runs start calls replies last → RunKeepsPromisesThroughout start calls replies
