-- What becomes of a cache when a new key is placed: what is evicted, and what stands after it.
use Rattle.std.specs.Prelude.{◌≡◌, ℕ, suc, ◌<◌, ◌≤◌, Bool, ◌&&◌, true, false, is_some, nat_eq, nat_lt, option_map, None, List, [], ◌∷◌, length}
use Rattle.std.specs.Map.{lookup}
use Rattle.shelf_model.specs.Atlas.{Allocates}
use Rattle.shelf_model.specs.Choice.{placement_of, IsRefused}
use Rattle.shelf_model.specs.Fresh.{fresh}
use Rattle.shelf_model.specs.Layout.{layout}
use Rattle.etagere_base.specs.declared.geometry.Rectangle.{Rectangle}
use Rattle.etagere_base.specs.declared.geometry.Size.{Size}
use Rattle.etagere_base.specs.declared.ids.Allocation.{Allocation}
use Rattle.glyph_shelf.specs.Cache.{CacheState, after_dropping, dropped_keys, evictable}
use Rattle.glyph_shelf.specs.declared.faults.GlyphFault.{GlyphFault}
use Rattle.glyph_shelf.specs.declared.faults.GlyphFault.TheVariants.{TooLarge, Memory, FrameFull}

-- there is room for one entry more, and a place for its size
abbrev pub has_room : CacheState → Size → Bool
has_room state size =
    nat_lt (length state.entries) state.capacity && is_some (placement_of state.atlas size)

-- the key isn't there
abbrev pub IsNew : CacheState → ℕ → Type 0
IsNew state key = lookup (nat_eq key) state.entries ≡ None

-- the size is too large for a new atlas
abbrev pub IsTooLarge : CacheState → Size → Type 0
IsTooLarge state size = IsRefused (fresh state.atlas.frame) size

-- so many entries are evicted for a size: the least number after which there is room
pub record IsEvictionCount (state : CacheState) (size : Size) (count : ℕ) : Type 0 where
  pub room : has_room (after_dropping state count) size ≡ true
  pub least : (fewer : ℕ) → fewer < count → has_room (after_dropping state fewer) size ≡ false

-- so many evictions at most make room for a size
pub record MakesRoom (state : CacheState) (size : Size) (most : ℕ) : Type 0 where
  pub count : ℕ
  pub few : count ≤ most
  pub room : has_room (after_dropping state count) size ≡ true

-- no number of evictions up to this makes room
abbrev pub LacksRoom : CacheState → Size → ℕ → Type 0
LacksRoom state size most =
    (count : ℕ) → count ≤ most → has_room (after_dropping state count) size ≡ false

-- there is no room though all went that weren't used in this frame, nor before
abbrev pub IsFrameFull : CacheState → Size → Type 0
IsFrameFull state size = LacksRoom state size (evictable state)

-- a key stands first, with what the atlas allocated for its size; it was used in this frame
pub record Enters (old : CacheState) (key : ℕ) (size : Size) (rectangle : Rectangle)
    (new : CacheState) : Type 0 where
  pub allocation : Allocation
  pub given : allocation.rectangle ≡ rectangle
  pub allocated : Allocates old.atlas size allocation new.atlas
  pub entries : new.entries ≡ (key, allocation) ∷ old.entries
  pub capacity : new.capacity ≡ old.capacity
  pub uses : new.used_in_frame ≡ option_map suc old.used_in_frame

-- a new key was placed: just the evictions that its size needs went, the least recently used first,
-- and then it entered
pub record Places (old : CacheState) (key : ℕ) (size : Size) (rectangle : Rectangle)
    (evicted : List ℕ) (new : CacheState) : Type 0 where
  pub least : IsEvictionCount old size (length evicted)
  pub listed : evicted ≡ dropped_keys old (length evicted)
  pub entered : Enters (after_dropping old (length evicted)) key size rectangle new

-- the entries are the same, and the layout of the atlas is
pub record SameLayout (old new : CacheState) : Type 0 where
  pub entries : new.entries ≡ old.entries
  pub capacity : new.capacity ≡ old.capacity
  pub uses : new.used_in_frame ≡ old.used_in_frame
  pub layout : layout new.atlas ≡ layout old.atlas

-- memory ran out when so many of the evictions that a size needs had gone; none went where those that may go make no
-- room
pub record RanOut (old : CacheState) (size : Size) (evicted : List ℕ) (new : CacheState)
    : Type 0 where
  pub evictions : ℕ
  pub least : IsEvictionCount old size evictions
  pub few : length evicted ≤ evictions
  pub needed : 1 ≤ length evicted → evictions ≤ evictable old
  pub listed : evicted ≡ dropped_keys old (length evicted)
  pub rest : SameLayout (after_dropping old (length evicted)) new

-- what a fault of a new key left: all, or what memory running out did
abbrev pub IsLeft : CacheState → Size → GlyphFault → CacheState → Type 0
IsLeft old size TooLarge new = new ≡ old
IsLeft old size (Memory evicted) new = RanOut old size evicted.items new
IsLeft old size FrameFull new = new ≡ old

-- what a fault names as evicted wasn't used in this frame
abbrev pub Spares : CacheState → GlyphFault → Type 0
Spares old (Memory evicted) = length evicted.items ≤ evictable old
Spares old fault = Unit {0}

-- a fault names no key as evicted
abbrev pub EvictsNone : GlyphFault → Type 0
EvictsNone (Memory evicted) = evicted.items ≡ []
EvictsNone fault = Unit {0}
