-- Runs of commands on a cache: its steps, what replies tell of what is there, and what holds at each moment.
use Rattle.std.specs.Prelude.{◌≡◌, ℕ, ◌≤◌, ◌⊎◌, Some, nat_eq, List, [], ◌∷◌, length, map, take}
use Rattle.std.specs.Map.{remove_entry}
use Rattle.etagere_base.specs.declared.frames.Frame.{Frame}
use Rattle.etagere_base.specs.declared.geometry.Rectangle.{Rectangle}
use Rattle.etagere_base.specs.declared.geometry.Size.{Size}
use Rattle.etagere_base.specs.Rectangles.{IsLarge}
use Rattle.glyph_shelf.specs.Cache.{CacheState, empty_cache, evictable, in_new_frame, rectangle_at, used, without_key}
use Rattle.glyph_shelf.specs.Placing.{IsFrameFull, IsNew, IsTooLarge, Places, RanOut}
use Rattle.glyph_shelf.specs.Promises.{KeepsCachePromises}
use Rattle.glyph_run.specs.declared.commands.GlyphCommand.{GlyphCommand}
use Rattle.glyph_run.specs.declared.commands.GlyphCommand.TheVariants.{Place, Get, Remove, Clear, BeginFrame}
use Rattle.glyph_run.specs.declared.commands.GlyphReply.{GlyphReply}
use Rattle.glyph_run.specs.declared.commands.GlyphReply.TheVariants.{Placed, TooLarge, NoMemory, At, Removed, NotThere, Cleared, Begun, FrameFull}

-- a key that is there has this rectangle, and becomes the most recently used
pub record Finds (old : CacheState) (key : ℕ) (rectangle : Rectangle) (new : CacheState) : Type 0 where
  pub there : rectangle_at old key ≡ Some rectangle
  pub after : new ≡ used old key

-- a key that is there is placed where it is, and nothing is evicted for it
pub record PlacesAgain (old : CacheState) (key : ℕ) (rectangle : Rectangle) (evicted : List ℕ) (new : CacheState)
    : Type 0 where
  pub finds : Finds old key rectangle new
  pub none : evicted ≡ []

-- a new key, of whose size an empty cache has a place
pub record Fits (state : CacheState) (key : ℕ) (size : Size) : Type 0 where
  pub new : IsNew state key
  pub fits : ¬ (IsTooLarge state size)

-- such a key is placed after the evictions that its size needs, in a rectangle that is large enough; none that was used
-- in this frame goes
pub record PlacesNew (old : CacheState) (key : ℕ) (size : Size) (rectangle : Rectangle) (evicted : List ℕ)
    (new : CacheState) : Type 0 where
  pub fits : Fits old key size
  pub places : Places old key size rectangle evicted new
  pub spared : length evicted ≤ evictable old
  pub large : IsLarge old.atlas.frame size rectangle

-- a cache may give this reply to a command, and go from its old state to the new one
abbrev pub GlyphStep : CacheState → GlyphCommand → GlyphReply → CacheState → Type 0
GlyphStep old (Place key size) (Placed placed) new =
    PlacesAgain old key placed.rectangle placed.evicted.items new
    ⊎ PlacesNew old key size placed.rectangle placed.evicted.items new
GlyphStep old (Place key size) TooLarge new = IsNew old key × IsTooLarge old size × (new ≡ old)
GlyphStep old (Place key size) (NoMemory evicted) new =
    Fits old key size
    × RanOut old size evicted.items new
    × (length evicted.items ≤ evictable old)
    × (IsFrameFull old size → (evicted.items ≡ []) × (new ≡ old))
GlyphStep old (Place key size) FrameFull new =
    Fits old key size × IsFrameFull old size × (new ≡ old)
GlyphStep old (Get key) (At rectangle) new = Finds old key rectangle new
GlyphStep old (Get key) NotThere new = IsNew old key × (new ≡ old)
GlyphStep old (Remove key) (Removed rectangle) new =
    (rectangle_at old key ≡ Some rectangle) × (new ≡ without_key old key)
GlyphStep old (Remove key) NotThere new = IsNew old key × (new ≡ old)
GlyphStep old Clear Cleared new = new ≡ empty_cache old.atlas.frame old.capacity
GlyphStep old BeginFrame Begun new = new ≡ in_new_frame old
-- no other reply is given
GlyphStep old command reply new = ⊥

-- a cache may give these replies to commands, one after another, and become the new one
abbrev pub Runs : CacheState → List GlyphCommand → List GlyphReply → CacheState → Type 0
Runs old [] [] new = new ≡ old
Runs old (command ∷ commands) (reply ∷ replies) new =
    (middle : CacheState) × GlyphStep old command reply middle × Runs middle commands replies new
Runs old commands replies new = ⊥

-- a new cache of this frame and capacity may give these replies to the commands
abbrev pub RunsTo : Frame → ℕ → List GlyphCommand → List GlyphReply → Type 0
RunsTo frame capacity commands replies =
    (last : CacheState) × Runs (empty_cache frame capacity) commands replies last

-- the entries of other keys
abbrev pub without : {X : Type 0} → List ℕ → List (ℕ × X) → List (ℕ × X)
without [] entries = entries
without (key ∷ keys) entries = without keys (remove_entry (nat_eq key) entries)

-- keys with their rectangles, in the order of use, as replies tell of them: what one reply changes. A key that is placed
-- or looked up goes first, and the keys that it names as evicted or removed go out.
abbrev pub told_after : GlyphCommand → GlyphReply → List (ℕ × Rectangle) → List (ℕ × Rectangle)
told_after (Place key size) (Placed placed) told =
    (key, placed.rectangle) ∷ without (key ∷ placed.evicted.items) told
told_after (Place key size) (NoMemory evicted) told = without evicted.items told
told_after (Get key) (At rectangle) told = (key, rectangle) ∷ without (key ∷ []) told
told_after (Remove key) (Removed rectangle) told = without (key ∷ []) told
told_after command Cleared told = []
told_after command reply told = told

-- what the replies to commands change, one after another
abbrev pub told_from : List (ℕ × Rectangle) → List GlyphCommand → List GlyphReply → List (ℕ × Rectangle)
told_from told (command ∷ commands) (reply ∷ replies) =
    told_from (told_after command reply told) commands replies
told_from told commands replies = told

-- what replies tell from the first one on
abbrev pub told : List GlyphCommand → List GlyphReply → List (ℕ × Rectangle)
told commands replies = told_from [] commands replies

-- the keys of a cache with their rectangles, in the order of use
abbrev pub rectangles : CacheState → List (ℕ × Rectangle)
rectangles state = map (λ entry. (entry.0, entry.1.rectangle)) state.entries

-- What holds after each run of a new cache of this frame and capacity. What its replies tell is just what is there: each
-- key at the rectangle that it was first given, in the order of use. These lie inside the atlas of the start and share
-- no unit square, no key stands twice, and there are at most as many as there may be.
pub record RunKeepsPromises (frame : Frame) (capacity : ℕ) (commands : List GlyphCommand) (replies : List GlyphReply)
    : Type 0 where
  pub state : CacheState
  pub run : Runs (empty_cache frame capacity) commands replies state
  pub told_is : told commands replies ≡ rectangles state
  pub promises : KeepsCachePromises state
  pub same_frame : state.atlas.frame ≡ frame
  pub same_capacity : state.capacity ≡ capacity

-- that holds at each moment: of every prefix of the commands, with the replies to it
abbrev pub RunKeepsPromisesThroughout : Frame → ℕ → List GlyphCommand → List GlyphReply → Type 0
RunKeepsPromisesThroughout frame capacity commands replies =
    (n : ℕ) → n ≤ length commands → RunKeepsPromises frame capacity (take n commands) (take n replies)
