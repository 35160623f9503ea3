-- Lists of calls of a map: what each call may answer and leave, and what holds after them.
use Rattle.std.specs.Prelude.{◌≡◌, ℕ, ◌≤◌, ◌⊎◌, ⊤, Bool, None, Some, not, option_map, List, [], ◌∷◌, filter, length, reverse, take}
use Rattle.std.specs.Map.{keys_of}
use Rattle.std.specs.NonZero.{non_zero_usize_get}
use Rattle.etagere_base.specs.declared.geometry.Size.{Size}
use Rattle.etagere_base.specs.Rectangles.{IsLarge}
use Rattle.shelf_model.specs.Growing.{grow_fault}
use Rattle.glyph_map.specs.Calls.{dropped_pairs, empty_map, in_new_frame, map_grown, seen_at, surplus, used, with_capacity, with_value, without_key}
use Rattle.glyph_map.specs.Placing.{IsFrameFull, IsLeft, IsNew, IsTooLarge, Places, Spares, evictable}
use Rattle.glyph_map.specs.Promises.{KeepsMapPromises}
use Rattle.glyph_map.specs.Retaining.{without_keys}
use Rattle.glyph_map.specs.State.{Held, MapState}
use Rattle.glyph_shelf.specs.Dropping.{is_one_of}
use Rattle.glyph_shelf.specs.Grows.{IsNotGrown}
use Rattle.glyph_map.specs.Told.{entries_seen, told_from}
use Rattle.glyph_map.specs.declared.runs.calls.MapCall.{MapCall}
use Rattle.glyph_map.specs.declared.runs.calls.MapCall.TheVariants.{Place, UseKey, Remove, Retain, BeginFrame, Grow, SetCapacity, Clear}
use Rattle.glyph_map.specs.declared.runs.calls.MapReply.{MapReply}
use Rattle.glyph_map.specs.declared.runs.calls.MapReply.TheVariants as reply
use Rattle.glyph_map.specs.declared.faults.MapFault.{MapFault}
use Rattle.glyph_map.specs.declared.faults.MapFault.TheVariants.{TooLarge, Memory, FrameFull}
use Rattle.glyph_map.specs.declared.faults.Refused.{Refused}
use Rattle.glyph_map.specs.declared.map.Placed.{Placed}

module _ {K V : Type 0} (eq : K → K → Bool) where
  -- a key that is there keeps its rectangle and gets another value; the key as given and the value that it had come
  -- back
  pub record PlacesAgain (old : MapState K V) (key : K) (value : V) (placed : Placed K V) (new : MapState K V)
      : Type 0 where
    pub had : V
    pub there : seen_at (eq key) old ≡ Some (placed.rectangle, had)
    pub replaced : placed.replaced ≡ Some (key, had)
    pub none : placed.evicted.items ≡ []
    pub after : new ≡ with_value (eq key) value (used (eq key) old)

  -- a new key is placed with its value after the evictions that its size needs, in a rectangle that is large enough;
  -- none that was used in this frame goes
  pub record PlacesNew (old : MapState K V) (key : K) (value : V) (size : Size) (placed : Placed K V)
      (new : MapState K V) : Type 0 where
    pub is_new : IsNew (eq key) old
    pub fits : ¬ (IsTooLarge old size)
    pub places : Places old key value size placed.rectangle placed.evicted.items new
    pub none : placed.replaced ≡ None
    pub spared : length placed.evicted.items ≤ evictable old
    pub large : IsLarge old.atlas.frame size placed.rectangle

  -- why a size isn't placed; that memory ran out says nothing but that it isn't too large
  abbrev pub IsReason : MapState K V → Size → MapFault K V → Type 0
  IsReason old size TooLarge = IsTooLarge old size
  IsReason old size (Memory evicted) = ¬ (IsTooLarge old size)
  IsReason old size FrameFull = ¬ (IsTooLarge old size) × IsFrameFull old size

  -- a new key isn't placed: it comes back with its value
  pub record RefusesNew (old : MapState K V) (key : K) (value : V) (size : Size) (refused : Refused K V)
      (new : MapState K V) : Type 0 where
    pub is_new : IsNew (eq key) old
    pub key_back : refused.key ≡ key
    pub value_back : refused.value ≡ value
    pub reason : IsReason old size refused.fault
    pub left : IsLeft old size refused.fault new
    pub spared : Spares old refused.fault

  -- these keys go, one after another, the least recently used first; the others stand in the order of use
  pub record DropsKeys (old : MapState K V) (gone : List K) (new : MapState K V) : Type 0 where
    pub left : new ≡ without_keys eq old (filter (is_one_of eq gone) (reverse (keys_of old.entries)))
    pub order : new.entries ≡ filter (λ (entry : K × Held V). not (is_one_of eq gone entry.0)) old.entries

  -- a map may give this reply to a call, and become the new one
  abbrev pub MayAnswer : MapState K V → MapCall K V → MapReply K V → MapState K V → Type 0
  MayAnswer old (Place key value size) (reply.Placed placed) new =
      PlacesAgain old key value placed new ⊎ PlacesNew old key value size placed new
  MayAnswer old (Place key value size) (reply.Refused refused) new = RefusesNew old key value size refused new
  MayAnswer old (UseKey key) (reply.At rectangle) new =
      (option_map (λ seen. seen.0) (seen_at (eq key) old) ≡ Some rectangle) × (new ≡ used (eq key) old)
  MayAnswer old (UseKey key) reply.NotThere new = IsNew (eq key) old × (new ≡ old)
  MayAnswer old (Remove key) (reply.Removed rectangle value) new =
      (seen_at (eq key) old ≡ Some (rectangle, value)) × (new ≡ without_key (eq key) old)
  MayAnswer old (Remove key) reply.NotThere new = IsNew (eq key) old × (new ≡ old)
  MayAnswer old (Retain gone) reply.Retained new = DropsKeys old gone.items new
  MayAnswer old (Retain gone) reply.NoMemory new =
      (1 ≤ length (filter (is_one_of eq gone.items) (keys_of old.entries))) × (new ≡ old)
  MayAnswer old BeginFrame reply.Begun new = new ≡ in_new_frame old
  MayAnswer old (Grow size) reply.Grown new = (grow_fault old.atlas size ≡ None) × (new ≡ map_grown old size)
  MayAnswer old (Grow size) (reply.NotGrown fault) new = IsNotGrown old.atlas size fault × (new ≡ old)
  MayAnswer old (SetCapacity capacity) (reply.Evicted evicted) new =
      (evicted.items ≡ dropped_pairs old (surplus old (non_zero_usize_get capacity)))
      × (new ≡ with_capacity old (non_zero_usize_get capacity))
  MayAnswer old (SetCapacity capacity) reply.NoMemory new =
      (1 ≤ surplus old (non_zero_usize_get capacity)) × (new ≡ old)
  MayAnswer old Clear reply.Cleared new = new ≡ empty_map old.atlas.frame old.capacity
  -- no other reply is given
  MayAnswer old call answer new = ⊥

  -- a map that keeps its promises is left so
  pub record Step (old : MapState K V) (call : MapCall K V) (answer : MapReply K V) (new : MapState K V) : Type 0 where
    pub answers : MayAnswer old call answer new
    pub promises : KeepsMapPromises eq new

  -- a map may give these replies to calls, one after another, and become the new one
  abbrev pub Runs : MapState K V → List (MapCall K V) → List (MapReply K V) → MapState K V → Type 0
  Runs old [] [] new = new ≡ old
  Runs old (call ∷ calls) (answer ∷ answers) new =
      (middle : MapState K V) × Step old call answer middle × Runs middle calls answers new
  Runs old calls answers new = ⊥

  -- What holds after calls of a map. What the replies tell, from what was there, is just what is there: each key at the
  -- rectangle that it was first given, with the value that was placed last, in the order of use. The map keeps its
  -- promises.
  pub record RunKeepsPromises (start : MapState K V) (calls : List (MapCall K V)) (answers : List (MapReply K V))
      : Type 0 where
    pub state : MapState K V
    pub run : Runs start calls answers state
    pub told_is : told_from eq (entries_seen start) calls answers ≡ entries_seen state
    pub promises : KeepsMapPromises eq state

  -- that holds at each moment: of every prefix of the calls, with the replies to it
  abbrev pub RunKeepsPromisesThroughout : MapState K V → List (MapCall K V) → List (MapReply K V) → Type 0
  RunKeepsPromisesThroughout start calls answers =
      (n : ℕ) → n ≤ length calls → RunKeepsPromises start (take n calls) (take n answers)

-- a call that needs no clone of a key
abbrev pub NeedsNoClone : {K V : Type 0} → MapCall K V → Type 0
NeedsNoClone (Retain gone) = ⊥
NeedsNoClone call = ⊤

-- That holds of every list of calls of a map that keeps its promises: a new one, where nothing is there, or any other.
abbrev pub EveryRunKeepsPromises : {K : Type 0} → Type 0 → (K → K → Bool) → Type 0
EveryRunKeepsPromises {K} V eq =
    (start last : MapState K V) (calls : List (MapCall K V)) (answers : List (MapReply K V))
    → KeepsMapPromises eq start → Runs eq start calls answers last → RunKeepsPromisesThroughout eq start calls answers
