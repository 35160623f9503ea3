-- A step keeps the frame and the capacity, and changes what is there just as its reply tells.
use Rattle.std.proofs.Common.{◌≡◌, ℕ, ◌-◌, ◌≤◌, Option, Some, None, List, [], ◌∷◌, ◌++◌, inl, inr, length, map, take, drop, reverse, refl, ap, sym, ◌∙◌, subst, arith}
use Rattle.std.proofs.lemmas.List.{length-map, length-reverse, length-take, take-append-drop}
use Rattle.std.specs.Map.{keys_of, lookup, remove_entry}
use Rattle.std.specs.Option.{option_map_or}
use Rattle.std.specs.Prelude.{nat_eq, option_map}
use Rattle.glyph_shelf.specs.UsedKeys.Keys.{uses_without}
use Rattle.shelf_model.specs.Atlas.{Allocates}
use Rattle.shelf_model.specs.Returning.{returned}
use Rattle.shelf_model.specs.State.{AtlasState}
use Rattle.etagere_base.specs.Lists.{times}
use Rattle.etagere_base.specs.declared.geometry.Rectangle.{Rectangle}
use Rattle.etagere_base.specs.declared.geometry.Size.{Size}
use Rattle.etagere_base.specs.declared.ids.Allocation.{Allocation}
use Rattle.glyph_shelf.specs.Cache.{CacheState, after_dropping, dropped_keys, rectangle_at, used, without_key}
use Rattle.glyph_shelf.specs.Placing.{IsNew}
use Rattle.glyph_shelf.specs.Promises.{KeepsCachePromises}
use Rattle.glyph_shelf.proofs.Callers.{capacity-after_dropping, dropped-behind, entries-after_dropping, frame-after_dropping}
use Rattle.glyph_run.specs.declared.commands.GlyphCommand.{GlyphCommand}
use Rattle.glyph_run.specs.declared.commands.GlyphCommand.TheVariants.{Place, Get, Remove, Clear, BeginFrame}
use Rattle.glyph_run.specs.declared.commands.GlyphReply.{GlyphReply}
use Rattle.glyph_run.specs.declared.commands.GlyphReply.TheVariants.{Placed, TooLarge, NoMemory, At, Removed, NotThere, Cleared, Begun, FrameFull}
use Rattle.glyph_run.specs.Runs.{GlyphStep, PlacesNew, rectangles, told_after, without}
use Rattle.glyph_run.proofs.EntriesTold.{entry-found, held_by, removed-held, without-held, without-last}
use Rattle.glyph_shelf.proofs.UsedKeys.Entries.{removed-unknown}

-- the rectangle of an allocation
abbrev rectangle_of : Allocation → Rectangle
rectangle_of allocation = allocation.rectangle

abbrev told_of : ℕ × Allocation → ℕ × Rectangle
told_of = held_by rectangle_of

-- a key that is found goes first
told-used : (state : CacheState) (key : ℕ) (rectangle : Rectangle) → rectangle_at state key ≡ Some rectangle
    → rectangles (used state key) ≡ (key, rectangle) ∷ without (key ∷ []) (rectangles state)
told-used state key rectangle there =
    let found = entry-found rectangle_of key rectangle state.entries there in
    let others = remove_entry (nat_eq key) state.entries in
    ap (λ (o : Option (ℕ × Allocation)). map told_of (option_map_or (λ e. e ∷ others) o state.entries)) found.found
    ∙ ap (λ (k : ℕ). (k, found.entry.1.rectangle) ∷ map told_of others) found.same_key
    ∙ ap (λ (r : Rectangle). (key, r) ∷ map told_of others) found.holds
    ∙ ap (λ (l : List (ℕ × Rectangle)). (key, rectangle) ∷ l) (removed-held rectangle_of (nat_eq key) state.entries)

-- a key that is taken out goes
told-taken_out : (state : CacheState) (key : ℕ) (rectangle : Rectangle) → rectangle_at state key ≡ Some rectangle
    → rectangles (without_key state key) ≡ without (key ∷ []) (rectangles state)
told-taken_out state key rectangle there =
    let found = entry-found rectangle_of key rectangle state.entries there in
    ap (λ (o : Option Allocation). rectangles (option_map_or
    (λ (a : Allocation). record { entries = remove_entry (nat_eq key) state.entries; capacity = state.capacity; atlas = returned state.atlas a.id; used_in_frame = option_map (uses_without key state.entries) state.used_in_frame }) o state))
    found.known
    ∙ removed-held rectangle_of (nat_eq key) state.entries

-- keys that were listed as evicted are no more than there were
listed-few : (state : CacheState) (evicted : List ℕ) → evicted ≡ dropped_keys state (length evicted) → length evicted ≤ length state.entries
listed-few state evicted listed =
    let key : ℕ × Allocation → ℕ = λ e. e.0 in
    let keys = keys_of state.entries in
    omega (arith, ap length listed, length-take (length evicted) (reverse keys), length-reverse keys, length-map state.entries key)

-- and what is left is what was there without them
left-without : (state : CacheState) (evicted : List ℕ) → KeepsCachePromises state → evicted ≡ dropped_keys state (length evicted)
    → (after_dropping state (length evicted)).entries ≡ without evicted state.entries
left-without state evicted promises listed =
    let n = length evicted in
    let k = length state.entries - n in
    let front = take k state.entries in
    let gone = drop k state.entries in
    let whole : front ++ gone ≡ state.entries = take-append-drop k state.entries in
    let once : (key : ℕ) → times key (keys_of (front ++ gone)) ≤ 1 =
    λ key. subst (λ (l : List (ℕ × Allocation)). times key (keys_of l) ≤ 1) (sym whole) (promises.keys key) in
    entries-after_dropping state n
    ∙ sym (ap (λ (keys : List ℕ). without keys state.entries) (listed ∙ dropped-behind state n (listed-few state evicted listed))
    ∙ ap (without (reverse (keys_of gone))) (sym whole)
    ∙ without-last front gone once)

told-evicted : (state : CacheState) (evicted : List ℕ) → KeepsCachePromises state → evicted ≡ dropped_keys state (length evicted)
    → rectangles (after_dropping state (length evicted)) ≡ without evicted (rectangles state)
told-evicted state evicted promises listed =
    ap (map told_of) (left-without state evicted promises listed) ∙ without-held rectangle_of evicted state.entries

-- a new key takes nothing out of what is told
told-new : (state : CacheState) (key : ℕ) → IsNew state key → remove_entry (nat_eq key) (rectangles state) ≡ rectangles state
told-new state key new =
    sym (removed-held rectangle_of (nat_eq key) state.entries)
    ∙ ap (map told_of) (removed-unknown (nat_eq key) state.entries new)

-- a new key that was placed stands before what is left
told-placed : (old : CacheState) (key : ℕ) (size : Size) (rectangle : Rectangle) (evicted : List ℕ) (new : CacheState)
    → KeepsCachePromises old → PlacesNew old key size rectangle evicted new
    → rectangles new ≡ (key, rectangle) ∷ without (key ∷ evicted) (rectangles old)
told-placed old key size rectangle evicted new promises placed =
    let enters = placed.places.entered in
    let left = after_dropping old (length evicted) in
    ap (map told_of) enters.entries
    ∙ ap (λ (r : Rectangle). (key, r) ∷ rectangles left) enters.given
    ∙ ap (λ (l : List (ℕ × Rectangle)). (key, rectangle) ∷ l)
    (told-evicted old evicted promises placed.places.listed
    ∙ ap (without evicted) (sym (told-new old key placed.fits.new)))

-- each step changes what is there as its reply tells
pub told-step : (old : CacheState) (command : GlyphCommand) (reply : GlyphReply) (new : CacheState) → KeepsCachePromises old
    → GlyphStep old command reply new → rectangles new ≡ told_after command reply (rectangles old)
told-step old (Place key size) (Placed placed) new promises (inl again) =
    ap rectangles again.finds.after
    ∙ told-used old key placed.rectangle again.finds.there
    ∙ ap (λ (keys : List ℕ). (key, placed.rectangle) ∷ without (key ∷ keys) (rectangles old)) (sym again.none)
told-step old (Place key size) (Placed placed) new promises (inr first) =
    told-placed old key size placed.rectangle placed.evicted.items new promises first
told-step old (Place key size) TooLarge new promises (is_new, large, same) = ap rectangles same
told-step old (Place key size) FrameFull new promises (fits, full, same) = ap rectangles same
told-step old (Place key size) (NoMemory evicted) new promises (fits, ran_out, spared, full) =
    ap (map told_of) ran_out.rest.entries ∙ told-evicted old evicted.items promises ran_out.listed
told-step old (Get key) (At rectangle) new promises finds =
    ap rectangles finds.after ∙ told-used old key rectangle finds.there
told-step old (Get key) NotThere new promises (is_new, same) = ap rectangles same
told-step old (Remove key) (Removed rectangle) new promises (there, after) =
    ap rectangles after ∙ told-taken_out old key rectangle there
told-step old (Remove key) NotThere new promises (is_new, same) = ap rectangles same
told-step old Clear Cleared new promises after = ap rectangles after
told-step old BeginFrame Begun new promises after = ap rectangles after
told-step old command reply new promises never = absurd never

-- an allocation keeps the frame
frame-allocates : (old : AtlasState) (size : Size) (allocation : Allocation) (new : AtlasState) → Allocates old size allocation new
    → new.frame ≡ old.frame
frame-allocates old size allocation new allocates = ap (λ (s : AtlasState). s.frame) allocates.after

-- the frame and the capacity stay
pub record SameBounds (old new : CacheState) : Type 0 where
  pub frame : new.atlas.frame ≡ old.atlas.frame
  pub capacity : new.capacity ≡ old.capacity

bounds-same : (old new : CacheState) → new ≡ old → SameBounds old new
bounds-same old new same = record { frame = ap (λ (s : CacheState). s.atlas.frame) same; capacity = ap (λ (s : CacheState). s.capacity) same }

bounds-used : (old : CacheState) (key : ℕ) (new : CacheState) → new ≡ used old key → SameBounds old new
bounds-used old key new after = record { frame = ap (λ (s : CacheState). s.atlas.frame) after; capacity = ap (λ (s : CacheState). s.capacity) after }

bounds-without_key : (state : CacheState) (key : ℕ) → SameBounds state (without_key state key)
bounds-without_key state key = by_found (lookup (nat_eq key) state.entries)
  where
    by_found : (o : Option Allocation) → SameBounds state (option_map_or
        (λ (a : Allocation). record { entries = remove_entry (nat_eq key) state.entries; capacity = state.capacity; atlas = returned state.atlas a.id; used_in_frame = option_map (uses_without key state.entries) state.used_in_frame }) o state)
    by_found None = record { frame = refl; capacity = refl }
    by_found (Some a) = record { frame = refl; capacity = refl }

pub bounds-step : (old : CacheState) (command : GlyphCommand) (reply : GlyphReply) (new : CacheState)
    → GlyphStep old command reply new → SameBounds old new
bounds-step old (Place key size) (Placed placed) new (inl again) = bounds-used old key new again.finds.after
bounds-step old (Place key size) (Placed placed) new (inr first) =
    let n = length placed.evicted.items in
    let left = after_dropping old n in
    let enters = first.places.entered in
    record {
      frame = frame-allocates left.atlas size enters.allocation new.atlas enters.allocated ∙ frame-after_dropping old n;
      capacity = enters.capacity ∙ capacity-after_dropping old n;
    }
bounds-step old (Place key size) TooLarge new (is_new, large, same) = bounds-same old new same
bounds-step old (Place key size) FrameFull new (fits, full, same) = bounds-same old new same
bounds-step old (Place key size) (NoMemory evicted) new (fits, ran_out, spared, full) =
    let n = length evicted.items in
    record {
      frame = ap (λ (s : AtlasState). s.frame) ran_out.rest.layout ∙ frame-after_dropping old n;
      capacity = ran_out.rest.capacity ∙ capacity-after_dropping old n;
    }
bounds-step old (Get key) (At rectangle) new finds = bounds-used old key new finds.after
bounds-step old (Get key) NotThere new (is_new, same) = bounds-same old new same
bounds-step old (Remove key) (Removed rectangle) new (there, after) =
    let stays = bounds-without_key old key in
    record {
      frame = ap (λ (s : CacheState). s.atlas.frame) after ∙ stays.frame;
      capacity = ap (λ (s : CacheState). s.capacity) after ∙ stays.capacity;
    }
bounds-step old (Remove key) NotThere new (is_new, same) = bounds-same old new same
bounds-step old BeginFrame Begun new after = record { frame = ap (λ (s : CacheState). s.atlas.frame) after; capacity = ap (λ (s : CacheState). s.capacity) after }
bounds-step old Clear Cleared new after = record { frame = ap (λ (s : CacheState). s.atlas.frame) after; capacity = ap (λ (s : CacheState). s.capacity) after }
bounds-step old command reply new never = absurd never
