-- Two runs of the same commands on a cache, step by step: where memory is refused to neither, they have the same lines.
use Rattle.std.proofs.Common.{◌≡◌, ℕ, zero, suc, ◌-◌, ◌<◌, ◌≤◌, Bool, true, false, Option, None, Some, List, [], ◌∷◌, ◌++◌, inl, inr, length, map, refl, ap, arith, sym, subst, ◌∙◌, ⊎_elim}
use Rattle.std.proofs.lemmas.Bool.{and_parts, cases_lt}
use Rattle.std.proofs.lemmas.Bool.Decides.{nat_tests}
use Rattle.std.proofs.lemmas.List.{length-map}
use Rattle.std.specs.List.{AllByRecursion}
use Rattle.std.specs.Map.{lookup}
use Rattle.std.specs.Prelude.{codes, is_some, nat_eq, nat_lt, option_map}
use Rattle.etagere_base.specs.declared.frames.Frame.{Frame}
use Rattle.etagere_base.specs.declared.geometry.Rectangle.{Rectangle}
use Rattle.etagere_base.specs.declared.geometry.Size.{Size}
use Rattle.etagere_base.specs.declared.ids.Allocation.{Allocation}
use Rattle.etagere_base.specs.Lists.{times}
use Rattle.etagere_base.specs.Rectangles.{IsLarge}
use Rattle.shelf_model.specs.Choice.{Placement, placement_of, rectangle_of_placement}
use Rattle.shelf_model.specs.Fresh.{fresh}
use Rattle.shelf_model.specs.Atlas.{KeepsPromises}
use Rattle.shelf_model.specs.Places.{allocations}
use Rattle.shelf_model.specs.State.{AtlasState}
use Rattle.shelf_model.specs.Taking.{taken}
use Rattle.shelf_model.proofs.Callers.{CanAllocate, fresh-allocated, placed-can_allocate, promises-cleared, tied-none}
use Rattle.shelf_model.proofs.Allocations.AllocatedIds.{times-ids_of}
use Rattle.glyph_shelf.proofs.Callers.{entries-after_dropping, keeps, keeps-entered, keeps-key_returned, keeps-used, keeps-without_last, unknown-take}
use Rattle.glyph_shelf.specs.declared.cache.Placed as placements
use Rattle.glyph_shelf.specs.Cache.{CacheState, after_dropping, dropped_keys, empty_cache, evictable, frame_uses, in_new_frame, kept_allocations, rectangle_at, used, without_key}
use Rattle.glyph_shelf.specs.Placing.{Enters, IsFrameFull, IsNew, has_room}
use Rattle.glyph_shelf.specs.Promises.{KeepsCachePromises}
use Rattle.glyph_run.specs.declared.commands.GlyphCommand.{GlyphCommand}
use Rattle.glyph_run.specs.declared.commands.GlyphCommand.TheVariants.{Place, Get, Remove, Clear, BeginFrame}
use Rattle.glyph_run.specs.declared.commands.GlyphReply.{GlyphReply}
use Rattle.glyph_run.specs.declared.commands.GlyphReply.TheVariants.{Placed, TooLarge, NoMemory, At, Removed, NotThere, Cleared, Begun, FrameFull}
use Rattle.glyph_run.specs.Laws.{HasMemory}
use Rattle.glyph_run.specs.ReplyText.{evicted_text, line_of, replies_text}
use Rattle.glyph_run.specs.Runs.{GlyphStep, PlacesNew, Runs}
use Rattle.glyph_run.proofs.EntriesTold.{entry-found, held_by}
use Rattle.glyph_run.proofs.RenamedCaches.{dropped-renamed, dropping-renamed, lookup-renamed, rectangle-renamed, renamed_cache, renamed_entries, room-renamed, same-cache, used-renamed, without_key-renamed}
use Rattle.run_scripts.specs.Lines.{line_feed}
use Rattle.run_scripts.specs.ReplyText.{corners_text}
use Rattle.etagere_run.specs.Answers.Private.Renamed.{renamed, renamed_allocation}
use Rattle.etagere_run.proofs.RunAnswers.Renamed.NewNames.{HasNewName, new-name}
use Rattle.etagere_run.proofs.RunAnswers.Renamed.RenamedChoice.{placement_of-renamed}
use Rattle.etagere_run.proofs.RunAnswers.Renamed.RenamedGrow.{fresh-renamed}
use Rattle.etagere_run.proofs.RunAnswers.Renamed.RenamedTaking.{taken-renamed}

-- two caches are the same, but that ids have other numbers
pub record AreAlike (one other : CacheState) : Type 0 where
  pub name : ℕ → ℕ
  pub apart : (n m : ℕ) → name n ≡ name m → n ≡ m
  pub state : other ≡ renamed_cache name one

-- entries are the same under numbers that agree on their ids
entries-agree : (name later : ℕ → ℕ) (es : List (ℕ × Allocation)) → ((n : ℕ) → 1 ≤ times n (map (λ (a : Allocation). a.id) (map (λ (e : ℕ × Allocation). e.1) es)) → later n ≡ name n)
    → renamed_entries later es ≡ renamed_entries name es
entries-agree name later [] agree = refl
entries-agree name later (e ∷ es) agree =
    ap (λ (id : ℕ). (e.0, record { id = id; rectangle = e.1.rectangle }) ∷ renamed_entries later es) (agree e.1.id (grind arith))
    ∙ ap (λ (l : List (ℕ × Allocation)). held_by (renamed_allocation name) e ∷ l) (entries-agree name later es (λ n stands. agree n (grind (arith, stands))))

-- of two first numbers from which on there is room there is one
one-count : (rooms others : ℕ → Bool) (n m : ℕ) → ((k : ℕ) → others k ≡ rooms k) → rooms n ≡ true → ((k : ℕ) → k < n → rooms k ≡ false)
    → others m ≡ true → ((k : ℕ) → k < m → others k ≡ false) → m ≡ n
one-count rooms others n m same room least other_room other_least =
    ⊎_elim
    (λ (less : n < m). absurd (clash (sym (other_least n less) ∙ same n ∙ room)))
    (λ (upto : m ≤ n). ⊎_elim
    (λ (more : m < n). absurd (clash (sym (least m more) ∙ sym (same m) ∙ other_room)))
    (λ (from : n ≤ m). omega arith)
    (cases_lt m n))
    (cases_lt n m)
  where
    clash : false ≡ true → ⊥
    clash e = cc

-- a new key that entered both
record EnterAlike (one other : Rectangle) (new another : CacheState) : Type 0 where
  same : one ≡ other
  alike : AreAlike new another

-- a new key enters both, under an id that is new in each
enter-alike : (key : ℕ) (size : Size) (one other new another : CacheState) (rectangle another_rectangle : Rectangle)
    → KeepsCachePromises one → AreAlike one other → Enters one key size rectangle new → Enters other key size another_rectangle another
    → EnterAlike rectangle another_rectangle new another
enter-alike key size one other new another rectangle another_rectangle promises alike enters other_enters =
    let name : ℕ → ℕ = alike.name in
    let own : Allocation = enters.allocation in
    let others_own : Allocation = other_enters.allocation in
    let atlas : other.atlas ≡ renamed name one.atlas = ap (λ (s : CacheState). s.atlas) alike.state in
    let new_name : HasNewName name one.atlas other.atlas own.id others_own.id =
    new-name name one.atlas other.atlas own.id others_own.id alike.apart atlas enters.allocated.fresh_id other_enters.allocated.fresh_id in
    let later : ℕ → ℕ = new_name.later in
    let placed : Some other_enters.allocated.placement ≡ Some enters.allocated.placement =
    sym other_enters.allocated.placed ∙ ap (λ (s : AtlasState). placement_of s size) atlas ∙ placement_of-renamed name one.atlas size ∙ enters.allocated.placed in
    let placement : other_enters.allocated.placement ≡ enters.allocated.placement = cc in
    let frame : other.atlas.frame ≡ one.atlas.frame = ap (λ (s : AtlasState). s.frame) atlas in
    let same : others_own.rectangle ≡ own.rectangle =
    sym other_enters.allocated.rectangle ∙ ap (λ (f : Frame). rectangle_of_placement f other_enters.allocated.placement) frame
    ∙ ap (rectangle_of_placement one.atlas.frame) placement ∙ enters.allocated.rectangle in
    let agree : (n : ℕ) → 1 ≤ times n (map (λ (a : Allocation). a.id) (kept_allocations one)) → later n ≡ name n =
    λ n stands. new_name.agree n (omega (arith, stands, promises.tied.counted n, times-ids_of one.atlas n)) in
    let entries : another.entries ≡ renamed_entries later new.entries =
    other_enters.entries
    ∙ ap (λ (es : List (ℕ × Allocation)). (key, others_own) ∷ es) (ap (λ (s : CacheState). s.entries) alike.state ∙ sym (entries-agree name later one.entries agree))
    ∙ ap (λ (n : ℕ). (key, record { id = n; rectangle = others_own.rectangle }) ∷ renamed_entries later one.entries) (sym new_name.own)
    ∙ ap (λ (r : Rectangle). (key, record { id = later own.id; rectangle = r }) ∷ renamed_entries later one.entries) same
    ∙ sym (ap (renamed_entries later) enters.entries) in
    let after : another.atlas ≡ renamed later new.atlas =
    other_enters.allocated.after
    ∙ ap (λ (s : AtlasState). taken s other_enters.allocated.placement others_own.id) new_name.state
    ∙ ap (λ (p : Placement). taken (renamed later one.atlas) p others_own.id) placement
    ∙ ap (taken (renamed later one.atlas) enters.allocated.placement) (sym new_name.own)
    ∙ sym (taken-renamed later one.atlas enters.allocated.placement own.id)
    ∙ sym (ap (renamed later) enters.allocated.after) in
    record {
      same = sym enters.given ∙ sym same ∙ other_enters.given;
      alike =
          record {
            name = later;
            apart = new_name.apart;
            state = same-cache another (renamed_cache later new) entries
                (other_enters.capacity ∙ ap (λ (s : CacheState). s.capacity) alike.state ∙ sym enters.capacity)
                after
                (other_enters.uses ∙ ap (λ (s : CacheState). option_map suc s.used_in_frame) alike.state ∙ sym enters.uses);
          };
    }

-- they have the same line, and are alike after it
record StepAlike (reply answer : GlyphReply) (new another : CacheState) : Type 0 where
  same : line_of reply ≡ line_of answer
  alike : AreAlike new another

-- dropping keeps the promises
keeps-dropping : (state : CacheState) (n : ℕ) → KeepsCachePromises state → KeepsCachePromises (after_dropping state n)
keeps-dropping state zero promises = promises
keeps-dropping state (suc n) promises = keeps-without_last (after_dropping state n) (keeps-dropping state n promises)

-- what both caches say of a key and of a size
alike-rectangle : (one other : CacheState) (key : ℕ) → AreAlike one other → rectangle_at other key ≡ rectangle_at one key
alike-rectangle one other key alike = ap (λ (s : CacheState). rectangle_at s key) alike.state ∙ rectangle-renamed alike.name one key

-- after as many evictions both have room, or neither
alike-room : (one other : CacheState) (size : Size) → AreAlike one other → (n : ℕ) → has_room (after_dropping other n) size ≡ has_room (after_dropping one n) size
alike-room one other size alike n =
    ap (λ (s : CacheState). has_room (after_dropping s n) size) alike.state
    ∙ ap (λ (s : CacheState). has_room s size) (dropping-renamed alike.name alike.apart one n)
    ∙ room-renamed alike.name (after_dropping one n) size

-- as many keys may be evicted
alike-evictable : (one other : CacheState) → AreAlike one other → evictable other ≡ evictable one
alike-evictable one other alike =
    ap evictable alike.state ∙ ap (λ n. n - frame_uses one) (length-map one.entries (held_by (renamed_allocation alike.name)))

-- both have one frame
alike-frame : (one other : CacheState) → AreAlike one other → other.atlas.frame ≡ one.atlas.frame
alike-frame one other alike = ap (λ (s : CacheState). s.atlas.frame) alike.state

-- a key that has a rectangle is none that is new
there-not_new : (state : CacheState) (key : ℕ) (rectangle : Rectangle) → rectangle_at state key ≡ Some rectangle → IsNew state key → ⊥
there-not_new state key rectangle there new =
    let none : rectangle_at state key ≡ None = ap (option_map (λ (a : Allocation). a.rectangle)) new in
    clash (sym none ∙ there)
  where
    clash : None ≡ Some rectangle → ⊥
    clash e = cc

-- a key that is new in one is new in the other
new-alike : (one other : CacheState) (key : ℕ) → AreAlike one other → IsNew other key → IsNew one key
new-alike one other key alike new =
    of_found (lookup (nat_eq key) one.entries) (sym (lookup-renamed alike.name (nat_eq key) one.entries) ∙ sym (ap (λ (s : CacheState). lookup (nat_eq key) s.entries) alike.state) ∙ new)
  where
    of_found : (o : Option Allocation) → option_map (renamed_allocation alike.name) o ≡ None → o ≡ None
    of_found None e = refl
    of_found (Some a) e = absurd (cc)

-- where there is room after as many evictions as may be, the frame isn't full
not_full : (state : CacheState) (size : Size) (n : ℕ) → n ≤ evictable state → has_room (after_dropping state n) size ≡ true → IsFrameFull state size → ⊥
not_full state size n few room full = clash (sym (full n few) ∙ room)
  where
    clash : false ≡ true → ⊥
    clash e = cc

-- a key that is there was used by both
used-alike : (one other new another : CacheState) (key : ℕ) → AreAlike one other → new ≡ used one key → another ≡ used other key → AreAlike new another
used-alike one other new another key alike new_is another_is =
    record {
      name = alike.name;
      apart = alike.apart;
      state = another_is ∙ ap (λ (s : CacheState). used s key) alike.state ∙ used-renamed alike.name one key ∙ sym (ap (renamed_cache alike.name) new_is);
    }

-- the same rectangle is found
same-found : (one other : CacheState) (key : ℕ) (rectangle another : Rectangle) → AreAlike one other → rectangle_at one key ≡ Some rectangle → rectangle_at other key ≡ Some another → rectangle ≡ another
same-found one other key rectangle another alike there others_there =
    let found : Some rectangle ≡ Some another = sym there ∙ sym (alike-rectangle one other key alike) ∙ others_there in
    cc

-- caches that nothing changed
stays-alike : (one other new another : CacheState) → AreAlike one other → new ≡ one → another ≡ other → AreAlike new another
stays-alike one other new another alike new_is another_is = rw (new_is, another_is) alike

-- new caches
pub fresh-alike : (frame : Frame) (capacity : ℕ) → AreAlike (empty_cache frame capacity) (empty_cache frame capacity)
fresh-alike frame capacity =
    record {
      name = λ n. n;
      apart = λ n m same. same;
      state = ap (λ (a : AtlasState). record { entries = []; capacity = capacity; atlas = a; used_in_frame = None }) (sym (fresh-renamed (λ n. n) frame));
    }

-- two caches that are alike stay so where a frame begins in both
framed-alike : (one other : CacheState) → AreAlike one other → AreAlike (in_new_frame one) (in_new_frame other)
framed-alike one other alike =
    record {
      name = alike.name;
      apart = alike.apart;
      state = ap in_new_frame alike.state;
    }

-- a cache keeps its promises where a frame begins
keeps-framed : (one : CacheState) → KeepsCachePromises one → KeepsCachePromises (in_new_frame one)
keeps-framed one promises =
    record {
      atlas = promises.atlas;
      few = promises.few;
      capacity = promises.capacity;
      keys = promises.keys;
      tied = promises.tied;
      inside = promises.inside;
      apart = promises.apart;
      uses = omega arith;
    }

-- a new key was placed in both
placed-alike : (key : ℕ) (size : Size) (one other new another : CacheState) (rectangle others_rectangle : Rectangle) (evicted others_evicted : List ℕ)
    → KeepsCachePromises one → AreAlike one other → PlacesNew one key size rectangle evicted new → PlacesNew other key size others_rectangle others_evicted another
    → EnterAlike rectangle others_rectangle new another × (evicted ≡ others_evicted)
placed-alike key size one other new another rectangle others_rectangle evicted others_evicted promises alike placed others_placed =
    let n : ℕ = length evicted in
    let m : ℕ = length others_evicted in
    let count : m ≡ n =
    one-count (λ k. has_room (after_dropping one k) size) (λ k. has_room (after_dropping other k) size) n m (alike-room one other size alike)
    placed.places.least.room placed.places.least.least others_placed.places.least.room others_placed.places.least.least in
    let dropped : after_dropping other m ≡ renamed_cache alike.name (after_dropping one n) =
    ap (after_dropping other) count ∙ ap (λ (s : CacheState). after_dropping s n) alike.state ∙ dropping-renamed alike.name alike.apart one n in
    let keys : others_evicted ≡ evicted =
    others_placed.places.listed ∙ ap (dropped_keys other) count ∙ ap (λ (s : CacheState). dropped_keys s n) alike.state
    ∙ dropped-renamed alike.name one n ∙ sym placed.places.listed in (
      enter-alike key size (after_dropping one n) (after_dropping other m) new another rectangle others_rectangle (keeps-dropping one n promises)
          (record { name = alike.name; apart = alike.apart; state = dropped }) placed.places.entered others_placed.places.entered,
      sym keys,
    )

-- the line of a key that was placed
placed-line : (one other : placements.Placed) → one.rectangle ≡ other.rectangle → one.evicted.items ≡ other.evicted.items → line_of (Placed one) ≡ line_of (Placed other)
placed-line one other rectangle evicted =
    ap (λ (r : Rectangle). (codes "placed " ++ corners_text r) ++ (evicted_text one.evicted.items ++ line_feed ∷ [])) rectangle
    ∙ ap (λ (keys : List ℕ). (codes "placed " ++ corners_text other.rectangle) ++ (evicted_text keys ++ line_feed ∷ [])) evicted

module _ (one other new another : CacheState) (promises : KeepsCachePromises one) (alike : AreAlike one other) where
  -- the other cache answers alike where the key was placed
  placed-step : (key : ℕ) (size : Size) (placed : placements.Placed) (answer : GlyphReply) → HasMemory answer
      → GlyphStep one (Place key size) (Placed placed) new → GlyphStep other (Place key size) answer another → StepAlike (Placed placed) answer new another
  placed-step key size placed (Placed given) memory (inl again) (inl anew) =
      record {
        same = placed-line placed given (same-found one other key placed.rectangle given.rectangle alike again.finds.there anew.finds.there) (again.none ∙ sym anew.none);
        alike = used-alike one other new another key alike again.finds.after anew.finds.after;
      }
  placed-step key size placed (Placed given) memory (inl again) (inr first) =
      absurd (there-not_new one key placed.rectangle again.finds.there (new-alike one other key alike first.fits.new))
  placed-step key size placed (Placed given) memory (inr first) (inl anew) =
      absurd (there-not_new one key given.rectangle (sym (alike-rectangle one other key alike) ∙ anew.finds.there) first.fits.new)
  placed-step key size placed (Placed given) memory (inr first) (inr second) =
      let both = placed-alike key size one other new another placed.rectangle given.rectangle placed.evicted.items given.evicted.items promises alike first second in
      record { same = placed-line placed given both.0.same both.1; alike = both.0.alike }
  placed-step key size placed TooLarge memory (inl again) (is_new, large, same) =
      absurd (there-not_new one key placed.rectangle again.finds.there (new-alike one other key alike is_new))
  placed-step key size placed TooLarge memory (inr first) (is_new, large, same) =
      absurd (first.fits.fits (subst (λ (f : Frame). placement_of (fresh f) size ≡ None) (alike-frame one other alike) large))
  placed-step key size placed FrameFull memory (inl again) (fits, full, same) =
      absurd (there-not_new one key placed.rectangle again.finds.there (new-alike one other key alike fits.new))
  placed-step key size placed FrameFull memory (inr first) (fits, full, same) =
      absurd (not_full other size (length placed.evicted.items) (omega (arith, first.spared, alike-evictable one other alike))
      (alike-room one other size alike (length placed.evicted.items) ∙ first.places.least.room) full)
  placed-step key size placed (NoMemory evicted) memory step other_step = absurd memory
  placed-step key size placed answer memory step other_step = absurd other_step

  -- where its size is too large
  large-step : (key : ℕ) (size : Size) (answer : GlyphReply) → HasMemory answer
      → GlyphStep one (Place key size) TooLarge new → GlyphStep other (Place key size) answer another → StepAlike TooLarge answer new another
  large-step key size (Placed given) memory (is_new, large, same) (inl anew) =
      absurd (there-not_new one key given.rectangle (sym (alike-rectangle one other key alike) ∙ anew.finds.there) is_new)
  large-step key size (Placed given) memory (is_new, large, same) (inr second) =
      absurd (second.fits.fits (subst (λ (f : Frame). placement_of (fresh f) size ≡ None) (sym (alike-frame one other alike)) large))
  large-step key size TooLarge memory (is_new, large, same) (others_new, others_large, others_same) =
      record { same = refl; alike = stays-alike one other new another alike same others_same }
  large-step key size FrameFull memory (is_new, large, same) (fits, full, others_same) =
      absurd (fits.fits (subst (λ (f : Frame). placement_of (fresh f) size ≡ None) (sym (alike-frame one other alike)) large))
  large-step key size (NoMemory evicted) memory step other_step = absurd memory
  large-step key size answer memory step other_step = absurd other_step

  -- where the frame is full
  full-step : (key : ℕ) (size : Size) (answer : GlyphReply) → HasMemory answer
      → GlyphStep one (Place key size) FrameFull new → GlyphStep other (Place key size) answer another → StepAlike FrameFull answer new another
  full-step key size (Placed given) memory (fits, full, same) (inl anew) =
      absurd (there-not_new one key given.rectangle (sym (alike-rectangle one other key alike) ∙ anew.finds.there) fits.new)
  full-step key size (Placed given) memory (fits, full, same) (inr second) =
      absurd (not_full one size (length given.evicted.items) (omega (arith, second.spared, alike-evictable one other alike))
      (sym (alike-room one other size alike (length given.evicted.items)) ∙ second.places.least.room) full)
  full-step key size TooLarge memory (fits, full, same) (others_new, others_large, others_same) =
      absurd (fits.fits (subst (λ (f : Frame). placement_of (fresh f) size ≡ None) (alike-frame one other alike) others_large))
  full-step key size FrameFull memory (fits, full, same) (others_fits, others_full, others_same) =
      record { same = refl; alike = stays-alike one other new another alike same others_same }
  full-step key size (NoMemory evicted) memory step other_step = absurd memory
  full-step key size answer memory step other_step = absurd other_step

  -- where a key was looked up
  found-step : (key : ℕ) (rectangle : Rectangle) (answer : GlyphReply)
      → GlyphStep one (Get key) (At rectangle) new → GlyphStep other (Get key) answer another → StepAlike (At rectangle) answer new another
  found-step key rectangle (At found) finds others_finds =
      record {
        same = ap (λ (r : Rectangle). line_of (At r)) (same-found one other key rectangle found alike finds.there others_finds.there);
        alike = used-alike one other new another key alike finds.after others_finds.after;
      }
  found-step key rectangle NotThere finds (is_new, same) =
      absurd (there-not_new one key rectangle finds.there (new-alike one other key alike is_new))
  found-step key rectangle answer step other_step = absurd other_step

  -- where a key that was looked up is not there
  missed-step : (key : ℕ) (answer : GlyphReply)
      → GlyphStep one (Get key) NotThere new → GlyphStep other (Get key) answer another → StepAlike NotThere answer new another
  missed-step key (At found) (is_new, same) finds =
      absurd (there-not_new one key found (sym (alike-rectangle one other key alike) ∙ finds.there) is_new)
  missed-step key NotThere (is_new, same) (others_new, others_same) =
      record { same = refl; alike = stays-alike one other new another alike same others_same }
  missed-step key answer step other_step = absurd other_step

  -- where a key was taken out
  removed-step : (key : ℕ) (rectangle : Rectangle) (answer : GlyphReply)
      → GlyphStep one (Remove key) (Removed rectangle) new → GlyphStep other (Remove key) answer another → StepAlike (Removed rectangle) answer new another
  removed-step key rectangle (Removed found) (there, after) (others_there, others_after) =
      record {
        same = ap (λ (r : Rectangle). line_of (Removed r)) (same-found one other key rectangle found alike there others_there);
        alike =
            record {
              name = alike.name;
              apart = alike.apart;
              state = others_after ∙ ap (λ (s : CacheState). without_key s key) alike.state ∙ without_key-renamed alike.name alike.apart one key ∙ sym (ap (renamed_cache alike.name) after);
            };
      }
  removed-step key rectangle NotThere (there, after) (is_new, same) =
      absurd (there-not_new one key rectangle there (new-alike one other key alike is_new))
  removed-step key rectangle answer step other_step = absurd other_step

  -- where a key to be taken out is not there
  kept-step : (key : ℕ) (answer : GlyphReply)
      → GlyphStep one (Remove key) NotThere new → GlyphStep other (Remove key) answer another → StepAlike NotThere answer new another
  kept-step key (Removed found) (is_new, same) (there, after) =
      absurd (there-not_new one key found (sym (alike-rectangle one other key alike) ∙ there) is_new)
  kept-step key NotThere (is_new, same) (others_new, others_same) =
      record { same = refl; alike = stays-alike one other new another alike same others_same }
  kept-step key answer step other_step = absurd other_step

  -- where all were taken out
  cleared-step : (answer : GlyphReply) → GlyphStep one Clear Cleared new → GlyphStep other Clear answer another → StepAlike Cleared answer new another
  cleared-step Cleared after others_after =
      let capacity : other.capacity ≡ one.capacity = ap (λ (s : CacheState). s.capacity) alike.state in
      record {
        same = refl;
        alike = rw (after, others_after, alike-frame one other alike, capacity) (fresh-alike one.atlas.frame one.capacity);
      }
  cleared-step answer step other_step = absurd other_step

  -- where a frame begins
  framed-step : (answer : GlyphReply) → GlyphStep one BeginFrame Begun new → GlyphStep other BeginFrame answer another → StepAlike Begun answer new another
  framed-step Begun after others_after =
      record { same = refl; alike = rw (after, others_after) (framed-alike one other alike) }
  framed-step answer step other_step = absurd other_step

  -- each command
  step-alike : (command : GlyphCommand) (reply answer : GlyphReply) → HasMemory reply → HasMemory answer
      → GlyphStep one command reply new → GlyphStep other command answer another → StepAlike reply answer new another
  step-alike (Place key size) (Placed placed) answer memory room step other_step = placed-step key size placed answer room step other_step
  step-alike (Place key size) TooLarge answer memory room step other_step = large-step key size answer room step other_step
  step-alike (Place key size) FrameFull answer memory room step other_step = full-step key size answer room step other_step
  step-alike (Place key size) (NoMemory evicted) answer memory room step other_step = absurd memory
  step-alike (Get key) (At rectangle) answer memory room step other_step = found-step key rectangle answer step other_step
  step-alike (Get key) NotThere answer memory room step other_step = missed-step key answer step other_step
  step-alike (Remove key) (Removed rectangle) answer memory room step other_step = removed-step key rectangle answer step other_step
  step-alike (Remove key) NotThere answer memory room step other_step = kept-step key answer step other_step
  step-alike Clear Cleared answer memory room step other_step = cleared-step answer step other_step
  step-alike BeginFrame Begun answer memory room step other_step = framed-step answer step other_step
  step-alike command reply answer memory room step other_step = absurd step

-- a cache that keeps its promises can answer a command so, and keeps them
record CanAnswer (one : CacheState) (command : GlyphCommand) (reply : GlyphReply) : Type 0 where
  new : CacheState
  step : GlyphStep one command reply new
  promises : KeepsCachePromises new

-- a new key can enter it where it enters another one
can-enter : (key : ℕ) (size : Size) (one other another : CacheState) (rectangle : Rectangle) → KeepsCachePromises one → AreAlike one other
    → lookup (nat_eq key) one.entries ≡ None → has_room one size ≡ true → Enters other key size rectangle another
    → (new : CacheState) × Enters one key size rectangle new × KeepsCachePromises new
can-enter key size one other another rectangle promises alike unknown room enters =
    let room_parts = and_parts (nat_lt (length one.entries) one.capacity) (is_some (placement_of one.atlas size)) room in
    let few : length one.entries < one.capacity = let short : nat_lt (length one.entries) one.capacity ≡ true = room_parts.0 in grind (arith, nat_tests, short) in
    let atlas : other.atlas ≡ renamed alike.name one.atlas = ap (λ (s : CacheState). s.atlas) alike.state in
    let placed : placement_of one.atlas size ≡ Some enters.allocated.placement =
    sym (placement_of-renamed alike.name one.atlas size) ∙ sym (ap (λ (s : AtlasState). placement_of s size) atlas) ∙ enters.allocated.placed in
    let can : CanAllocate one.atlas size = placed-can_allocate one.atlas size enters.allocated.placement promises.atlas.valid placed in
    let same : Some can.allocated.allocates.placement ≡ Some enters.allocated.placement = sym can.allocated.allocates.placed ∙ placed in
    let placement : can.allocated.allocates.placement ≡ enters.allocated.placement = cc in
    let given : can.allocation.rectangle ≡ rectangle =
    sym can.allocated.allocates.rectangle
    ∙ ap (rectangle_of_placement one.atlas.frame) placement
    ∙ ap (λ (f : Frame). rectangle_of_placement f enters.allocated.placement) (sym (ap (λ (s : AtlasState). s.frame) atlas))
    ∙ enters.allocated.rectangle ∙ enters.given in (
      record {
        entries = (key, can.allocation) ∷ one.entries;
        capacity = one.capacity;
        atlas = can.new;
        used_in_frame = option_map suc one.used_in_frame;
      },
      record { allocation = can.allocation; given = given; allocated = can.allocated.allocates; entries = refl; capacity = refl; uses = refl },
      keeps-entered one key can.allocation can.new promises unknown few can.allocated.promises_after can.allocated.adds can.allocated.allocates.fresh_id,
    )

-- a new cache keeps its promises
pub keeps-empty : (frame : Frame) (capacity : ℕ) → KeepsPromises (fresh frame) → 1 ≤ capacity → KeepsCachePromises (empty_cache frame capacity)
keeps-empty frame capacity promises some =
    keeps (empty_cache frame capacity) promises (omega arith) some (λ key. omega arith) (tied-none (allocations (fresh frame)) (fresh-allocated frame)) (omega arith)

-- it can answer a command as another one does that is alike
can-answer : (one other another : CacheState) (command : GlyphCommand) (reply : GlyphReply) → KeepsCachePromises one → AreAlike one other → HasMemory reply
    → GlyphStep other command reply another → CanAnswer one command reply
can-answer one other another (Place key size) (Placed placed) promises alike memory (inl again) =
    record {
      new = used one key;
      step = inl (record { finds = record { there = sym (alike-rectangle one other key alike) ∙ again.finds.there; after = refl }; none = again.none });
      promises = keeps-used one key promises;
    }
can-answer one other another (Place key size) (Placed placed) promises alike memory (inr first) =
    let n : ℕ = length placed.evicted.items in
    let is_new : IsNew one key = new-alike one other key alike first.fits.new in
    let room : has_room (after_dropping one n) size ≡ true = sym (alike-room one other size alike n) ∙ first.places.least.room in
    let unknown : lookup (nat_eq key) (after_dropping one n).entries ≡ None =
    ap (lookup (nat_eq key)) (entries-after_dropping one n) ∙ unknown-take (nat_eq key) (length one.entries - n) one.entries is_new in
    let dropped : after_dropping other n ≡ renamed_cache alike.name (after_dropping one n) =
    ap (λ (s : CacheState). after_dropping s n) alike.state ∙ dropping-renamed alike.name alike.apart one n in
    let can = can-enter key size (after_dropping one n) (after_dropping other n) another placed.rectangle (keeps-dropping one n promises)
    (record { name = alike.name; apart = alike.apart; state = dropped }) unknown room first.places.entered in
    record {
      new = can.0;
      step = inr (record {
        fits = record { new = is_new; fits = λ large. first.fits.fits (subst (λ (f : Frame). placement_of (fresh f) size ≡ None) (sym (alike-frame one other alike)) large) };
        places =
            record {
              least =
                  record {
                    room = room;
                    least = λ k less. sym (alike-room one other size alike k) ∙ first.places.least.least k less;
                  };
              listed = first.places.listed ∙ ap (λ (s : CacheState). dropped_keys s n) alike.state ∙ dropped-renamed alike.name one n;
              entered = can.1;
            };
        spared = omega (arith, first.spared, alike-evictable one other alike);
        large = subst (λ (f : Frame). IsLarge f size placed.rectangle) (alike-frame one other alike) first.large;
      });
      promises = can.2;
    }
can-answer one other another (Place key size) TooLarge promises alike memory (is_new, large, same) =
    record {
      new = one;
      step = (new-alike one other key alike is_new, subst (λ (f : Frame). placement_of (fresh f) size ≡ None) (alike-frame one other alike) large, refl);
      promises = promises;
    }
can-answer one other another (Place key size) FrameFull promises alike memory (fits, full, same) =
    record {
      new = one;
      step = (
        record { new = new-alike one other key alike fits.new; fits = λ large. fits.fits (subst (λ (f : Frame). placement_of (fresh f) size ≡ None) (sym (alike-frame one other alike)) large) },
        λ count few. sym (alike-room one other size alike count) ∙ full count (omega (arith, few, alike-evictable one other alike)),
        refl,
      );
      promises = promises;
    }
can-answer one other another (Place key size) (NoMemory evicted) promises alike memory step = absurd memory
can-answer one other another (Get key) (At rectangle) promises alike memory finds =
    record {
      new = used one key;
      step = record { there = sym (alike-rectangle one other key alike) ∙ finds.there; after = refl };
      promises = keeps-used one key promises;
    }
can-answer one other another (Get key) NotThere promises alike memory (is_new, same) =
    record { new = one; step = (new-alike one other key alike is_new, refl); promises = promises }
can-answer one other another (Remove key) (Removed rectangle) promises alike memory (there, after) =
    let own_there : rectangle_at one key ≡ Some rectangle = sym (alike-rectangle one other key alike) ∙ there in
    let found = entry-found (λ (a : Allocation). a.rectangle) key rectangle one.entries own_there in
    record {
      new = without_key one key;
      step = (own_there, refl);
      promises = rw found.known (keeps-key_returned one key found.entry.1 promises found.known);
    }
can-answer one other another (Remove key) NotThere promises alike memory (is_new, same) =
    record { new = one; step = (new-alike one other key alike is_new, refl); promises = promises }
can-answer one other another Clear Cleared promises alike memory step =
    record {
      new = empty_cache one.atlas.frame one.capacity;
      step = refl;
      promises = keeps-empty one.atlas.frame one.capacity (promises-cleared one.atlas promises.atlas.valid) promises.capacity;
    }
can-answer one other another BeginFrame Begun promises alike memory step =
    record { new = in_new_frame one; step = refl; promises = keeps-framed one promises }
can-answer one other another command reply promises alike memory step = absurd step

-- runs of two caches that are alike to one that keeps its promises have the same lines
pub runs-alike : (kept one other last another : CacheState) (commands : List GlyphCommand) (replies answers : List GlyphReply)
    → KeepsCachePromises kept → AreAlike kept one → AreAlike kept other → Runs one commands replies last → Runs other commands answers another
    → AllByRecursion HasMemory replies → AllByRecursion HasMemory answers → replies_text replies ≡ replies_text answers
runs-alike kept one other last another [] [] [] promises alike also run other_run memory room = refl
runs-alike kept one other last another [] (reply ∷ replies) answers promises alike also run other_run memory room = absurd run
runs-alike kept one other last another [] [] (answer ∷ answers) promises alike also run other_run memory room = absurd other_run
runs-alike kept one other last another (command ∷ commands) [] answers promises alike also run other_run memory room = absurd run
runs-alike kept one other last another (command ∷ commands) (reply ∷ replies) [] promises alike also run other_run memory room = absurd other_run
runs-alike kept one other last another (command ∷ commands) (reply ∷ replies) (answer ∷ answers) promises alike also (new, step, run) (middle, other_step, other_run) memory room =
    let can : CanAnswer kept command reply = can-answer kept one new command reply promises alike memory.0 step in
    let first : StepAlike reply reply can.new new = step-alike kept one can.new new promises alike command reply reply memory.0 memory.0 can.step step in
    let second : StepAlike reply answer can.new middle = step-alike kept other can.new middle promises also command reply answer memory.0 room.0 can.step other_step in
    ap (λ (line : List ℕ). line ++ replies_text replies) second.same
    ∙ ap (λ (text : List ℕ). line_of answer ++ text)
    (runs-alike can.new new middle last another commands replies answers can.promises first.alike second.alike run other_run memory.1 room.1)
