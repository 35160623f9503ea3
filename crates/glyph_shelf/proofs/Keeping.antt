-- Every cache keeps its promises: a new one does, and so does what becomes of one that does.
use Rattle.std.proofs.Common.{◌≡◌, ℕ, suc, ◌-◌, ◌<◌, ◌≤◌, true, false, Option, Some, None, Result, Ok, Err, OnOk, OnErr, List, ◌∷◌, length, take, refl, ap, sym, ◌∙◌, subst, arith}
use Rattle.std.specs.Map.{keys_of, lookup, remove_entry, values_of}
use Rattle.std.specs.Option.{option_map_or}
use Rattle.std.specs.Prelude.{nat_eq, option_map}
use Rattle.std.proofs.lemmas.List.{length-map, length-take}
use Rattle.lru.specs.LruCache.{last_entry}
use Rattle.etagere_base.specs.declared.ids.Allocation.{Allocation}
use Rattle.std.specs.List.{AllByRecursion}
use Rattle.etagere_base.specs.Lists.{times}
use Rattle.etagere_base.specs.Rectangles.{IsInside}
use Rattle.etagere_base.proofs.EachLemmas.{Each-middle}
use Rattle.shelf_model.specs.Atlas.{Adds, KeepsPromises, without_id}
use Rattle.shelf_model.specs.Callers.{AreTied, IsFound}
use Rattle.shelf_model.specs.Places.{allocations, is_allocated}
use Rattle.shelf_model.specs.Returning.{returned}
use Rattle.shelf_model.specs.State.{AtlasState}
use Rattle.shelf_model.proofs.Callers.{found-allocated, not_allocated-any, promises-returned, returned-allocated, tied-added, tied-apart, tied-each, tied-returned}
use Rattle.glyph_shelf.specs.Cache.{CacheState, frame_uses, kept_allocations, rectangle_at, used, without_key, without_last}
use Rattle.glyph_shelf.specs.Promises.{KeepsCachePromises}
use Rattle.glyph_shelf.specs.UsedKeys.Keys.{uses_in, uses_left, uses_without}
use Rattle.glyph_shelf.proofs.UsedKeys.Entries.{Among, found-among, last-among, length-removed, promoted-known, promoted-unknown, unknown-take}
use Rattle.glyph_shelf.proofs.FrameUses.{few-entered, few-left, few-with, few-without, with-unknown}
use Rattle.glyph_shelf.proofs.UsedKeys.KeyCounts.{times-entered, times-last, times-promoted, times-removed}
use Rattle.glyph_shelf.proofs.Tying.{first-added, tied-front}

-- a cache by its parts
abbrev pub cache : List (ℕ × Allocation) → ℕ → AtlasState → Option ℕ → CacheState
cache entries capacity atlas uses =
    record { entries = entries; capacity = capacity; atlas = atlas; used_in_frame = uses }

-- what an atlas promises is promised of what a cache keeps of it
pub keeps : (state : CacheState) → KeepsPromises state.atlas → length state.entries ≤ state.capacity → 1 ≤ state.capacity
    → ((key : ℕ) → times key (keys_of state.entries) ≤ 1) → AreTied (kept_allocations state) (allocations state.atlas)
    → frame_uses state ≤ length state.entries → KeepsCachePromises state
keeps state atlas few capacity keys tied uses =
    record {
      atlas = atlas;
      few = few;
      capacity = capacity;
      keys = keys;
      tied = tied;
      inside = tied-each (λ (a : Allocation). IsInside state.atlas.frame a.rectangle) (kept_allocations state)
          (allocations state.atlas) tied atlas.inside;
      apart = tied-apart (kept_allocations state) (allocations state.atlas) tied atlas.apart atlas.ids;
      uses = uses;
    }

-- what is kept is allocated under its id
pub kept-allocated : (state : CacheState) (others : List Allocation) (a : Allocation) → KeepsCachePromises state
    → Among others a (kept_allocations state) → is_allocated state.atlas a.id ≡ true
kept-allocated state others a promises among =
    let found = IsFound (allocations state.atlas) in
    found-allocated state.atlas a
    (Each-middle found among.front a among.back (subst (AllByRecursion found) among.after promises.tied.found))

-- a cache of which one was given back
keeps-returned : (state : CacheState) (entries : List (ℕ × Allocation)) (uses : Option ℕ) (a : Allocation) → KeepsCachePromises state
    → Among (values_of entries) a (kept_allocations state) → length entries ≤ length state.entries
    → ((key : ℕ) → times key (keys_of entries) ≤ times key (keys_of state.entries)) → uses_in uses ≤ length entries
    → KeepsCachePromises (cache entries state.capacity (returned state.atlas a.id) uses)
keeps-returned state entries uses a promises among fewer rarer used =
    let few = promises.few in
    let adds : Adds (values_of entries) a (kept_allocations state) =
    record { front = among.front; back = among.back; before = among.before; after = among.after } in
    keeps (cache entries state.capacity (returned state.atlas a.id) uses)
    (promises-returned state.atlas a.id promises.atlas.valid) (omega arith) promises.capacity
    (λ key. omega (arith, promises.keys key, rarer key))
    (tied-returned (kept_allocations state) (values_of entries) (allocations state.atlas)
    (allocations (returned state.atlas a.id)) a promises.tied adds promises.atlas.ids
    (returned-allocated state.atlas a.id promises.atlas.valid))
    used

-- a cache whose last entry went
pub keeps-last_returned : (state : CacheState) (e : ℕ × Allocation) → KeepsCachePromises state → last_entry state.entries ≡ Some e
    → KeepsCachePromises (cache (take (length state.entries - 1) state.entries) state.capacity (returned state.atlas e.1.id) (uses_left (length state.entries - 1) state.used_in_frame))
keeps-last_returned state e promises last =
    let shorter = length-take (length state.entries - 1) state.entries in
    let used = few-left (length state.entries - 1) state.used_in_frame in
    keeps-returned state (take (length state.entries - 1) state.entries) (uses_left (length state.entries - 1) state.used_in_frame) e.1
    promises (last-among state.entries e last) (omega arith) (λ key. times-last key state.entries e last) (omega arith)

pub keeps-without_last : (state : CacheState) → KeepsCachePromises state → KeepsCachePromises (without_last state)
keeps-without_last state promises = by_last (last_entry state.entries) refl
  where
    by_last : (o : Option (ℕ × Allocation)) → last_entry state.entries ≡ o
        → KeepsCachePromises (option_map_or
        (λ entry. cache (take (length state.entries - 1) state.entries) state.capacity (returned state.atlas entry.1.id) (uses_left (length state.entries - 1) state.used_in_frame))
        o state)
    by_last None last = promises
    by_last (Some e) last = keeps-last_returned state e promises last

-- a cache of which a key went
pub keeps-key_returned : (state : CacheState) (key : ℕ) (a : Allocation) → KeepsCachePromises state
    → lookup (nat_eq key) state.entries ≡ Some a
    → KeepsCachePromises (cache (remove_entry (nat_eq key) state.entries) state.capacity (returned state.atlas a.id) (option_map (uses_without key state.entries) state.used_in_frame))
keeps-key_returned state key a promises found =
    let shorter = length-removed (nat_eq key) state.entries a found in
    let used = few-without key state.entries a state.used_in_frame found promises.uses in
    keeps-returned state (remove_entry (nat_eq key) state.entries) (option_map (uses_without key state.entries) state.used_in_frame) a
    promises (found-among (nat_eq key) state.entries a found) (omega arith) (times-removed (nat_eq key) state.entries) (omega arith)

-- a key that isn't there is no entry
pub used-unknown : (state : CacheState) (key : ℕ) → lookup (nat_eq key) state.entries ≡ None → used state key ≡ state
used-unknown state key unknown =
    let uses = with-unknown key state.entries state.used_in_frame unknown (λ n. unknown-take (nat_eq key) n state.entries unknown) in
    ap (λ (entries : List (ℕ × Allocation)). cache entries state.capacity state.atlas (used state key).used_in_frame)
    (promoted-unknown (nat_eq key) state.entries unknown)
    ∙ ap (cache state.entries state.capacity state.atlas) uses

-- a cache in which a key moved to the front
pub keeps-used : (state : CacheState) (key : ℕ) → KeepsCachePromises state → KeepsCachePromises (used state key)
keeps-used state key promises = by_found (lookup (nat_eq key) state.entries) refl
  where
    by_found : (o : Option Allocation) → lookup (nat_eq key) state.entries ≡ o → KeepsCachePromises (used state key)
    by_found None found = subst KeepsCachePromises (sym (used-unknown state key found)) promises
    by_found (Some a) found =
        let few = promises.few in
        let values = promoted-known (nat_eq key) state.entries a found in
        let held : ℕ × Allocation → Allocation = λ e. e.1 in
        let others = remove_entry (nat_eq key) state.entries in
        let as_long : length (used state key).entries ≡ length state.entries =
        omega (arith, ap length values, length-map (used state key).entries held, length-map others held, length-removed (nat_eq key) state.entries a found) in
        keeps (used state key) promises.atlas (omega arith) promises.capacity
        (λ k. omega (arith, promises.keys k, times-promoted (nat_eq key) state.entries k))
        (subst (λ (kept : List Allocation). AreTied kept (allocations state.atlas)) (sym values)
        (tied-front (values_of others) (kept_allocations state) (allocations state.atlas) a
        (found-among (nat_eq key) state.entries a found) promises.tied))
        (let few_used = few-with key state.entries a state.used_in_frame found promises.uses in omega arith)

-- a cache in another atlas with the same in it
keeps-atlas : (state : CacheState) (atlas : AtlasState) → KeepsCachePromises state → KeepsPromises atlas
    → allocations atlas ≡ allocations state.atlas
    → KeepsCachePromises (cache state.entries state.capacity atlas state.used_in_frame)
keeps-atlas state atlas promises kept same =
    keeps (cache state.entries state.capacity atlas state.used_in_frame) kept promises.few promises.capacity
    promises.keys (subst (AreTied (kept_allocations state)) (sym same) promises.tied) promises.uses

-- a cache whose atlas grew, or didn't
pub keeps-grown : {A B : Type 0} (state : CacheState) (atlas : AtlasState) (grown : Result A B) → KeepsCachePromises state
    → KeepsPromises atlas → OnOk grown (allocations atlas ≡ allocations state.atlas) → OnErr grown (atlas ≡ state.atlas)
    → KeepsCachePromises (cache state.entries state.capacity atlas state.used_in_frame)
keeps-grown state atlas (Ok a) promises kept same unchanged = keeps-atlas state atlas promises kept same
keeps-grown state atlas (Err b) promises kept same unchanged = keeps-atlas state atlas promises kept (ap allocations unchanged)

-- what was allocated is tied to what a cache keeps, and one more
entered-tied : (old : CacheState) (a : Allocation) (after : List Allocation) → KeepsCachePromises old
    → Adds (allocations old.atlas) a after → is_allocated old.atlas a.id ≡ false → AreTied (a ∷ kept_allocations old) after
entered-tied old a after promises adds fresh_id =
    tied-added (kept_allocations old) (a ∷ kept_allocations old) (allocations old.atlas) after a promises.tied
    (first-added a (kept_allocations old)) adds (not_allocated-any old.atlas a.id fresh_id)

-- a cache that a key entered
pub keeps-entered : (old : CacheState) (key : ℕ) (a : Allocation) (atlas : AtlasState) → KeepsCachePromises old
    → lookup (nat_eq key) old.entries ≡ None → length old.entries < old.capacity → KeepsPromises atlas → Adds (allocations old.atlas) a (allocations atlas)
    → is_allocated old.atlas a.id ≡ false
    → KeepsCachePromises (cache ((key, a) ∷ old.entries) old.capacity atlas (option_map suc old.used_in_frame))
keeps-entered old key a atlas promises new room kept adds fresh_id =
    keeps (cache ((key, a) ∷ old.entries) old.capacity atlas (option_map suc old.used_in_frame)) kept (omega arith)
    promises.capacity (times-entered key a old.entries new promises.keys) (entered-tied old a (allocations atlas) promises adds fresh_id)
    (few-entered old.used_in_frame (length old.entries) promises.uses)

-- a cache that gave back what got no entry
pub keeps-refused : (old : CacheState) (a : Allocation) (middle atlas : AtlasState) → KeepsCachePromises old
    → KeepsPromises middle → KeepsPromises atlas → Adds (allocations old.atlas) a (allocations middle)
    → is_allocated old.atlas a.id ≡ false → allocations atlas ≡ without_id a.id (allocations middle)
    → KeepsCachePromises (cache old.entries old.capacity atlas old.used_in_frame)
keeps-refused old a middle atlas promises before kept adds fresh_id after =
    keeps (cache old.entries old.capacity atlas old.used_in_frame) kept promises.few promises.capacity promises.keys
    (tied-returned (a ∷ kept_allocations old) (kept_allocations old) (allocations middle) (allocations atlas) a
    (entered-tied old a (allocations middle) promises adds fresh_id) (first-added a (kept_allocations old)) before.ids after)
    promises.uses

-- nor has it a rectangle, and then taking it out takes nothing
pub without_key-unknown : (state : CacheState) (key : ℕ) → lookup (nat_eq key) state.entries ≡ None → without_key state key ≡ state
without_key-unknown state key unknown =
    ap (λ (o : Option Allocation). option_map_or
    (λ (a : Allocation). cache (remove_entry (nat_eq key) state.entries) state.capacity (returned state.atlas a.id) (option_map (uses_without key state.entries) state.used_in_frame)) o state)
    unknown

-- a key without a rectangle isn't there
pub unknown-rectangle : (state : CacheState) (key : ℕ) → rectangle_at state key ≡ None → lookup (nat_eq key) state.entries ≡ None
unknown-rectangle state key none = by_found (lookup (nat_eq key) state.entries) none
  where
    by_found : (o : Option Allocation) → option_map (λ (a : Allocation). a.rectangle) o ≡ None → o ≡ None
    by_found None h = refl
    by_found (Some a) h = absurd (cc)

-- looking for it changes nothing
pub looked-unknown : (old new : CacheState) (key : ℕ) → rectangle_at old key ≡ None → new ≡ used old key → new ≡ old
looked-unknown old new key none is = is ∙ used-unknown old key (unknown-rectangle old key none)
