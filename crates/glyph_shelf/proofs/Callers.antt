-- What callers of a cache cite: what is left after evictions, which keys have gone, that the frame and the capacity stay,
-- and what a key that isn't there changes.
use Rattle.std.proofs.Common.{◌≡◌, ℕ, zero, suc, ◌-◌, ◌≤◌, Option, Some, None, List, ◌++◌, length, take, drop, reverse, refl, ap, sym, ◌∙◌, arith}
use Rattle.std.specs.Map.{keys_of}
use Rattle.std.specs.Option.{option_map_or}
use Rattle.std.proofs.lemmas.List.{length-drop, length-map, length-reverse, length-take, map-append, reverse-append, take-append-drop, take-take, take_all, take_at}
use Rattle.lru.specs.LruCache.{last_entry}
use Rattle.glyph_shelf.specs.UsedKeys.Keys.{uses_left}
use Rattle.shelf_model.specs.Returning.{returned}
use Rattle.etagere_base.specs.declared.ids.Allocation.{Allocation}
use Rattle.glyph_shelf.specs.Cache.{CacheState, after_dropping, dropped_keys, without_last}
use Rattle.glyph_shelf.proofs.UsedKeys.Entries.{last-none}
pub use Rattle.glyph_shelf.proofs.UsedKeys.Entries.{unknown-take}
pub use Rattle.glyph_shelf.proofs.Keeping.{keeps, keeps-entered, keeps-key_returned, keeps-used, keeps-without_last, looked-unknown, unknown-rectangle, without_key-unknown}

-- a cache without its last entry has the same frame and capacity, and one entry less
pub frame-without_last : (state : CacheState) → (without_last state).atlas.frame ≡ state.atlas.frame
frame-without_last state = by_last (last_entry state.entries)
  where
    by_last : (o : Option (ℕ × Allocation))
        → (option_map_or (λ entry. record { entries = take (length state.entries - 1) state.entries; capacity = state.capacity; atlas = returned state.atlas entry.1.id; used_in_frame = uses_left (length state.entries - 1) state.used_in_frame }) o state).atlas.frame
        ≡ state.atlas.frame
    by_last None = refl
    by_last (Some e) = refl

capacity-without_last : (state : CacheState) → (without_last state).capacity ≡ state.capacity
capacity-without_last state = by_last (last_entry state.entries)
  where
    by_last : (o : Option (ℕ × Allocation))
        → (option_map_or (λ entry. record { entries = take (length state.entries - 1) state.entries; capacity = state.capacity; atlas = returned state.atlas entry.1.id; used_in_frame = uses_left (length state.entries - 1) state.used_in_frame }) o state).capacity
        ≡ state.capacity
    by_last None = refl
    by_last (Some e) = refl

entries-without_last : (state : CacheState) → (without_last state).entries ≡ take (length state.entries - 1) state.entries
entries-without_last state = by_last (last_entry state.entries) refl
  where
    by_last : (o : Option (ℕ × Allocation)) → last_entry state.entries ≡ o
        → (option_map_or (λ entry. record { entries = take (length state.entries - 1) state.entries; capacity = state.capacity; atlas = returned state.atlas entry.1.id; used_in_frame = uses_left (length state.entries - 1) state.used_in_frame }) o state).entries
        ≡ take (length state.entries - 1) state.entries
    by_last None last = rw (last-none state.entries last) refl
    by_last (Some e) last = refl

pub length-without_last : (state : CacheState) → length (without_last state).entries ≡ length state.entries - 1
length-without_last state =
    omega (arith, ap length (entries-without_last state), length-take (length state.entries - 1) state.entries)

pub frame-after_dropping : (state : CacheState) (n : ℕ) → (after_dropping state n).atlas.frame ≡ state.atlas.frame
frame-after_dropping state zero = refl
frame-after_dropping state (suc n) = frame-without_last (after_dropping state n) ∙ frame-after_dropping state n

pub capacity-after_dropping : (state : CacheState) (n : ℕ) → (after_dropping state n).capacity ≡ state.capacity
capacity-after_dropping state zero = refl
capacity-after_dropping state (suc n) = capacity-without_last (after_dropping state n) ∙ capacity-after_dropping state n

pub length-after_dropping : (state : CacheState) (n : ℕ) → length (after_dropping state n).entries ≡ length state.entries - n
length-after_dropping state zero = omega arith
length-after_dropping state (suc n) = omega (arith, length-without_last (after_dropping state n), length-after_dropping state n)

-- what stood first is left
pub entries-after_dropping : (state : CacheState) (n : ℕ) → (after_dropping state n).entries ≡ take (length state.entries - n) state.entries
entries-after_dropping state zero = sym (take_all (length state.entries - 0) state.entries (omega arith))
entries-after_dropping state (suc n) =
    let before = after_dropping state n in
    let fewer : length before.entries - 1 ≡ length state.entries - suc n = omega (arith, length-after_dropping state n) in
    entries-without_last before
    ∙ ap (λ (k : ℕ). take k before.entries) fewer
    ∙ ap (take (length state.entries - suc n)) (entries-after_dropping state n)
    ∙ take-take (length state.entries - suc n) (length state.entries - n) state.entries (omega arith)

-- the keys that went are those of what stood behind it, the last one first
pub dropped-behind : (state : CacheState) (n : ℕ) → n ≤ length state.entries
    → dropped_keys state n ≡ reverse (keys_of (drop (length state.entries - n) state.entries))
dropped-behind state n few =
    let es = state.entries in
    let k = length es - n in
    let front = take k es in
    let gone = drop k es in
    let key : ℕ × Allocation → ℕ = λ e. e.0 in
    let order : reverse (keys_of es) ≡ reverse (keys_of gone) ++ reverse (keys_of front) =
    ap (λ (l : List (ℕ × Allocation)). reverse (keys_of l)) (sym (take-append-drop k es))
    ∙ ap reverse (map-append key front gone)
    ∙ reverse-append (keys_of front) (keys_of gone) in
    let long : length (reverse (keys_of gone)) ≡ n = omega (arith, length-reverse (keys_of gone), length-map gone key, length-drop k es) in
    ap (take n) order ∙ take_at (reverse (keys_of gone)) (reverse (keys_of front)) n long
