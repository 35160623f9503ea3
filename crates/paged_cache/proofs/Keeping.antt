-- What keys with allocations keep, they keep when one enters, moves to the front or goes.
use Rattle.std.proofs.Common.{◌≡◌, ℕ, ◌-◌, ◌<◌, ◌≤◌, Bool, true, Option, Some, None, List, ◌∷◌, ◌++◌, length, take, refl, ap, sym, ◌∙◌, subst, arith}
use Rattle.std.specs.Map.{keys_of, lookup, remove_entry, values_of}
use Rattle.std.specs.Option.{option_map_or}
use Rattle.std.specs.Prelude.{nat_eq}
use Rattle.std.proofs.lemmas.List.{length-map, length-take}
use Rattle.lru.specs.LruCache.{last_entry}
use Rattle.paged_cache.specs.Keyed.{IsKeyed, KeyedState, used, without_key, without_last}
use Rattle.etagere_base.specs.Lists.{times}
use Rattle.glyph_shelf.proofs.UsedKeys.KeyCounts.{times-entered, times-last, times-promoted, times-removed}
use Rattle.glyph_shelf.proofs.UsedKeys.Entries.{Among, found-among, last-among, length-removed, promoted-known, promoted-unknown}

-- keys with allocations by their parts
abbrev pub keyed : {A P : Type 0} → List (ℕ × P) → ℕ → A → KeyedState A P
keyed entries capacity allocator = record { entries = entries; capacity = capacity; allocator = allocator }

-- looking for a key that isn't there changes nothing
pub used-unknown : {A P : Type 0} (state : KeyedState A P) (key : ℕ) → lookup (nat_eq key) state.entries ≡ None → used state key ≡ state
used-unknown {A} {P} state key unknown =
    ap (λ (es : List (ℕ × P)). keyed es state.capacity state.allocator) (promoted-unknown (nat_eq key) state.entries unknown)

-- a key that isn't there takes nothing when it is taken out
pub without_key-unknown : {A P : Type 0} (returned : A → P → A) (state : KeyedState A P) (key : ℕ) → lookup (nat_eq key) state.entries ≡ None
    → without_key returned state key ≡ state
without_key-unknown {A} {P} returned state key unknown =
    ap (λ (o : Option P). option_map_or
    (λ (allocation : P). keyed (remove_entry (nat_eq key) state.entries) state.capacity (returned state.allocator allocation)) o state)
    unknown

module _ {A P : Type 0} (keeps : A → Type 0) (are_held : A → List P → Type 0) where
  -- of what is held one is held with it
  pub held-one : (is_held : A → P → Bool) → ((state : A) (front back : List P) (allocation : P) → are_held state (front ++ allocation ∷ back) → is_held state allocation ≡ true)
      → (state : KeyedState A P) (others : List P) (allocation : P) → IsKeyed keeps are_held state → Among others allocation (values_of state.entries)
      → is_held state.allocator allocation ≡ true
  held-one is_held among_held state others allocation is among =
      among_held state.allocator among.front among.back allocation (subst (are_held state.allocator) among.after is.held)

  -- a key entered
  pub keeps-entered : (old : KeyedState A P) (key : ℕ) (allocation : P) (after : A) → IsKeyed keeps are_held old
      → lookup (nat_eq key) old.entries ≡ None → length old.entries < old.capacity
      → keeps after → are_held after (allocation ∷ values_of old.entries) → IsKeyed keeps are_held (keyed ((key, allocation) ∷ old.entries) old.capacity after)
  keeps-entered old key allocation after is new room kept held =
      record {
        allocator = kept;
        few = omega arith;
        capacity = is.capacity;
        keys = times-entered key allocation old.entries new is.keys;
        held = held;
      }

  -- a key went, and its allocation was given back
  pub keeps-gone : (state : KeyedState A P) (entries : List (ℕ × P)) (allocation : P) (after : A) → IsKeyed keeps are_held state
      → Among (values_of entries) allocation (values_of state.entries) → length entries ≤ length state.entries
      → ((key : ℕ) → times key (keys_of entries) ≤ times key (keys_of state.entries)) → keeps after
      → ((front back : List P) → are_held state.allocator (front ++ allocation ∷ back) → are_held after (front ++ back))
      → IsKeyed keeps are_held (keyed entries state.capacity after)
  keeps-gone state entries allocation after is among fewer rarer kept one_less =
      let few = is.few in
      record {
        allocator = kept;
        few = omega arith;
        capacity = is.capacity;
        keys = λ key. omega (arith, is.keys key, rarer key);
        held = subst (are_held after) (sym among.before) (one_less among.front among.back (subst (are_held state.allocator) among.after is.held));
      }

  -- a key went to the front
  pub keeps-used : ((state : A) (front back : List P) (allocation : P) → are_held state (front ++ allocation ∷ back) → are_held state (allocation ∷ front ++ back))
      → (state : KeyedState A P) (key : ℕ) → IsKeyed keeps are_held state → IsKeyed keeps are_held (used state key)
  keeps-used to_front state key is = by_found (lookup (nat_eq key) state.entries) refl
    where
      by_found : (o : Option P) → lookup (nat_eq key) state.entries ≡ o → IsKeyed keeps are_held (used state key)
      by_found None found =
          subst (λ (es : List (ℕ × P)). IsKeyed keeps are_held (keyed es state.capacity state.allocator))
          (sym (promoted-unknown (nat_eq key) state.entries found)) is
      by_found (Some allocation) found =
          let few = is.few in
          let among = found-among (nat_eq key) state.entries allocation found in
          let values = promoted-known (nat_eq key) state.entries allocation found in
          let held_by : ℕ × P → P = λ e. e.1 in
          let others = remove_entry (nat_eq key) state.entries in
          record {
            allocator = is.allocator;
            few = omega (arith, ap length values, length-map (used state key).entries held_by, length-map others held_by, length-removed (nat_eq key) state.entries allocation found);
            capacity = is.capacity;
            keys = λ k. omega (arith, is.keys k, times-promoted (nat_eq key) state.entries k);
            held = subst (are_held state.allocator) (sym (values ∙ ap (λ l. allocation ∷ l) among.before))
                (to_front state.allocator among.front among.back allocation (subst (are_held state.allocator) among.after is.held));
          }

  module _ (returned : A → P → A) (one_less : (state : A) (front back : List P) (allocation : P) → keeps state → are_held state (front ++ allocation ∷ back) → are_held (returned state allocation) (front ++ back)) (still_keeps : (state : A) (allocation : P) → keeps state → keeps (returned state allocation)) where
    -- the last key went
    pub keeps-last : (state : KeyedState A P) (e : ℕ × P) → IsKeyed keeps are_held state → last_entry state.entries ≡ Some e
        → IsKeyed keeps are_held (keyed (take (length state.entries - 1) state.entries) state.capacity (returned state.allocator e.1))
    keeps-last state e is last =
        let shorter = length-take (length state.entries - 1) state.entries in
        keeps-gone state (take (length state.entries - 1) state.entries) e.1 (returned state.allocator e.1) is (last-among state.entries e last)
        (omega arith) (λ key. times-last key state.entries e last) (still_keeps state.allocator e.1 is.allocator) (λ front back. one_less state.allocator front back e.1 is.allocator)

    -- a key that was found went
    pub keeps-key : (state : KeyedState A P) (key : ℕ) (allocation : P) → IsKeyed keeps are_held state → lookup (nat_eq key) state.entries ≡ Some allocation
        → IsKeyed keeps are_held (keyed (remove_entry (nat_eq key) state.entries) state.capacity (returned state.allocator allocation))
    keeps-key state key allocation is found =
        let shorter = length-removed (nat_eq key) state.entries allocation found in
        keeps-gone state (remove_entry (nat_eq key) state.entries) allocation (returned state.allocator allocation) is (found-among (nat_eq key) state.entries allocation found)
        (omega arith) (times-removed (nat_eq key) state.entries) (still_keeps state.allocator allocation is.allocator) (λ front back. one_less state.allocator front back allocation is.allocator)

    pub keeps-without_last : (state : KeyedState A P) → IsKeyed keeps are_held state → IsKeyed keeps are_held (without_last returned state)
    keeps-without_last state is = by_last (last_entry state.entries) refl
      where
        by_last : (o : Option (ℕ × P)) → last_entry state.entries ≡ o
            → IsKeyed keeps are_held (option_map_or (λ entry. keyed (take (length state.entries - 1) state.entries) state.capacity (returned state.allocator entry.1)) o state)
        by_last None last = is
        by_last (Some e) last = keeps-last state e is last
