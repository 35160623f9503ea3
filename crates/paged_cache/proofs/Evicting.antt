-- Evictions: what has gone after some of them, that there is room in the end, and what a placement made of them.
use Rattle.std.proofs.Common.{◌≡◌, ℕ, zero, suc, ◌-◌, ◌<◌, ◌≤◌, Bool, true, false, Option, Some, None, List, [], ◌∷◌, ◌++◌, inl, append-nil, append_assoc, length, take, reverse, refl, ap, sym, ◌∙◌, subst, arith}
use Rattle.std.specs.Map.{keys_of, lookup, values_of}
use Rattle.std.specs.Option.{option_map_or}
use Rattle.std.specs.Prelude.{nat_eq, nat_lt, option_map}
use Rattle.std.proofs.lemmas.Bool.Decides.{nat_tests}
use Rattle.std.proofs.lemmas.List.{length-append, length-take, map-append, reverse-append}
use Rattle.std.proofs.Math.Seq.{take-append_seam}
use Rattle.lru.specs.LruCache.{last_entry}
use Rattle.etagere_base.specs.declared.geometry.Size.{Size}
use Rattle.paged_cache.specs.Keyed.{Enters, IsEvictionCount, IsKeyed, IsUndone, KeyedState, Places, RanOut, after_dropping, dropped_keys, has_room, without_last}
use Rattle.glyph_shelf.proofs.UsedKeys.Entries.{last-none, last-split, unknown-take}
use Rattle.paged_cache.proofs.Keeping.{keeps-without_last, keyed}

-- a number below the next one is below, or is this one
below_next : (P : ℕ → Type 0) (n : ℕ) → ((k : ℕ) → k < n → P k) → P n → (k : ℕ) → k < suc n → P k
below_next P n below here k lt = elim (nat_lt k n) as (λ b. nat_lt k n ≡ b → P k) [
  | true ↦ λ is. below k (grind (arith, nat_tests))
  | false ↦ λ is. let same : n ≡ k = grind (arith, nat_tests) in subst P same here
] refl

-- the least number that passes, of those up to one that does
least-passing : (test : ℕ → Bool) (n : ℕ) → test n ≡ true
    → (m : ℕ) × (test m ≡ true) × ((k : ℕ) → k < m → test k ≡ false)
least-passing test zero passes = (0, passes, λ k lt. absurd (omega arith))
least-passing test (suc n) passes = by_first (test 0) refl (least-passing (λ k. test (suc k)) n passes)
  where
    after_first : test 0 ≡ false → (m : ℕ) → ((k : ℕ) → k < m → test (suc k) ≡ false) → (k : ℕ) → k < suc m → test k ≡ false
    after_first fails m below zero lt = fails
    after_first fails m below (suc k) lt = below k (omega arith)

    by_first : (b : Bool) → test 0 ≡ b
        → (m : ℕ) × (test (suc m) ≡ true) × ((k : ℕ) → k < m → test (suc k) ≡ false)
        → (m : ℕ) × (test m ≡ true) × ((k : ℕ) → k < m → test k ≡ false)
    by_first true is later = (0, is, λ k lt. absurd (omega arith))
    by_first false is later = (suc later.0, later.1, after_first is later.0 later.2)

-- a list of no length
nothing_long : {X : Type 0} (xs : List X) → length xs ≡ 0 → xs ≡ []
nothing_long [] none = refl
nothing_long (x ∷ xs) none = absurd (omega arith)

-- an entry stands last where its key does
pub entry_of : {P : Type 0} (dropped : ℕ) (o : Option (ℕ × P)) → Some dropped ≡ option_map (λ e. e.0) o
    → (e : ℕ × P) × (o ≡ Some e) × (e.0 ≡ dropped)
entry_of dropped None h = absurd (cc)
entry_of dropped (Some e) h = (e, refl, cc)

-- where an entry stands last, there is one
some_last : {P : Type 0} (es : List (ℕ × P)) (e : ℕ × P) → last_entry es ≡ Some e → 1 ≤ length es
some_last [] e last = absurd (cc)
some_last (f ∷ es) e last = omega arith

module _ {A P : Type 0} (returned : A → P → A) where
  -- without the entry that stands last
  without_last-some : (state : KeyedState A P) (e : ℕ × P) → last_entry state.entries ≡ Some e
      → without_last returned state ≡ keyed (take (length state.entries - 1) state.entries) state.capacity (returned state.allocator e.1)
  without_last-some state e last =
      ap (λ (o : Option (ℕ × P)). option_map_or (λ entry. keyed (take (length state.entries - 1) state.entries) state.capacity (returned state.allocator entry.1)) o state) last

  -- what stays
  parts-without_last : (state : KeyedState A P) (e : ℕ × P) → last_entry state.entries ≡ Some e
      → state.entries ≡ (without_last returned state).entries ++ e ∷ []
  parts-without_last state e last =
      last-split state.entries e last ∙ ap (λ (s : KeyedState A P). s.entries ++ e ∷ []) (sym (without_last-some state e last))

  entries-without_last : (state : KeyedState A P) → (without_last returned state).entries ≡ take (length state.entries - 1) state.entries
  entries-without_last state = by_last (last_entry state.entries) refl
    where
      by_last : (o : Option (ℕ × P)) → last_entry state.entries ≡ o
          → (option_map_or (λ entry. keyed (take (length state.entries - 1) state.entries) state.capacity (returned state.allocator entry.1)) o state).entries
          ≡ take (length state.entries - 1) state.entries
      by_last None last = rw (last-none state.entries last) refl
      by_last (Some e) last = refl

  length-without_last : (state : KeyedState A P) → length (without_last returned state).entries ≡ length state.entries - 1
  length-without_last state =
      omega (arith, ap length (entries-without_last state), length-take (length state.entries - 1) state.entries)

  length-after_dropping : (state : KeyedState A P) (n : ℕ) → length (after_dropping returned state n).entries ≡ length state.entries - n
  length-after_dropping state zero = omega arith
  length-after_dropping state (suc n) = omega (arith, length-without_last (after_dropping returned state n), length-after_dropping state n)

  -- one entry less is left
  pub shorter-without_last : (left new : KeyedState A P) (dropped : ℕ) → Some dropped ≡ option_map (λ e. e.0) (last_entry left.entries)
      → new ≡ without_last returned left → length new.entries < length left.entries
  shorter-without_last left new dropped at after =
      let e = entry_of dropped (last_entry left.entries) at in
      let some = some_last left.entries e.0 e.1 in
      let same : length new.entries ≡ length (without_last returned left).entries = ap (λ (s : KeyedState A P). length s.entries) after in
      omega (arith, length-without_last left)

  -- a key that isn't there isn't there without the last entry
  unknown-without_last : (state : KeyedState A P) (key : ℕ) → lookup (nat_eq key) state.entries ≡ None
      → lookup (nat_eq key) (without_last returned state).entries ≡ None
  unknown-without_last state key unknown =
      ap (λ (es : List (ℕ × P)). lookup (nat_eq key) es) (entries-without_last state)
      ∙ unknown-take (nat_eq key) (length state.entries - 1) state.entries unknown

  -- these keys were dropped, the least recently used first, and this is left
  pub record HasDropped (old : KeyedState A P) (dropped : List ℕ) (left : KeyedState A P) : Type 0 where
    pub gone : List (ℕ × P)
    pub parts : old.entries ≡ left.entries ++ gone
    pub keys : dropped ≡ reverse (keys_of gone)
    pub after : left ≡ after_dropping returned old (length dropped)

  -- the keys that have gone stand first in the other order
  dropped-gone : (old : KeyedState A P) (evicted : List ℕ) (left : KeyedState A P) → HasDropped old evicted left
      → evicted ≡ dropped_keys old (length evicted)
  dropped-gone old evicted left has =
      let order : reverse (keys_of old.entries) ≡ evicted ++ reverse (keys_of left.entries) =
      ap (λ (l : List (ℕ × P)). reverse (keys_of l)) has.parts
      ∙ ap reverse (map-append (λ (e : ℕ × P). e.0) left.entries has.gone)
      ∙ reverse-append (keys_of left.entries) (keys_of has.gone)
      ∙ ap (λ l. l ++ reverse (keys_of left.entries)) (sym has.keys) in
      sym (ap (take (length evicted)) order ∙ take-append_seam evicted (reverse (keys_of left.entries)))

  -- none has gone
  dropped-none : (old : KeyedState A P) → HasDropped old [] old
  dropped-none old = record { gone = []; parts = sym (append-nil old.entries); keys = refl; after = refl }

  -- one more goes
  dropped-more : (old : KeyedState A P) (keys : List ℕ) (left : KeyedState A P) (e : ℕ × P)
      → HasDropped old keys left → last_entry left.entries ≡ Some e → HasDropped old (keys ++ e.0 ∷ []) (without_last returned left)
  dropped-more old keys left e has last =
      let longer : length (keys ++ e.0 ∷ []) ≡ suc (length keys) = omega (arith, length-append keys (e.0 ∷ [])) in
      record {
        gone = e ∷ has.gone;
        parts = has.parts ∙ ap (λ l. l ++ has.gone) (parts-without_last left e last)
            ∙ append_assoc (without_last returned left).entries (e ∷ []) has.gone;
        keys = ap (λ l. l ++ e.0 ∷ []) has.keys ∙ sym (reverse-append (e.0 ∷ []) (keys_of has.gone));
        after = ap (without_last returned) has.after ∙ ap (after_dropping returned old) (sym longer);
      }

  module _ (has_place : A → Size → Bool) where
    -- these keys were evicted, and this is left: there was no room for the size before
    pub record HasEvicted (old : KeyedState A P) (size : Size) (evicted : List ℕ) (left : KeyedState A P) : Type 0 where
      pub drops : HasDropped old evicted left
      pub none : (fewer : ℕ) → fewer < length evicted → has_room has_place (after_dropping returned old fewer) size ≡ false

    evicted-more : (old : KeyedState A P) (size : Size) (evicted : List ℕ) (left : KeyedState A P) (e : ℕ × P)
        → HasEvicted old size evicted left → has_room has_place left size ≡ false → last_entry left.entries ≡ Some e
        → HasEvicted old size (evicted ++ e.0 ∷ []) (without_last returned left)
    evicted-more old size evicted left e has full last =
        let longer : length (evicted ++ e.0 ∷ []) ≡ suc (length evicted) = omega (arith, length-append evicted (e.0 ∷ [])) in
        record {
          drops = dropped-more old evicted left e has.drops last;
          none = rw longer (below_next (λ n. has_room has_place (after_dropping returned old n) size ≡ false) (length evicted) has.none
              (ap (λ (s : KeyedState A P). has_room has_place s size) (sym has.drops.after) ∙ full));
        }

    -- where there is room, so many were the evictions
    evictions-made : (old : KeyedState A P) (size : Size) (evicted : List ℕ) (left : KeyedState A P)
        → HasEvicted old size evicted left → has_room has_place left size ≡ true → IsEvictionCount returned has_place old size (length evicted)
    evictions-made old size evicted left has room =
        record {
          room = ap (λ (s : KeyedState A P). has_room has_place s size) (sym has.drops.after) ∙ room;
          least = has.none;
        }

    module _ (gives : A → Size → P → A → Type 0) where
      -- a key that enters then was placed
      pub evicted-places : (old : KeyedState A P) (key : ℕ) (size : Size) (evicted : List ℕ) (left : KeyedState A P) (allocation : P) (new : KeyedState A P)
          → HasEvicted old size evicted left → has_room has_place left size ≡ true → Enters gives left key size allocation new
          → Places returned has_place gives old key size allocation evicted new
      evicted-places old key size evicted left allocation new has room enters =
          record {
            least = evictions-made old size evicted left has room;
            listed = dropped-gone old evicted left has.drops;
            entered = subst (λ (s : KeyedState A P). Enters gives s key size allocation new) has.drops.after enters;
          }

      -- where memory runs out then
      pub evicted-ran_out : (old : KeyedState A P) (size : Size) (evicted : List ℕ) (left new : KeyedState A P)
          → HasEvicted old size evicted left → has_room has_place left size ≡ true → IsUndone returned gives left size new
          → RanOut returned has_place gives old size evicted new
      evicted-ran_out old size evicted left new has room undone =
          record {
            evictions = length evicted;
            least = evictions-made old size evicted left has room;
            few = omega arith;
            listed = dropped-gone old evicted left has.drops;
            rest = subst (λ (s : KeyedState A P). IsUndone returned gives s size new) has.drops.after undone;
          }

-- what evictions need of what allocates
pub record Lawful {A P : Type 0} (keeps : A → Type 0) (has_place fits : A → Size → Bool) (returned : A → P → A) (are_held : A → List P → Type 0)
    : Type 0 where
  pub one_less : (state : A) (front back : List P) (allocation : P) → keeps state → are_held state (front ++ allocation ∷ back) → are_held (returned state allocation) (front ++ back)
  pub still_keeps : (state : A) (allocation : P) → keeps state → keeps (returned state allocation)
  pub none_held : (state : A) (size : Size) → keeps state → are_held state [] → fits state size ≡ true → has_place state size ≡ true
  pub fits_returned : (state : A) (size : Size) (allocation : P) → fits (returned state allocation) size ≡ fits state size

module _ {A P : Type 0} (keeps : A → Type 0) (has_place fits : A → Size → Bool) (returned : A → P → A) (are_held : A → List P → Type 0) where
  -- where nothing is kept there is room for what fits
  has_room-nothing : Lawful keeps has_place fits returned are_held → (state : KeyedState A P) (size : Size) → IsKeyed keeps are_held state
      → state.entries ≡ [] → fits state.allocator size ≡ true → has_room has_place state size ≡ true
  has_room-nothing laws state size is nothing fit =
      let held = subst (λ (l : List (ℕ × P)). are_held state.allocator (values_of l)) nothing is.held in
      let has = laws.none_held state.allocator size is.allocator held fit in
      let room = is.capacity in
      let short : nat_lt (length state.entries) state.capacity ≡ true = rw nothing (grind (arith, nat_tests)) in
      rw (short, has) refl

  -- what fits still does
  fits-without_last : Lawful keeps has_place fits returned are_held → (state : KeyedState A P) (size : Size)
      → fits (without_last returned state).allocator size ≡ fits state.allocator size
  fits-without_last laws state size = by_last (last_entry state.entries)
    where
      by_last : (o : Option (ℕ × P))
          → fits (option_map_or (λ entry. keyed (take (length state.entries - 1) state.entries) state.capacity (returned state.allocator entry.1)) o state).allocator size
          ≡ fits state.allocator size
      by_last None = refl
      by_last (Some e) = laws.fits_returned state.allocator size e.1

  fits-after_dropping : Lawful keeps has_place fits returned are_held → (state : KeyedState A P) (size : Size) (n : ℕ)
      → fits (after_dropping returned state n).allocator size ≡ fits state.allocator size
  fits-after_dropping laws state size zero = refl
  fits-after_dropping laws state size (suc n) =
      fits-without_last laws (after_dropping returned state n) size ∙ fits-after_dropping laws state size n

  keyed-without_last : Lawful keeps has_place fits returned are_held → (state : KeyedState A P) → IsKeyed keeps are_held state
      → IsKeyed keeps are_held (without_last returned state)
  keyed-without_last laws state is = keeps-without_last keeps are_held returned laws.one_less laws.still_keeps state is

  keyed-after_dropping : Lawful keeps has_place fits returned are_held → (state : KeyedState A P) (n : ℕ) → IsKeyed keeps are_held state
      → IsKeyed keeps are_held (after_dropping returned state n)
  keyed-after_dropping laws state zero is = is
  keyed-after_dropping laws state (suc n) is = keyed-without_last laws (after_dropping returned state n) (keyed-after_dropping laws state n is)

  -- what fits has its evictions
  evictions-exist : Lawful keeps has_place fits returned are_held → (state : KeyedState A P) (size : Size) → IsKeyed keeps are_held state
      → fits state.allocator size ≡ true → (n : ℕ) × IsEvictionCount returned has_place state size n
  evictions-exist laws state size is fit =
      let all = after_dropping returned state (length state.entries) in
      let nothing : all.entries ≡ [] = nothing_long all.entries (omega (arith, length-after_dropping returned state (length state.entries))) in
      let room : has_room has_place all size ≡ true =
      has_room-nothing laws all size (keyed-after_dropping laws state (length state.entries) is) nothing
      (fits-after_dropping laws state size (length state.entries) ∙ fit) in
      let found = least-passing (λ n. has_room has_place (after_dropping returned state n) size) (length state.entries) room in
      (found.0, record { room = found.1; least = found.2 })

  -- in the course of evictions for a new key: what has gone, and what is kept on the way
  pub record IsEvicting (old : KeyedState A P) (key : ℕ) (size : Size) (evicted : List ℕ) (left : KeyedState A P) : Type 0 where
    pub laws : Lawful keeps has_place fits returned are_held
    pub before : IsKeyed keeps are_held old
    pub has : HasEvicted returned has_place old size evicted left
    pub promises : IsKeyed keeps are_held left
    pub new : lookup (nat_eq key) left.entries ≡ None
    pub fits_before : fits old.allocator size ≡ true
    pub fits_now : fits left.allocator size ≡ true

  -- nothing has gone
  pub evicting-start : Lawful keeps has_place fits returned are_held → (old : KeyedState A P) (key : ℕ) (size : Size) → IsKeyed keeps are_held old
      → lookup (nat_eq key) old.entries ≡ None → fits old.allocator size ≡ true → IsEvicting old key size [] old
  evicting-start laws old key size is new fit =
      record {
        laws = laws;
        before = is;
        has = record { drops = dropped-none returned old; none = λ fewer lt. absurd (omega arith) };
        promises = is;
        new = new;
        fits_before = fit;
        fits_now = fit;
      }

  evicting-more : (old : KeyedState A P) (key : ℕ) (size : Size) (evicted : List ℕ) (left : KeyedState A P) (dropped : ℕ)
      → IsEvicting old key size evicted left → has_room has_place left size ≡ false
      → Some dropped ≡ option_map (λ e. e.0) (last_entry left.entries)
      → IsEvicting old key size (evicted ++ dropped ∷ []) (without_last returned left)
  evicting-more old key size evicted left dropped is full at =
      let e = entry_of dropped (last_entry left.entries) at in
      record {
        laws = is.laws;
        before = is.before;
        has = subst (λ (k : ℕ). HasEvicted returned has_place old size (evicted ++ k ∷ []) (without_last returned left)) e.2
            (evicted-more returned has_place old size evicted left e.0 is.has full e.1);
        promises = keyed-without_last is.laws left is.promises;
        new = unknown-without_last returned left key is.new;
        fits_before = is.fits_before;
        fits_now = fits-without_last is.laws left size ∙ is.fits_now;
      }

  -- the same, of what it became
  pub evicting-step : (old : KeyedState A P) (key : ℕ) (size : Size) (evicted longer : List ℕ) (left new : KeyedState A P) (dropped : ℕ)
      → IsEvicting old key size evicted left → has_room has_place left size ≡ false
      → Some dropped ≡ option_map (λ e. e.0) (last_entry left.entries)
      → longer ≡ evicted ++ dropped ∷ [] → new ≡ without_last returned left → IsEvicting old key size longer new
  evicting-step old key size evicted longer left new dropped is full at listed after =
      subst (λ (l : List ℕ). IsEvicting old key size l new) (sym listed)
      (subst (λ (s : KeyedState A P). IsEvicting old key size (evicted ++ dropped ∷ []) s) (sym after)
      (evicting-more old key size evicted left dropped is full at))

  -- where memory runs out while there is no room yet
  pub evicting-stopped : (gives : A → Size → P → A → Type 0) (old : KeyedState A P) (key : ℕ) (size : Size) (evicted : List ℕ) (left : KeyedState A P)
      → IsEvicting old key size evicted left → RanOut returned has_place gives old size evicted left
  evicting-stopped gives old key size evicted left is =
      let found = evictions-exist is.laws old size is.before is.fits_before in
      record {
        evictions = found.0;
        least = found.1;
        few = not_fewer found.0 found.1.room;
        listed = dropped-gone returned old evicted left is.has.drops;
        rest = inl is.has.drops.after;
      }
    where
      not_fewer : (n : ℕ) → has_room has_place (after_dropping returned old n) size ≡ true → length evicted ≤ n
      not_fewer n room = elim (nat_lt n (length evicted)) as (λ b. nat_lt n (length evicted) ≡ b → length evicted ≤ n) [
        | true ↦ λ lt. let none = is.has.none n (grind (arith, nat_tests)) in absurd (cc)
        | false ↦ λ lt. grind (arith, nat_tests)
      ] refl

  -- evictions don't end without room
  pub evicting-some : (old : KeyedState A P) (key : ℕ) (size : Size) (evicted : List ℕ) (left : KeyedState A P)
      → IsEvicting old key size evicted left → has_room has_place left size ≡ false
      → None ≡ option_map (λ e. e.0) (last_entry left.entries) → ⊥
  evicting-some old key size evicted left is full at =
      stuck (has_room-nothing is.laws left size is.promises (last-none left.entries (none (last_entry left.entries) at)) is.fits_now)
    where
      none : (o : Option (ℕ × P)) → None ≡ option_map (λ e. e.0) o → o ≡ None
      none None h = refl
      none (Some e) h = absurd (cc)

      stuck : has_room has_place left size ≡ true → ⊥
      stuck room = cc
